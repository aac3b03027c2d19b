use Rattle.std.proofs.Common.{◌∷◌, refl}
use Rattle.crsm_mpspec.specs.declared.rec.MpRec.{MpRec}
use Rattle.crsm_mpspec.specs.Log.{by_slot, boots, is_boot, promised, accepts, choices}
use Rattle.crsm_mpledger.proofs.LedgerLemmas.{stays}
use Rattle.crsm_mpledger.proofs.ledger.MpLedger.accept.Goals as goal

pub returns-clause-stands : goal.returns-clause-stands
unfolding by_slot boots is_boot promised accepts choices
returns-clause-stands c log s may = record {
  sound = (may, s.sound);
  boots = s.boots;
  promised = refl;
  accepted = c.in_ok-insert.ensures (by_slot (accepts log)) s.accepted;
  chosen = s.chosen;
  executed = stays c.args.self.now.executions (MpRec.Accept c.args.slot c.args.ballot c.args.value ∷ log) log refl s.executed;
}
