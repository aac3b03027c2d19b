use Rattle.std.proofs.Common.{◌∷◌, length, ap, sym, subst}
use Rattle.crsm_mpspec.specs.declared.rec.MpRec.{MpRec}
use Rattle.crsm_mpspec.specs.Log.{by_slot, boots, is_boot, promised, accepts, choices, executed}
use Rattle.crsm_mpledger.specs.Executed.{ExecutionsStand}
use Rattle.crsm_mpledger.proofs.RunLemmas.{run-grown}
use Rattle.crsm_mpledger.proofs.ledger.MpLedger.choose.Goals as goal

pub returns-clause-stands : goal.returns-clause-stands
unfolding by_slot boots is_boot promised accepts choices
returns-clause-stands c log s may =
    let rec = MpRec.Choose c.args.slot c.args.value in
    let entries = c.in_ok-insert.ensures (by_slot (choices log)) s.chosen in
    let run = run-grown c.args.slot c.args.value log may.2 in
    record {
      sound = (may, s.sound);
      boots = s.boots;
      promised = s.promised;
      accepted = s.accepted;
      chosen = entries;
      executed = c.in_ok-execute_known.ensures.stands (rec ∷ log) (may, s.sound) entries (length (executed log)) (ap length run)
          (subst (λ vs. ExecutionsStand c.args.self.now.executions vs) (sym run) s.executed);
    }
