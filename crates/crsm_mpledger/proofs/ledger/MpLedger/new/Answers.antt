use Rattle.std.proofs.Common.{refl}
use Rattle.crsm_spec.specs.Lists.{greatest}
use Rattle.crsm_mpspec.specs.Log.{boots, promised, no_ballot, by_slot, accepts, choices, executed, end, run_from}
use Rattle.crsm_mpledger.proofs.ledger.MpLedger.new.Goals as goal

pub returns : goal.returns
unfolding boots promised no_ballot by_slot accepts choices executed end run_from greatest
returns c = record {
  sound = tt;
  boots = refl;
  promised = refl;
  accepted = c.new.ensures;
  chosen = c.new-2.ensures;
  executed = c.in_ok-new.ensures.stands;
}
