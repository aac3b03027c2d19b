use Rattle.std.proofs.Common.{refl}
use Rattle.crsm_mpspec.specs.Log.{run_from}
use Rattle.crsm_mpledger.proofs.ledger.MpLedger.execute_again.Goals as goal

pub returns-clause-stands : goal.returns-clause-stands
unfolding run_from
returns-clause-stands c log s = c.in_ok-execute_known.ensures.stands log s.sound s.chosen 0 refl c.in_ok-all.ensures.stands
