use Rattle.crsm_mpspec.specs.Log.{executed}
use Rattle.crsm_mpledger.proofs.ledger.MpLedger.forget_executions.Goals as goal

pub returns-clause-stands : goal.returns-clause-stands
returns-clause-stands c log s = record {
  sound = s.sound;
  boots = s.boots;
  promised = s.promised;
  accepted = s.accepted;
  chosen = s.chosen;
  executed = c.forget.ensures.stands (executed log) s.executed;
}
