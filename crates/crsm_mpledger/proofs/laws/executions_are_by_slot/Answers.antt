use Rattle.crsm_mpledger.proofs.ExecutedLemmas.{executions-get}
use Rattle.crsm_mpledger.proofs.laws.executions_are_by_slot.Goals as goal

pub returns : goal.returns
returns c values slot v is = executions-get values slot v is
