use Rattle.crsm_delay.proofs.Handled.{none_read}
use Rattle.crsm_delay.proofs.reader.PlanReader.new.Goals as goal

pub invariant_of-result : goal.invariant_of-result
invariant_of-result c = record { read = none_read }
