use Rattle.crsm_law_once.proofs.Laws.{new_numbers}
use Rattle.crsm_law_once.proofs.new_numbers_are_executed.Goals as goal

pub returns : goal.returns
returns c = new_numbers
