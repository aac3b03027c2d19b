use Rattle.crsm_state.proofs.Faults.{one_encoding}
use Rattle.crsm_state.proofs.laws.histories_have_one_encoding.Goals as goal

pub returns : goal.returns
returns c = λ a b fa fb e. one_encoding a b fa fb e
