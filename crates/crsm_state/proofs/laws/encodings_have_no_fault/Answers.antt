use Rattle.crsm_state.proofs.Faults.{no_fault}
use Rattle.crsm_state.proofs.laws.encodings_have_no_fault.Goals as goal

pub returns : goal.returns
returns c = λ h bytes why s f. no_fault h bytes why s f
