use Rattle.std.proofs.Common.{[]}
use Rattle.crsm_core.proofs.FoundLemmas.{found_fit, found_spelt}
use Rattle.crsm_core.proofs.laws.found_logs_fit.Goals as goal

pub returns : goal.returns
returns c = λ me n bodies log k. (found_fit me n [] log bodies k tt, found_spelt me n [] log bodies k tt)
