use Rattle.std.specs.List.{Contains}
use Rattle.crsm_law_mp.proofs.Agree.{one_value}
use Rattle.crsm_law_mp.proofs.slots_agree.Goals as goal

pub returns : goal.returns
returns c spec past seats sent = one_value spec past seats (λ k m. Contains sent (k, m))
