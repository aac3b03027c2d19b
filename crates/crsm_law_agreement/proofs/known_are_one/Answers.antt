use Rattle.crsm_law_agreement.proofs.BallotsAgree.{known_are_one}
use Rattle.crsm_law_agreement.proofs.known_are_one.Goals as goal

pub returns : goal.returns
returns c n w q few spelt j k a b xa xb e = known_are_one n w q few spelt j k a b xa xb e
