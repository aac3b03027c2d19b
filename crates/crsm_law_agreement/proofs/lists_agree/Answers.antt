use Rattle.crsm_law_agreement.proofs.Agree.{lists_agree}
use Rattle.crsm_law_agreement.proofs.lists_agree.Goals as goal

pub returns : goal.returns
returns c n w q few spelt j k a b xa xb = lists_agree n w q few spelt j k a b xa xb
