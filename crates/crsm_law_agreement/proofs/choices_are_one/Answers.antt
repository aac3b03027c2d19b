use Rattle.crsm_law_agreement.proofs.Choice.{choices_are_one}
use Rattle.crsm_law_agreement.proofs.choices_are_one.Goals as goal

pub returns : goal.returns
returns c n e counted logs fit all specs j k a b ha hb ea eb = choices_are_one n e counted logs fit all specs j k a b ha hb ea eb
