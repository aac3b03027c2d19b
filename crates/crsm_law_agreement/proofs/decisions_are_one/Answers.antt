use Rattle.crsm_law_agreement.proofs.BallotsAgree.{decisions_are_one}
use Rattle.crsm_law_agreement.proofs.decisions_are_one.Goals as goal

pub returns : goal.returns
returns c n w q few spelt j k a b ha hb e = decisions_are_one n w q few spelt j k a b ha hb e
