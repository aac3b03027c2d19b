use Rattle.crsm_law_agreement.proofs.Agree.{begun_epochs_hold}
use Rattle.crsm_law_agreement.proofs.begun_epochs_hold.Goals as goal

pub returns : goal.returns
returns c n w q few spelt e h = begun_epochs_hold n w q few spelt e h
