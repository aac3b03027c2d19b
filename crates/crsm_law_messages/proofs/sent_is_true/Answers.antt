use Rattle.crsm_law_messages.proofs.Truth.{sent_is_true}
use Rattle.crsm_law_messages.proofs.sent_is_true.Goals as goal

pub returns : goal.returns
returns c n w s t = sent_is_true n w s t
