use Rattle.crsm_law_examples.proofs.Replies.{replies}
use Rattle.crsm_law_examples.proofs.commands_are_answered.Goals as goal

pub returns : goal.returns
returns c = replies
