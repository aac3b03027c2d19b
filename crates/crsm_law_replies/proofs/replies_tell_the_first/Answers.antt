use Rattle.crsm_law_replies.proofs.Laws.{replies_tell}
use Rattle.crsm_law_replies.proofs.replies_tell_the_first.Goals as goal

pub returns : goal.returns
returns c = replies_tell c.answers_are_right.ensures c.old_numbers_change_nothing.ensures c.answers_tell_the_first.ensures
