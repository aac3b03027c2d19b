use Rattle.crsm_law_shown.proofs.Known.{known}
use Rattle.crsm_law_shown.proofs.clients_are_shown_the_store.Goals as goal

pub returns : goal.returns
returns c = λ n h q cluster order old new result asked come only.
    known c.replies_tell_the_first.ensures c.entries_were_submitted.ensures c.one_changes_keys.ensures n h q order.command only cluster order.to order.turns 100 old new result asked come
