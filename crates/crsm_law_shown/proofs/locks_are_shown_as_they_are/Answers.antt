use Rattle.crsm_law_shown.proofs.Locks.{locks_are_shown}
use Rattle.crsm_law_shown.proofs.locks_are_shown_as_they_are.Goals as goal

pub returns : goal.returns
returns c =
    locks_are_shown c.replies_tell_the_first.ensures c.entries_were_submitted.ensures c.one_changes_keys.ensures
    c.new_numbers_are_executed.ensures c.passed_numbers_are_stale.ensures c.asked_are_grants_or_returns.ensures c.held_by_last_grant.ensures
