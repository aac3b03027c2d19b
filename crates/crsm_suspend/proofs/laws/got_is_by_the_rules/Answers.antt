use Rattle.crsm_suspend.proofs.RuleLemmas.{pages_are_taken, reports_are_counted}
use Rattle.crsm_suspend.proofs.laws.got_is_by_the_rules.Goals as goal

pub returns-clause-taken : goal.returns-clause-taken
returns-clause-taken c = pages_are_taken

pub returns-clause-counted : goal.returns-clause-counted
returns-clause-counted c = reports_are_counted
