use Rattle.std.proofs.Common.{◌∙◌}
use Rattle.crsm_suspend.proofs.reports.tail_of.Goals as goal

pub returns : goal.returns
returns c = λ pages h. c.in_ok-tail.ensures ∙ c.in_ok-set.ensures pages h
