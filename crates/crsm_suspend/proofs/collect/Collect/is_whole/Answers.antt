use Rattle.std.proofs.Common.{sym, subst}
use Rattle.crsm_suspend.specs.Collecting.{CollectStands}
use Rattle.crsm_suspend.proofs.collect.Collect.is_whole.Goals as goal

pub returns : goal.returns
returns c = λ log spec named members pages s. c.is_whole.ensures log spec named members pages (subst (CollectStands log spec named members pages) (sym c.self.view_is) s)
