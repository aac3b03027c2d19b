use Rattle.std.proofs.Common.{◌∙◌, ap}
use Rattle.crsm_suspend.specs.declared.report.ReportHead.{ReportHead}
use Rattle.crsm_suspend.proofs.CollectLemmas.{cursor_is}
use Rattle.crsm_suspend.proofs.collection.Collection.cursor.Goals as goal

pub returns : goal.returns
returns c = λ log spec named members pages s. ap (λ (h : ReportHead). h.cursor) (c.head.ensures log spec named members pages s) ∙ cursor_is pages c.args.k
