use Rattle.std.proofs.Common.{◌∙◌, ap}
use Rattle.crsm_suspend.specs.declared.report.ReportHead.{ReportHead}
use Rattle.crsm_suspend.proofs.CollectLemmas.{whole_is}
use Rattle.crsm_suspend.proofs.collection.Collection.is_whole.Goals as goal

pub returns : goal.returns
returns c = λ log spec named members pages s. ap (λ (h : ReportHead). h.is_whole) (c.head.ensures log spec named members pages s) ∙ whole_is pages c.args.k
