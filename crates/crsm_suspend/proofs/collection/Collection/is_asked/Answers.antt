use Rattle.std.proofs.Common.{◌≡◌, ◌∙◌, ap}
use Rattle.crsm_spec.specs.Lists.{has}
use Rattle.crsm_suspend.specs.Reports.{page_from}
use Rattle.crsm_suspend.specs.declared.report.ReportHead.{ReportHead}
use Rattle.crsm_suspend.proofs.CollectLemmas.{member_is, asked_is, cursor_is, whole_is}
use Rattle.crsm_suspend.proofs.collection.Collection.is_asked.Goals as goal

pub returns : goal.returns
returns c = λ log spec named members pages s.
    let member : c.has-is_of_spec.result ≡ has spec c.args.from = member_is c.args.self.now.spec c.args.from c.has-is_of_spec.result c.has-is_of_spec.ensures ∙ ap (λ ks. has ks c.args.from) s.spec_is in
    let head = c.head-head.ensures log spec named members pages s in
    asked_is log spec pages c.args.epoch c.args.after (page_from c.args.from c.args.page.now) c.has-is_of_spec.result c.is_page-is_next.result c.head-head.result.is_whole c.args.self.now.epoch c.head-head.result.cursor
    member (c.is_page-is_next.ensures c.args.from) s.epoch (ap (λ (h : ReportHead). h.cursor) head ∙ cursor_is pages c.args.from) (ap (λ (h : ReportHead). h.is_whole) head ∙ whole_is pages c.args.from)
