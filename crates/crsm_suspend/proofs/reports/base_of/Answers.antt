use Rattle.std.proofs.Common.{◌≡◌, ◌∙◌, ◌<◌, ap, sym, arith, true, false, get_or, length, take, max}
use Rattle.std.proofs.lemmas.Bool.{not-true, not-false}
use Rattle.crsm_spec.specs.Collect.{is_whole, whole_ones, first_pages, base_of}
use Rattle.crsm_suspend.specs.Reports.{report_of}
use Rattle.crsm_suspend.specs.declared.report.Report.{Report}
use Rattle.crsm_suspend.proofs.WholeLemmas.{base_none, report_at, whole_at, skipped, base_more}
use Rattle.crsm_suspend.proofs.reports.base_of.Goals as goal

pub loop-k-init : goal.loop-k-init
loop-k-init c = λ pages h. base_none c.args.start pages

pub loop-k-preserved-then-not-head : goal.loop-k-preserved-then-not-head
loop-k-preserved-then-not-head c = λ pages h.
    let in_range : c.loop-k.k-index < length c.args.spec.now = omega arith in
    let low : get_or c.args.spec.now c.loop-k.k-index 0 < 15 = c.requires c.loop-k.k-index 0 in_range in
    let read : Report = get_or c.args.reports.now (get_or c.args.spec.now c.loop-k.k-index 0) c.index-reports-k.result in
    let report : read ≡ report_of pages (get_or c.args.spec.now c.loop-k.k-index 0) = sym c.index-reports-k.is ∙ report_at c.args.reports.now pages (get_or c.args.spec.now c.loop-k.k-index 0) c.index-reports-k.result h low c.index-reports-k.is in
    let no : is_whole pages (get_or c.args.spec.now c.loop-k.k-index 0) ≡ false = sym (whole_at pages (get_or c.args.spec.now c.loop-k.k-index 0) read report) ∙ not-true read.head.is_whole c.if-not-head.true in
    c.loop-k.invariant pages h ∙ ap (λ ks. base_of c.args.start (first_pages ks pages)) (sym (skipped c.args.spec.now pages c.loop-k.k-index in_range no))

pub loop-k-preserved : goal.loop-k-preserved
loop-k-preserved c = λ pages h.
    let in_range : c.loop-k.k-index < length c.args.spec.now = omega arith in
    let low : get_or c.args.spec.now c.loop-k.k-index 0 < 15 = c.requires c.loop-k.k-index 0 in_range in
    let read : Report = get_or c.args.reports.now (get_or c.args.spec.now c.loop-k.k-index 0) c.index-reports-k.result in
    let report : read ≡ report_of pages (get_or c.args.spec.now c.loop-k.k-index 0) = sym c.index-reports-k.is ∙ report_at c.args.reports.now pages (get_or c.args.spec.now c.loop-k.k-index 0) c.index-reports-k.result h low c.index-reports-k.is in
    let yes : is_whole pages (get_or c.args.spec.now c.loop-k.k-index 0) ≡ true = sym (whole_at pages (get_or c.args.spec.now c.loop-k.k-index 0) read report) ∙ not-false read.head.is_whole c.if-not-head.false in
    c.max-base.ensures ∙ ap (λ n. max n read.head.executed) (c.loop-k.invariant pages h)
    ∙ ap (λ (r : Report). max (base_of c.args.start (first_pages (whole_ones (take c.loop-k.k-index c.args.spec.now) pages) pages)) r.head.executed) report
    ∙ sym (base_more c.args.spec.now pages c.loop-k.k-index in_range c.args.start yes)
