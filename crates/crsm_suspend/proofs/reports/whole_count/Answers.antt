use Rattle.std.proofs.Common.{◌≡◌, ◌∙◌, ◌<◌, ℕ, ◌+◌, ap, sym, arith, true, false, get_or, List, length}
use Rattle.std.proofs.lemmas.Bool.{not-true, not-false}
use Rattle.crsm_spec.specs.Collect.{is_whole}
use Rattle.crsm_suspend.specs.Reports.{report_of}
use Rattle.crsm_suspend.specs.declared.report.Report.{Report}
use Rattle.crsm_suspend.proofs.WholeLemmas.{none_whole, report_at, whole_at, skipped, count_more}
use Rattle.crsm_suspend.proofs.reports.whole_count.Goals as goal

pub loop-k-init : goal.loop-k-init
loop-k-init c = (omega arith, λ pages h. ap (λ (ks : List ℕ). length ks) (sym (none_whole pages)))

pub loop-k-preserved-then-not-head : goal.loop-k-preserved-then-not-head
loop-k-preserved-then-not-head c = (
  (let b = c.loop-k.invariant.0 in omega (arith, b)),
  λ pages h.
      let in_range : c.loop-k.k-index < length c.args.spec.now = omega arith in
      let low : get_or c.args.spec.now c.loop-k.k-index 0 < 15 = c.requires c.loop-k.k-index 0 in_range in
      let read : Report = get_or c.args.reports.now (get_or c.args.spec.now c.loop-k.k-index 0) c.index-reports-k.result in
      let report : read ≡ report_of pages (get_or c.args.spec.now c.loop-k.k-index 0) = sym c.index-reports-k.is ∙ report_at c.args.reports.now pages (get_or c.args.spec.now c.loop-k.k-index 0) c.index-reports-k.result h low c.index-reports-k.is in
      let no : is_whole pages (get_or c.args.spec.now c.loop-k.k-index 0) ≡ false = sym (whole_at pages (get_or c.args.spec.now c.loop-k.k-index 0) read report) ∙ not-true read.head.is_whole c.if-not-head.true in
      c.loop-k.invariant.1 pages h ∙ ap (λ (ks : List ℕ). length ks) (sym (skipped c.args.spec.now pages c.loop-k.k-index in_range no)),
)

pub loop-k-preserved : goal.loop-k-preserved
loop-k-preserved c = (
  (let b = c.loop-k.invariant.0 in omega (arith, b)),
  λ pages h.
      let in_range : c.loop-k.k-index < length c.args.spec.now = omega arith in
      let low : get_or c.args.spec.now c.loop-k.k-index 0 < 15 = c.requires c.loop-k.k-index 0 in_range in
      let read : Report = get_or c.args.reports.now (get_or c.args.spec.now c.loop-k.k-index 0) c.index-reports-k.result in
      let report : read ≡ report_of pages (get_or c.args.spec.now c.loop-k.k-index 0) = sym c.index-reports-k.is ∙ report_at c.args.reports.now pages (get_or c.args.spec.now c.loop-k.k-index 0) c.index-reports-k.result h low c.index-reports-k.is in
      let yes : is_whole pages (get_or c.args.spec.now c.loop-k.k-index 0) ≡ true = sym (whole_at pages (get_or c.args.spec.now c.loop-k.k-index 0) read report) ∙ not-false read.head.is_whole c.if-not-head.false in
      ap (λ n. n + 1) (c.loop-k.invariant.1 pages h) ∙ sym (count_more c.args.spec.now pages c.loop-k.k-index in_range yes),
)
