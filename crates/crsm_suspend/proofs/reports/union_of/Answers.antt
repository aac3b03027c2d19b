use Rattle.std.proofs.Common.{◌≡◌, ◌∙◌, ◌<◌, ap, sym, arith, true, false, get_or, length}
use Rattle.std.specs.Prelude.{fold, flat_map}
use Rattle.crsm_spec.specs.Log.{above}
use Rattle.crsm_spec.specs.Collect.{is_whole, all_entries, union, with_new}
use Rattle.crsm_suspend.specs.Reports.{report_of}
use Rattle.crsm_suspend.specs.declared.report.Report.{Report}
use Rattle.crsm_suspend.proofs.WholeLemmas.{union_none, report_at, whole_at, skipped, union_more}
use Rattle.crsm_suspend.proofs.reports.union_of.Goals as goal

pub loop-k-init : goal.loop-k-init
loop-k-init c = λ pages h. c.new-set.ensures ∙ sym (union_none c.args.floor pages)

pub loop-k-preserved-then-not-report : goal.loop-k-preserved-then-not-report
loop-k-preserved-then-not-report c = λ pages h.
    let in_range : c.loop-k.k-index < length c.args.spec.now = omega arith in
    let low : get_or c.args.spec.now c.loop-k.k-index 0 < 15 = c.requires c.loop-k.k-index 0 in_range in
    let read : Report = get_or c.args.reports.now (get_or c.args.spec.now c.loop-k.k-index 0) c.index-reports-k.result in
    let report : read ≡ report_of pages (get_or c.args.spec.now c.loop-k.k-index 0) = sym c.index-reports-k.is ∙ report_at c.args.reports.now pages (get_or c.args.spec.now c.loop-k.k-index 0) c.index-reports-k.result h low c.index-reports-k.is in
    let no : is_whole pages (get_or c.args.spec.now c.loop-k.k-index 0) ≡ false = sym (whole_at pages (get_or c.args.spec.now c.loop-k.k-index 0) read report) ∙ c.if-not-report.true in
    c.loop-k.invariant pages h ∙ ap (λ ks. union (above c.args.floor (all_entries ks pages))) (sym (skipped c.args.spec.now pages c.loop-k.k-index in_range no))

pub loop-k-preserved : goal.loop-k-preserved
loop-k-preserved c = λ pages h.
    let in_range : c.loop-k.k-index < length c.args.spec.now = omega arith in
    let low : get_or c.args.spec.now c.loop-k.k-index 0 < 15 = c.requires c.loop-k.k-index 0 in_range in
    let read : Report = get_or c.args.reports.now (get_or c.args.spec.now c.loop-k.k-index 0) c.index-reports-k.result in
    let report : read ≡ report_of pages (get_or c.args.spec.now c.loop-k.k-index 0) = sym c.index-reports-k.is ∙ report_at c.args.reports.now pages (get_or c.args.spec.now c.loop-k.k-index 0) c.index-reports-k.result h low c.index-reports-k.is in
    let yes : is_whole pages (get_or c.args.spec.now c.loop-k.k-index 0) ≡ true = sym (whole_at pages (get_or c.args.spec.now c.loop-k.k-index 0) read report) ∙ c.if-not-report.false in
    let all : fold with_new c.loop-k.set (above c.args.floor (flat_map (λ es. es) c.as_slice.result.now)) ≡ fold with_new c.loop-k.set (above c.args.floor (flat_map (λ es. es) (report_of pages (get_or c.args.spec.now c.loop-k.k-index 0)).pages))
    = ap (λ ess. fold with_new c.loop-k.set (above c.args.floor (flat_map (λ es. es) ess))) (c.as_slice.ensures ∙ ap (λ (r : Report). r.pages) report) in
    c.in-Ok.ensures ∙ all
    ∙ ap (λ set. fold with_new set (above c.args.floor (flat_map (λ es. es) (report_of pages (get_or c.args.spec.now c.loop-k.k-index 0)).pages))) (c.loop-k.invariant pages h)
    ∙ sym (union_more c.args.spec.now pages c.loop-k.k-index in_range c.args.floor yes)
