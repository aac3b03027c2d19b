use Rattle.std.proofs.Common.{◌≡◌, ◌∙◌, ◌<◌, ap, sym, arith, true, false, get_or, length}
use Rattle.std.specs.Prelude.{◌==◌}
use Rattle.std.proofs.lemmas.Bool.{not-true, not-false, eq-eqb}
use Rattle.crsm_spec.specs.Collect.{is_whole, whole_ones, first_pages, floor_of}
use Rattle.crsm_suspend.specs.Reports.{report_of}
use Rattle.crsm_suspend.specs.declared.report.Report.{Report}
use Rattle.crsm_suspend.proofs.WholeLemmas.{not_same, floor_none, report_at, whole_at, left_out, floor_found, floor_other, none_left}
use Rattle.crsm_suspend.proofs.reports.floor_of.Goals as goal

pub loop-k-preserved-then-not-head : goal.loop-k-preserved-then-not-head
loop-k-preserved-then-not-head c = λ pages h.
    let in_range : c.loop-k.k-index < length c.args.spec.now = omega arith in
    let low : get_or c.args.spec.now c.loop-k.k-index 0 < 15 = c.requires c.loop-k.k-index 0 in_range in
    let read : Report = get_or c.args.reports.now (get_or c.args.spec.now c.loop-k.k-index 0) c.index-reports-k.result in
    let report : read ≡ report_of pages (get_or c.args.spec.now c.loop-k.k-index 0) = sym c.index-reports-k.is ∙ report_at c.args.reports.now pages (get_or c.args.spec.now c.loop-k.k-index 0) c.index-reports-k.result h low c.index-reports-k.is in
    let no : is_whole pages (get_or c.args.spec.now c.loop-k.k-index 0) ≡ false = sym (whole_at pages (get_or c.args.spec.now c.loop-k.k-index 0) read report) ∙ not-true read.head.is_whole c.if-not-head.true in
    c.loop-k.invariant pages h ∙ ap (λ ks. floor_of c.args.base (first_pages ks pages)) (left_out c.args.spec.now pages c.loop-k.k-index in_range no)

pub returns-then-head-base : goal.returns-then-head-base
returns-then-head-base c = λ pages h.
    let in_range : c.loop-k.k-index < length c.args.spec.now = omega arith in
    let low : get_or c.args.spec.now c.loop-k.k-index 0 < 15 = c.requires c.loop-k.k-index 0 in_range in
    let read : Report = get_or c.args.reports.now (get_or c.args.spec.now c.loop-k.k-index 0) c.index-reports-k.result in
    let report : read ≡ report_of pages (get_or c.args.spec.now c.loop-k.k-index 0) = sym c.index-reports-k.is ∙ report_at c.args.reports.now pages (get_or c.args.spec.now c.loop-k.k-index 0) c.index-reports-k.result h low c.index-reports-k.is in
    let yes : is_whole pages (get_or c.args.spec.now c.loop-k.k-index 0) ≡ true = sym (whole_at pages (get_or c.args.spec.now c.loop-k.k-index 0) read report) ∙ not-false read.head.is_whole c.if-not-head.false in
    let same : (read.head.executed == c.args.base) ≡ true = eq-eqb read.head.executed c.args.base c.if-head-base.true in
    let there = ap (λ (r : Report). r.head.executed == c.args.base) (sym report) ∙ same in
    ap (λ (r : Report). r.head.last) report
    ∙ sym (c.loop-k.invariant pages h ∙ floor_found c.args.spec.now pages c.loop-k.k-index in_range c.args.base yes there)

pub loop-k-preserved : goal.loop-k-preserved
loop-k-preserved c = λ pages h.
    let in_range : c.loop-k.k-index < length c.args.spec.now = omega arith in
    let low : get_or c.args.spec.now c.loop-k.k-index 0 < 15 = c.requires c.loop-k.k-index 0 in_range in
    let read : Report = get_or c.args.reports.now (get_or c.args.spec.now c.loop-k.k-index 0) c.index-reports-k.result in
    let report : read ≡ report_of pages (get_or c.args.spec.now c.loop-k.k-index 0) = sym c.index-reports-k.is ∙ report_at c.args.reports.now pages (get_or c.args.spec.now c.loop-k.k-index 0) c.index-reports-k.result h low c.index-reports-k.is in
    let yes : is_whole pages (get_or c.args.spec.now c.loop-k.k-index 0) ≡ true = sym (whole_at pages (get_or c.args.spec.now c.loop-k.k-index 0) read report) ∙ not-false read.head.is_whole c.if-not-head.false in
    let other : (read.head.executed == c.args.base) ≡ false = not_same read.head.executed c.args.base c.if-head-base.false in
    let there = ap (λ (r : Report). r.head.executed == c.args.base) (sym report) ∙ other in
    c.loop-k.invariant pages h ∙ floor_other c.args.spec.now pages c.loop-k.k-index in_range c.args.base yes there

pub returns : goal.returns
returns c = λ pages h.
    sym (c.loop-k.invariant pages h ∙ ap (λ ks. floor_of c.args.base (first_pages (whole_ones ks pages) pages)) (none_left c.args.spec.now c.loop-k.k-index (omega arith)) ∙ floor_none c.args.base pages)
