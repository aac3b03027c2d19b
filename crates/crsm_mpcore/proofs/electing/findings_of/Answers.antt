use Rattle.std.proofs.Common.{◌≡◌, ℕ, List, length, sym, subst}
use Rattle.std.specs.Prelude.{map, take}
use Rattle.std.specs.BTreeMap.{values}
use Rattle.std.specs.Map.Iter.{deref}
use Rattle.std.proofs.lemmas.List.{length_push}
use Rattle.std.proofs.lemmas.Map.Iter.{iter_turn, iter_end}
use Rattle.crsm_mpspec.specs.Replica.{Report}
use Rattle.crsm_mpreplica.specs.Notes.{report_of}
use Rattle.crsm_mpcore.specs.Findings.{FindingsStand, found_in}
use Rattle.crsm_mpcore.proofs.ElectionLemmas.{found-more, report-fits, take-whole}
use Rattle.crsm_mpcore.proofs.ReportLemmas.{are-findings, reports-ascend}
use Rattle.crsm_mpcore.proofs.electing.findings_of.Goals as goal

pub loop-report-init : goal.loop-report-init
loop-report-init c fit = c.new-findings.ensures

pub loop-report-preserved : goal.loop-report-preserved
loop-report-preserved c fit =
    let es = c.args.asking.now.reports.entries in
    let start = c.args.asking.now.start in
    let begins : c.into_iter-report-iterator.result ≡ values c.args.asking.now.reports = cc in
    let turn = iter_turn deref (values c.args.asking.now.reports) c.loop-report.yielded _ c.loop-report.report-iterator _ _ begins c.loop-report.yielded_by c.in-Some.report c.in-Some.is c.next.ensures.steps in
    let n = length c.loop-report.yielded in
    let fits = report-fits es n c.in-Some.report.now turn.1 fit in
    let added = c.in_ok-add.ensures (found_in start (take n (map report_of es))) (c.loop-report.invariant fit) fits in
    subst (λ (k : ℕ). FindingsStand c.add.new.self (found_in start (take k (map report_of es)))) (sym (length_push c.loop-report.yielded c.in-Some.report))
    (subst (FindingsStand c.add.new.self) (found-more start es n c.in-Some.report.now turn.1) added)

pub returns : goal.returns
returns c fit =
    let es = c.args.asking.now.reports.entries in
    let start = c.args.asking.now.start in
    let begins : c.into_iter-report-iterator.result ≡ values c.args.asking.now.reports = cc in
    let end = iter_end deref (values c.args.asking.now.reports) c.loop-report.yielded _ c.loop-report.report-iterator _ _ begins c.loop-report.yielded_by c.in-None.is c.next.ensures.steps in
    are-findings c.loop-report.findings start (map report_of es)
    (subst (λ (rs : List Report). FindingsStand c.loop-report.findings (found_in start rs)) (take-whole es (length c.loop-report.yielded) end.1) (c.loop-report.invariant fit))
    (reports-ascend es c.values-report-items.ensures.ordered) fit
