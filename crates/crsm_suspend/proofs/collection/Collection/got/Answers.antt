use Rattle.std.proofs.Common.{◌≡◌, ◌∙◌, ap, sym, subst, true, false}
use Rattle.crsm_spec.specs.Collect.{is_whole, whole_ones}
use Rattle.crsm_spec.specs.Quorum.{has_majority}
use Rattle.crsm_suspend.specs.Collecting.{got_decided, got_more, FitsGot}
use Rattle.crsm_suspend.specs.declared.report.ReportHead.{ReportHead}
use Rattle.crsm_suspend.proofs.CollectLemmas.{cursor_is, whole_is, more_is, whole_got, kept_is, decided_is}
use Rattle.crsm_suspend.proofs.FitLemmas.{fits_got}
use Rattle.crsm_suspend.proofs.collection.Collection.got.Goals as goal

pub returns-then-not-head-clause-got : goal.returns-then-not-head-clause-got
returns-then-not-head-clause-got c = λ log spec named members pages s.
    let head = c.head-head.ensures log spec named members pages s in
    let whole = ap (λ (h : ReportHead). h.is_whole) head ∙ whole_is pages c.args.from in
    let no : is_whole pages c.args.from ≡ false = sym whole ∙ c.if-not-head.true in
    c.more.ensures ∙ ap (got_more c.args.from) (ap (λ (h : ReportHead). h.cursor) head ∙ cursor_is pages c.args.from) ∙ more_is log spec named members pages c.args.from no

pub returns-then-not-has_majority-clause-got : goal.returns-then-not-has_majority-clause-got
returns-then-not-has_majority-clause-got c = λ log spec named members pages s.
    let head = c.head-head.ensures log spec named members pages s in
    let whole = ap (λ (h : ReportHead). h.is_whole) head ∙ whole_is pages c.args.from in
    let yes : is_whole pages c.args.from ≡ true = sym whole ∙ c.if-not-head.false in
    let few : has_majority spec (whole_ones spec pages) ≡ false = sym (c.has_majority.ensures log spec named members pages s) ∙ c.if-not-has_majority.true in
    kept_is log spec named members pages few ∙ whole_got log spec named members pages c.args.from yes

pub returns-clause-got : goal.returns-clause-got
returns-clause-got c = λ log spec named members pages s.
    let head = c.head-head.ensures log spec named members pages s in
    let whole = ap (λ (h : ReportHead). h.is_whole) head ∙ whole_is pages c.args.from in
    let yes : is_whole pages c.args.from ≡ true = sym whole ∙ c.if-not-head.false in
    let many : has_majority spec (whole_ones spec pages) ≡ true = sym (c.has_majority.ensures log spec named members pages s) ∙ c.if-not-has_majority.false in
    c.decided.ensures ∙ ap got_decided (c.in_ok-decision.ensures.value log spec named members pages s) ∙ decided_is log spec named members pages many ∙ whole_got log spec named members pages c.args.from yes

pub returns-clause-fits : goal.returns-clause-fits
returns-clause-fits c = λ log spec named members pages s.
    subst FitsGot (sym c.decided.ensures)
    (fits_got log spec named members pages s.told c.in_ok-decision.field-0 (c.in_ok-decision.ensures.value log spec named members pages s)
    s.low_epoch s.low_start c.in_ok-decision.ensures.members.0 c.in_ok-decision.ensures.members.1)
