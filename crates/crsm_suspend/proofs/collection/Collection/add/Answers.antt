use Rattle.std.proofs.Common.{◌≡◌, ◌∙◌, ◌<◌, ◌++◌, ◌∷◌, [], ap, sym, set, get_or, get_or-set_same, List, length, arith, rules}
use Rattle.std.proofs.lemmas.List.{get_or_default}
use Rattle.crsm_suspend.specs.Pages.{without_last}
use Rattle.crsm_suspend.specs.Reports.{page_from, with_page, ReportsStand}
use Rattle.crsm_suspend.specs.declared.collection.Collection.{Collection}
use Rattle.crsm_suspend.specs.declared.report.Report.{Report}
use Rattle.crsm_ledger.proofs.PiecesLemmas.{on_err}
use Rattle.crsm_suspend.proofs.CollectLemmas.{goes_on}
use Rattle.crsm_suspend.proofs.GrowLemmas.{reports_grow, undone, on_ok}
use Rattle.crsm_suspend.proofs.collection.Collection.add.Goals as goal

pub returns-then-is_err-clause-err : goal.returns-then-is_err-clause-err
returns-then-is_err-clause-err c =
    let long : length c.args.self.now.reports ≡ 15 = search rules in
    let below : c.args.from < 15 = c.requires in
    let new : c.push.new.self ≡ with_page c.index-self-index-2.result c.args.page = c.in_ok-push.ensures.ok ∙ ap (λ (r : Report). with_page r c.args.page) (sym c.index-self-index-2.is) in
    let there : get_or (set c.args.self.now.reports c.args.from c.push.new.self) c.args.from c.index-self-index-then-is_err.result ≡ c.push.new.self =
    get_or-set_same c.args.self.now.reports c.args.from c.push.new.self c.index-self-index-then-is_err.result (omega (arith, long, below)) in
    let head : c.take_back.new.self.head ≡ c.index-self-index-2.result.head =
    c.take_back.ensures.head ∙ ap (λ (r : Report). r.head) (get_or_default c.args.self.now.reports c.args.from c.index-self-index.result c.index-self-index-2.result (omega (arith, long, below)) ∙ sym c.index-self-index-2.is) in
    let pages = c.take_back.ensures.pages ∙ ap (λ (r : Report). without_last r.pages) there in
    on_err c.got-got.result _ (ap (λ (rs : List Report). (let x : Collection = record c.args.self.now { reports = rs } in x))
    (undone c.args.self.now.reports c.args.from c.args.page c.index-self-index-2.result c.push.new.self c.take_back.new.self c.index-self-index-2.is new head pages))

pub returns-else-is_err-clause-got : goal.returns-else-is_err-clause-got
returns-else-is_err-clause-got c = λ log spec named members pages s t.
    let grown : ReportsStand (set c.args.self.now.reports c.args.from c.push.new.self) (pages ++ page_from c.args.from c.args.page ∷ []) =
    reports_grow c.args.self.now.reports pages c.args.from c.args.page c.index-self-index-2.result c.push.new.self s.reports c.requires c.index-self-index-2.is
    (c.in_ok-push.ensures.ok ∙ ap (λ (r : Report). with_page r c.args.page) (sym c.index-self-index-2.is)) in
    let after = goes_on log spec named members pages c.args.self.now (set c.args.self.now.reports c.args.from c.push.new.self) (page_from c.args.from c.args.page) s t grown in
    c.got-got.ensures.got log spec named members (pages ++ page_from c.args.from c.args.page ∷ []) after

pub returns-else-is_err-clause-state : goal.returns-else-is_err-clause-state
returns-else-is_err-clause-state c = λ log spec named members pages s t.
    let grown : ReportsStand (set c.args.self.now.reports c.args.from c.push.new.self) (pages ++ page_from c.args.from c.args.page ∷ []) =
    reports_grow c.args.self.now.reports pages c.args.from c.args.page c.index-self-index-2.result c.push.new.self s.reports c.requires c.index-self-index-2.is
    (c.in_ok-push.ensures.ok ∙ ap (λ (r : Report). with_page r c.args.page) (sym c.index-self-index-2.is)) in
    let after = goes_on log spec named members pages c.args.self.now (set c.args.self.now.reports c.args.from c.push.new.self) (page_from c.args.from c.args.page) s t grown in
    on_ok c.got-got.result _ after

pub returns-else-is_err-clause-fits : goal.returns-else-is_err-clause-fits
returns-else-is_err-clause-fits c = λ log spec named members pages s t.
    let grown : ReportsStand (set c.args.self.now.reports c.args.from c.push.new.self) (pages ++ page_from c.args.from c.args.page ∷ []) =
    reports_grow c.args.self.now.reports pages c.args.from c.args.page c.index-self-index-2.result c.push.new.self s.reports c.requires c.index-self-index-2.is
    (c.in_ok-push.ensures.ok ∙ ap (λ (r : Report). with_page r c.args.page) (sym c.index-self-index-2.is)) in
    let after = goes_on log spec named members pages c.args.self.now (set c.args.self.now.reports c.args.from c.push.new.self) (page_from c.args.from c.args.page) s t grown in
    c.got-got.ensures.fits log spec named members (pages ++ page_from c.args.from c.args.page ∷ []) after
