use Rattle.std.proofs.Common.{◌≡◌, ◌∙◌, ◌++◌, ◌∷◌, [], ap, sym, subst, true, false}
use Rattle.std.proofs.lemmas.Result.{IfOk-weaker}
use Rattle.crsm_base.specs.Messages.{FitsControl}
use Rattle.crsm_spec.specs.Log.{known}
use Rattle.crsm_suspend.specs.Collecting.{CollectStands, CanSend, is_asked, page_in, got_from, got_of, pages_after}
use Rattle.crsm_suspend.specs.declared.report.Page.{Page}
use Rattle.crsm_suspend.proofs.CollectLemmas.{stranger_is, taken_is, none_after, one_after, page_got, asked_told, asked_not_whole}
use Rattle.crsm_suspend.proofs.collection.Collection.take.Goals as goal

pub returns-then-not-is_asked-clause-got : goal.returns-then-not-is_asked-clause-got
returns-then-not-is_asked-clause-got c = λ log spec named members pages s.
    let m = c.in-SuspendOk in
    let no : is_asked log spec pages m.epoch m.after (page_in c.args.from m.executed m.last m.whole m.entries) ≡ false =
    sym (c.is_asked.ensures log spec named members pages s) ∙ c.if-not-is_asked.true in
    stranger_is log spec named members pages c.args.from m.epoch m.executed m.last m.after m.whole m.entries no ∙ ap (got_of log spec named members pages c.args.from) (sym m.is)

pub returns-then-not-is_asked-clause-state : goal.returns-then-not-is_asked-clause-state
returns-then-not-is_asked-clause-state c = λ log spec named members pages s.
    let m = c.in-SuspendOk in
    let no : is_asked log spec pages m.epoch m.after (page_in c.args.from m.executed m.last m.whole m.entries) ≡ false =
    sym (c.is_asked.ensures log spec named members pages s) ∙ c.if-not-is_asked.true in
    subst (λ ps. CollectStands log spec named members ps c.args.self.now)
    (none_after log spec pages c.args.from m.epoch m.executed m.last m.after m.whole m.entries no ∙ ap (pages_after log spec pages c.args.from) (sym m.is)) s

pub returns-clause-got : goal.returns-clause-got
returns-clause-got c = λ log spec named members pages s.
    let m = c.in-SuspendOk in
    let page : Page = record { executed = m.executed; last = m.last; is_whole = m.whole; entries = m.entries } in
    let yes : is_asked log spec pages m.epoch m.after (page_in c.args.from m.executed m.last m.whole m.entries) ≡ true =
    sym (c.is_asked.ensures log spec named members pages s) ∙ c.if-not-is_asked.false in
    let told : CanSend (known log) (page_in c.args.from m.executed m.last m.whole m.entries) =
    asked_told log spec pages m.epoch m.after (page_in c.args.from m.executed m.last m.whole m.entries) yes (subst FitsControl m.is c.requires.fits).4.fit in
    let not_whole = asked_not_whole log spec pages m.epoch m.after (page_in c.args.from m.executed m.last m.whole m.entries) yes in
    let is = page_got log spec named members pages c.args.from page not_whole
    ∙ taken_is log spec named members pages c.args.from m.epoch m.executed m.last m.after m.whole m.entries yes ∙ ap (got_of log spec named members pages c.args.from) (sym m.is) in
    IfOk-weaker c.add.result (λ got. got ≡ got_from log spec named members (pages ++ page_in c.args.from m.executed m.last m.whole m.entries ∷ []) c.args.from) (λ got. got ≡ got_of log spec named members pages c.args.from c.args.answer)
    (λ got e. e ∙ is) (c.add.ensures.got log spec named members pages s told)

pub returns-clause-state : goal.returns-clause-state
returns-clause-state c = λ log spec named members pages s.
    let m = c.in-SuspendOk in
    let yes : is_asked log spec pages m.epoch m.after (page_in c.args.from m.executed m.last m.whole m.entries) ≡ true =
    sym (c.is_asked.ensures log spec named members pages s) ∙ c.if-not-is_asked.false in
    let told : CanSend (known log) (page_in c.args.from m.executed m.last m.whole m.entries) =
    asked_told log spec pages m.epoch m.after (page_in c.args.from m.executed m.last m.whole m.entries) yes (subst FitsControl m.is c.requires.fits).4.fit in
    let is = one_after log spec pages c.args.from m.epoch m.executed m.last m.after m.whole m.entries yes ∙ ap (pages_after log spec pages c.args.from) (sym m.is) in
    IfOk-weaker c.add.result (λ _. CollectStands log spec named members (pages ++ page_in c.args.from m.executed m.last m.whole m.entries ∷ []) c.add.new.self) (λ _. CollectStands log spec named members (pages_after log spec pages c.args.from c.args.answer) c.add.new.self)
    (λ got t. subst (λ ps. CollectStands log spec named members ps c.add.new.self) is t) (c.add.ensures.state log spec named members pages s told)

pub returns-clause-fits : goal.returns-clause-fits
returns-clause-fits c = λ log spec named members pages s.
    let m = c.in-SuspendOk in
    let yes : is_asked log spec pages m.epoch m.after (page_in c.args.from m.executed m.last m.whole m.entries) ≡ true =
    sym (c.is_asked.ensures log spec named members pages s) ∙ c.if-not-is_asked.false in
    let told : CanSend (known log) (page_in c.args.from m.executed m.last m.whole m.entries) =
    asked_told log spec pages m.epoch m.after (page_in c.args.from m.executed m.last m.whole m.entries) yes (subst FitsControl m.is c.requires.fits).4.fit in
    c.add.ensures.fits log spec named members pages s told
