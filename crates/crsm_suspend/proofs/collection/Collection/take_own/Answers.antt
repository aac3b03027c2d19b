use Rattle.std.proofs.Common.{◌≡◌, ◌∙◌, ◌++◌, ◌∷◌, [], ap, sym, true}
use Rattle.std.proofs.lemmas.Result.{IfOk-weaker}
use Rattle.crsm_spec.specs.Replica.{LogPage}
use Rattle.crsm_spec.specs.Collect.{own_page}
use Rattle.crsm_suspend.specs.Collecting.{got_from, got_whole}
use Rattle.crsm_suspend.specs.Reports.{page_from}
use Rattle.crsm_suspend.proofs.CollectLemmas.{own_got, own_whole}
use Rattle.crsm_ledger.specs.Ledger.{epoch_of}
use Rattle.crsm_suspend.proofs.SoundLemmas.{own-can, some_log, sound-stands, stands-after}
use Rattle.crsm_suspend.proofs.collection.Collection.take_own.Goals as goal

pub returns-clause-got : goal.returns-clause-got
returns-clause-got c = λ n log spec named members pages stands s.
    let page = c.in_ok-page.ensures.page c.args.me n log stands in
    let whole : c.in_ok-page.page.is_whole ≡ true = ap (λ (p : LogPage). p.whole) page ∙ own_whole c.args.me log in
    let is = own_got log spec named members pages c.args.me c.in_ok-page.page whole ∙ ap (λ p. got_whole log spec named members (pages ++ p ∷ [])) page in
    IfOk-weaker c.add.result (λ got. got ≡ got_from log spec named members (pages ++ page_from c.args.me c.in_ok-page.page ∷ []) c.args.me) (λ got. got ≡ got_whole log spec named members (pages ++ own_page c.args.me log ∷ []))
    (λ got e. e ∙ is) (c.add.ensures.got log spec named members pages s (c.in_ok-page.ensures.told c.args.me n log stands))

pub returns-clause-sound : goal.returns-clause-sound
returns-clause-sound c = λ s.
    let old = c.args.self.now in
    let log = some_log old.epoch old.start in
    stands-after c.add.result log old.spec old.named old.members (s.pages ++ page_from c.args.me c.in_ok-page.page ∷ []) c.add.new.self
    (c.add.ensures.state log old.spec old.named old.members s.pages (sound-stands old s) (own-can old (page_from c.args.me c.in_ok-page.page) (epoch_of c.args.ledger.now) (sym c.epoch.ensures.is ∙ c.if-epoch-self.false) (c.in_ok-page.ensures.can c.args.me)))

pub returns-clause-fits : goal.returns-clause-fits
returns-clause-fits c = λ s.
    let old = c.args.self.now in
    c.add.ensures.fits (some_log old.epoch old.start) old.spec old.named old.members s.pages (sound-stands old s)
    (own-can old (page_from c.args.me c.in_ok-page.page) (epoch_of c.args.ledger.now) (sym c.epoch.ensures.is ∙ c.if-epoch-self.false) (c.in_ok-page.ensures.can c.args.me))
