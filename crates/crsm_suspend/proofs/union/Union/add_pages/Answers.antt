use Rattle.std.proofs.Common.{◌∙◌, ap, sym, arith}
use Rattle.std.specs.Prelude.{fold}
use Rattle.crsm_spec.specs.Log.{above}
use Rattle.crsm_spec.specs.Collect.{with_new}
use Rattle.crsm_suspend.proofs.FrozenLemmas.{above_none}
use Rattle.crsm_suspend.proofs.WholeLemmas.{page_more}
use Rattle.crsm_suspend.proofs.union.Union.add_pages.Goals as goal

pub loop-page-init : goal.loop-page-init
loop-page-init c = sym (ap (λ es. fold with_new c.args.self.now es) (above_none c.args.floor))

pub loop-page-preserved : goal.loop-page-preserved
loop-page-preserved c =
    c.in_ok-add_above.ensures ∙ ap (λ es. fold with_new c.loop-page.self (above c.args.floor es)) c.as_slice.ensures
    ∙ ap (λ set. fold with_new set (above c.args.floor c.page-item.result)) c.loop-page.invariant
    ∙ sym (page_more c.args.self.now c.args.floor c.args.pages.now c.loop-page.page-index c.page-item.result (omega arith) (cc))
