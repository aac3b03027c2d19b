use Rattle.std.proofs.Common.{◌≡◌, ◌∙◌, ap, sym, arith, true, false}
use Rattle.std.specs.Prelude.{fold}
use Rattle.crsm_spec.specs.Collect.{with_new}
use Rattle.crsm_suspend.specs.Pages.{is_over}
use Rattle.crsm_suspend.proofs.FrozenLemmas.{above_none}
use Rattle.crsm_suspend.proofs.WholeLemmas.{above_more, above_same}
use Rattle.crsm_suspend.proofs.union.Union.add_above.Goals as goal

pub loop-entry-init : goal.loop-entry-init
loop-entry-init c = sym (ap (λ es. fold with_new c.args.self.now es) (above_none c.args.floor))

pub loop-entry-preserved-then-not-is_above : goal.loop-entry-preserved-then-not-is_above
loop-entry-preserved-then-not-is_above c =
    let over : is_over c.args.floor c.entry-item.result.stamp ≡ false = cc (c.is_above.ensures) in
    c.loop-entry.invariant ∙ ap (λ es. fold with_new c.args.self.now es) (sym (above_same c.args.floor c.args.entries.now c.loop-entry.entry-index c.entry-item.result (omega arith) (cc) over))

pub loop-entry-preserved : goal.loop-entry-preserved
loop-entry-preserved c =
    let over : is_over c.args.floor c.entry-item.result.stamp ≡ true = cc (c.is_above.ensures) in
    c.in_ok-add.ensures ∙ ap (λ es. with_new es c.entry-item.result) c.loop-entry.invariant
    ∙ sym (above_more c.args.floor c.args.entries.now c.loop-entry.entry-index c.entry-item.result (omega arith) (cc) c.args.self.now over)
