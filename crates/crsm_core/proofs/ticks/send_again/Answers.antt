use Rattle.std.proofs.Common.{◌<◌, ◌∙◌, sym, subst, take, All}
use Rattle.std.specs.Prelude.{fold}
use Rattle.crsm_spec.specs.Frames.{again_to}
use Rattle.crsm_core.proofs.TickLemmas.{again_more, again_all}
use Rattle.crsm_core.proofs.ticks.send_again.Goals as goal

pub loop-k-init : goal.loop-k-init
loop-k-init c = λ x s. s

pub again_to-requires : goal.again_to-requires
again_to-requires c =
    (subst (λ ks. All (λ k. k < 15) ks) (sym c.deref-k-items.ensures.value) c.in_ok-members.ensures.below) c.loop-k.k-index 0 c.loop-k-test.true

pub loop-k-preserved : goal.loop-k-preserved
loop-k-preserved c = λ x s.
    let ks = c.deref-k-items.result.now in
    again_more c.again_to.new.self ks c.loop-k.k-index x c.loop-k-test.true
    (c.in_ok-again_to.ensures (fold again_to x (take c.loop-k.k-index ks)) (c.loop-k.invariant x s))

pub returns : goal.returns
returns c = λ x s.
    again_all c.loop-k.state c.deref-k-items.result.now c.loop-k.k-index x c.loop-k-test.false
    (c.deref-k-items.ensures.value ∙ c.in_ok-members.ensures.value x s) (c.loop-k.invariant x s)
