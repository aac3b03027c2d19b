use Rattle.std.proofs.Common.{◌∙◌, ℕ, ap, sym, subst, All, ◌<◌}
use Rattle.std.specs.Global.{Vec}
use Rattle.std.proofs.lemmas.List.Elements.{All-filter}
use Rattle.std.specs.Prelude.{◌==◌, not}
use Rattle.crsm_replica.proofs.Excepting.{but_for, skips, takes, take_whole}
use Rattle.crsm_replica.proofs.members.except.Goals.{then-k-me+in_ok-push, else-k-me}
use Rattle.crsm_replica.proofs.members.except.Goals as goal

pub loop-k-init : goal.loop-k-init
loop-k-init c = c.new-others.ensures.items

pub loop-k-preserved : goal.loop-k-preserved
loop-k-preserved c =
    let ks = c.args.replicas.now in
    elim c.if-k-me.branch [
      | then-k-me+in_ok-push w ↦ ap (λ (v : Vec ℕ). v.items) w.others-is
          ∙ takes ks c.loop-k.others.items w.push.new.self.items c.loop-k.k-index c.args.me c.loop-k-test.true w.if-k-me.true w.in_ok-push.ensures.items c.loop-k.invariant
      | else-k-me w ↦ ap (λ (v : Vec ℕ). v.items) w.others-is
          ∙ skips ks c.loop-k.others.items c.loop-k.k-index c.args.me c.loop-k-test.true w.if-k-me.false c.loop-k.invariant
    ]

pub returns : goal.returns
returns c =
    let ks = c.args.replicas.now in
    let value = c.loop-k.invariant ∙ ap (λ zs. but_for c.args.me zs) (take_whole ks c.loop-k.k-index c.loop-k-test.false) in
    record { value = value; below = λ all. subst (λ zs. All (λ k. k < 15) zs) (sym value) (All-filter (λ k. not (k == c.args.me)) (λ k. k < 15) ks all) }
