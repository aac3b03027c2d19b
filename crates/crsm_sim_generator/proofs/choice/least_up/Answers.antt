use Rattle.std.proofs.Common.{◌∙◌, ◌<◌, ◌≤◌, ap, arith, length, not, sym}
use Rattle.std.specs.Prelude.{slice_get}
use Rattle.crsm_sim_generator.specs.View.{up_replicas}
use Rattle.crsm_sim_generator.proofs.Places.{first_at, none_at, all_at, none_yet}
use Rattle.crsm_sim_generator.proofs.choice.least_up.Goals as goal

pub loop-replica-init : goal.loop-replica-init
loop-replica-init g c v shown = none_yet (λ up. up)

pub returns-then-is_up : goal.returns-then-is_up
unfolding up_replicas
returns-then-is_up g c v shown =
    let k = c.loop-replica.replica in
    let within : k < length v.ups = let end = c.replicas-replica-end.ensures v shown in let t = c.loop-replica-test.true in omega (arith, end, t) in
    sym (first_at (λ up. up) v k within (sym (c.is_up.ensures v shown) ∙ c.if-is_up.true) (c.loop-replica.invariant v shown))

pub loop-replica-preserved : goal.loop-replica-preserved
loop-replica-preserved g c v shown =
    let k = c.loop-replica.replica in
    let within : k < length v.ups = let end = c.replicas-replica-end.ensures v shown in let t = c.loop-replica-test.true in omega (arith, end, t) in
    none_at (λ up. up) v k within (sym (c.is_up.ensures v shown) ∙ c.if-is_up.false) (c.loop-replica.invariant v shown)

pub returns : goal.returns
unfolding up_replicas
returns g c v shown =
    let past : length v.ups ≤ c.loop-replica.replica = let end = c.replicas-replica-end.ensures v shown in let t = c.loop-replica-test.false in omega (arith, end, t) in
    sym (ap (λ ks. slice_get ks 0) (sym (all_at (λ up. up) v c.loop-replica.replica past) ∙ c.loop-replica.invariant v shown))
