use Rattle.std.proofs.Common.{◌∙◌, ◌++◌, ◌<◌, ◌≤◌, ap, arith, length, sym}
use Rattle.crsm_sim_generator.specs.View.{up_replicas, is_up_in}
use Rattle.crsm_sim_generator.proofs.Places.{more_at, all_at, none_yet, place_if}
use Rattle.crsm_sim_generator.proofs.choice.up_replicas.Goals as goal

pub loop-replica-init : goal.loop-replica-init
loop-replica-init g c v shown = c.new-ups.ensures.items ∙ sym (none_yet (λ up. up))

pub loop-replica-preserved : goal.loop-replica-preserved
loop-replica-preserved g c v shown =
    let k = c.loop-replica.replica in
    let within : k < length v.ups = let end = c.replicas-replica-end.ensures v shown in let t = c.loop-replica-test.true in omega (arith, end, t) in
    c.in_ok-add_up.ensures v shown ∙ ap (λ ks. ks ++ place_if (is_up_in v k) k) (c.loop-replica.invariant v shown) ∙ sym (more_at (λ up. up) v k within)

pub returns : goal.returns
unfolding up_replicas
returns g c v shown =
    let past : length v.ups ≤ c.loop-replica.replica = let end = c.replicas-replica-end.ensures v shown in let t = c.loop-replica-test.false in omega (arith, end, t) in
    c.loop-replica.invariant v shown ∙ all_at (λ up. up) v c.loop-replica.replica past
