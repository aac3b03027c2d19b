use Rattle.std.proofs.Common.{◌≤◌, arith, length, false}
use Rattle.std.specs.Prelude.{nat_eq, nat_lt, ◌||◌, ◌&&◌}
use Rattle.crsm_sim_network.proofs.Receiving.{alike}
use Rattle.crsm_world.specs.Machines.{is_up_in}
use Rattle.crsm_world.proofs.Looking.{all_up, none_up, one_up}
use Rattle.crsm_world.proofs.machines.Machines.receivers.Goals as goal

pub loop-k-init : goal.loop-k-init
loop-k-init c n places h = alike _ (λ k. false) _ (none_up (is_up_in places)) c.none-receivers.ensures

pub loop-k-preserved : goal.loop-k-preserved
loop-k-preserved c n places h =
    let k = c.loop-k.k in
    alike _ (λ j. (nat_lt j k && is_up_in places j) || (nat_eq j k && is_up_in places k)) _ (one_up (is_up_in places) k) (c.add_up.ensures n places h (λ j. nat_lt j k && is_up_in places j) (c.loop-k.invariant n places h))

pub returns : goal.returns
returns c n places h =
    let few : length places ≤ c.loop-k.k = let f = h.few in let t = c.loop-k-test.false in omega (arith, f, t) in
    alike _ (λ j. nat_lt j c.loop-k.k && is_up_in places j) _ (λ j. all_up places c.loop-k.k j few) (c.loop-k.invariant n places h)
