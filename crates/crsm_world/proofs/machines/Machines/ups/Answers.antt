use Rattle.std.proofs.Common.{◌≡◌, ◌<◌, ◌≤◌, ◌∙◌, ap, arith, subst, List, length, map, get_or, take_all}
use Rattle.crsm_spec.specs.World.{is_up}
use Rattle.crsm_sim_machine.specs.declared.Machine.{Machine}
use Rattle.crsm_world.proofs.Sites.{machines_length}
use Rattle.crsm_world.proofs.Due.{ups_next}
use Rattle.crsm_world.proofs.machines.Machines.ups.Goals as goal

pub loop-machine-preserved : goal.loop-machine-preserved
loop-machine-preserved c n places h =
    let items = c.deref-machine-items.ensures.value in
    let l : c.loop-machine.machine-index < length c.args.self.now.items.items = let e = ap length items in let t = c.loop-machine-test.true in omega arith in
    let is = subst (λ (ss : List Machine). c.machine-item.result ≡ get_or ss c.loop-machine.machine-index c.machine-item.result) items c.machine-item.is in
    c.in_ok-push.ensures.items ∙ ups_next c.args.self.now n places c.loop-machine.machine-index c.machine-item.result c.loop-machine.ups.items c.is_up.result h l is (λ p s. c.is_up.ensures.up _ n p s) (c.loop-machine.invariant n places h)

pub returns : goal.returns
returns c n places h =
    let l : length places ≤ c.loop-machine.machine-index = let e = ap length c.deref-machine-items.ensures.value in let m = machines_length c.args.self.now n places h in let t = c.loop-machine-test.false in omega arith in
    c.loop-machine.invariant n places h ∙ ap (map is_up) (take_all c.loop-machine.machine-index places l)
