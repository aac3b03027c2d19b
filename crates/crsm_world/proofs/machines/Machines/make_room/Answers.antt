use Rattle.std.proofs.Common.{◌∙◌, sym, subst, arith}
use Rattle.std.proofs.Common.{◌≡◌, ℕ, List, Some, []}
use Rattle.std.specs.Prelude.{slice_get}
use Rattle.crsm_sim_machine.specs.declared.Machine.{Machine}
use Rattle.crsm_spec.specs.World.{Site}
use Rattle.crsm_sim_machine.specs.Machine.{IsNotUp, MachineStands}
use Rattle.crsm_world.proofs.Sites.{machine_last, roomed_new, roomed_old}
use Rattle.crsm_world.proofs.machines.Machines.make_room.Goals as goal
use Rattle.crsm_world.proofs.machines.Machines.make_room.Goals.{else-k-count-via-then-k-count+else-k-from, else-k-count-via-else-k-count}

pub returns-in_ok-push-clause-stands : goal.returns-in_ok-push-clause-stands
returns-in_ok-push-clause-stands c n places h l =
    roomed_new c.args.self.now n places c.args.k c.push.new.self c.in_ok-machine.machine h l (c.if-k-count.true ∙ (c.len-count.ensures ∙ c.args.self.now.items.ok.0)) c.in_ok-push.ensures.items
    (subst (λ (m : ℕ). MachineStands c.in_ok-machine.machine c.args.k m (Site.Down [])) (c.count.ensures.count ∙ h.founders) c.in_ok-machine.ensures.stands)

pub returns-else-k-count-clause-stands : goal.returns-else-k-count-clause-stands
returns-else-k-count-clause-stands c n places h l = elim c.else-k-count.branch [
  | else-k-count-via-then-k-count+else-k-from w ↦ (let a = w.from.ensures in let b = w.if-k-from.false in absurd (omega arith))
  | else-k-count-via-else-k-count w ↦ roomed_old c.args.self.now n places c.args.k h (λ e. w.if-k-count.false (e ∙ sym (c.len-count.ensures ∙ c.args.self.now.items.ok.0)))
]

pub returns-in_ok-push-clause-not_up : goal.returns-in_ok-push-clause-not_up
returns-in_ok-push-clause-not_up c before m at =
    let new = c.in_ok-machine.machine in
    let last = subst (λ (ms : List Machine). slice_get ms c.args.k ≡ Some m) c.in_ok-push.ensures.items at in
    subst (λ x. IsNotUp x) (machine_last c.args.self.now.items.items c.args.k new m (c.if-k-count.true ∙ (c.len-count.ensures ∙ c.args.self.now.items.ok.0)) last) c.in_ok-machine.ensures.down
