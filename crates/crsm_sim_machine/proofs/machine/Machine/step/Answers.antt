use Rattle.std.proofs.Common.{[], subst}
use Rattle.std.proofs.Math.Logic.{∥∥₁_map}
use Rattle.crsm_sim_machine.specs.Machine.{MachineStands}
use Rattle.crsm_sim_machine.specs.States.{IsStateOf, IsIn, IsUpOrSpent}
use Rattle.crsm_spec.specs.World as world
use Rattle.crsm_sim_machine.proofs.machine.Machine.step.Goals as goal

pub returns-in-Ok-clause-sent : goal.returns-in-Ok-clause-sent
unfolding MachineStands
returns-in-Ok-clause-sent c well me n r h =
    let up = subst (λ p. IsIn me n p (world.Site.Up r)) c.in-Up.is h.2 in
    c.in-Ok.ensures.sent me n _ r [] up well

pub returns-in-Ok-clause-stands : goal.returns-in-Ok-clause-stands
unfolding MachineStands
returns-in-Ok-clause-stands c me n r h =
    let up = subst (λ p. IsIn me n p (world.Site.Up r)) c.in-Up.is h.2 in
    let made = c.in-Ok.ensures.stands me n _ r [] up in
    (made.0, (h.0, h.1, made.1))

-- ---- the state is one of the replica

pub step-requires : goal.step-requires
step-requires c =
    let i = c.args.self.now.me in
    let j = c.args.self.now.n in ∥∥₁_map (subst (λ p. ∥ IsStateOf i j p ∥₁) c.in-Up.is c.args.self.now.stands) (λ h. (i, j, h))

pub invariant_of-self : goal.invariant_of-self
invariant_of-self c =
    let old = c.args.self.now in
    record {
      below = old.below;
      some = old.some;
      most = old.most;
      stands = ∥∥₁_map (subst (λ p. ∥ IsStateOf old.me old.n p ∥₁) c.in-Up.is old.stands)
          (λ h.
          let made = c.in-Ok.ensures.stands old.me old.n h.kept h.replica h.steps h.is in
          record { kept = _; replica = _; steps = []; is = made.1 });
    }

-- ---- what it is not asked for

pub unreachable-requires : goal.unreachable-requires
unreachable-requires c = subst (λ p. IsUpOrSpent p) c.in-Down.is c.requires
