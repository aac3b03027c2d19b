use Rattle.std.proofs.Common.{sym, subst}
use Rattle.std.proofs.Math.Logic.{∥∥₁_map}
use Rattle.crsm_spec.specs.World.{Site, log_of}
use Rattle.crsm_sim_machine.specs.declared.state.MachineState.TheVariants as state
use Rattle.crsm_sim_machine.specs.Machine.{MachineStands}
use Rattle.crsm_sim_machine.specs.States.{IsIn, IsStateOf, IsStopped}
use Rattle.crsm_sim_machine.proofs.machine.Machine.crash.Goals as goal

pub returns-in_ok-stopped_by-in-Up : goal.returns-in_ok-stopped_by-in-Up
unfolding MachineStands log_of
returns-in_ok-stopped_by-in-Up c me n s h =
    (h.0, h.1, subst (λ p. IsIn me n p (Site.Down (log_of s))) (sym c.change.ensures) (go s (subst (λ p. IsIn me n p s) (sym c.in-Up.ensures.value) h.2)))
  where
    go : (s : Site) → IsIn me n (state.Up c.in-Up.shell) s → IsStopped me n c.in_ok-stopped_by-in-Up.field-0 (log_of s)
    go (Site.Up r) up = c.in_ok-stopped_by-in-Up.ensures.stands me n r up
    go (Site.Down log) up = absurd up

pub returns-in-Down : goal.returns-in-Down
unfolding MachineStands log_of
returns-in-Down c me n s h =
    (h.0, h.1, subst (λ p. IsIn me n p (Site.Down (log_of s))) (sym c.change-in-Down.ensures) (go s (subst (λ p. IsIn me n p s) (sym c.in-Down.ensures.value) h.2)))
  where
    go : (s : Site) → IsIn me n (state.Down c.in-Down.left) s → IsStopped me n c.in-Down.left (log_of s)
    go (Site.Up r) left = absurd left
    go (Site.Down log) left = left

-- ---- the state is one of the replica

pub stopped_by-requires : goal.stopped_by-requires
stopped_by-requires c =
    let i = c.args.self.now.me in
    let j = c.args.self.now.n in
    ∥∥₁_map (subst (λ p. ∥ IsStateOf i j p ∥₁) (sym c.in-Up.ensures.value) c.args.self.now.stands) (λ h. (i, j, h))

pub invariant_of-self-in-Up-clause-stands : goal.invariant_of-self-in-Up-clause-stands
invariant_of-self-in-Up-clause-stands c =
    let i = c.args.self.now.me in
    let j = c.args.self.now.n in
    subst (λ p. ∥ IsStateOf i j p ∥₁) (sym c.change.ensures)
    (∥∥₁_map (subst (λ p. ∥ IsStateOf i j p ∥₁) (sym c.in-Up.ensures.value) c.args.self.now.stands) (λ h. c.in_ok-stopped_by-in-Up.ensures.some i j h))

pub invariant_of-self-in-Down-clause-stands : goal.invariant_of-self-in-Down-clause-stands
invariant_of-self-in-Down-clause-stands c =
    let i = c.args.self.now.me in
    let j = c.args.self.now.n in
    subst (λ p. ∥ IsStateOf i j p ∥₁) (sym c.change-in-Down.ensures) (subst (λ p. ∥ IsStateOf i j p ∥₁) (sym c.in-Down.ensures.value) c.args.self.now.stands)
