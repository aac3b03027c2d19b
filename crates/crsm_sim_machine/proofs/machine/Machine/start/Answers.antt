use Rattle.std.proofs.Common.{◌≡◌, ℕ, [], refl, sym, subst}
use Rattle.std.proofs.Math.Logic.{∥∥₁_map}
use Rattle.crsm_spec.specs.Step.{boot}
use Rattle.crsm_spec.specs.World.{Site}
use Rattle.crsm_sim_machine.specs.Outcomes.{Boots}
use Rattle.crsm_sim_machine.specs.Machine.{MachineStands}
use Rattle.crsm_sim_machine.specs.States.{IsIn, IsStateOf, IsUpAs, IsDownOrSpent}
use Rattle.crsm_sim_machine.proofs.Disks.{renamed}
use Rattle.crsm_sim_machine.proofs.machine.Machine.start.Goals as goal

pub returns-in_ok-running-in-Down : goal.returns-in_ok-running-in-Down
unfolding MachineStands
returns-in_ok-running-in-Down c me n log h =
    let i = c.args.self.now.me in
    let j = c.args.self.now.n in
    let b = c.in_ok-running-in-Down.running in
    let stopped = renamed c.in-Down.stopped log me i n j (sym h.0) (sym h.1) (subst (λ p. IsIn me n p (Site.Down log)) (sym c.in-Down.ensures.value) h.2) in
    let booted = c.in_ok-running-in-Down.ensures log stopped.left in
    let P : ℕ → ℕ → Type 0 = λ x y.
    Boots b.boot (boot x y log) × (i ≡ x) × (j ≡ y) × IsUpAs x y b.shell (boot x y log).replica.log (boot x y log).replica [] in
    let first : P i j = (record { lines = booted.0; size = booted.1; quiet = c.boots_are_quiet.ensures i j log }, refl, refl, booted.2) in
    let whole : P me n = subst (λ y. P me y) h.1 (subst (λ x. P x j) h.0 first) in
    (whole.0, (whole.1, whole.2, subst (λ p. IsIn me n p (Site.Up (boot me n log).replica)) (sym c.change.ensures) whole.3))

-- ---- the state is one of the replica

pub boot_on-requires-clause-left : goal.boot_on-requires-clause-left
boot_on-requires-clause-left c = subst (λ p. ∥ IsStateOf c.args.self.now.me c.args.self.now.n p ∥₁) (sym c.in-Down.ensures.value) c.args.self.now.stands

pub invariant_of-self-in-Down-clause-stands : goal.invariant_of-self-in-Down-clause-stands
invariant_of-self-in-Down-clause-stands c =
    let i = c.args.self.now.me in
    let j = c.args.self.now.n in
    subst (λ p. ∥ IsStateOf i j p ∥₁) (sym c.change.ensures)
    (∥∥₁_map (subst (λ p. ∥ IsStateOf i j p ∥₁) (sym c.in-Down.ensures.value) c.args.self.now.stands)
    (λ h. record { kept = _; replica = (boot i j h.log).replica; steps = []; is = (c.in_ok-running-in-Down.ensures h.log h.has).2 }))

-- ---- what it is not asked for

pub unreachable-requires : goal.unreachable-requires
unreachable-requires c = subst (λ p. IsDownOrSpent p) (sym c.in-Up.ensures.value) c.requires
