use Rattle.std.proofs.Common.{sym, subst}
use Rattle.std.proofs.Math.Logic.{∥∥₁_map}
use Rattle.crsm_spec.specs.Node.{turn}
use Rattle.crsm_spec.specs.World.{Site}
use Rattle.crsm_sim_machine.specs.Arriving.{turn_of}
use Rattle.crsm_sim_machine.specs.Machine.{MachineStands}
use Rattle.crsm_sim_machine.specs.States.{IsIn, IsStateOf, IsUpOrSpent}
use Rattle.crsm_sim_machine.proofs.Cuts.{cut_machine}
use Rattle.crsm_sim_machine.proofs.machine.Machine.cut_at.Goals as goal

pub returns-in_ok-step-in-Up-clause-stands : goal.returns-in_ok-step-in-Up-clause-stands
unfolding MachineStands
returns-in_ok-step-in-Up-clause-stands c me n r h =
    let up = subst (λ p. IsIn me n p (Site.Up r)) (sym c.in-Up.ensures.value) h.2 in
    let cut = c.in_ok-step-in-Up.ensures.stands me n r up in
    cut_machine c.args.calls c.args.fill me n r (turn r (turn_of c.args.arrival, c.args.reading)) _ _ _ h.0 h.1 c.change.ensures cut

-- ---- the state is one of the replica

pub cut-requires-clause-up : goal.cut-requires-clause-up
cut-requires-clause-up c =
    let i = c.args.self.now.me in
    let j = c.args.self.now.n in
    ∥∥₁_map (subst (λ p. ∥ IsStateOf i j p ∥₁) (sym c.in-Up.ensures.value) c.args.self.now.stands) (λ h. (i, j, h))

pub invariant_of-self-in-Up-clause-stands : goal.invariant_of-self-in-Up-clause-stands
invariant_of-self-in-Up-clause-stands c =
    let i = c.args.self.now.me in
    let j = c.args.self.now.n in
    subst (λ p. ∥ IsStateOf i j p ∥₁) (sym c.change.ensures)
    (∥∥₁_map (subst (λ p. ∥ IsStateOf i j p ∥₁) (sym c.in-Up.ensures.value) c.args.self.now.stands) (λ h. c.in_ok-step-in-Up.ensures.some i j h))

-- ---- what it is not asked for

pub unreachable-requires : goal.unreachable-requires
unreachable-requires c = subst (λ p. IsUpOrSpent p) (sym c.in-Down.ensures.value) c.requires.up
