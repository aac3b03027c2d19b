-- A machine after a step that was stopped.
use Rattle.std.proofs.Common.{◌≡◌, ℕ, Option, Some, None, sym, subst}
use Rattle.crsm_spec.specs.Draft.{Draft}
use Rattle.crsm_spec.specs.Replica.{Replica}
use Rattle.crsm_spec.specs.World.{Site}
use Rattle.crsm_sim_machine.specs.declared.stopped.Stopped.{Stopped}
use Rattle.crsm_sim_machine.specs.declared.state.MachineState.TheVariants as state
use Rattle.crsm_sim_machine.specs.declared.machine.Machine.{Machine}
use Rattle.crsm_sim_machine.specs.declared.step.Step.{Step}
use Rattle.crsm_sim_machine.specs.Outcomes.{IsCut, LeavesCut}
use Rattle.crsm_sim_machine.specs.Machine.{MachineStands}
use Rattle.crsm_sim_machine.specs.States.{IsIn}

-- what is left is what the machine has
pub cut_machine : (calls fill me n : ℕ) (r : Replica) (x : Draft) (step : Option Step) (left : Stopped) (machine : Machine) → machine.me ≡ me → machine.n ≡ n → machine.state ≡ state.Down left →
    LeavesCut calls fill me n r x step left → IsCut calls fill me n r x step machine
unfolding MachineStands
cut_machine calls fill me n r x (Some step) left machine number began is cut =
    (cut.0, cut.1, (number, began, subst (λ p. IsIn me n p (Site.Down x.replica.log)) (sym is) cut.2))
cut_machine calls fill me n r x None left machine number began is cut =
    (cut.0, (number, began, subst (λ p. IsIn me n p (Site.Down r.log)) (sym is) cut.1))
