use Rattle.std.proofs.Common.{◌≡◌, ℕ, [], Some, ◌∙◌, ap, subst}
use Rattle.crsm_spec.specs.Log.{spec}
use Rattle.crsm_spec.specs.World.{Site}
use Rattle.crsm_sim_machine.specs.declared.state.MachineState.TheVariants as state
use Rattle.crsm_sim_machine.specs.Outcomes.{spec_at}
use Rattle.crsm_sim_machine.specs.Machine.{MachineStands}
use Rattle.crsm_sim_machine.specs.States.{IsIn}
use Rattle.crsm_sim_machine.proofs.machine.Machine.spec.Goals as goal

pub returns-in_ok-spec-in-Up : goal.returns-in_ok-spec-in-Up
unfolding MachineStands spec_at
returns-in_ok-spec-in-Up c me n s h = go s (subst (λ p. IsIn me n p s) c.in-Up.is h.2)
  where
    go : (s : Site) → IsIn me n (state.Up c.in-Up.shell) s → Some c.in_ok-spec-in-Up.field-0 ≡ spec_at n s
    go (Site.Up r) up =
        ap Some (c.in_ok-spec-in-Up.ensures r.me r.n r.log (c.state.ensures r.log r [] up.stands) ∙ ap (λ (k : ℕ). spec k r.log) up.began)
    go (Site.Down log) up = absurd up
