use Rattle.std.proofs.Common.{◌≡◌, [], subst}
use Rattle.crsm_spec.specs.World.{Site, state_of}
use Rattle.crsm_sim_machine.specs.declared.state.MachineState.TheVariants as state
use Rattle.crsm_sim_machine.specs.Machine.{MachineStands}
use Rattle.crsm_sim_machine.specs.States.{IsIn}
use Rattle.crsm_sim_machine.proofs.machine.Machine.state.Goals as goal

pub returns-in-Up : goal.returns-in-Up
unfolding MachineStands state_of
returns-in-Up c me n s h = go s (subst (λ p. IsIn me n p s) c.in-Up.is h.2)
  where
    go : (s : Site) → IsIn me n (state.Up c.in-Up.shell) s → c.state_of.result ≡ state_of s
    go (Site.Up r) up = c.state_of.ensures r.me r.n r.log (c.state.ensures r.log r [] up.stands)
    go (Site.Down log) up = absurd up
