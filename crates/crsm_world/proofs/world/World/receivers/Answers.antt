use Rattle.std.proofs.Common.{Bool, true, sym, subst}
use Rattle.crsm_sim_network.proofs.Receiving.{alike}
use Rattle.crsm_sim_network.specs.Packets.{Receives}
use Rattle.crsm_world.specs.Machines.{is_up_in}
use Rattle.crsm_world.specs.Seen.{is_receiver}
use Rattle.crsm_world.specs.World.{WorldStands}
use Rattle.crsm_world.proofs.Looking.{up_in_at}
use Rattle.crsm_world.proofs.world.World.receivers.Goals as goal

pub returns-then-up : goal.returns-then-up
unfolding WorldStands
returns-then-up c v h =
    subst (λ (b : Bool). Receives c.receivers.result (is_receiver b v)) (sym c.if-up.true) (alike _ (is_up_in v.sites) (is_receiver true v) (up_in_at v) (c.receivers.ensures v.n v.sites h.holds.sites))

pub returns-else-up : goal.returns-else-up
returns-else-up c v h = subst (λ (b : Bool). Receives c.any.result (is_receiver b v)) (sym c.if-up.false) c.any.ensures
