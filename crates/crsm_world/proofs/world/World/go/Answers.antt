use Rattle.std.proofs.Common.{sym}
use Rattle.std.specs.Prelude.{slice_get}
use Rattle.crsm_spec.specs.Moments.{single, come, use_up}
use Rattle.crsm_world.specs.Turning.{ending_of}
use Rattle.crsm_sim_network.specs.Packets.{used_up}
use Rattle.crsm_world.proofs.Turns.{come_used}
use Rattle.crsm_world.proofs.Leading.{on_as, on_begun}
use Rattle.crsm_world.proofs.world.World.go.Goals as goal

pub returns : goal.returns
unfolding single use_up used_up
returns c v h =
    let ends = ending_of c.args.ending in
    let u = use_up c.args.number v in
    on_begun v (come ends u c.args.reading (slice_get v.packets c.args.number)) _ _ _ _
    (on_as _ _ _ _ _ _ (sym (come_used ends v c.args.reading c.args.number)) (c.in_ok-come.ensures u (record { sites = h.sites; network = c.use_up.ensures v.packets v.bytes h.network })))
