use Rattle.std.proofs.Common.{sym}
use Rattle.std.specs.Prelude.{slice_get}
use Rattle.crsm_mpspec.specs.Moments.{single, come, use_up}
use Rattle.crsm_mpworld.specs.Effects.{ending_of}
use Rattle.crsm_mpworld.specs.Packets.{used_up}
use Rattle.crsm_mpworld.proofs.Turns.{come_used}
use Rattle.crsm_mpworld.proofs.Leading.{on_as, on_begun}
use Rattle.crsm_mpworld.proofs.world.MpWorld.go.Goals as goal

pub returns : goal.returns
unfolding single use_up used_up
returns c v h reading =
    let ends = ending_of c.args.ending in
    let u = use_up c.args.number v in
    on_begun v (come ends u (slice_get v.packets c.args.number)) _ _ _ _ _
    (on_as _ _ _ _ _ _ _ (sym (come_used ends v c.args.number)) (c.in_ok-come.ensures u (record { n = h.n; sites = h.sites; network = c.use_up.ensures.used v.packets v.bytes h.network })))
