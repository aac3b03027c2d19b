use Rattle.crsm_mpspec.specs.Moments.{act, moments_of, world_after, lines_of, silent, use_up}
use Rattle.crsm_mpworld.specs.Packets.{used_up}
use Rattle.crsm_mpworld.proofs.world.MpWorld.lose.Goals as goal

pub returns : goal.returns
unfolding act moments_of world_after lines_of silent use_up used_up
returns c v h =
    let held = c.no_lines-lines.ensures.holds v h in
    record { after = record { n = held.n; sites = held.sites; network = c.use_up.ensures.used v.packets v.bytes held.network }; told = c.no_lines-lines.ensures.none }
