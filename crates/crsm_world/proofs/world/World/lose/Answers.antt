use Rattle.crsm_spec.specs.Moments.{act, moments_of, world_after, lines_of, silent, use_up}
use Rattle.crsm_sim_network.specs.Packets.{used_up}
use Rattle.crsm_world.proofs.world.World.lose.Goals as goal

pub returns : goal.returns
unfolding act moments_of world_after lines_of silent use_up used_up
returns c v h = record { after = record { sites = h.sites; network = c.use_up.ensures v.packets v.bytes h.network }; told = c.new.ensures }
