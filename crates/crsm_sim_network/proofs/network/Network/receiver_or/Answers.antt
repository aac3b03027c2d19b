use Rattle.std.proofs.Common.{refl}
use Rattle.crsm_sim_network.specs.Packets.{receiver_or}
use Rattle.crsm_sim_network.proofs.network.Network.receiver_or.Goals as goal

pub returns-in-Some : goal.returns-in-Some
unfolding receiver_or
returns-in-Some c packets bytes h = let f = c.in-Some.ensures packets bytes h in rw f.1 f.2.to

pub returns-in-None : goal.returns-in-None
unfolding receiver_or
returns-in-None c packets bytes h = let f = c.in-None.ensures packets bytes h in rw f refl
