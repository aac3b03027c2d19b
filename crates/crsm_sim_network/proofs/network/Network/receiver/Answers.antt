use Rattle.std.proofs.Common.{refl, ap, Some}
use Rattle.crsm_sim_network.specs.Packets.{receiver_of}
use Rattle.crsm_sim_network.proofs.network.Network.receiver.Goals as goal

pub returns-in-Some : goal.returns-in-Some
unfolding receiver_of
returns-in-Some c packets bytes h = let f = c.in-Some.ensures packets bytes h in rw f.1 (ap Some f.2.to)

pub returns-in-None : goal.returns-in-None
unfolding receiver_of
returns-in-None c packets bytes h = let f = c.in-None.ensures packets bytes h in rw f refl
