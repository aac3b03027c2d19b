use Rattle.std.proofs.Common.{refl, ap, Some}
use Rattle.crsm_mpworld.specs.Packets.{receiver_of}
use Rattle.crsm_mpworld.proofs.network.MpNetwork.receiver.Goals as goal

pub returns-in-Some : goal.returns-in-Some
unfolding receiver_of
returns-in-Some c packets bytes h = let f = c.in-Some.ensures.at packets bytes h in rw f.1 (ap (λ k. Some k) f.2.to)

pub returns-in-None : goal.returns-in-None
unfolding receiver_of
returns-in-None c packets bytes h = let f = c.in-None.ensures.at packets bytes h in rw f refl
