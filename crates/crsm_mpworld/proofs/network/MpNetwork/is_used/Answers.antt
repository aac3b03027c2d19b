use Rattle.std.proofs.Common.{refl}
use Rattle.crsm_mpworld.specs.Packets.{is_used_at}
use Rattle.crsm_mpworld.proofs.network.MpNetwork.is_used.Goals as goal

pub returns-in-Some : goal.returns-in-Some
unfolding is_used_at
returns-in-Some c packets bytes h = let f = c.in-Some.ensures.at packets bytes h in rw f.1 f.2.used

pub returns-in-None : goal.returns-in-None
unfolding is_used_at
returns-in-None c packets bytes h = let f = c.in-None.ensures.at packets bytes h in rw f refl
