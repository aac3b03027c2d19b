use Rattle.std.proofs.Common.{refl, not, ap, ◌∙◌}
use Rattle.crsm_mpworld.specs.Packets.{is_fresh_for}
use Rattle.crsm_mpworld.proofs.Numbers.{and_true}
use Rattle.crsm_mpworld.proofs.network.MpNetwork.is_fresh.Goals as goal

pub returns-in-Some : goal.returns-in-Some
unfolding is_fresh_for
returns-in-Some c packets bytes h = let f = c.in-Some.ensures.at packets bytes h in rw f.1 (ap not f.2.used ∙ and_true (not f.0.used))

pub returns-in-None : goal.returns-in-None
unfolding is_fresh_for
returns-in-None c packets bytes h = let f = c.in-None.ensures.at packets bytes h in rw f refl
