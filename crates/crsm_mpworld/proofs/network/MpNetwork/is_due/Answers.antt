use Rattle.std.proofs.Common.{refl, ap, not, ◌&&◌, ◌∙◌}
use Rattle.crsm_mpworld.specs.Packets.{is_fresh_for, is_up_among}
use Rattle.crsm_mpworld.proofs.network.MpNetwork.is_due.Goals as goal

pub returns-in-Some : goal.returns-in-Some
unfolding is_fresh_for
returns-in-Some c packets bytes h =
    let f = c.in-Some.ensures.at packets bytes h in
    let ups = c.args.self.now.ups.items in
    let up = c.is_up.ensures ∙ ap (λ us. is_up_among us c.in-Some.packet.to) c.as_slice.ensures.value ∙ ap (is_up_among ups) f.2.to in
    rw f.1 (ap (λ b. not b && c.is_up.result) f.2.used ∙ ap (λ b. not f.0.used && b) up)

pub returns-in-None : goal.returns-in-None
unfolding is_fresh_for
returns-in-None c packets bytes h = let f = c.in-None.ensures.at packets bytes h in rw f refl
