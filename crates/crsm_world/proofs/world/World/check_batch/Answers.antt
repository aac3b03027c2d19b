use Rattle.std.proofs.Common.{◌∙◌, sym}
use Rattle.crsm_world.specs.Doing.{bad_of}
use Rattle.crsm_world.proofs.Reasons.{hit, pass, no_more}
use Rattle.crsm_spec.specs.Possible.{causes_of_batch}
use Rattle.crsm_world.proofs.world.World.check_batch.Goals as goal

pub returns-then-lacks_packets : goal.returns-then-lacks_packets
unfolding causes_of_batch bad_of
returns-then-lacks_packets c v h ne = hit _ _ _ (sym (c.lacks_packets.ensures v h) ∙ c.if-lacks_packets.true)

pub returns-then-has_used : goal.returns-then-has_used
unfolding causes_of_batch bad_of
returns-then-has_used c v h ne = pass _ _ _ (sym (c.lacks_packets.ensures v h) ∙ c.if-lacks_packets.false) ∙ hit _ _ _ (sym (c.has_used.ensures v h) ∙ c.if-has_used.true)

pub returns-then-are_mixed : goal.returns-then-are_mixed
unfolding causes_of_batch bad_of
returns-then-are_mixed c v h ne =
    let all = sym (c.lacks_packets.ensures v h) ∙ c.if-lacks_packets.false in
    pass _ _ _ all ∙ pass _ _ _ (sym (c.has_used.ensures v h) ∙ c.if-has_used.false) ∙ hit _ _ _ (sym (c.are_mixed.ensures v h all) ∙ c.if-are_mixed.true)

pub returns-then-has_receiver_down : goal.returns-then-has_receiver_down
unfolding causes_of_batch bad_of
returns-then-has_receiver_down c v h ne =
    let all = sym (c.lacks_packets.ensures v h) ∙ c.if-lacks_packets.false in
    pass _ _ _ all ∙ pass _ _ _ (sym (c.has_used.ensures v h) ∙ c.if-has_used.false) ∙ pass _ _ _ (sym (c.are_mixed.ensures v h all) ∙ c.if-are_mixed.false)
    ∙ hit _ _ _ (sym (c.has_receiver_down.ensures v h) ∙ c.if-has_receiver_down.true)

pub returns : goal.returns
unfolding causes_of_batch
returns c v h =
    let all = sym (c.lacks_packets.ensures v h) ∙ c.if-lacks_packets.false in
    pass _ _ _ all ∙ pass _ _ _ (sym (c.has_used.ensures v h) ∙ c.if-has_used.false) ∙ pass _ _ _ (sym (c.are_mixed.ensures v h all) ∙ c.if-are_mixed.false)
    ∙ pass _ _ _ (sym (c.has_receiver_down.ensures v h) ∙ c.if-has_receiver_down.false) ∙ no_more
