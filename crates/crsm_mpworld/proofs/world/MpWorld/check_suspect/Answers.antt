use Rattle.std.proofs.Common.{◌∙◌, ap, sym, true, false}
use Rattle.std.specs.List.{list_any}
use Rattle.crsm_mpspec.specs.Possible.{causes_of_single, is_none_of}
use Rattle.crsm_mpworld.specs.Doing.{cause_of}
use Rattle.crsm_mpworld.proofs.Reasons.{hit, pass, no_more, none, there, down_as, lacks, has_all, few_as}
use Rattle.crsm_mpworld.proofs.world.MpWorld.check_suspect.Goals as goal

pub returns-then-count-k : goal.returns-then-count-k
unfolding causes_of_single cause_of
returns-then-count-k c v t h = hit _ _ _ (lacks v c.args.k c.args.members.now (none v c.args.k c.count.result (c.count.ensures v.n v.sites h.sites) c.if-count-k.true))

pub returns-then-lacks_one : goal.returns-then-lacks_one
unfolding causes_of_single cause_of
returns-then-lacks_one c v t h =
    let one = ap (list_any (is_none_of v)) (sym c.as_slice.ensures.value) ∙ (sym (c.lacks_one.ensures v h) ∙ c.if-lacks_one.true) in
    hit _ _ _ (has_all v c.args.k c.args.members.now true (there v c.args.k c.count.result (c.count.ensures v.n v.sites h.sites) c.if-count-k.false) one)

pub returns-then-not-is_up : goal.returns-then-not-is_up
unfolding causes_of_single cause_of
returns-then-not-is_up c v t h =
    let one = ap (list_any (is_none_of v)) (sym c.as_slice.ensures.value) ∙ (sym (c.lacks_one.ensures v h) ∙ c.if-lacks_one.false) in
    pass _ _ _ (has_all v c.args.k c.args.members.now false (there v c.args.k c.count.result (c.count.ensures v.n v.sites h.sites) c.if-count-k.false) one)
    ∙ hit _ _ _ (down_as v c.args.k c.is_up.result false (c.is_up.ensures.up v.n v.sites h.sites) c.if-not-is_up.true)

pub returns-then-are_too_few : goal.returns-then-are_too_few
unfolding causes_of_single cause_of
returns-then-are_too_few c v t h =
    let one = ap (list_any (is_none_of v)) (sym c.as_slice.ensures.value) ∙ (sym (c.lacks_one.ensures v h) ∙ c.if-lacks_one.false) in
    pass _ _ _ (has_all v c.args.k c.args.members.now false (there v c.args.k c.count.result (c.count.ensures v.n v.sites h.sites) c.if-count-k.false) one)
    ∙ pass _ _ _ (down_as v c.args.k c.is_up.result true (c.is_up.ensures.up v.n v.sites h.sites) c.if-not-is_up.false)
    ∙ hit _ _ _ (few_as v c.args.members.now c.args.self.now.n c.count-2.result c.are_too_few.result true h.n c.count-2.ensures.value c.are_too_few.ensures c.if-are_too_few.true)

pub returns : goal.returns
unfolding causes_of_single cause_of
returns c v t h =
    let one = ap (list_any (is_none_of v)) (sym c.as_slice.ensures.value) ∙ (sym (c.lacks_one.ensures v h) ∙ c.if-lacks_one.false) in
    pass _ _ _ (has_all v c.args.k c.args.members.now false (there v c.args.k c.count.result (c.count.ensures v.n v.sites h.sites) c.if-count-k.false) one)
    ∙ pass _ _ _ (down_as v c.args.k c.is_up.result true (c.is_up.ensures.up v.n v.sites h.sites) c.if-not-is_up.false)
    ∙ pass _ _ _ (few_as v c.args.members.now c.args.self.now.n c.count-2.result c.are_too_few.result false h.n c.count-2.ensures.value c.are_too_few.ensures c.if-are_too_few.false) ∙ no_more
