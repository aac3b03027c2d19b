use Rattle.std.proofs.Common.{◌∙◌, ap, sym, subst, true, false, ◌||◌}
use Rattle.std.specs.List.{list_any}
use Rattle.crsm_world.specs.Refusing.{Answers}
use Rattle.crsm_world.specs.Doing.{bad_of}
use Rattle.crsm_world.proofs.Reasons.{hit, pass, none, there, up_as, down_as}
use Rattle.crsm_spec.specs.Possible.{causes_of_single, is_none_of}
use Rattle.crsm_world.proofs.world.World.check_suspect.Goals as goal

pub returns-then-count-k : goal.returns-then-count-k
unfolding causes_of_single bad_of
returns-then-count-k c v t h ne = hit _ _ _ (ap (λ b. b || list_any (is_none_of v) c.args.members.now) (none v c.args.k c.count.result (c.count.ensures v.n v.sites h.sites) c.if-count-k.true))

pub returns-then-lacks_one : goal.returns-then-lacks_one
unfolding causes_of_single bad_of
returns-then-lacks_one c v t h ne =
    let e = ap (list_any (is_none_of v)) (sym c.as_slice.ensures.value) ∙ (sym (c.lacks_one.ensures v h) ∙ c.if-lacks_one.true) in
    hit _ _ _ (ap (λ b. b || list_any (is_none_of v) c.args.members.now) (there v c.args.k c.count.result (c.count.ensures v.n v.sites h.sites) c.if-count-k.false) ∙ e)

pub returns-then-not-is_up : goal.returns-then-not-is_up
unfolding causes_of_single bad_of
returns-then-not-is_up c v t h ne =
    let e = ap (list_any (is_none_of v)) (sym c.as_slice.ensures.value) ∙ (sym (c.lacks_one.ensures v h) ∙ c.if-lacks_one.false) in
    pass _ _ _ (ap (λ b. b || list_any (is_none_of v) c.args.members.now) (there v c.args.k c.count.result (c.count.ensures v.n v.sites h.sites) c.if-count-k.false) ∙ e)
    ∙ hit _ _ _ (down_as v c.args.k c.is_up.result false (c.is_up.ensures.up v.n v.sites h.sites) c.if-not-is_up.true)

pub returns : goal.returns
unfolding causes_of_single
returns c v t h =
    let e = ap (list_any (is_none_of v)) (sym c.as_slice.ensures.value) ∙ (sym (c.lacks_one.ensures v h) ∙ c.if-lacks_one.false) in
    let all = pass _ _ _ (ap (λ b. b || list_any (is_none_of v) c.args.members.now) (there v c.args.k c.count.result (c.count.ensures v.n v.sites h.sites) c.if-count-k.false) ∙ e)
    ∙ pass _ _ _ (down_as v c.args.k c.is_up.result true (c.is_up.ensures.up v.n v.sites h.sites) c.if-not-is_up.false) in
    subst (Answers c.check_members.result) (sym all) (c.check_members.ensures v h (up_as v c.args.k c.is_up.result true (c.is_up.ensures.up v.n v.sites h.sites) c.if-not-is_up.false))
