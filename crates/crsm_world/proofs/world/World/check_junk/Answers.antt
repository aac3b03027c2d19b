use Rattle.std.proofs.Common.{◌∙◌, sym, subst, true, false}
use Rattle.crsm_world.specs.Refusing.{Answers}
use Rattle.crsm_world.specs.Doing.{bad_of}
use Rattle.crsm_world.proofs.Reasons.{hit, pass, none, there, down_as}
use Rattle.crsm_spec.specs.Possible.{causes_of_single}
use Rattle.crsm_world.proofs.world.World.check_junk.Goals as goal

pub returns-then-count-k : goal.returns-then-count-k
unfolding causes_of_single bad_of
returns-then-count-k c v t h ne = hit _ _ _ (none v c.args.k c.count.result (c.count.ensures v.n v.sites h.sites) c.if-count-k.true)

pub returns-then-not-is_up : goal.returns-then-not-is_up
unfolding causes_of_single bad_of
returns-then-not-is_up c v t h ne =
    pass _ _ _ (there v c.args.k c.count.result (c.count.ensures v.n v.sites h.sites) c.if-count-k.false) ∙ hit _ _ _ (down_as v c.args.k c.is_up.result false (c.is_up.ensures.up v.n v.sites h.sites) c.if-not-is_up.true)

pub returns : goal.returns
unfolding causes_of_single
returns c v t h =
    let all = pass _ _ _ (there v c.args.k c.count.result (c.count.ensures v.n v.sites h.sites) c.if-count-k.false) ∙ pass _ _ _ (down_as v c.args.k c.is_up.result true (c.is_up.ensures.up v.n v.sites h.sites) c.if-not-is_up.false) in
    subst (Answers c.check_bytes.result) (sym all) c.check_bytes.ensures
