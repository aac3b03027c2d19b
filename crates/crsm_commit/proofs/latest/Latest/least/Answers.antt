use Rattle.std.proofs.Common.{◌∙◌, ap, arith, refl, get_or}
use Rattle.std.specs.List.{list_all}
use Rattle.std.proofs.lemmas.List.{take_all}
use Rattle.crsm_spec.specs.Ready.{reached}
use Rattle.crsm_commit.proofs.LatestLemmas.{least_more, none_counted}
use Rattle.crsm_commit.proofs.latest.Latest.least.Goals as goal

pub loop-member-init : goal.loop-member-init
loop-member-init c received time s one small = none_counted time small

pub loop-member-preserved : goal.loop-member-preserved
loop-member-preserved c received time s one small =
    least_more received time c.as_slice-member-items.result.now c.loop-member.member-index
    (get_or c.as_slice-member-items.result.now c.loop-member.member-index 0) c.loop-member.least c.of.result c.min-least.result
    c.loop-member-test.true refl (c.of.ensures received s) c.min-least.ensures one (c.loop-member.invariant received time s one small)

pub returns : goal.returns
returns c received time s one small =
    c.loop-member.invariant received time s one small
    ∙ ap (list_all (reached received time)) (take_all c.loop-member.member-index c.as_slice-member-items.result.now (omega arith) ∙ c.as_slice-member-items.ensures.value)
