use Rattle.std.proofs.Common.{◌∙◌, ap, true, false}
use Rattle.crsm_world.specs.Doing.{bad_of}
use Rattle.crsm_world.proofs.Reasons.{hit, pass, no_more, spec_up, few_as}
use Rattle.crsm_spec.specs.Possible.{are_too_few}
use Rattle.crsm_world.proofs.world.World.check_members.Goals as goal

pub returns-in_default : goal.returns-in_default
returns-in_default c v h up =
    let e = c.in_ok-spec.ensures v.n v.sites h.sites in let f = spec_up v c.args.k up in let g = c.in_default.is in cc

pub returns-then-are_too_few : goal.returns-then-are_too_few
unfolding bad_of
returns-then-are_too_few c v h up ne = hit _ _ _ (few_as _ c.args.members.now c.in-Some.spec c.in_ok-spec.field-0 c.are_too_few.result true (c.in_ok-spec.ensures v.n v.sites h.sites ∙ spec_up v c.args.k up) c.in-Some.is
    (c.are_too_few.ensures ∙ ap (λ ks. are_too_few ks c.as_slice-2.result.now) c.as_slice.ensures.value ∙ ap (are_too_few c.in-Some.spec) c.as_slice-2.ensures.value) c.if-are_too_few.true)

pub returns : goal.returns
returns c v h up = pass _ _ _ (few_as _ c.args.members.now c.in-Some.spec c.in_ok-spec.field-0 c.are_too_few.result false (c.in_ok-spec.ensures v.n v.sites h.sites ∙ spec_up v c.args.k up) c.in-Some.is
    (c.are_too_few.ensures ∙ ap (λ ks. are_too_few ks c.as_slice-2.result.now) c.as_slice.ensures.value ∙ ap (are_too_few c.in-Some.spec) c.as_slice-2.ensures.value) c.if-are_too_few.false) ∙ no_more
