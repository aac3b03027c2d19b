use Rattle.std.proofs.Common.{◌≡◌, ◌∙◌, ◌<◌, None, Option, arith, length, refl, slice_index_or, subst, sym}
use Rattle.std.proofs.lemmas.Bool.{true≢false}
use Rattle.crsm_port_flow.proofs.Earlies.{item_is, set_same}
use Rattle.crsm_port_flow.specs.Early.{IsFrameBelow}
use Rattle.crsm_port_flow.specs.declared.early.Frame.{Frame}
use Rattle.crsm_port_flow.proofs.early.take_below.Goals as goal

pub returns-then-not-is_below-clause-none : goal.returns-then-not-is_below-clause-none
returns-then-not-is_below-clause-none c = λ _. set_same c.args.frames.now.items c.args.place c.in_ok-place.place.now c.in_ok-place.ensures.value

pub returns-then-not-is_below-clause-above : goal.returns-then-not-is_below-clause-above
returns-then-not-is_below-clause-above c = λ _ below.
    let frames = c.args.frames.now.items in
    let place = c.in_ok-place.place.now in
    let within : c.args.place < length frames = omega (arith, c.in_ok-place.ensures.variant.0 refl, c.args.frames.now.ok) in
    let here : place ≡ slice_index_or frames c.args.place None = item_is frames c.args.place place within c.in_ok-place.ensures.value in
    true≢false (sym (c.is_below.ensures.1 (subst (λ (o : Option Frame). IsFrameBelow c.args.from c.args.least o) (sym here) below)) ∙ c.if-not-is_below.true)

pub returns-clause-was : goal.returns-clause-was
returns-clause-was c = λ _.
    let frames = c.args.frames.now.items in
    let place = c.in_ok-place.place.now in
    let within : c.args.place < length frames = omega (arith, c.in_ok-place.ensures.variant.0 refl, c.args.frames.now.ok) in
    let here : place ≡ slice_index_or frames c.args.place None = item_is frames c.args.place place within c.in_ok-place.ensures.value in
    subst (λ (o : Option Frame). IsFrameBelow c.args.from c.args.least o) here (c.is_below.ensures.0 c.if-not-is_below.false)
