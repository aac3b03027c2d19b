use Rattle.std.proofs.Common.{◌≡◌, ◌∙◌, ◌<◌, ℕ, None, Option, ap, arith, length, refl, slice_index_or, subst, sym}
use Rattle.std.proofs.lemmas.Bool.{true≢false}
use Rattle.crsm_port_flow.proofs.Earlies.{frame_same, item_is, set_same}
use Rattle.crsm_port_flow.specs.Early.{IsFrameOf, kept_at}
use Rattle.crsm_port_flow.specs.declared.early.Frame.{Frame}
use Rattle.crsm_port_flow.proofs.early.take_at.Goals as goal

pub returns-then-not-is_frame-clause-none : goal.returns-then-not-is_frame-clause-none
returns-then-not-is_frame-clause-none c = λ _.
    let from = c.args.from in
    let number = c.args.number in
    let frames = c.args.frames.now.items in
    let place = c.in_ok-place.place.now in
    let within : c.place_of.result < length frames = omega (arith, c.in_ok-place.ensures.variant.0 refl, c.args.frames.now.ok) in
    let here : place ≡ kept_at from number frames = item_is frames c.place_of.result place within c.in_ok-place.ensures.value ∙ ap (λ (k : ℕ). slice_index_or frames k None) c.place_of.ensures.place in (
      set_same frames c.place_of.result place c.in_ok-place.ensures.value,
      λ waits. true≢false (sym (c.is_frame.ensures.1 (subst (λ (o : Option Frame). IsFrameOf from number o) (sym here) waits)) ∙ c.if-not-is_frame.true),
    )

pub returns-clause-was : goal.returns-clause-was
returns-clause-was c =
    let from = c.args.from in
    let number = c.args.number in
    let frames = c.args.frames.now.items in
    let place = c.in_ok-place.place.now in
    let within : c.place_of.result < length frames = omega (arith, c.in_ok-place.ensures.variant.0 refl, c.args.frames.now.ok) in
    let here : place ≡ kept_at from number frames = item_is frames c.place_of.result place within c.in_ok-place.ensures.value ∙ ap (λ (k : ℕ). slice_index_or frames k None) c.place_of.ensures.place in
    let (f, is, at, same) = c.is_frame.ensures.0 c.if-not-is_frame.false in
    (f, sym here ∙ is, at, same, ap (λ (x : Frame). x.datagram) (frame_same f c.in_ok-frame.frame (sym is ∙ sym c.take.ensures.value ∙ c.in_ok-frame.was)))
