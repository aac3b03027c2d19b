use Rattle.std.proofs.Common.{◌≡◌, ◌∙◌, ◌<◌, ℕ, None, Option, ap, arith, length, slice_index_or, subst, sym}
use Rattle.crsm_port_flow.proofs.Earlies.{item_is}
use Rattle.crsm_port_flow.specs.Early.{IsFrameOf, kept_at}
use Rattle.crsm_port_flow.specs.declared.early.Frame.{Frame}
use Rattle.crsm_port_flow.proofs.early.Early.has.Goals as goal

pub returns : goal.returns
returns c =
    let from = c.args.from in
    let number = c.args.number in
    let frames = c.args.self.now.frames.items in
    let place = c.index.result.now in
    let within : c.place_of.result < length frames = omega (arith, c.place_of.ensures.within, c.args.self.now.wide) in
    let here : place ≡ kept_at from number frames = item_is frames c.place_of.result place within c.index.ensures ∙ ap (λ (k : ℕ). slice_index_or frames k None) c.place_of.ensures.place in (
      λ yes. subst (λ (o : Option Frame). IsFrameOf from number o) here (c.is_frame.ensures.0 yes),
      λ waits. c.is_frame.ensures.1 (subst (λ (o : Option Frame). IsFrameOf from number o) (sym here) waits),
    )
