use Rattle.std.proofs.Common.{◌≡◌, ◌∙◌, ap, drop}
use Rattle.std.proofs.lemmas.List.{drop-drop}
use Rattle.crsm_link.proofs.outbound.drop_front.Goals as goal

pub loop-place-preserved : goal.loop-place-preserved
loop-place-preserved c =
    c.pop_front.ensures.rest ∙ ap (drop 1) c.loop-place.invariant ∙ drop-drop 1 c.loop-place._place c.args.frames.now.items
