use Rattle.std.proofs.Common.{◌∙◌, ap, eq-eqb, sym}
use Rattle.std.proofs.lemmas.Bool.{eqb-true}
use Rattle.crsm_port_flow.proofs.Earlies.{frame_same}
use Rattle.crsm_port_flow.specs.declared.early.Frame.{Frame}
use Rattle.crsm_port_flow.proofs.early.is_frame.Goals as goal

pub returns-then-frame-from : goal.returns-then-frame-from
returns-then-frame-from c =
    let f = c.in-Some.frame in (
      λ yes. (f, c.in-Some.is, c.if-frame-from.true, eqb-true f.number c.args.number yes),
      λ (g, is, _, same). eq-eqb f.number c.args.number (ap (λ (x : Frame). x.number) (frame_same f g (sym c.in-Some.is ∙ is)) ∙ same),
    )
