use Rattle.std.proofs.Common.{◌∙◌, ◌<◌, ℕ, ap, subst, sym}
use Rattle.crsm_port_flow.proofs.Earlies.{frame_same}
use Rattle.crsm_port_flow.proofs.Pasts.{lt_of, test_of}
use Rattle.crsm_port_flow.specs.declared.early.Frame.{Frame}
use Rattle.crsm_port_flow.proofs.early.is_below.Goals as goal

pub returns-then-frame-from : goal.returns-then-frame-from
returns-then-frame-from c =
    let f = c.in-Some.frame in (
      λ yes. (f, c.in-Some.is, c.if-frame-from.true, lt_of f.number c.args.least yes),
      λ (g, is, _, below). test_of f.number c.args.least (subst (λ (n : ℕ). n < c.args.least) (sym (ap (λ (x : Frame). x.number) (frame_same f g (sym c.in-Some.is ∙ is)))) below),
    )
