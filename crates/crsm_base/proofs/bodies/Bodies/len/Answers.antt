use Rattle.std.proofs.Common.{◌∙◌, length, ap, sym}
use Rattle.crsm_base.proofs.PiecesLemmas.{count}
use Rattle.crsm_base.proofs.bodies.Bodies.len.Goals as goal

pub returns : goal.returns
returns c = c.len.ensures ∙ c.self.inside.ends.ok.0 ∙ sym (count 0 c.self.inside.ends.items c.self.inside.text.items) ∙ ap length c.self.view_is
