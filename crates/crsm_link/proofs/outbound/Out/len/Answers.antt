use Rattle.std.proofs.Common.{◌∙◌, ◌≡◌, length, rules}
use Rattle.crsm_link.proofs.Numbered.{length_kept}
use Rattle.crsm_link.proofs.outbound.Out.len.Goals as goal

pub returns : goal.returns
returns c pushed acked s = let e : c.len.result ≡ length c.args.self.now.frames.items = search rules in e ∙ length_kept _ pushed acked s
