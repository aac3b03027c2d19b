use Rattle.std.proofs.Common.{◌∙◌, sym}
use Rattle.crsm_mpreplica.proofs.NoteLemmas.{led-over, led-on}
use Rattle.crsm_mpreplica.proofs.note.end_lead.Goals as goal

pub returns-then-is_leading : goal.returns-then-is_leading
returns-then-is_leading c me log p s = rw (led-over p (sym (c.is_leading.ensures me log p s) ∙ c.if-is_leading.true)) tt

pub returns-else-is_leading : goal.returns-else-is_leading
returns-else-is_leading c me log p s = rw (led-on p (sym (c.is_leading.ensures me log p s) ∙ c.if-is_leading.false)) s
