use Rattle.std.proofs.Common.{◌∙◌, sym}
use Rattle.crsm_mpreplica.proofs.NoteLemmas.{refused-lead, refused-none}
use Rattle.crsm_mpreplica.proofs.note.end_lead_below.Goals as goal

pub returns-then-is_leading : goal.returns-then-is_leading
returns-then-is_leading c me log p s = rw (refused-lead c.args.ballot p (sym (c.is_leading.ensures me log p s) ∙ c.if-is_leading.true)) (c.end_below.ensures me log p s)

pub returns-else-is_leading : goal.returns-else-is_leading
returns-else-is_leading c me log p s = rw (refused-none c.args.ballot p (sym (c.is_leading.ensures me log p s) ∙ c.if-is_leading.false)) s
