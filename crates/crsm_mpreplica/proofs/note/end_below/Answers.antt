use Rattle.std.proofs.Common.{◌∙◌, sym}
use Rattle.crsm_mpreplica.proofs.NoteLemmas.{ended, ended-not}
use Rattle.crsm_mpreplica.proofs.note.end_below.Goals as goal

pub returns-then-is_below : goal.returns-then-is_below
returns-then-is_below c me log p s = rw (ended c.args.ballot p (sym (c.is_below.ensures me log p s) ∙ c.if-is_below.true)) tt

pub returns-else-is_below : goal.returns-else-is_below
returns-else-is_below c me log p s = rw (ended-not c.args.ballot p (sym (c.is_below.ensures me log p s) ∙ c.if-is_below.false)) s
