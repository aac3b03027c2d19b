use Rattle.std.proofs.Common.{◌∙◌, ap}
use Rattle.crsm_delay.specs.Drafts.{empty}
use Rattle.crsm_delay.proofs.Handled.{first_reads}
use Rattle.crsm_delay.proofs.handling.first_line.Goals as goal

pub returns-clause-ok : goal.returns-clause-ok
returns-clause-ok c = first_reads c.args.text.now c.in_ok-n.n c.new.result c.in_ok-n.ensures.found.0 c.in_ok-n.ensures.found.1 (c.new.ensures ∙ ap empty c.from.ensures)
