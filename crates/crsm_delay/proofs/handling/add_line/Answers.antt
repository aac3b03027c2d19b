use Rattle.std.proofs.Common.{◌∙◌, sym}
use Rattle.crsm_delay.proofs.Handled.{next_reads, unread, not_allowed, no_memory}
use Rattle.crsm_delay.proofs.handling.add_line.Goals as goal

pub returns-in_default-clause-err : goal.returns-in_default-clause-err
returns-in_default-clause-err c = unread c.args.draft.now c.args.text.now c.read_line.result c.read_line.ensures.only c.in_default.is

pub returns-then-not-allows-clause-err : goal.returns-then-not-allows-clause-err
returns-then-not-allows-clause-err c =
    not_allowed c.args.draft.now c.in-Some.line c.args.text.now c.read_line.result c.read_line.ensures.only c.in-Some.is (sym c.allows.ensures ∙ c.if-not-allows.true)

pub returns-in_default-add-clause-err : goal.returns-in_default-add-clause-err
returns-in_default-add-clause-err c = no_memory _ c.args.text.now

pub returns-clause-ok : goal.returns-clause-ok
returns-clause-ok c =
    next_reads c.args.draft.now c.add.new.self c.in-Some.line c.args.text.now c.in-Some.ensures.found.0 c.in-Some.ensures.found.1 (sym c.allows.ensures ∙ c.if-not-allows.false) c.in-Ok.ensures.ok
