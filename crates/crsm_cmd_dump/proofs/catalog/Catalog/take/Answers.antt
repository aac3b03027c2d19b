use Rattle.std.proofs.Common.{Bool, ap, refl, sym, ◌∙◌}
use Rattle.crsm_cmd_dump.specs.Catalogs.{changed}
use Rattle.crsm_cmd_dump.proofs.Listing.{took_executed, took_other}
use Rattle.crsm_cmd_dump.proofs.catalog.Catalog.take.Goals as goal

pub returns-then-not-is_executed : goal.returns-then-not-is_executed
returns-then-not-is_executed c = λ rows lists.
    took_other c.args.self.now _ rows c.args.command.now c.in_ok-answer.answer c.in_ok-answer.ensures.done lists (sym c.is_executed-is_executed.ensures ∙ c.if-not-is_executed.true) refl refl

pub returns : goal.returns
returns c = λ rows lists.
    took_executed c.args.self.now _ rows c.args.command.now c.in_ok-answer.answer c.in_ok-answer.ensures.done lists (sym c.is_executed-is_executed.ensures ∙ c.if-not-is_executed.false)
    (c.in_ok-change.ensures ∙ ap (λ (b : Bool). changed c.args.command.now.op b c.args.self.now.keys.entries) c.is_done.ensures) c.in_ok-keep.ensures
