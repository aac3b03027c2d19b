use Rattle.std.proofs.Common.{ap, ◌∙◌, sym}
use Rattle.crsm_segment.specs.Gathering.{Gathering}
use Rattle.crsm_segment.proofs.Lists.{set_undone}
use Rattle.crsm_segment.proofs.message.Message.add.Goals as goal

pub returns-in-Err-clause-err : goal.returns-in-Err-clause-err
returns-in-Err-clause-err c =
    ap (λ z. let g : Gathering = record { boot = c.self.inside.boot; number = c.self.inside.number; count = c.self.inside.count; slots = z; given = c.self.inside.given } in g)
    (set_undone c.self.inside.slots.items c.args.index _ c.index.result.now (sym c.is_some.ensures ∙ c.if-is_some.false) c.index.ensures)
    ∙ c.self.view_is
