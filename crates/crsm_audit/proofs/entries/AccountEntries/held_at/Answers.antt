use Rattle.std.proofs.Common.{◌≡◌, length, ◌∙◌, ap, sym, arith}
use Rattle.crsm_audit.specs.Entries.{EntryLists}
use Rattle.crsm_audit.proofs.KeptEntries.{bodies_count, entry_at}
use Rattle.crsm_audit.proofs.entries.AccountEntries.held_at.Goals as goal

pub body_at-requires-clause-index : goal.body_at-requires-clause-index
body_at-requires-clause-index c =
    let count : length c.as_slice.result.now ≡ length c.args.self.now.held =
    ap length c.as_slice.ensures.value ∙ sym (bodies_count c.self.inside.kept c.self.inside.held.items) ∙ ap (λ (e : EntryLists). length e.held) c.self.view_is in
    let lt = c.requires in
    omega (arith, count, lt)

pub returns-clause-entry : goal.returns-clause-entry
returns-clause-entry c = entry_at c.self.inside.kept _ c.body_at.result.now c.self.invariant.entries c.body_at.ensures.there
