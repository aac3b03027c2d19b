use Rattle.std.proofs.Common.{length, ◌∙◌, ap, sym}
use Rattle.crsm_audit.specs.Entries.{EntryLists}
use Rattle.crsm_audit.proofs.KeptEntries.{bodies_count}
use Rattle.crsm_audit.proofs.entries.AccountEntries.held_len.Goals as goal

pub returns : goal.returns
returns c =
    c.len.ensures ∙ c.self.inside.held.ok.0 ∙ sym (bodies_count c.self.inside.kept c.self.inside.held.items) ∙ ap (λ (e : EntryLists). length e.held) c.self.view_is
