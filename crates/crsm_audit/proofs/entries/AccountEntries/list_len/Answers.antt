use Rattle.std.proofs.Common.{length, ◌∙◌, ap, sym}
use Rattle.crsm_audit.specs.Entries.{EntryLists}
use Rattle.crsm_audit.proofs.KeptEntries.{bodies_count}
use Rattle.crsm_audit.proofs.entries.AccountEntries.list_len.Goals as goal

pub returns : goal.returns
returns c =
    c.len.ensures ∙ c.self.inside.list.ok.0 ∙ sym (bodies_count c.self.inside.kept c.self.inside.list.items) ∙ ap (λ (e : EntryLists). length e.list) c.self.view_is
