use Rattle.std.proofs.Common.{◌++◌, ℕ, List, ◌∙◌, ap}
use Rattle.std.proofs.lemmas.Grind.{merely}
use Rattle.crsm_base.specs.Spelling.{entry_bytes}
use Rattle.crsm_audit.proofs.account.Account.hold_entry.Goals as goal

pub hold-requires : goal.hold-requires
hold-requires c = merely (record { entry = c.args.entry.now; fits = c.requires; is = c.as_slice.ensures ∙ c.in_ok-write_entry.ensures.ok ∙ ap (λ (bytes : List ℕ). bytes ++ entry_bytes c.args.entry.now) c.new-bytes.ensures })
