use Rattle.std.proofs.Common.{◌≡◌, [], ◌∷◌, ◌∙◌, ap, sym}
use Rattle.std.specs.Prelude.{Some}
use Rattle.crsm_spec.specs.Types.{Line}
use Rattle.crsm_spec.specs.Log.{known, executed, logged, unexecuted}
use Rattle.crsm_spec.specs.Lists.{first_of}
use Rattle.crsm_ledger.proofs.KeepLemmas.{lines-commit, commits, commit-entry, next-is}
use Rattle.crsm_ledger.proofs.ReadLemmas.{holds}
use Rattle.crsm_ledger.proofs.ledger.Ledger.keep_commit.Goals as goal

pub returns-clause-kept : goal.returns-clause-kept
returns-clause-kept c = λ t me n log s fit.
    let x = c.in_ok-line.ensures (known log) (executed log) (logged log) (holds s) in
    let first : first_of (unexecuted log) ≡ Some x.entry = sym (next-is log) ∙ x.next in (
      c.in_ok-lines.ensures ∙ ap (λ (line : Line). line ∷ []) x.line_is ∙ lines-commit s t x.entry (commit-entry me n log t x.entry fit first),
      commits s t x.entry c.run_next.new.self fit first x.holds,
    )
