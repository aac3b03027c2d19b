use Rattle.std.proofs.Common.{◌∙◌, sym}
use Rattle.crsm_spec.specs.Log.{known, executed, logged}
use Rattle.crsm_ledger.proofs.KeepLemmas.{commits, next-is}
use Rattle.crsm_ledger.proofs.ReadLemmas.{holds}
use Rattle.crsm_ledger.proofs.ledger.Ledger.follow_commit.Goals as goal

pub returns-clause-kept : goal.returns-clause-kept
returns-clause-kept c = λ t me n log s fit.
    let x = c.in_ok-line.ensures (known log) (executed log) (logged log) (holds s) in
    commits s t x.entry c.run_next.new.self fit (sym (next-is log) ∙ x.next) x.holds
