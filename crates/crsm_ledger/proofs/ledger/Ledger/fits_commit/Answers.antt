use Rattle.std.proofs.Common.{◌∙◌}
use Rattle.std.specs.Prelude.{not}
use Rattle.crsm_spec.specs.Log.{known, executed, logged}
use Rattle.crsm_ledger.proofs.ExecutedLemmas.{last_stamp-in}
use Rattle.crsm_ledger.proofs.FitsLemmas.{can-commit, fits-commit}
use Rattle.crsm_ledger.proofs.ledger.Ledger.fits_commit.Goals as goal

pub returns-clause-value : goal.returns-clause-value
returns-clause-value c = λ me n log s.
    let last = c.last_stamp.ensures.value (known log) (executed log) s.executed ∙ last_stamp-in log in
    cc (fits-commit s c.args.stamp c.last_stamp.result last, c.is_next-is_next.ensures.value (executed log) (logged log) s.kept)

pub returns-clause-can : goal.returns-clause-can
returns-clause-can c = λ passes. can-commit c.args.self.now.is_live (not c.args.self.now.is_suspended) c.is_next-is_next.result c.last_stamp.result c.args.self.now.held.history.last_stamp c.args.self.now.held.logged passes c.last_stamp.ensures.is c.is_next-is_next.ensures.some
