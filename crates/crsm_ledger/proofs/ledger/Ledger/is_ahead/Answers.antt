use Rattle.std.proofs.Common.{[], ◌∷◌}
use Rattle.crsm_spec.specs.Log.{known, executed}
use Rattle.crsm_ledger.proofs.ExecutedLemmas.{goes_on-position}
use Rattle.crsm_ledger.proofs.ledger.Ledger.is_ahead.Goals as goal

pub returns : goal.returns
returns c = λ me n log s.
    cc (goes_on-position (executed log) (c.args.entry.now ∷ []), c.last.ensures (known log) (executed log) s.says.executed)
