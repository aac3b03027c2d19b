use Rattle.std.proofs.Common.{sym, ◌∙◌}
use Rattle.crsm_spec.specs.Log.{executed}
use Rattle.crsm_replica_results.proofs.Order.{none_ahead}
use Rattle.crsm_replica_results.proofs.place.place_of.Goals as goal

pub returns-then-is_ahead-clause-value : goal.returns-then-is_ahead-clause-value
returns-then-is_ahead-clause-value c me n log s rises =
    none_ahead c.args.entry.now (executed log) rises (sym (c.is_ahead.ensures me n log s) ∙ c.if-is_ahead.true)
