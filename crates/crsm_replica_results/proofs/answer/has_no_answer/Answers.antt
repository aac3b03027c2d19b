use Rattle.std.proofs.Common.{sym, ◌∙◌}
use Rattle.crsm_spec.specs.Log.{executed}
use Rattle.crsm_replica_results.proofs.Order.{none_ahead, not_answered}
use Rattle.crsm_replica_results.proofs.answer.has_no_answer.Goals as goal

pub returns : goal.returns
returns c me n log s rises ahead =
    not_answered c.args.entry.now (executed log)
    (none_ahead c.args.entry.now (executed log) rises (sym (c.is_ahead.ensures me n log s) ∙ ahead))
