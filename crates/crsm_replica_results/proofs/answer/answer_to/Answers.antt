use Rattle.std.proofs.Common.{sym, ◌∙◌}
use Rattle.crsm_spec.specs.Log.{executed}
use Rattle.crsm_replica_results.proofs.Order.{answered_at, not_answered}
use Rattle.crsm_replica_results.proofs.answer.answer_to.Goals as goal

pub returns-in_ok-answer-in-Some : goal.returns-in_ok-answer-in-Some
returns-in_ok-answer-in-Some c me n log s rises all =
    answered_at c.args.entry.now (executed log) c.in-Some.place c.in_ok-answer-in-Some.answer
    (sym c.in-Some.is ∙ c.in_ok-place.ensures.value me n log s rises) (c.in_ok-answer-in-Some.ensures me n log s all)

pub returns-in-None : goal.returns-in-None
returns-in-None c me n log s rises all =
    not_answered c.args.entry.now (executed log) (sym c.in-None.is ∙ c.in_ok-place.ensures.value me n log s rises)
