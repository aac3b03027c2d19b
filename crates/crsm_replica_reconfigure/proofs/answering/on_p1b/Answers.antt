use Rattle.std.proofs.Common.{◌∙◌, sym}
use Rattle.std.proofs.lemmas.Result.{IfOk-weaker}
use Rattle.crsm_spec.specs.Log.{decision}
use Rattle.crsm_replica_reconfigure.proofs.AnswerLemmas.{answer_counts, answer_ignored}
use Rattle.crsm_replica_reconfigure.proofs.DraftLemmas.{does_nothing, instead, and_none, and_no}
use Rattle.crsm_replica_reconfigure.proofs.answering.on_p1b.Goals as goal

pub returns-then-not-counts : goal.returns-then-not-counts
returns-then-not-counts c = λ x s.
    does_nothing c.args.state.now x _ (answer_ignored c.args.k c.args.instance c.args.ballot c.args.accepted.now x (and_none _ _ (sym (c.is_counted-counts.ensures x s) ∙ c.if-not-counts.true))) s

pub returns-then-not-takes : goal.returns-then-not-takes
returns-then-not-takes c = λ x s.
    does_nothing c.args.state.now x _ (answer_ignored c.args.k c.args.instance c.args.ballot c.args.accepted.now x (and_no _ _
    (sym (c.takes_answer-takes.ensures x.replica.me x.replica.n (decision x.replica.log) x.replica.coordinator (c.coordinator.ensures x s)) ∙ c.if-not-takes.true))) s

pub returns : goal.returns
returns c =
    IfOk-weaker c.count_answer.result _ _ (λ _ made x s.
    let a = answer_counts c.args.k c.args.instance c.args.ballot c.args.accepted.now x (sym (c.is_counted-counts.ensures x s) ∙ c.if-not-counts.false)
    (sym (c.takes_answer-takes.ensures x.replica.me x.replica.n (decision x.replica.log) x.replica.coordinator (c.coordinator.ensures x s)) ∙ c.if-not-takes.false) in
    instead c.count_answer.new.state x _ _ (sym a.rule) (made x a.c a.own a.answers s a.is a.counted a.first)) c.count_answer.ensures
