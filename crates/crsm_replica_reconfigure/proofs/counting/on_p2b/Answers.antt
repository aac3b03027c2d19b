use Rattle.std.proofs.Common.{◌∙◌, sym}
use Rattle.crsm_spec.specs.Log.{decision}
use Rattle.crsm_replica_reconfigure.proofs.ChoiceLemmas.{vote_counts, vote_ignored}
use Rattle.crsm_replica_reconfigure.proofs.DraftLemmas.{does_nothing, instead, and_none, and_no}
use Rattle.crsm_replica_reconfigure.proofs.counting.on_p2b.Goals as goal

pub returns-then-not-counts : goal.returns-then-not-counts
returns-then-not-counts c = λ x s.
    does_nothing c.args.state.now x _ (vote_ignored c.args.k c.args.instance c.args.ballot x (and_none _ _ (sym (c.is_counted-counts.ensures x s) ∙ c.if-not-counts.true))) s

pub returns-then-not-takes : goal.returns-then-not-takes
returns-then-not-takes c = λ x s.
    does_nothing c.args.state.now x _ (vote_ignored c.args.k c.args.instance c.args.ballot x (and_no _ _
    (sym (c.takes_vote-takes.ensures x.replica.me x.replica.n (decision x.replica.log) x.replica.coordinator (c.coordinator.ensures x s)) ∙ c.if-not-takes.true))) s

pub returns : goal.returns
returns c = λ x s.
    let v = vote_counts c.args.k c.args.instance c.args.ballot x (sym (c.is_counted-counts.ensures x s) ∙ c.if-not-counts.false)
    (sym (c.takes_vote-takes.ensures x.replica.me x.replica.n (decision x.replica.log) x.replica.coordinator (c.coordinator.ensures x s)) ∙ c.if-not-takes.false) in
    instead c.count_vote.new.state x _ _ (sym v.rule) ((c.in_ok-count_vote.ensures x v.c v.own v.value v.acceptors s v.is v.counted).1)
