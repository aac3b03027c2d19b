use Rattle.std.proofs.Common.{◌≡◌, ◌∙◌, sym, refl, true, false, arith}
use Rattle.std.specs.Prelude.{Option, None, Some}
use Rattle.std.specs.Option.{is_none}
use Rattle.crsm_spec.specs.Types.{Stamp}
use Rattle.crsm_spec.specs.Log.{active}
use Rattle.crsm_replica_epoch.specs.First.{ready_of}
use Rattle.crsm_core.proofs.CommitLemmas.{begins, commit_one, not_active, none_at_first, none_ready, all_committed}
use Rattle.crsm_core.proofs.commits.commits.Goals as goal

pub returns-then-not-is_active : goal.returns-then-not-is_active
returns-then-not-is_active c = λ x s.
    let a : active x.replica.log ≡ false = cc (c.is_active.ensures x s) in
    not_active c.args.state.now x a s

none_of : (o : Option Stamp) → is_none o ≡ true → None ≡ o
none_of None h = refl
none_of (Some s) h = absurd (cc h)

pub returns-then-is_none : goal.returns-then-is_none
returns-then-is_none c = λ x s.
    let a : active x.replica.log ≡ true = cc (c.is_active.ensures x s) in
    let none : is_none c.in_ok-next.next ≡ true = cc (c.is_none.ensures, c.if-is_none.true) in
    none_at_first c.args.state.now x a s (none_of c.in_ok-next.next none ∙ c.in_ok-next.ensures.value x s a)

pub loop-done-init : goal.loop-done-init
loop-done-init c = λ x s.
    let a : active x.replica.log ≡ true = cc (c.is_active.ensures x s) in
    begins c.args.state.now x a s

pub loop-done-preserved : goal.loop-done-preserved
loop-done-preserved c = λ x s.
    let p = c.loop-done.invariant x s in
    let stamp : Stamp = c.in-Some.stamp in
    let ready : Some stamp ≡ ready_of p.left.replica = sym c.in-Some.is ∙ c.in_ok-stamp.ensures.value p.left p.stands p.runs in
    commit_one c.loop-done._done c.loop-done.state c.commit.new.state x p stamp c.commits_go_on.ensures
    (c.states_are_sound.ensures c.loop-done.state p.left p.stands) ready (c.in_ok-commit.ensures p.left p.stands).1

pub returns-in_default : goal.returns-in_default
returns-in_default c = λ x s.
    let a : active x.replica.log ≡ true = cc (c.is_active.ensures x s) in
    let p = c.loop-done.invariant x s in
    none_ready c.loop-done._done c.loop-done.state x p a (sym c.in_default.is ∙ c.in_ok-stamp.ensures.value p.left p.stands p.runs)

pub returns : goal.returns
returns c = λ x s.
    let a : active x.replica.log ≡ true = cc (c.is_active.ensures x s) in
    let p = c.loop-done.invariant x s in
    let all = c.unexecuted_len-done-end.ensures x s a in
    all_committed c.loop-done._done c.loop-done.state x p a (omega (arith, all))
