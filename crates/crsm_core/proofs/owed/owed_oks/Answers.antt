use Rattle.std.proofs.Common.{◌≡◌, ◌∙◌, ◌<◌, ◌^◌, sym, true, false, arith}
use Rattle.std.specs.Prelude.{Some}
use Rattle.crsm_base.specs.Spelling.{FitsStamp}
use Rattle.crsm_spec.specs.Types.{Stamp}
use Rattle.crsm_spec.specs.Lists.{first_of}
use Rattle.crsm_spec.specs.Log.{active}
use Rattle.crsm_spec.specs.Draft.{would}
use Rattle.crsm_core.proofs.OwedLemmas.{begins, pays, not_active, none_owed, no_time, not_due, all_paid, first_fits}
use Rattle.crsm_core.proofs.owed.owed_oks.Goals as goal

pub returns-then-not-is_active : goal.returns-then-not-is_active
returns-then-not-is_active c = λ x s.
    let a : active x.replica.log ≡ false = cc (c.is_active.ensures x s) in
    not_active c.args.reading c.args.state.now x a s

pub loop-paid-init : goal.loop-paid-init
loop-paid-init c = λ x s. begins c.args.reading c.args.state.now x s

pub loop-paid-preserved : goal.loop-paid-preserved
loop-paid-preserved c = λ x s.
    let p = c.loop-paid.invariant x s in
    let stamp : Stamp = c.in-Some.stamp in
    let time = c.in-Some-would.time in
    let first : Some stamp ≡ first_of p.left.replica.owed = sym c.in-Some.is ∙ c.first_owed.ensures p.left p.stands in
    let next : Some time ≡ would p.left c.args.reading = sym c.in-Some-would.is ∙ c.would.ensures p.left p.stands in
    let spelt : FitsStamp stamp = first_fits stamp p.left.replica.owed (c.states_are_sound.ensures c.loop-paid.state p.left p.stands).owed first in
    let below : time < 2 ^ 64 = omega arith in
    pays c.args.reading c.loop-paid._paid c.loop-paid.state c.push_at.new.self c.paid.new.self x p stamp time first next (omega arith)
    (c.in_ok-push_at.ensures p.left c.args.reading p.stands (spelt, below) (sym next)) c.in_ok-paid.ensures

pub returns-in_default : goal.returns-in_default
returns-in_default c = λ x s.
    let a : active x.replica.log ≡ true = cc (c.is_active.ensures x s) in
    let p = c.loop-paid.invariant x s in
    none_owed c.args.reading c.loop-paid._paid c.loop-paid.state x p a (sym c.in_default.is ∙ c.first_owed.ensures p.left p.stands)

pub returns-in_default-would : goal.returns-in_default-would
returns-in_default-would c = λ x s.
    let a : active x.replica.log ≡ true = cc (c.is_active.ensures x s) in
    let p = c.loop-paid.invariant x s in
    no_time c.args.reading c.loop-paid._paid c.loop-paid.state x p a (sym c.in_default-would.is ∙ c.would.ensures p.left p.stands)

pub returns-then-stamp-time : goal.returns-then-stamp-time
returns-then-stamp-time c = λ x s.
    let a : active x.replica.log ≡ true = cc (c.is_active.ensures x s) in
    let p = c.loop-paid.invariant x s in
    not_due c.args.reading c.loop-paid._paid c.in-Some-would.time c.loop-paid.state x p c.in-Some.stamp a (sym c.in-Some.is ∙ c.first_owed.ensures p.left p.stands)
    (sym c.in-Some-would.is ∙ c.would.ensures p.left p.stands) (omega arith)

pub returns : goal.returns
returns c = λ x s.
    let a : active x.replica.log ≡ true = cc (c.is_active.ensures x s) in
    let p = c.loop-paid.invariant x s in
    let all = c.owed_len-paid-end.ensures x s in
    all_paid c.args.reading c.loop-paid._paid c.loop-paid.state x p a (omega (arith, all))
