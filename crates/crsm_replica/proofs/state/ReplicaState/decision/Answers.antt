use Rattle.std.proofs.Common.{sym, subst, ap, ◌∙◌, arith}
use Rattle.std.specs.Prelude.{Some}
use Rattle.crsm_base.specs.Spelling.{FitsDecision}
use Rattle.crsm_spec.specs.Types.{Decision}
use Rattle.crsm_replica.specs.Replica.{ReplicaStands}
use Rattle.crsm_replica.proofs.Known.{none-known, some-known}
use Rattle.crsm_replica.proofs.state.ReplicaState.decision.Goals as goal

pub returns-then-known-eq0-clause-value : goal.returns-then-known-eq0-clause-value
unfolding ReplicaStands
returns-then-known-eq0-clause-value c x s =
    none-known x.replica.n x.replica.log s.sound.later (ap (λ d. d.epoch) (sym (c.known-known.ensures.value x.replica.me x.replica.n x.replica.log s.ledger)) ∙ c.if-known-eq0.true)

pub returns-clause-value : goal.returns-clause-value
unfolding ReplicaStands
returns-clause-value c x s =
    ap (λ (d : Decision). Some d) (c.in_ok-copy.ensures ∙ c.known-known.ensures.value x.replica.me x.replica.n x.replica.log s.ledger)
    ∙ some-known x.replica.n x.replica.log
    (λ zero.
    let same = ap (λ (d : Decision). d.epoch) (c.known-known.ensures.value x.replica.me x.replica.n x.replica.log s.ledger) in
    let other = c.if-known-eq0.false in
    omega (arith, same, other, zero))

pub returns-clause-fits : goal.returns-clause-fits
returns-clause-fits c =
    let other = c.if-known-eq0.false in
    subst FitsDecision (sym c.in_ok-copy.ensures) (c.known-known.ensures.fits (omega (arith, other)))
