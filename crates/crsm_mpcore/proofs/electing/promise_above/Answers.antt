use Rattle.std.proofs.Common.{◌≡◌, ◌∙◌, true, false, sym, subst}
use Rattle.crsm_base.specs.Order.{ballot_lt}
use Rattle.crsm_spec.specs.Choice.{when◌then◌otherwise◌}
use Rattle.crsm_mpspec.specs.Types.{Ballot}
use Rattle.crsm_mpcore.specs.Elections.{with_promise}
use Rattle.crsm_mpcore.proofs.electing.promise_above.Goals as goal

pub returns-then-not-ballot_precedes : goal.returns-then-not-ballot_precedes
unfolding with_promise when◌then◌otherwise◌
returns-then-not-ballot_precedes c x s fits =
    let p = c.promised.ensures x.replica.log (c.ledger.ensures x s) in
    let below = subst (λ (q : Ballot). ballot_lt q c.args.ballot ≡ false) p (sym c.ballot_precedes.ensures ∙ c.if-not-ballot_precedes.true) in
    rw (below) s

pub returns : goal.returns
unfolding with_promise when◌then◌otherwise◌
returns c x s fits =
    let p = c.promised.ensures x.replica.log (c.ledger.ensures x s) in
    let above = subst (λ (q : Ballot). ballot_lt q c.args.ballot ≡ true) p (sym c.ballot_precedes.ensures ∙ c.if-not-ballot_precedes.false) in
    rw (above) (c.in_ok-promise.ensures x s fits)
