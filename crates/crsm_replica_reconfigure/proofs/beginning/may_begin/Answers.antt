use Rattle.std.proofs.Common.{◌≡◌, ◌∙◌, [], ◌∷◌, sym, subst, ap}
use Rattle.std.proofs.lemmas.Bool.{eq-eqb}
use Rattle.crsm_base.specs.Spelling.{FitsDecision}
use Rattle.crsm_spec.specs.Clock.{u64_max}
use Rattle.crsm_spec.specs.Log.{accepted}
use Rattle.crsm_spec.specs.Paxos.{value_of}
use Rattle.crsm_spec.specs.Coordinate.{greater_ballot}
use Rattle.crsm_fact_log.proofs.LogsFit.{accepted_fits}
use Rattle.crsm_replica_reconfigure.proofs.BeginLemmas.{after, round_left, value_spelt, fits_spent, fits_asking, fits_alone}
use Rattle.crsm_replica_reconfigure.proofs.beginning.may_begin.Goals as goal

pub returns-then-top : goal.returns-then-top
returns-then-top c = λ x y s p a.
    let top = c.greater-top.ensures ∙ ap (λ b. greater_ballot b c.args.seen) (c.promised.ensures.value x s) in
    fits_spent c.args.own.now c.args.seen c.greater-top.result x y (c.states_are_sound.ensures c.args.state.now x s) p a top (eq-eqb c.greater-top.result.round u64_max c.if-top.true)

pub returns-then-not-is_alone : goal.returns-then-not-is_alone
returns-then-not-is_alone c = λ x y s p a.
    let top = c.greater-top.ensures ∙ ap (λ b. greater_ballot b c.args.seen) (c.promised.ensures.value x s) in
    fits_asking c.args.own.now c.args.seen c.greater-top.result x y (c.states_are_sound.ensures c.args.state.now x s) p a top (round_left c.greater-top.result c.if-top.false)
    (sym (c.in_ok-is_alone.ensures x s) ∙ c.if-not-is_alone.true)

pub returns : goal.returns
returns c = λ x y s p a.
    let sound = c.states_are_sound.ensures c.args.state.now x s in
    let top = c.greater-top.ensures ∙ ap (λ b. greater_ballot b c.args.seen) (c.promised.ensures.value x s) in
    let alone = sym (c.in_ok-is_alone.ensures x s) ∙ c.if-not-is_alone.false in
    let value = c.value_alone-value.ensures x.replica.me ∙ ap (λ h. value_of c.args.own.now (record { replica = x.replica.me; accepted = h } ∷ [])) (c.in_ok-accepted.ensures.value x s) in
    let ballot : c.above-ballot.result ≡ after c.greater-top.result x.replica.me = c.above-ballot.ensures.value ∙ ap (after c.greater-top.result) (c.me.ensures.value x s) in
    let spelt = value_spelt x.replica.me c.args.own.now (accepted x.replica.log) p.0.spelt (accepted_fits x.replica.log sound.spelt) in
    c.in-Ok.ensures x c.args.own.now [] s (subst (λ d. FitsDecision d) (sym value) spelt) (sym alone)
    ∙ fits_alone c.args.own.now c.args.seen c.greater-top.result x y sound p a top c.above-ballot.result c.value_alone-value.result.now (round_left c.greater-top.result c.if-top.false) alone ballot value
