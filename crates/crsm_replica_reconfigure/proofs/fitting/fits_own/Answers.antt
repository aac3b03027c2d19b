use Rattle.std.proofs.Common.{◌∙◌, refl, sym, ap}
use Rattle.std.specs.Prelude.{◌&&◌}
use Rattle.crsm_spec.specs.Types.{Rec}
use Rattle.crsm_spec.specs.Coordinate.{instance}
use Rattle.crsm_spec.specs.Fits.{fits}
use Rattle.crsm_replica_reconfigure.proofs.FitLemmas.{fits_preempted, fits_waiting, fits_accepted, fits_chosen, fits_not}
use Rattle.crsm_replica_reconfigure.proofs.fitting.fits_own.Goals as goal

pub returns-then-ballot_precedes : goal.returns-then-ballot_precedes
returns-then-ballot_precedes c = λ x own acceptors s f m.
    let sound = c.states_are_sound.ensures c.args.state.now x s in
    let top = c.promised-top.ensures.value x s in
    fits_preempted c.args.ballot c.promised-top.result own c.args.value.now acceptors x sound top (sym c.ballot_precedes.ensures ∙ c.if-ballot_precedes.true)

pub returns-then-not-is_due : goal.returns-then-not-is_due
returns-then-not-is_due c = λ x own acceptors s f m.
    let sound = c.states_are_sound.ensures c.args.state.now x s in
    let top = c.promised-top.ensures.value x s in
    fits_waiting c.args.ballot c.promised-top.result own c.args.value.now acceptors x sound top (sym c.ballot_precedes.ensures ∙ c.if-ballot_precedes.false) (sym (c.is_due-is_due.ensures x s) ∙ c.if-not-is_due.true)

pub returns-then-not-accepts : goal.returns-then-not-accepts
returns-then-not-accepts c = λ x own acceptors s f m.
    let sound = c.states_are_sound.ensures c.args.state.now x s in
    let top = c.promised-top.ensures.value x s in
    let below = sym c.ballot_precedes.ensures ∙ c.if-ballot_precedes.false in
    let due = sym (c.is_due-is_due.ensures x s) ∙ c.if-not-is_due.false in
    fits_not c.args.ballot c.promised-top.result own c.args.value.now acceptors x (instance x) sound top below due refl (sym (c.in_ok-accepts.ensures x s) ∙ c.if-not-accepts.true)

pub returns-then-not-is_chosen : goal.returns-then-not-is_chosen
returns-then-not-is_chosen c = λ x own acceptors s f m.
    let sound = c.states_are_sound.ensures c.args.state.now x s in
    let top = c.promised-top.ensures.value x s in
    let below = sym c.ballot_precedes.ensures ∙ c.if-ballot_precedes.false in
    let due = sym (c.is_due-is_due.ensures x s) ∙ c.if-not-is_due.false in
    fits_accepted c.args.ballot c.promised-top.result own c.args.value.now acceptors x (instance x) sound top below due refl (sym (c.in_ok-accepts.ensures x s) ∙ c.if-not-accepts.false) (sym m ∙ c.if-not-is_chosen.true)

pub returns : goal.returns
returns c = λ x own acceptors s f m.
    let sound = c.states_are_sound.ensures c.args.state.now x s in
    let top = c.promised-top.ensures.value x s in
    let below = sym c.ballot_precedes.ensures ∙ c.if-ballot_precedes.false in
    let due = sym (c.is_due-is_due.ensures x s) ∙ c.if-not-is_due.false in
    ap (λ p. p && c.in_ok-goes_on.goes_on) (c.in_ok-decides.ensures x s) ∙ ap (λ p. fits x.replica.me x.replica.n x.replica.log (Rec.Decide c.args.value.now) && p) (c.in_ok-goes_on.ensures x s)
    ∙ fits_chosen c.args.ballot c.promised-top.result own c.args.value.now acceptors x (instance x) sound top below due refl f (sym (c.in_ok-accepts.ensures x s) ∙ c.if-not-accepts.false) (sym m ∙ c.if-not-is_chosen.false)
