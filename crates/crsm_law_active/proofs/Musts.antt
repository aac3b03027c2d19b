-- A valid frame with the next number is received.
use Rattle.std.proofs.Common.{◌≡◌, ◌≢◌, ℕ, ◌≤◌, ◌∷◌, refl, ◌∙◌, ap, Bool, true, false, arith}
use Rattle.std.specs.Prelude.{IsTrue, nat_lt, not, ◌==◌, ◌||◌}
use Rattle.std.proofs.lemmas.Bool.{false≢true, eq-eqb, ne_eqb}
use Rattle.std.proofs.lemmas.Bool.Decides.{nat_tests}
use Rattle.crsm_spec.specs.Types.{InEpoch, Datagram}
use Rattle.crsm_spec.specs.Lists.{has}
use Rattle.crsm_spec.specs.Log.{known, active}
use Rattle.crsm_spec.specs.Replica.{Replica, members_of, next_from}
use Rattle.crsm_spec.specs.Draft.{Draft, begun, keep, send, count_vote}
use Rattle.crsm_spec.specs.Frames.{is_odd_frame, is_astray, on_frame, take_frame, receive, owe, ack, owed_oks}
use Rattle.crsm_spec.specs.Step.{Input, if_fitting, on_input, on_datagram, idle_at, step}
use Rattle.crsm_law_active.specs.Musts.{FitsHere, StepsTake}
use Rattle.crsm_law_active.proofs.Ending.{on_true, on_false, ends_before, owed_paid}

near : (r : Replica) (k : ℕ) → k ≤ 14 → k ≢ r.me → is_astray r k r.me ≡ false
unfolding is_astray
near r k le ne =
    ap (λ (b : Bool). (nat_lt 14 k || b) || not (r.me == r.me)) (ne_eqb k r.me ne)
    ∙ ap (λ (b : Bool). (nat_lt 14 k || false) || not b) (eq-eqb r.me r.me refl)
    ∙ small (nat_lt 14 k) (grind (arith, nat_tests))
  where
    small : (b : Bool) → b ≡ false → ((b || false) || not true) ≡ false
    small true e = e
    small false e = refl

pub lt_self : (a : ℕ) → nat_lt a a ≡ false
lt_self a = grind (arith, nat_tests)

frame_is : (r : Replica) (k : ℕ) (p : InEpoch) → IsTrue (active r.log) → IsTrue (has (members_of r) k) → is_odd_frame r k p ≡ false →
    on_frame k (known r.log) (next_from r k) p (begun r) ≡ take_frame k p (begun r)
unfolding on_frame begun
frame_is r k p a m odd =
    on_false (nat_lt (known r.log) (known r.log)) _ _ (lt_self (known r.log))
    ∙ on_false (nat_lt (known r.log) (known r.log)) _ _ (lt_self (known r.log))
    ∙ on_false (not (active r.log) || not (has (members_of r) k)) _ _ (neither (active r.log) (has (members_of r) k) a m)
    ∙ on_false (not (next_from r k == next_from r k)) _ _ (ap not (eq-eqb (next_from r k) (next_from r k) refl))
    ∙ on_false (is_odd_frame r k p) _ _ odd
  where
    neither : (b c : Bool) → b ≡ true → c ≡ true → (not b || not c) ≡ false
    neither true true e f = refl
    neither true false e f = absurd (false≢true f)
    neither false c e f = absurd (false≢true e)

took : (r : Replica) (k : ℕ) (p : InEpoch) → FitsHere r p → ((take_frame k p (begun r)).fitting ≡ true) × ((take_frame k p (begun r)).replica.taken ≡ k ∷ r.taken)
unfolding take_frame receive ack send keep count_vote owe begun
took r k (InEpoch.Prepare e) f = (f, refl)
took r k (InEpoch.PrepareOk s at) f = (refl, refl)
took r k (InEpoch.ClockTime at) f = (refl, refl)

pub steps_take : StepsTake
unfolding step if_fitting on_input on_datagram idle_at begun
steps_take r a k p reading act le ne mem odd fit =
    let y = take_frame k p (begun r) in
    let is : on_input (Input.Came a (Datagram.Frame k r.me (known r.log) (next_from r k) p)) reading (begun r) ≡ y =
    on_false (is_astray r k r.me) _ _ (near r k le ne) ∙ frame_is r k p act mem odd in
    let z = if_fitting (begun r) (on_input (Input.Came a (Datagram.Frame k r.me (known r.log) (next_from r k) p)) reading (begun r)) in
    let kept : z ≡ y = ap (if_fitting (begun r)) is ∙ on_true y.fitting y (begun r) (took r k p fit).0 in
    (ends_before (owed_oks reading z)).taken ∙ (owed_paid reading z).taken ∙ ap (λ (d : Draft). d.replica.taken) kept ∙ (took r k p fit).1
