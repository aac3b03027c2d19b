-- Witnesses after a change at one seat.
use Rattle.std.proofs.Common.{◌≡◌, ℕ, ◌≤◌, List, ◌∷◌, sym, ◌∙◌, subst, inl, inr}
use Rattle.std.specs.Prelude.{◌⊎◌, IsTrue, Some}
use Rattle.std.proofs.lemmas.Bool.{cases_eq}
use Rattle.crsm_spec.specs.Types.{Entry, Rec, Datagram}
use Rattle.crsm_spec.specs.Lists.{Among, has, first_of}
use Rattle.crsm_spec.specs.Log.{Log, known, members, unexecuted}
use Rattle.crsm_fact_log.specs.Logs.{Extends, Logged}
use Rattle.crsm_law_epoch.specs.Seats.{Seat, logs_of}
use Rattle.crsm_law_epoch.proofs.Moved.{at, at_same, at_other, at_case}
use Rattle.crsm_law_epoch.specs.Witness.{Committed, Witnessed, AreWitnessed}

-- the seat at k changes from u to s, and the others are those of v
module _ (n k : ℕ) (v : ℕ → Seat) (u s : Seat) (all : List Datagram) where
  abbrev was : ℕ → Seat
  was = at k u v

  abbrev is : ℕ → Seat
  is = at k s v

  -- what is to be shown of the change
  pub record SeatChange : Type 0 where
    pub keeps : (f : Entry) → Logged u.log f → Logged s.log f
    -- an own entry up to the time of a commit of its epoch is not new
    pub own : (by : ℕ) (log : Log) (x : Entry) → Committed (logs_of was) by log x → IsTrue (has (members n log) k) → (y : Entry) → Logged s.log y →
        y.epoch ≡ known log → y.stamp.origin ≡ k → y.stamp.time ≤ x.stamp.time → Logged u.log y
    pub passed : (log : Log) (x : Entry) → Extends (Rec.Commit x.stamp ∷ log) u.log → first_of (unexecuted log) ≡ Some x → IsTrue s.running → known s.log ≡ known log →
        (t : ℕ) × Among s.issued t × (x.stamp.time ≤ t)
    pub commits : (log : Log) (x : Entry) → Extends (Rec.Commit x.stamp ∷ log) s.log → first_of (unexecuted log) ≡ Some x →
        Extends (Rec.Commit x.stamp ∷ log) u.log ⊎ Witnessed n is all k log x

  -- what seat j logged stays logged
  pub stays : ((f : Entry) → Logged u.log f → Logged s.log f) → (j : ℕ) (f : Entry) → Logged (was j).log f → Logged (is j).log f
  stays keeps j f h = elim (at_case n k v u (λ w. Logged w.log f) j h) [
    | inl w ↦ subst (λ i. Logged (is i).log f) (sym w.0) (subst (λ w. Logged w.log f) (sym (at_same n k v s)) (keeps f w.1))
    | inr w ↦ subst (λ w. Logged w.log f) (sym (at_other n k v s j w.0)) w.1
  ]

  module _ (c : SeatChange) (a : AreWitnessed n was all) where
    -- an own entry of m that is no new one
    back : (by : ℕ) (log : Log) (x : Entry) → Committed (logs_of was) by log x → (m : ℕ) (y : Entry) → IsTrue (has (members n log) m) → Logged (is m).log y →
        y.epoch ≡ known log → y.stamp.origin ≡ m → y.stamp.time ≤ x.stamp.time → Logged (was m).log y
    back by log x at_one m y mem h e o le = elim (at_case n k v s (λ w. Logged w.log y) m h) [
      | inl w ↦ subst (λ i. Logged (was i).log y) (sym w.0) (subst (λ w. Logged w.log y) (sym (at_same n k v u))
          (c.own by log x at_one (subst (λ i. IsTrue (has (members n log) i)) w.0 mem) y w.1 e (o ∙ w.0) le))
      | inr w ↦ subst (λ w. Logged w.log y) (sym (at_other n k v u m w.0)) w.1
    ]

    carried : (by : ℕ) (log : Log) (x : Entry) → Committed (logs_of was) by log x → Witnessed n was all by log x →
        (IsTrue (is by).running → known (is by).log ≡ known log → (t : ℕ) × Among (is by).issued t × (x.stamp.time ≤ t)) → Witnessed n is all by log x
    carried by log x at_one w p = record {
      voters = w.voters;
      many = w.many;
      logged = λ j h. stays c.keeps j x (w.logged j h);
      received = w.received;
      older = λ m y mem h e o le. w.older m y mem (back by log x at_one m y mem h e o le) e o le;
      passed = p;
    }

    old_one : (log : Log) (x : Entry) → Extends (Rec.Commit x.stamp ∷ log) u.log → first_of (unexecuted log) ≡ Some x → Witnessed n is all k log x
    old_one log x e f =
        let at_one : Committed (logs_of was) k log x = (subst (λ w. Extends (Rec.Commit x.stamp ∷ log) w.log) (sym (at_same n k v u)) e, f) in
        carried k log x at_one (a k log x at_one)
        (subst (λ w. IsTrue w.running → known w.log ≡ known log → (t : ℕ) × Among w.issued t × (x.stamp.time ≤ t)) (sym (at_same n k v s)) (c.passed log x e f))

    here : (log : Log) (x : Entry) → Extends (Rec.Commit x.stamp ∷ log) s.log → first_of (unexecuted log) ≡ Some x → Witnessed n is all k log x
    here log x e f = elim (c.commits log x e f) [ inl old ↦ old_one log x old f | inr new ↦ new ]

    there : (by : ℕ) → (by ≡ k → ⊥) → (log : Log) (x : Entry) → Committed (logs_of is) by log x → Witnessed n is all by log x
    there by ne log x at_one =
        let same : is by ≡ was by = at_other n k v s by ne ∙ sym (at_other n k v u by ne) in
        let old : Committed (logs_of was) by log x = (subst (λ w. Extends (Rec.Commit x.stamp ∷ log) w.log) same at_one.0, at_one.1) in
        let w = a by log x old in
        carried by log x old w (subst (λ z. IsTrue z.running → known z.log ≡ known log → (t : ℕ) × Among z.issued t × (x.stamp.time ≤ t)) (sym same) w.passed)

    pub changed : AreWitnessed n is all
    changed by log x at_one = elim (cases_eq by k) [
      | inl e ↦ subst (λ i. Witnessed n is all i log x) (sym e) (here log x
          (subst (λ w. Extends (Rec.Commit x.stamp ∷ log) w.log) (at_same n k v s) (subst (λ i. Extends (Rec.Commit x.stamp ∷ log) (is i).log) e at_one.0)) at_one.1)
      | inr ne ↦ there by ne log x at_one
    ]
