-- Sets of receivers, as lists of the classes that are wanted.
use Rattle.std.proofs.Common.{◌≡◌, ◌≢◌, ◌<◌, ◌≤◌, ◌+◌, ℕ, zero, suc, Bool, true, false, not, ◌&&◌, ◌||◌, List, [], ◌∷◌, length, replicate, set, refl, ap, sym, ◌∙◌, arith, inl, inr}
use Rattle.std.specs.Prelude.{nat_eq, nat_lt, min}
use Rattle.std.proofs.Math.Nat.{min-le_right, min-eq_left, min-eq_right}
use Rattle.std.proofs.lemmas.Bool.{ltb-true, ltb-false, lt-ltb, le-ltb}
use Rattle.std.proofs.lemmas.Bool.Decides.{eqb_tells}
use Rattle.std.proofs.lemmas.List.{length-set}
use Rattle.crsm_sim_network.specs.Tally.{is_wanted}
use Rattle.crsm_sim_network.specs.declared.receivers.Receivers.{Receivers}
use Rattle.crsm_sim_network.specs.Packets.{Receives, class_of, class_of_packet, is_of, wanted}

or_true : (b : Bool) → b || true ≡ true
or_true true = refl
or_true false = refl

or_false : (b : Bool) → b || false ≡ b
or_false true = refl
or_false false = refl

set_here : (xs : List Bool) (i : ℕ) → i < length xs → is_wanted (set xs i true) i ≡ true
unfolding is_wanted
set_here [] i l = absurd (omega arith)
set_here (x ∷ xs) zero l = refl
set_here (x ∷ xs) (suc i) l = set_here xs i (omega arith)

set_other : (xs : List Bool) (i c : ℕ) → c ≢ i → is_wanted (set xs i true) c ≡ is_wanted xs c
unfolding is_wanted
set_other [] i c h = refl
set_other (x ∷ xs) zero zero h = absurd (h refl)
set_other (x ∷ xs) zero (suc c) h = refl
set_other (x ∷ xs) (suc i) zero h = refl
set_other (x ∷ xs) (suc i) (suc c) h = set_other xs i c (λ e. h (ap suc e))

-- another class is wanted
wanted_set : (xs : List Bool) (i c : ℕ) → i < length xs → is_wanted (set xs i true) c ≡ is_wanted xs c || nat_eq c i
wanted_set xs i c l =
    elim (eqb_tells c i) [
      | inl t ↦ ap (is_wanted (set xs i true)) t.1 ∙ set_here xs i l ∙ sym (ap (λ b. is_wanted xs c || b) t.0 ∙ or_true (is_wanted xs c))
      | inr t ↦ set_other xs i c t.1 ∙ sym (ap (λ b. is_wanted xs c || b) t.0 ∙ or_false (is_wanted xs c))
    ]

-- two numbers are equal where others are
same_test : (a b c d : ℕ) → (a ≡ b → c ≡ d) → (c ≡ d → a ≡ b) → nat_eq a b ≡ nat_eq c d
same_test a b c d f g =
    elim (eqb_tells a b) [
      | inl s ↦ elim (eqb_tells c d) [ inl t ↦ s.0 ∙ sym t.0 | inr t ↦ absurd (t.1 (f s.1)) ]
      | inr s ↦ elim (eqb_tells c d) [ inl t ↦ absurd (s.1 (g t.1)) | inr t ↦ s.0 ∙ sym t.0 ]
    ]

never_same : (a b : ℕ) → (a ≡ b → ⊥) → nat_eq a b ≡ false
never_same a b h = elim (eqb_tells a b) [ inl s ↦ absurd (h s.1) | inr s ↦ s.0 ]

-- a class below 16 is that of a datagram if it is fresh and for such a receiver
fresh_class : (to class : ℕ) (used : Bool) → class < 16 → nat_eq (class_of to used) class ≡ not used && nat_eq (min to 15) class
unfolding class_of
fresh_class to class true l = never_same (min to 15 + 16) class (λ e. omega (arith, e, l))
fresh_class to class false l = refl

used_class : (to class : ℕ) (used : Bool) → class < 16 → nat_eq (class_of to used) (class + 16) ≡ used && nat_eq (min to 15) class
unfolding class_of
used_class to class true l = same_test (min to 15 + 16) (class + 16) (min to 15) class (λ e. omega (arith, e)) (λ e. omega (arith, e))
used_class to class false l = let m = min-le_right to 15 in never_same (min to 15) (class + 16) (λ e. omega (arith, e, m))

joined : (a b c : Bool) → (a && b) || (a && c) ≡ a && (b || c)
joined true b c = refl
joined false b c = refl

pub added : (r : Receivers) (class : ℕ) (test : ℕ → Bool) → class < 16 → Receives r test
    → Receives (record { fresh = set r.fresh class true; used = set r.used (class + 16) true }) (λ j. test j || nat_eq (min j 15) class)
unfolding class_of_packet is_of
added r class test l is = record {
  whole = λ used. elim used as (λ u. length (wanted (record { fresh = set r.fresh class true; used = set r.used (class + 16) true }) u) ≡ 32) [
    | true ↦ length-set r.used (class + 16) true ∙ is.whole true
    | false ↦ length-set r.fresh class true ∙ is.whole false
  ];
  right = λ used p. elim used as (λ u. is_wanted (wanted (record { fresh = set r.fresh class true; used = set r.used (class + 16) true }) u) (class_of_packet p) ≡ is_of u (λ j. test j || nat_eq (min j 15) class) p) [
    | true ↦
        let w = is.whole true in
        let here : class + 16 < length r.used = omega (arith, w, l) in
        wanted_set r.used (class + 16) (class_of_packet p) here ∙ ap (λ b. b || nat_eq (class_of p.to p.used) (class + 16)) (is.right true p)
        ∙ ap (λ b. (p.used && test p.to) || b) (used_class p.to class p.used l) ∙ joined p.used (test p.to) (nat_eq (min p.to 15) class)
    | false ↦
        let w = is.whole false in
        let here : class < length r.fresh = omega (arith, w, l) in
        wanted_set r.fresh class (class_of_packet p) here ∙ ap (λ b. b || nat_eq (class_of p.to p.used) class) (is.right false p)
        ∙ ap (λ b. (not p.used && test p.to) || b) (fresh_class p.to class p.used l) ∙ joined (not p.used) (test p.to) (nat_eq (min p.to 15) class)
  ];
}

-- receivers that pass another test that answers the same
pub alike : (r : Receivers) (test other : ℕ → Bool) → ((j : ℕ) → test j ≡ other j) → Receives r test → Receives r other
unfolding is_of
alike r test other f is = record {
  whole = is.whole;
  right = λ used p. elim used as (λ u. is_wanted (wanted r u) (class_of_packet p) ≡ is_of u other p) [
    | true ↦ is.right true p ∙ ap (λ b. p.used && b) (f p.to)
    | false ↦ is.right false p ∙ ap (λ b. not p.used && b) (f p.to)
  ];
}

-- a receiver below 15 is a class of its own
pub own_class : (j k : ℕ) → k < 15 → nat_eq (min j 15) k ≡ nat_eq j k
own_class j k l =
    elim (nat_lt 15 j) as (λ b. nat_lt 15 j ≡ b → nat_eq (min j 15) k ≡ nat_eq j k) [
      | true ↦ λ e.
          let m = ltb-true 15 j e in
          let c : min j 15 ≡ 15 = min-eq_right (omega (arith, m)) in
          never_same (min j 15) k (λ d. omega (arith, c, d, l)) ∙ sym (never_same j k (λ d. omega (arith, m, d, l)))
      | false ↦ λ e. let m = ltb-false 15 j e in ap (λ i. nat_eq i k) (min-eq_left m)
    ] refl

-- the classes up to this one, and one more
pub one_class : (j k : ℕ) → nat_lt (min j 15) k || nat_eq (min j 15) k ≡ nat_lt (min j 15) (k + 1)
one_class j k = at (min j 15)
  where
    at : (i : ℕ) → nat_lt i k || nat_eq i k ≡ nat_lt i (k + 1)
    at i =
        elim (nat_lt i k) as (λ b. nat_lt i k ≡ b → b || nat_eq i k ≡ nat_lt i (k + 1)) [
          | true ↦ λ e. let l = ltb-true i k e in sym (lt-ltb i (k + 1) (omega (arith, l)))
          | false ↦ λ e.
              let l = ltb-false i k e in
              elim (eqb_tells i k) [
                | inl t ↦ let s = t.1 in t.0 ∙ sym (lt-ltb i (k + 1) (omega (arith, s)))
                | inr t ↦ let d = t.1 in t.0 ∙ sym (le-ltb i (k + 1) (omega (arith, l, d)))
              ]
        ] refl

pub all_classes : (j k : ℕ) → 16 ≤ k → nat_lt (min j 15) k ≡ true
all_classes j k l = let m = min-le_right j 15 in lt-ltb (min j 15) k (omega (arith, m, l))

pub no_classes : (j : ℕ) → false ≡ nat_lt (min j 15) 0
no_classes j = sym (le-ltb (min j 15) 0 (omega arith))

noughts : (n c : ℕ) → is_wanted (replicate n false) c ≡ false
unfolding is_wanted
noughts zero c = refl
noughts (suc n) zero = refl
noughts (suc n) (suc c) = noughts n c

and_false : (b : Bool) → false ≡ b && false
and_false true = refl
and_false false = refl

pub nobody : Receives (record { fresh = replicate 32 false; used = replicate 32 false }) (λ k. false)
unfolding is_of
nobody = record {
  whole = λ used. elim used as (λ u. length (wanted (record { fresh = replicate 32 false; used = replicate 32 false }) u) ≡ 32) [ true ↦ refl | false ↦ refl ];
  right = λ used p. elim used as (λ u. is_wanted (wanted (record { fresh = replicate 32 false; used = replicate 32 false }) u) (class_of_packet p) ≡ is_of u (λ k. false) p) [
    | true ↦ noughts 32 (class_of_packet p) ∙ and_false p.used
    | false ↦ noughts 32 (class_of_packet p) ∙ and_false (not p.used)
  ];
}
