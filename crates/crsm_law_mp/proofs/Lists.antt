-- Reports and votes as lists: whose they are, and their values at a slot.
use Rattle.std.proofs.Common.{suc, ◌≡◌, ℕ, ◌≤◌, ◌⊎◌, Bool, true, false, cond, ◌==◌, ◌||◌, nat_eq, List, [], ◌∷◌, ◌++◌, map, filter, arith, inl, inr, refl, sym, subst, ap, ◌∙◌, append-nil, append_assoc, None}
use Rattle.std.specs.List.{Contains, IsDistinct, list_any, fold, flat_map}
use Rattle.std.proofs.lemmas.Bool.Decides.{nat_tests}
use Rattle.std.proofs.lemmas.Cmp.{nat_eq_equiv}
use Rattle.std.proofs.lemmas.List.Elements.{Contains-append_right, Contains-append_cases, Contains-push_cases, filter-append}
use Rattle.std.proofs.lemmas.Map.Keys.{IsDistinct-push}
use Rattle.crsm_base.specs.Replicas.{has}
use Rattle.crsm_spec.specs.Lists.{greatest}
use Rattle.crsm_spec.specs.Paxos.{Answer, better_answer, value_of, value_of_best}
use Rattle.crsm_safety.proofs.Paxos.Majority.{nat_eq_is, nat_eq_itself}
use Rattle.crsm_mpspec.specs.declared.MpAccepted.{MpAccepted}
use Rattle.crsm_mpspec.specs.Types.{Value}
use Rattle.crsm_mpspec.specs.Replica.{Report, voters_at}
use Rattle.crsm_mpspec.specs.Electing.{held_at, answers_at, slots_in, next_slot}

-- ---- elements

pub first_in : {X : Type 0} (x : X) (xs : List X) → Contains (x ∷ xs) x
first_in x xs = (0, omega arith, refl)

pub later_in : {X : Type 0} (x : X) (xs : List X) (y : X) → Contains xs y → Contains (x ∷ xs) y
later_in x xs y c = Contains-append_right (x ∷ []) xs y c

pub none_in : {X : Type 0} (x : X) → Contains [] x → ⊥
none_in x c = let h = c.1 in omega arith

pub cons_cases : {X : Type 0} (x : X) (xs : List X) (y : X) → Contains (x ∷ xs) y → (x ≡ y) ⊎ Contains xs y
cons_cases x xs y c =
    elim (Contains-append_cases (x ∷ []) xs y c) [
      | inl one ↦ elim (Contains-push_cases [] x y one) [ inl none ↦ absurd (none_in y none) | inr is ↦ inl is ]
      | inr rest ↦ inr rest
    ]

pub in_map : {X Y : Type 0} (f : X → Y) (xs : List X) (y : Y) → Contains (map f xs) y → (x : X) × Contains xs x × (f x ≡ y)
in_map f [] y c = absurd (none_in y c)
in_map f (x ∷ xs) y c =
    elim (cons_cases (f x) (map f xs) y c) [
      | inl is ↦ (x, first_in x xs, is)
      | inr rest ↦ let (z, there, is) = in_map f xs y rest in (z, later_in x xs z there, is)
    ]

pub map_in : {X Y : Type 0} (f : X → Y) (xs : List X) (x : X) → Contains xs x → Contains (map f xs) (f x)
map_in f [] x c = absurd (none_in x c)
map_in f (z ∷ xs) x c =
    elim (cons_cases z xs x c) [
      | inl is ↦ subst (λ y. Contains (f z ∷ map f xs) (f y)) is (first_in (f z) (map f xs))
      | inr rest ↦ later_in (f z) (map f xs) (f x) (map_in f xs x rest)
    ]

pub has_is : (ks : List ℕ) (k : ℕ) → has ks k ≡ true → Contains ks k
unfolding has
has_is [] k e = absurd (no e)
  where
    no : false ≡ true → ⊥
    no e = cc
has_is (j ∷ ks) k e = go (nat_eq j k) refl e (has_is ks k)
  where
    go : (t : Bool) → nat_eq j k ≡ t → (t || has ks k) ≡ true → (has ks k ≡ true → Contains ks k) → Contains (j ∷ ks) k
    go true same e rest = subst (λ z. Contains (j ∷ ks) z) (nat_eq_is j k same) (first_in j ks)
    go false other e rest = later_in j ks k (rest e)

pub has_not : (ks : List ℕ) (k : ℕ) → has ks k ≡ false → Contains ks k → ⊥
unfolding has
has_not [] k e c = none_in k c
has_not (j ∷ ks) k e c = go (nat_eq j k) refl e (has_not ks k)
  where
    clash : true ≡ false → ⊥
    clash e = cc

    go : (t : Bool) → nat_eq j k ≡ t → (t || has ks k) ≡ false → (has ks k ≡ false → Contains ks k → ⊥) → ⊥
    go true same e more = clash e
    go false other e more = elim (cons_cases j ks k c) [
      | inl is ↦ clash (subst (λ z. nat_eq j z ≡ false → true ≡ false) is (λ o. sym (nat_eq_itself j) ∙ o) other)
      | inr rest ↦ more e rest
    ]

pub not_in : (ks : List ℕ) (k : ℕ) → (Contains ks k → ⊥) → list_any (nat_eq k) ks ≡ false
not_in [] k none = refl
not_in (j ∷ ks) k none = go (nat_eq k j) refl (not_in ks k (λ c. none (later_in j ks k c)))
  where
    go : (t : Bool) → nat_eq k j ≡ t → list_any (nat_eq k) ks ≡ false → (t || list_any (nat_eq k) ks) ≡ false
    go true e rest = absurd (none (subst (λ z. Contains (j ∷ ks) z) (sym (nat_eq_is k j e)) (first_in j ks)))
    go false e rest = rest

-- ---- votes

pub voter_in : (s : ℕ) (votes : List (ℕ × ℕ)) (k : ℕ) → Contains (voters_at s votes) k → Contains votes (s, k)
unfolding voters_at
voter_in s [] k c = absurd (none_in k c)
voter_in s (v ∷ votes) k c = go (v.0 == s) refl c (voter_in s votes k)
  where
    go : (t : Bool) → (v.0 == s) ≡ t → Contains (map (λ w. w.1) (cond t (v ∷ filter (λ w. w.0 == s) votes) (filter (λ w. w.0 == s) votes))) k → (Contains (voters_at s votes) k → Contains votes (s, k)) → Contains (v ∷ votes) (s, k)
    go true e c more = elim (cons_cases v.1 (voters_at s votes) k c) [
      | inl is ↦ subst (λ a. Contains (v ∷ votes) (a, k)) (nat_eq_is v.0 s e) (subst (λ b. Contains (v ∷ votes) (v.0, b)) is (first_in v votes))
      | inr rest ↦ later_in v votes (s, k) (more rest)
    ]
    go false e c more = later_in v votes (s, k) (more c)

pub in_voters : (s : ℕ) (votes : List (ℕ × ℕ)) (k : ℕ) → Contains votes (s, k) → Contains (voters_at s votes) k
unfolding voters_at
in_voters s [] k c = absurd (none_in (s, k) c)
in_voters s (v ∷ votes) k c = go (v.0 == s) refl (in_voters s votes k)
  where
    clash : true ≡ false → ⊥
    clash e = cc

    go : (t : Bool) → (v.0 == s) ≡ t → (Contains votes (s, k) → Contains (voters_at s votes) k) → Contains (map (λ w. w.1) (cond t (v ∷ filter (λ w. w.0 == s) votes) (filter (λ w. w.0 == s) votes))) k
    go true e more = elim (cons_cases v votes (s, k) c) [
      | inl is ↦ subst (λ b. Contains (v.1 ∷ voters_at s votes) b) (ap (λ p. p.1) is) (first_in v.1 (voters_at s votes))
      | inr rest ↦ later_in v.1 (voters_at s votes) k (more rest)
    ]
    go false e more = elim (cons_cases v votes (s, k) c) [
      | inl is ↦ absurd (clash (sym (nat_eq_itself s) ∙ subst (λ a. (a == s) ≡ false) (ap (λ p. p.0) is) e))
      | inr rest ↦ more rest
    ]

pub map_append : {X Y : Type 0} (f : X → Y) (xs ys : List X) → map f (xs ++ ys) ≡ map f xs ++ map f ys
map_append f [] ys = refl
map_append f (x ∷ xs) ys = ap (λ zs. f x ∷ zs) (map_append f xs ys)

-- one vote more at a slot, of a replica that has not voted there
pub voters_push : (t s k : ℕ) (votes : List (ℕ × ℕ)) → (Contains votes (s, k) → ⊥) → IsDistinct nat_eq (voters_at t votes) → IsDistinct nat_eq (voters_at t (votes ++ (s, k) ∷ []))
unfolding voters_at
voters_push t s k votes none distinct =
    subst (λ ks. IsDistinct nat_eq ks) (sym split) (go (s == t) refl)
  where
    split : voters_at t (votes ++ (s, k) ∷ []) ≡ voters_at t votes ++ map (λ (v : ℕ × ℕ). v.1) (cond (s == t) ((s, k) ∷ []) [])
    split = ap (λ vs. map (λ v. v.1) vs) (filter-append (λ v. v.0 == t) votes ((s, k) ∷ [])) ∙ map_append (λ v. v.1) (filter (λ v. v.0 == t) votes) (cond (s == t) ((s, k) ∷ []) [])

    go : (b : Bool) → (s == t) ≡ b → IsDistinct nat_eq (voters_at t votes ++ map (λ (v : ℕ × ℕ). v.1) (cond b ((s, k) ∷ []) []))
    go true e = IsDistinct-push nat_eq_equiv (voters_at t votes) k distinct
        (not_in (voters_at t votes) k (λ c. none (subst (λ a. Contains votes (a, k)) (sym (nat_eq_is s t e)) (voter_in t votes k c))))
    go false e = subst (λ ks. IsDistinct nat_eq ks) (sym (rw append-nil refl)) distinct

-- ---- reports

pub replicas_of_answers : (s : ℕ) (reports : List Report) → map (λ a. a.replica) (answers_at s reports) ≡ map (λ y. y.from) reports
unfolding answers_at
replicas_of_answers s [] = refl
replicas_of_answers s (y ∷ reports) = ap (λ ks. y.from ∷ ks) (replicas_of_answers s reports)

pub answer_of_report : (s : ℕ) (reports : List Report) (a : Answer Value) → Contains (answers_at s reports) a →
    (y : Report) × Contains reports y × (record { replica = y.from; accepted = held_at s y.accepted } ≡ a)
unfolding answers_at
answer_of_report s reports a c = in_map (λ y. record { replica = y.from; accepted = held_at s y.accepted }) reports a c

-- a report that names only lower slots says nothing of this one
nothing_accepted : (s : ℕ) (accepted : List MpAccepted) (rest : List ℕ) → greatest (map (λ t. suc t) (map (λ a. a.slot) accepted ++ rest)) ≤ s → held_at s accepted ≡ None
unfolding held_at greatest
nothing_accepted s [] rest below = refl
nothing_accepted s (a ∷ accepted) rest below =
    let apart : (a.slot == s) ≡ false = grind (arith, nat_tests) in
    rw apart (nothing_accepted s accepted rest (omega arith))

greatest_right : (xs ys : List ℕ) → greatest (map (λ t. suc t) ys) ≤ greatest (map (λ t. suc t) (xs ++ ys))
unfolding greatest
greatest_right [] ys = omega arith
greatest_right (x ∷ xs) ys = omega (arith, greatest_right xs ys)

nothing_reported : (s : ℕ) (reports : List Report) → greatest (map (λ t. suc t) (flat_map slots_in reports)) ≤ s → fold better_answer None (answers_at s reports) ≡ None
unfolding answers_at slots_in
nothing_reported s [] below = refl
nothing_reported s (y ∷ reports) below =
    let accepted : List ℕ = map (λ a. a.slot) y.accepted in
    let choices : List ℕ = map (λ c. c.slot) y.chosen in
    let others : List ℕ = flat_map slots_in reports in
    let rest_below : greatest (map (λ t. suc t) others) ≤ s = omega (arith, greatest_right (accepted ++ choices) others) in
    let here_below : greatest (map (λ t. suc t) (accepted ++ (choices ++ others))) ≤ s = subst (λ ts. greatest (map (λ t. suc t) ts) ≤ s) (append_assoc accepted choices others) below in
    let none : held_at s y.accepted ≡ None = nothing_accepted s y.accepted (choices ++ others) here_below in
    rw none (nothing_reported s reports rest_below)

-- a leader's own value is what a slot above all that is reported leaves to propose
pub own_value_left : (start s : ℕ) (reports : List Report) (own : Value) → next_slot start reports ≤ s → value_of own (answers_at s reports) ≡ own
unfolding next_slot greatest
own_value_left start s reports own above = ap (λ best. value_of_best own best) (nothing_reported s reports (omega arith))

pub start_below : (start : ℕ) (reports : List Report) → start ≤ next_slot start reports
unfolding next_slot greatest
start_below start reports = omega arith
