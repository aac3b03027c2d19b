-- The findings of reports, with one more value.
use Rattle.std.proofs.Common.{◌≡◌, ℕ, suc, Bool, true, false, List, [], ◌∷◌, ◌++◌, Some, refl, ap, sym, subst, ◌∙◌, arith}
use Rattle.std.specs.Prelude.{◌==◌, cond, max, map, filter, fold, None, is_some, if◌then◌else◌}
use Rattle.std.specs.Ordering.{nat_cmp}
use Rattle.std.specs.Map.{lookup}
use Rattle.std.specs.BTreeMap.{insert_entry, is_at}
use Rattle.std.proofs.lemmas.Grind.{fold-append}
use Rattle.std.proofs.lemmas.Bool.Decides.{nat_tests}
use Rattle.crsm_base.specs.Order.{ballot_lt}
use Rattle.crsm_spec.specs.Choice.{when◌then◌otherwise◌}
use Rattle.crsm_fact_log.proofs.Lists.{append-none, filter-push, map-push}
use Rattle.crsm_spec.specs.Lists.{greatest}
use Rattle.crsm_spec.specs.Paxos.{Held}
use Rattle.crsm_mpspec.specs.declared.accepts.MpAccepted.{MpAccepted}
use Rattle.crsm_mpspec.specs.declared.choices.MpChosen.{MpChosen}
use Rattle.crsm_mpspec.specs.Types.{Ballot, Value}
use Rattle.crsm_mpspec.specs.Log.{by_slot}
use Rattle.crsm_mpspec.specs.Electing.{greater_held, held_at}
use Rattle.crsm_mpcore.specs.Findings.{Found, none_found, and_chosen, and_accepted, next_of, by_slots}
use Rattle.crsm_mpcore.proofs.SlotLemmas.{and_entry, by_slot-push}

-- ---- the slot behind all

pub greatest-append : (xs ys : List ℕ) → greatest (xs ++ ys) ≡ max (greatest xs) (greatest ys)
unfolding greatest
greatest-append [] ys = omega arith
greatest-append (x ∷ xs) ys = omega (arith, greatest-append xs ys)

greatest-one : (x : ℕ) → greatest (x ∷ []) ≡ x
unfolding greatest
greatest-one x = omega arith

pub greatest-first : (x : ℕ) (xs : List ℕ) → greatest (x ∷ xs) ≡ max x (greatest xs)
unfolding greatest
greatest-first x xs = refl

pub next-split : (found : Found) → next_of found ≡ max found.start (max (greatest (map (λ a. suc a.slot) found.accepted)) (greatest (map (λ c. suc c.slot) found.chosen)))
unfolding next_of
next-split found =
    greatest-first found.start _ ∙ ap (max found.start) (greatest-append (map (λ a. suc a.slot) found.accepted) (map (λ c. suc c.slot) found.chosen))

accepted-more : (xs : List MpAccepted) (a : MpAccepted) → greatest (map (λ a. suc a.slot) (xs ++ a ∷ [])) ≡ max (greatest (map (λ a. suc a.slot) xs)) (suc a.slot)
accepted-more xs a =
    ap greatest (map-push (λ (a : MpAccepted). suc a.slot) xs a) ∙ greatest-append (map (λ a. suc a.slot) xs) (suc a.slot ∷ [])
    ∙ ap (max (greatest (map (λ a. suc a.slot) xs))) (greatest-one (suc a.slot))

chosen-more : (xs : List MpChosen) (c : MpChosen) → greatest (map (λ c. suc c.slot) (xs ++ c ∷ [])) ≡ max (greatest (map (λ c. suc c.slot) xs)) (suc c.slot)
chosen-more xs c =
    ap greatest (map-push (λ (c : MpChosen). suc c.slot) xs c) ∙ greatest-append (map (λ c. suc c.slot) xs) (suc c.slot ∷ [])
    ∙ ap (max (greatest (map (λ c. suc c.slot) xs))) (greatest-one (suc c.slot))

pub next-accepted : (found : Found) (a : MpAccepted) → next_of (and_accepted found (a ∷ [])) ≡ max (next_of found) (suc a.slot)
next-accepted found a =
    let before = next-split found in
    let after = next-split (and_accepted found (a ∷ [])) in
    let more = accepted-more found.accepted a in
    omega (arith, before, after, more)

pub next-chosen : (found : Found) (c : MpChosen) → next_of (and_chosen found (c ∷ [])) ≡ max (next_of found) (suc c.slot)
next-chosen found c =
    let before = next-split found in
    let after = next-split (and_chosen found (c ∷ [])) in
    let more = chosen-more found.chosen c in
    omega (arith, before, after, more)

-- ---- chosen values

pub chosen-push : (xs : List MpChosen) (c : MpChosen) → by_slots (xs ++ c ∷ []) ≡ and_entry (by_slots xs) (c.slot, c.value)
unfolding by_slots
chosen-push xs c =
    ap by_slot (map-push (λ (c : MpChosen). (c.slot, c.value)) xs c) ∙ by_slot-push (map (λ c. (c.slot, c.value)) xs) (c.slot, c.value)

and_entry-old : {A : Type 0} (es : List (ℕ × A)) (x : ℕ × A) → is_some (lookup (is_at (nat_cmp x.0)) es) ≡ true → and_entry es x ≡ es
and_entry-old es x is = rw (is) refl

and_entry-new : {A : Type 0} (es : List (ℕ × A)) (x : ℕ × A) → is_some (lookup (is_at (nat_cmp x.0)) es) ≡ false → and_entry es x ≡ insert_entry nat_cmp es x.0 x.1
and_entry-new es x is = rw (is) refl

pub chosen-known : (xs : List MpChosen) (c : MpChosen) (es : List (ℕ × Value)) → es ≡ by_slots xs → is_some (lookup (is_at (nat_cmp c.slot)) es) ≡ true → es ≡ by_slots (xs ++ c ∷ [])
chosen-known xs c es are is =
    are ∙ sym (and_entry-old (by_slots xs) (c.slot, c.value) (subst (λ es. is_some (lookup (is_at (nat_cmp c.slot)) es) ≡ true) are is)) ∙ sym (chosen-push xs c)

pub chosen-new : (xs : List MpChosen) (c : MpChosen) (es : List (ℕ × Value)) → es ≡ by_slots xs → is_some (lookup (is_at (nat_cmp c.slot)) es) ≡ false
    → insert_entry nat_cmp es c.slot c.value ≡ by_slots (xs ++ c ∷ [])
chosen-new xs c es are is =
    ap (λ (es : List (ℕ × Value)). insert_entry nat_cmp es c.slot c.value) are
    ∙ sym (and_entry-new (by_slots xs) (c.slot, c.value) (subst (λ es. is_some (lookup (is_at (nat_cmp c.slot)) es) ≡ false) are is)) ∙ sym (chosen-push xs c)

-- ---- accepted values

-- a value more at a slot
pub held-push : (slot : ℕ) (xs : List MpAccepted) (a : MpAccepted) → held_at slot (xs ++ a ∷ []) ≡ (if a.slot == slot then greater_held (held_at slot xs) (a.ballot, a.value) else held_at slot xs)
unfolding held_at
held-push slot xs a =
    ap (λ (ys : List MpAccepted). fold greater_held None (map (λ a. (a.ballot, a.value)) ys)) (filter-push (λ (a : MpAccepted). a.slot == slot) xs a) ∙ by_test (a.slot == slot)
  where
    by_test : (t : Bool) → fold greater_held None (map (λ a. (a.ballot, a.value)) (filter (λ a. a.slot == slot) xs ++ (if t then a ∷ [] else [])))
        ≡ (if t then greater_held (fold greater_held None (map (λ a. (a.ballot, a.value)) (filter (λ a. a.slot == slot) xs))) (a.ballot, a.value)
        else fold greater_held None (map (λ a. (a.ballot, a.value)) (filter (λ a. a.slot == slot) xs)))
    by_test true =
        ap (fold greater_held None) (map-push (λ (a : MpAccepted). (a.ballot, a.value)) (filter (λ a. a.slot == slot) xs) a)
        ∙ fold-append greater_held None (map (λ a. (a.ballot, a.value)) (filter (λ a. a.slot == slot) xs)) ((a.ballot, a.value) ∷ [])
    by_test false = ap (λ (ys : List MpAccepted). fold greater_held None (map (λ a. (a.ballot, a.value)) ys)) (append-none (filter (λ a. a.slot == slot) xs))

-- it is greater than all before
pub best-greater : (slot : ℕ) (xs : List MpAccepted) (a : MpAccepted) (at : Held Value) (here : Held Value) → here ≡ held_at a.slot xs → greater_held here (a.ballot, a.value) ≡ Some (a.ballot, a.value)
    → at ≡ held_at slot xs → cond (is_at (nat_cmp a.slot) slot) (Some (a.ballot, a.value)) at ≡ held_at slot (xs ++ a ∷ [])
best-greater slot xs a at here held greater is = rw (held-push slot xs a, test a.slot slot, is) (by_test (a.slot == slot) refl)
  where
    test : (q k : ℕ) → is_at (nat_cmp q) k ≡ (q == k)
    test q k = grind (arith, nat_tests)

    same : (q k : ℕ) → (q == k) ≡ true → q ≡ k
    same q k e = grind (arith, nat_tests, e)

    by_test : (t : Bool) → (a.slot == slot) ≡ t → cond t (Some (a.ballot, a.value)) (held_at slot xs) ≡ (if t then greater_held (held_at slot xs) (a.ballot, a.value) else held_at slot xs)
    by_test true e =
        sym greater ∙ ap (λ (h : Held Value). greater_held h (a.ballot, a.value)) (held ∙ ap (λ (s : ℕ). held_at s xs) (same a.slot slot e))
    by_test false e = refl

-- it is not
pub best-stays : (slot : ℕ) (xs : List MpAccepted) (a : MpAccepted) (at : Held Value) (here : Held Value) → here ≡ held_at a.slot xs → greater_held here (a.ballot, a.value) ≡ here
    → at ≡ held_at slot xs → at ≡ held_at slot (xs ++ a ∷ [])
best-stays slot xs a at here held stays is = is ∙ rw (held-push slot xs a) (by_test (a.slot == slot) refl)
  where
    same : (q k : ℕ) → (q == k) ≡ true → q ≡ k
    same q k e = grind (arith, nat_tests, e)

    by_test : (t : Bool) → (a.slot == slot) ≡ t → held_at slot xs ≡ (if t then greater_held (held_at slot xs) (a.ballot, a.value) else held_at slot xs)
    by_test true e =
        subst (λ (s : ℕ). held_at s xs ≡ greater_held (held_at s xs) (a.ballot, a.value)) (same a.slot slot e)
        (sym held ∙ sym stays ∙ ap (λ (h : Held Value). greater_held h (a.ballot, a.value)) held)
    by_test false e = refl

-- nothing is found yet
pub next-none : (start : ℕ) → next_of (none_found start) ≡ start
unfolding next_of
next-none start = greatest-one start

-- the greater of two values
pub greater-by : (p a : Ballot × Value) (t : Bool) → t ≡ ballot_lt p.0 a.0 → greater_held (Some p) a ≡ (if t then Some a else Some p)
unfolding greater_held when◌then◌otherwise◌
greater-by p a true is = rw (sym is) refl
greater-by p a false is = rw (sym is) refl
