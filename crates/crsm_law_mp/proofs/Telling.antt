-- The report of a replica, and its executed list in messages, are those of its log.
use Rattle.std.proofs.Common.{zero, suc, ◌≡◌, ℕ, ◌+◌, ◌≤◌, Bool, true, false, cond, ◌==◌, leb, List, [], ◌∷◌, map, filter, take, drop, arith, inl, inr, refl, sym, subst, ap, ◌∙◌, Option, Some, None, add-zero}
use Rattle.std.specs.List.{Contains, slice_get, enumerate_from, flat_map}
use Rattle.std.proofs.lemmas.Bool.Decides.{nat_tests}
use Rattle.std.proofs.lemmas.List.Elements.{Contains-append_cases}
use Rattle.crsm_safety.proofs.Paxos.Majority.{nat_eq_is}
use Rattle.crsm_mpspec.specs.declared.MpAccepted.{MpAccepted}
use Rattle.crsm_mpspec.specs.declared.MpChosen.{MpChosen}
use Rattle.crsm_mpspec.specs.Types.{Ballot, Value}
use Rattle.crsm_mpspec.specs.Log.{Log, at_slot, by_slot, from_slot, accepts, choices, accepted_at, accepted_from, chosen_at, chosen_from, run_from, and_then, end, executed}
use Rattle.crsm_mpspec.specs.Replica.{Report}
use Rattle.crsm_mpspec.specs.Electing.{greater_held, held_at, chosen_among}
use Rattle.crsm_law_mp.proofs.Lists.{cons_cases, first_in, later_in, none_in, in_map}
use Rattle.crsm_law_mp.proofs.BySlot.{AllAbove, Ascends, in_by_slot, at_by_slot, by_slot_ascends, at_of_in}

-- ---- elements

pub in_filter : {X : Type 0} (test : X → Bool) (xs : List X) (x : X) → Contains (filter test xs) x → Contains xs x
in_filter test [] x c = c
in_filter test (y ∷ xs) x c = go (test y) c (in_filter test xs x)
  where
    go : (t : Bool) → Contains (cond t (y ∷ filter test xs) (filter test xs)) x → (Contains (filter test xs) x → Contains xs x) → Contains (y ∷ xs) x
    go true c more = elim (cons_cases y (filter test xs) x c) [
      | inl is ↦ subst (λ z. Contains (y ∷ xs) z) is (first_in y xs)
      | inr rest ↦ later_in y xs x (more rest)
    ]
    go false c more = later_in y xs x (more c)

pub in_flat_map : {X Y : Type 0} (f : X → List Y) (xs : List X) (y : Y) → Contains (flat_map f xs) y → (x : X) × Contains xs x × Contains (f x) y
in_flat_map f [] y c = absurd (none_in y c)
in_flat_map f (x ∷ xs) y c =
    elim (Contains-append_cases (f x) (flat_map f xs) y c) [
      | inl here ↦ (x, first_in x xs, here)
      | inr rest ↦ let (z, there, is) = in_flat_map f xs y rest in (z, later_in x xs z there, is)
    ]

pub in_take : {X : Type 0} (n : ℕ) (xs : List X) (x : X) → Contains (take n xs) x → Contains xs x
in_take zero xs x c = absurd (none_in x c)
in_take (suc n) [] x c = c
in_take (suc n) (y ∷ xs) x c =
    elim (cons_cases y (take n xs) x c) [
      | inl is ↦ subst (λ z. Contains (y ∷ xs) z) is (first_in y xs)
      | inr rest ↦ later_in y xs x (in_take n xs x rest)
    ]

in_drop : {X : Type 0} (n : ℕ) (xs : List X) (x : X) → Contains (drop n xs) x → Contains xs x
in_drop zero xs x c = c
in_drop (suc n) [] x c = c
in_drop (suc n) (y ∷ xs) x c = later_in y xs x (in_drop n xs x c)

pub in_enumerate : {X : Type 0} (k : ℕ) (xs : List X) (p : ℕ × X) → Contains (enumerate_from k xs) p → (i : ℕ) × (p.0 ≡ k + i) × (slice_get xs i ≡ Some p.1)
in_enumerate k [] p c = absurd (none_in p c)
in_enumerate k (x ∷ xs) p c =
    elim (cons_cases (k, x) (enumerate_from (k + 1) xs) p c) [
      | inl is ↦ subst (λ z. (i : ℕ) × (z.0 ≡ k + i) × (slice_get (x ∷ xs) i ≡ Some z.1)) is (0, omega arith, refl)
      | inr rest ↦ let (i, at, is) = in_enumerate (k + 1) xs p rest in (suc i, omega arith, is)
    ]

-- ---- what was accepted

module _ (start s : ℕ) (late : start ≤ s) where
  accepted_of : ℕ × (Ballot × Value) → MpAccepted
  accepted_of x = record { slot = x.0; ballot = x.1.0; value = x.1.1 }

  none_at : (es : List (ℕ × (Ballot × Value))) → AllAbove s es → filter (λ a. a.slot == s) (map accepted_of (from_slot start es)) ≡ []
  unfolding from_slot accepted_of
  none_at [] all = refl
  none_at (e ∷ es) all =
      let kept : leb start e.0 ≡ true = let a = all.0 in grind (arith, nat_tests) in
      let apart : (e.0 == s) ≡ false = let a = all.0 in grind (arith, nat_tests) in
      rw kept (rw apart (none_at es all.1))

  held_from : (es : List (ℕ × (Ballot × Value))) → Ascends es → held_at s (map accepted_of (from_slot start es)) ≡ at_slot s es
  unfolding held_at at_slot from_slot accepted_of greater_held none_at
  held_from [] a = refl
  held_from (e ∷ es) a = go (e.0 == s) refl (held_from es a.1)
    where
      go : (t : Bool) → (e.0 == s) ≡ t → held_at s (map accepted_of (from_slot start es)) ≡ at_slot s es → held_at s (map accepted_of (from_slot start (e ∷ es))) ≡ cond t (Some e.1) (at_slot s es)
      go true is rest =
          let same : e.0 ≡ s = nat_eq_is e.0 s is in
          let kept : leb start e.0 ≡ true = grind (arith, nat_tests) in
          let none : filter (λ a. a.slot == s) (map accepted_of (from_slot start es)) ≡ [] = none_at es (subst (λ j. AllAbove j es) same a.0) in
          rw kept (rw is (rw none refl))
      go false is rest = by_start (leb start e.0) refl
        where
          by_start : (u : Bool) → leb start e.0 ≡ u → held_at s (map accepted_of (cond u (e ∷ from_slot start es) (from_slot start es))) ≡ at_slot s es
          by_start true kept = rw is rest
          by_start false gone = rest

  pub accepted_told : (log : Log) → held_at s (accepted_from start log) ≡ accepted_at s log
  unfolding accepted_from accepted_at accepted_of
  accepted_told log = held_from (by_slot (accepts log)) (by_slot_ascends (accepts log)) ∙ at_by_slot s (accepts log)

-- ---- what is chosen

pub chosen_told : (start : ℕ) (log : Log) (c : MpChosen) → Contains (chosen_from start log) c → chosen_at c.slot log ≡ Some c.value
unfolding chosen_from chosen_at from_slot
chosen_told start log c there =
    let (x, kept, is) = in_map (λ x. record { slot = x.0; value = x.1 }) (from_slot start (by_slot (choices log))) c there in
    let member : Contains (by_slot (choices log)) x = in_filter (λ y. leb start y.0) (by_slot (choices log)) x kept in
    let found : at_slot x.0 (by_slot (choices log)) ≡ Some x.1 = at_of_in (by_slot (choices log)) x (by_slot_ascends (choices log)) member in
    subst (λ z. at_slot z.slot (choices log) ≡ Some z.value) is (sym (at_by_slot x.0 (choices log)) ∙ found)

pub chosen_reported : (reports : List Report) (p : ℕ × Value) → Contains (chosen_among reports) p →
    (y : Report) × (c : MpChosen) × Contains reports y × Contains y.chosen c × ((c.slot, c.value) ≡ p)
unfolding chosen_among
chosen_reported reports p there =
    let (y, of_it, here) = in_flat_map (λ r. map (λ c. (c.slot, c.value)) r.chosen) reports p (in_by_slot (flat_map (λ r. map (λ c. (c.slot, c.value)) r.chosen) reports) p there) in
    let (c, member, is) = in_map (λ c. (c.slot, c.value)) y.chosen p here in
    (y, c, of_it, member, is)

-- ---- the executed list

run_says : (most slot i : ℕ) (log : Log) (v : Value) → slice_get (run_from most slot log) i ≡ Some v → chosen_at (slot + i) log ≡ Some v
unfolding run_from and_then
run_says zero slot i log v is = absurd (no is)
  where
    no : None ≡ Some v → ⊥
    no e = cc
run_says (suc most) slot i log v is = go (chosen_at slot log) refl i is (λ j. run_says most (suc slot) j log v)
  where
    none : {X : Type 0} (x : X) → None ≡ Some x → ⊥
    none x e = cc

    go : (o : Option Value) → chosen_at slot log ≡ o → (i : ℕ) → slice_get (and_then o (run_from most (suc slot) log)) i ≡ Some v →
        ((j : ℕ) → slice_get (run_from most (suc slot) log) j ≡ Some v → chosen_at (suc slot + j) log ≡ Some v) → chosen_at (slot + i) log ≡ Some v
    go None is i at more = absurd (none v at)
    go (Some u) is zero at more = let same : u ≡ v = cc in rw add-zero (is ∙ ap (λ z. Some z) same)
    go (Some u) is (suc i) at more = let e : suc slot + i ≡ slot + suc i = omega arith in subst (λ k. chosen_at k log ≡ Some v) e (more i at)

pub executed_chosen : (log : Log) (s : ℕ) (v : Value) → slice_get (executed log) s ≡ Some v → chosen_at s log ≡ Some v
unfolding executed
executed_chosen log s v is = let e : 0 + s ≡ s = omega arith in subst (λ t. chosen_at t log ≡ Some v) e (run_says (end log) 0 s log v is)

-- what is told to one who asks
pub taught : (most start : ℕ) (log : Log) (p : ℕ × Value) → Contains (take most (drop start (enumerate_from 0 (executed log)))) p → chosen_at p.0 log ≡ Some p.1
taught most start log p c =
    let (i, at, is) = in_enumerate 0 (executed log) p (in_drop start (enumerate_from 0 (executed log)) p (in_take most (drop start (enumerate_from 0 (executed log))) p c)) in
    let same : i ≡ p.0 = omega arith in
    executed_chosen log p.0 p.1 (subst (λ j. slice_get (executed log) j ≡ Some p.1) same is)
