-- The content of a sound log has encodings.
use Rattle.std.proofs.Common.{◌≡◌, ℕ, zero, suc, ◌+◌, Bool, true, false, List, [], ◌∷◌, Some, refl, ap, subst, ◌∙◌, arith}
use Rattle.std.specs.Prelude.{◌==◌, cond, map, filter, slice_get, Option, None}
use Rattle.std.specs.BTreeMap.{insert_entry}
use Rattle.std.specs.List.{AllByRecursion}
use Rattle.std.specs.Ordering.{nat_cmp, match_ordering}
use Rattle.std.specs.declared.cmp.Ordering.{Ordering}
use Rattle.std.specs.declared.cmp.Ordering.TheVariants.{Less, Equal, Greater}
use Rattle.std.proofs.lemmas.Cmp.{ranked}
use Rattle.std.proofs.lemmas.Bool.Decides.{nat_tests}
use Rattle.crsm_base.specs.Spelling.{FitsBallot}
use Rattle.crsm_mpspec.specs.declared.rec.MpRec.{MpRec}
use Rattle.crsm_mpspec.specs.Types.{Ballot, Value}
use Rattle.crsm_mpspec.specs.Log.{Log, at_slot, by_slot, from_slot, no_ballot, promised, accepts, accepted_at, accepted_from, choices, chosen_at, chosen_from, and_then, run_from, end, executed}
use Rattle.crsm_mpledger.specs.Sound.{IsSound}
use Rattle.crsm_mpreplica.specs.Fitting.{FitsAccept, FitsChoice, FitsAccepted, FitsChosen}

-- ---- lists by slot

module _ {A : Type 0} (P : ℕ × A → Type 0) where
  all-insert : (es : List (ℕ × A)) (k : ℕ) (v : A) → AllByRecursion P es → P (k, v) → AllByRecursion P (insert_entry nat_cmp es k v)
  all-insert [] k v all p = (p, tt)
  all-insert (e ∷ es) k v all p = by_rank (nat_cmp k e.0) refl (all-insert es k v all.1 p)
    where
      by_rank : (o : Ordering) → o ≡ nat_cmp k e.0 → AllByRecursion P (insert_entry nat_cmp es k v) → AllByRecursion P (match_ordering o ((k, v) ∷ e ∷ es) ((e.0, v) ∷ es) (e ∷ insert_entry nat_cmp es k v))
      by_rank Less is more = (p, all)
      by_rank Equal is more =
          let same : k ≡ e.0 = ranked k e.0 Equal is in (subst (λ (j : ℕ). P (j, v)) same p, all.1)
      by_rank Greater is more = (all.0, more)

  pub all-by_slot : (xs : List (ℕ × A)) → AllByRecursion P xs → AllByRecursion P (by_slot xs)
  unfolding by_slot
  all-by_slot [] all = tt
  all-by_slot (x ∷ xs) all = all-insert (by_slot xs) x.0 x.1 (all-by_slot xs all.1) all.0

  all-filter : (p : ℕ × A → Bool) (xs : List (ℕ × A)) → AllByRecursion P xs → AllByRecursion P (filter p xs)
  all-filter p [] all = tt
  all-filter p (x ∷ xs) all = by_test (p x) (all-filter p xs all.1)
    where
      by_test : (t : Bool) → AllByRecursion P (filter p xs) → AllByRecursion P (cond t (x ∷ filter p xs) (filter p xs))
      by_test true more = (all.0, more)
      by_test false more = more

  all-from : (start : ℕ) (xs : List (ℕ × A)) → AllByRecursion P xs → AllByRecursion P (from_slot start xs)
  unfolding from_slot
  all-from start xs all = all-filter _ xs all

  all-at : (q : ℕ) (xs : List (ℕ × A)) (a : A) → AllByRecursion P xs → at_slot q xs ≡ Some a → P (q, a)
  unfolding at_slot
  all-at q [] a all is = absurd cc
  all-at q (x ∷ xs) a all is = by_test (all-at q xs a all.1) (x.0 == q) refl is
    where
      same : (j k : ℕ) → (j == k) ≡ true → j ≡ k
      same j k e = grind (arith, nat_tests, e)

      inside : (b : A) → ◌≡◌ {A = Option A} (Some b) (Some a) → b ≡ a
      inside b e = cc

      by_test : (at_slot q xs ≡ Some a → P (q, a)) → (t : Bool) → (x.0 == q) ≡ t → cond t (Some x.1) (at_slot q xs) ≡ Some a → P (q, a)
      by_test more true e found = subst (λ (j : ℕ). P (j, a)) (same x.0 q e) (subst (λ (b : A). P (x.0, b)) (inside x.1 found) all.0)
      by_test more false e found = more found

all-map : {A B : Type 0} (Q : B → Type 0) (f : A → B) (xs : List A) → AllByRecursion (λ x. Q (f x)) xs → AllByRecursion Q (map f xs)
all-map Q f [] all = tt
all-map Q f (x ∷ xs) all = (all.0, all-map Q f xs all.1)

-- ---- ballots

pub promised-fits : (log : Log) → IsSound log → FitsBallot (promised log)
unfolding promised no_ballot
promised-fits [] s = record { round = omega arith; by = omega arith }
promised-fits (MpRec.Boot ∷ log) s = promised-fits log s.1
promised-fits (MpRec.Promise b ∷ log) s = s.0
promised-fits (MpRec.Accept slot b v ∷ log) s = s.0.1
promised-fits (MpRec.Choose slot v ∷ log) s = promised-fits log s.1

-- ---- accepted values

abbrev pub FitsAcceptAt : ℕ × (Ballot × Value) → Type 0
FitsAcceptAt e = FitsAccept e.0 e.1.0 e.1.1

accepts-fit : (log : Log) → IsSound log → AllByRecursion FitsAcceptAt (accepts log)
unfolding accepts
accepts-fit [] s = tt
accepts-fit (MpRec.Boot ∷ log) s = accepts-fit log s.1
accepts-fit (MpRec.Promise b ∷ log) s = accepts-fit log s.1
accepts-fit (MpRec.Accept slot b v ∷ log) s = (s.0, accepts-fit log s.1)
accepts-fit (MpRec.Choose slot v ∷ log) s = accepts-fit log s.1

pub accepted-fits : (slot : ℕ) (log : Log) (a : Ballot × Value) → IsSound log → accepted_at slot log ≡ Some a → FitsAccept slot a.0 a.1
unfolding accepted_at
accepted-fits slot log a s is = all-at FitsAcceptAt slot (accepts log) a (accepts-fit log s) is

pub accepted_from-fits : (start : ℕ) (log : Log) → IsSound log → AllByRecursion FitsAccepted (accepted_from start log)
unfolding accepted_from
accepted_from-fits start log s =
    all-map FitsAccepted (λ (x : ℕ × (Ballot × Value)). record { slot = x.0; ballot = x.1.0; value = x.1.1 }) (from_slot start (by_slot (accepts log)))
    (all-from FitsAcceptAt start (by_slot (accepts log)) (all-by_slot FitsAcceptAt (accepts log) (accepts-fit log s)))

-- ---- chosen values

abbrev pub FitsChoiceAt : ℕ × Value → Type 0
FitsChoiceAt e = FitsChoice e.0 e.1

choices-fit : (log : Log) → IsSound log → AllByRecursion FitsChoiceAt (choices log)
unfolding choices
choices-fit [] s = tt
choices-fit (MpRec.Boot ∷ log) s = choices-fit log s.1
choices-fit (MpRec.Promise b ∷ log) s = choices-fit log s.1
choices-fit (MpRec.Accept slot b v ∷ log) s = choices-fit log s.1
choices-fit (MpRec.Choose slot v ∷ log) s = ((s.0.0, s.0.1), choices-fit log s.1)

pub chosen_from-fits : (start : ℕ) (log : Log) → IsSound log → AllByRecursion FitsChosen (chosen_from start log)
unfolding chosen_from
chosen_from-fits start log s =
    all-map FitsChosen (λ (x : ℕ × Value). record { slot = x.0; value = x.1 }) (from_slot start (by_slot (choices log)))
    (all-from FitsChoiceAt start (by_slot (choices log)) (all-by_slot FitsChoiceAt (choices log) (choices-fit log s)))

-- ---- executed values

run-at : (most first : ℕ) (log : Log) (i : ℕ) (v : Value) → slice_get (run_from most first log) i ≡ Some v → chosen_at (first + i) log ≡ Some v
unfolding run_from and_then
run-at zero first log i v is = absurd cc
run-at (suc most) first log i v is = by_first (run-at most (suc first) log) (chosen_at first log) refl i is
  where
    inside : (b : Value) → ◌≡◌ {A = Option Value} (Some b) (Some v) → b ≡ v
    inside b e = cc

    at_none : (n : ℕ) → n + 0 ≡ n
    at_none n = omega arith

    at_more : (n i : ℕ) → n + suc i ≡ suc n + i
    at_more n i = omega arith

    by_first : ((i : ℕ) (v : Value) → slice_get (run_from most (suc first) log) i ≡ Some v → chosen_at (suc first + i) log ≡ Some v) → (o : Option Value) → chosen_at first log ≡ o → (i : ℕ) → slice_get (and_then o (run_from most (suc first) log)) i ≡ Some v → chosen_at (first + i) log ≡ Some v
    by_first more None here i is = absurd cc
    by_first more (Some w) here zero is = ap (λ (k : ℕ). chosen_at k log) (at_none first) ∙ here ∙ ap (λ (b : Value). Some b) (inside w is)
    by_first more (Some w) here (suc i) is = ap (λ (k : ℕ). chosen_at k log) (at_more first i) ∙ more i v is

pub executed-fits : (log : Log) (i : ℕ) (v : Value) → IsSound log → slice_get (executed log) i ≡ Some v → FitsChoice i v
unfolding executed chosen_at
executed-fits log i v s is =
    let found = run-at (end log) 0 log i v is in
    subst (λ (k : ℕ). FitsChoice k v) (from_none i) (all-at FitsChoiceAt (0 + i) (choices log) v (choices-fit log s) found)
  where
    from_none : (n : ℕ) → 0 + n ≡ n
    from_none n = omega arith
