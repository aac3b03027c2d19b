-- The known values of slots that follow one another.
use Rattle.std.proofs.Common.{◌≡◌, ℕ, zero, suc, ◌+◌, ◌<◌, ◌≤◌, Bool, true, false, List, [], ◌∷◌, ◌++◌, length, Option, None, Some, refl, ap, sym, subst, ◌∙◌, arith}
use Rattle.std.specs.Prelude.{◌==◌, max, map, is_some, slice_get, if◌then◌else◌, take}
use Rattle.std.specs.Map.{lookup}
use Rattle.std.proofs.lemmas.Bool.{eqb-true}
use Rattle.std.proofs.lemmas.Bool.Decides.{nat_tests}
use Rattle.crsm_spec.specs.Lists.{greatest}
use Rattle.crsm_spec.specs.Clock.{u64_max}
use Rattle.crsm_mpspec.specs.declared.rec.MpRec.{MpRec}
use Rattle.crsm_mpspec.specs.Types.{Value}
use Rattle.crsm_mpspec.specs.Log.{Log, at_slot, choices, chosen_at, is_chosen, end, and_then, run_from, executed}
use Rattle.crsm_mpledger.specs.Sound.{IsSound}

-- a run of at least one value begins with a known one
begins : (o : Option Value) (rest : List Value) (k : ℕ) → length (and_then o rest) ≡ suc k → (v : Value) × (o ≡ Some v) × (length rest ≡ k)
unfolding and_then
begins None rest k e = absurd (omega (arith, e))
begins (Some v) rest k e = (v, refl, omega (arith, e))

run_of_one : (o : Option Value) (v : Value) → o ≡ Some v → and_then o [] ≡ v ∷ []
unfolding and_then
run_of_one o v e = rw (e) refl

run_goes_on : (o : Option Value) (rest more : List Value) (v : Value) → rest ≡ more ++ v ∷ [] → (w : Value) → o ≡ Some w → and_then o rest ≡ and_then o more ++ v ∷ []
unfolding and_then
run_goes_on o rest more v same w e = rw (e, same) refl

-- one slot more
pub run-snoc : (k a : ℕ) (v : Value) (log : Log) → length (run_from k a log) ≡ k → chosen_at (a + k) log ≡ Some v → run_from (suc k) a log ≡ run_from k a log ++ v ∷ []
unfolding run_from
run-snoc zero a v log whole next = run_of_one (chosen_at a log) v (subst (λ n. chosen_at n log ≡ Some v) (omega arith) next)
run-snoc (suc k) a v log whole next =
    let b = begins (chosen_at a log) (run_from k (suc a) log) k whole in
    run_goes_on (chosen_at a log) (run_from (suc k) (suc a) log) (run_from k (suc a) log) v
    (run-snoc k (suc a) v log b.2 (subst (λ n. chosen_at n log ≡ Some v) (omega arith) next)) b.0 b.1

-- ---- where a run stops

none_begins : (o : Option Value) (rest : List Value) → o ≡ None → and_then o rest ≡ []
unfolding and_then
none_begins o rest e = rw (e) refl

-- no run goes beyond a slot that is not known
run-stops : (k n a : ℕ) (log : Log) → k ≤ n → length (run_from k a log) ≡ k → chosen_at (a + k) log ≡ None → run_from n a log ≡ run_from k a log
unfolding run_from
run-stops zero zero a log most whole next = refl
run-stops zero (suc n) a log most whole next = none_begins (chosen_at a log) (run_from n (suc a) log) (subst (λ j. chosen_at j log ≡ None) (omega arith) next)
run-stops (suc k) zero a log most whole next = absurd (omega (arith, most))
run-stops (suc k) (suc n) a log most whole next =
    let b = begins (chosen_at a log) (run_from k (suc a) log) k whole in
    ap (λ (vs : List Value). and_then (chosen_at a log) vs)
    (run-stops k n (suc a) log (omega (arith, most)) b.2 (subst (λ j. chosen_at j log ≡ None) (omega arith) next))

below_greatest : (q : ℕ) (xs : List (ℕ × Value)) (v : Value) → lookup (λ s. s == q) xs ≡ Some v → q < greatest (map (λ x. suc x.0) xs)
unfolding greatest
below_greatest q [] v e = absurd cc
below_greatest q (x ∷ xs) v e = by_test (below_greatest q xs v) (x.0 == q) refl e
  where
    by_test : (lookup (λ s. s == q) xs ≡ Some v → q < greatest (map (λ y. suc y.0) xs)) → (t : Bool) → (x.0 == q) ≡ t
        → (if t then Some x.1 else lookup (λ s. s == q) xs) ≡ Some v → q < max (suc x.0) (greatest (map (λ y. suc y.0) xs))
    by_test after true t f = omega (arith, eqb-true x.0 q t)
    by_test after false t f = omega (arith, after f)

-- a slot whose value is known is before the end
below_end : (q : ℕ) (log : Log) (v : Value) → chosen_at q log ≡ Some v → q < end log
unfolding chosen_at at_slot end
below_end q log v e = below_greatest q (choices log) v e

run-below : (k a : ℕ) (log : Log) → a ≤ end log → length (run_from k a log) ≡ k → a + k ≤ end log
unfolding run_from
run-below zero a log below whole = omega (arith, below)
run-below (suc k) a log below whole =
    let b = begins (chosen_at a log) (run_from k (suc a) log) k whole in
    omega (arith, run-below k (suc a) log (below_end a log b.0 b.1) b.2)

-- the executed list is a whole run up to a slot that is not known
pub executed_is : (k : ℕ) (log : Log) → length (run_from k 0 log) ≡ k → chosen_at k log ≡ None → executed log ≡ run_from k 0 log
unfolding executed
executed_is k log whole next =
    run-stops k (end log) 0 log (omega (arith, run-below k 0 log (omega arith) whole)) whole (subst (λ j. chosen_at j log ≡ None) (omega arith) next)

-- ---- a run of its own length

again : (a : ℕ) (log : Log) (rest : List Value) (o : Option Value) → chosen_at a log ≡ o → run_from (length rest) (suc a) log ≡ rest → run_from (length (and_then o rest)) a log ≡ and_then o rest
unfolding run_from and_then
again a log rest None e same = refl
again a log rest (Some v) e same = rw (e, same) refl

run-whole : (m a : ℕ) (log : Log) → run_from (length (run_from m a log)) a log ≡ run_from m a log
unfolding run_from
run-whole zero a log = refl
run-whole (suc m) a log = again a log (run_from m (suc a) log) (chosen_at a log) refl (run-whole m (suc a) log)

pub executed-whole : (log : Log) → run_from (length (executed log)) 0 log ≡ executed log
unfolding executed
executed-whole log = run-whole (end log) 0 log

-- ---- one record more

is_not : (q s : ℕ) (w : Value) (o : Option Value) → o ≡ Some w → (q ≡ s → is_some o ≡ false) → (s == q) ≡ false
is_not q s w o e apart = by_test (s == q) refl
  where
    by_test : (t : Bool) → (s == q) ≡ t → t ≡ false
    by_test true t = absurd (no_both (ap (λ (p : Option Value). is_some p) (sym e) ∙ apart (sym (eqb-true s q t))))
      where
        no_both : ◌≡◌ {A = Bool} true false → ⊥
        no_both w = cc
    by_test false t = refl

-- a choice of a slot that is not known leaves the run
pub run-choose : (k a slot : ℕ) (v : Value) (log : Log) → is_chosen slot log ≡ false → length (run_from k a log) ≡ k → run_from k a (MpRec.Choose slot v ∷ log) ≡ run_from k a log
unfolding run_from chosen_at at_slot choices is_chosen
run-choose zero a slot v log new whole = refl
run-choose (suc k) a slot v log new whole =
    let b = begins (chosen_at a log) (run_from k (suc a) log) k whole in
    let apart : (slot == a) ≡ false = is_not a slot b.0 (chosen_at a log) b.1 (λ same. ap (λ (n : ℕ). is_some (chosen_at n log)) same ∙ new) in
    rw (apart) (ap (λ (vs : List Value). and_then (chosen_at a log) vs) (run-choose k (suc a) slot v log new b.2))

run-same : (m a : ℕ) (log other : Log) → choices log ≡ choices other → run_from m a log ≡ run_from m a other
unfolding run_from chosen_at
run-same zero a log other same = refl
run-same (suc m) a log other same =
    ap (λ (xs : List (ℕ × Value)). and_then (at_slot a xs) (run_from m (suc a) log)) same
    ∙ ap (λ (vs : List Value). and_then (at_slot a (choices other)) vs) (run-same m (suc a) log other same)

-- the choices alone say what is executed
pub executed-same : (log other : Log) → choices log ≡ choices other → executed log ≡ executed other
unfolding executed end
executed-same log other same =
    ap (λ (xs : List (ℕ × Value)). run_from (greatest (map (λ x. suc x.0) xs)) 0 log) same
    ∙ run-same (greatest (map (λ x. suc x.0) (choices other))) 0 log other same

-- the last number is no slot
pub none_at_end : (log : Log) → IsSound log → chosen_at u64_max log ≡ None
unfolding chosen_at at_slot choices
none_at_end [] sound = refl
none_at_end (MpRec.Boot ∷ log) sound = none_at_end log sound.1
none_at_end (MpRec.Promise b ∷ log) sound = none_at_end log sound.1
none_at_end (MpRec.Accept slot b v ∷ log) sound = none_at_end log sound.1
none_at_end (MpRec.Choose slot v ∷ log) sound =
    let apart : (slot == u64_max) ≡ false = grind (arith, nat_tests, sound.0.0) in
    rw (apart) (none_at_end log sound.1)

-- what is executed is still a run where another slot is chosen
pub run-grown : (slot : ℕ) (v : Value) (log : Log) → is_chosen slot log ≡ false → run_from (length (executed log)) 0 (MpRec.Choose slot v ∷ log) ≡ executed log
run-grown slot v log new = run-choose (length (executed log)) 0 slot v log new (ap length (executed-whole log)) ∙ executed-whole log

-- ---- single slots

get_first : (a i : ℕ) (log : Log) (rest : List Value) (o : Option Value) → chosen_at a log ≡ o → i < length (and_then o rest)
    → ((j : ℕ) → j < length rest → slice_get rest j ≡ chosen_at (suc a + j) log) → slice_get (and_then o rest) i ≡ chosen_at (a + i) log
unfolding and_then
get_first a i log rest None e below after = absurd (omega (arith, below))
get_first a zero log rest (Some v) e below after = sym e ∙ ap (λ (n : ℕ). chosen_at n log) (omega arith)
get_first a (suc j) log rest (Some v) e below after = after j (omega (arith, below)) ∙ ap (λ (n : ℕ). chosen_at n log) (omega arith)

run-get : (m a i : ℕ) (log : Log) → i < length (run_from m a log) → slice_get (run_from m a log) i ≡ chosen_at (a + i) log
unfolding run_from
run-get zero a i log below = absurd (omega (arith, below))
run-get (suc m) a i log below = get_first a i log (run_from m (suc a) log) (chosen_at a log) refl below (λ j b. run-get m (suc a) j log b)

-- the executed values are those that are known to be chosen
pub executed-get : (slot : ℕ) (log : Log) → slot < length (executed log) → chosen_at slot log ≡ slice_get (executed log) slot
unfolding executed
executed-get slot log below = sym (run-get (end log) 0 slot log below ∙ ap (λ (n : ℕ). chosen_at n log) (omega arith))

-- nothing stands behind the end of a list
pub none_behind : {A : Type 0} (xs : List A) (i : ℕ) → length xs ≤ i → slice_get xs i ≡ None
none_behind [] i most = refl
none_behind (x ∷ xs) zero most = absurd (omega (arith, most))
none_behind (x ∷ xs) (suc i) most = none_behind xs i (omega (arith, most))

-- a run up to a slot, and the slot itself
pub run-next : (k : ℕ) (v : Value) (log : Log) → length (run_from k 0 log) ≡ k → chosen_at k log ≡ Some v → run_from (k + 1) 0 log ≡ run_from k 0 log ++ v ∷ []
run-next k v log whole next =
    ap (λ (n : ℕ). run_from n 0 log) (omega arith) ∙ run-snoc k 0 v log whole (subst (λ n. chosen_at n log ≡ Some v) (omega arith) next)

-- ---- the beginning of a run

take_begun : (o : Option Value) (v : Value) (k : ℕ) (rest more : List Value) → o ≡ Some v → take k more ≡ rest → take (suc k) (and_then o more) ≡ and_then o rest
unfolding and_then
take_begun o v k rest more e same = rw (e) (ap (λ (vs : List Value). v ∷ vs) same)

run-take : (k m a : ℕ) (log : Log) → k ≤ m → length (run_from k a log) ≡ k → take k (run_from m a log) ≡ run_from k a log
unfolding run_from
run-take zero m a log most whole = refl
run-take (suc k) zero a log most whole = absurd (omega (arith, most))
run-take (suc k) (suc m) a log most whole =
    let b = begins (chosen_at a log) (run_from k (suc a) log) k whole in
    take_begun (chosen_at a log) b.0 k (run_from k (suc a) log) (run_from m (suc a) log) b.1 (run-take k m (suc a) log (omega (arith, most)) b.2)

executed_run : (log : Log) → executed log ≡ run_from (end log) 0 log
unfolding executed
executed_run log = refl

-- a choice of a slot that was not known leaves what was executed
pub executed-grown : (slot : ℕ) (v : Value) (log : Log) → is_chosen slot log ≡ false → take (length (executed log)) (executed (MpRec.Choose slot v ∷ log)) ≡ executed log
executed-grown slot v log new =
    let run = run-grown slot v log new in
    let below = run-below (length (executed log)) 0 (MpRec.Choose slot v ∷ log) (omega arith) (ap length run) in
    opened (length (executed log)) (MpRec.Choose slot v ∷ log) (omega (arith, below)) (ap length run) ∙ run
  where
    opened : (k : ℕ) (l : Log) → k ≤ end l → length (run_from k 0 l) ≡ k → take k (executed l) ≡ run_from k 0 l
    opened k l most whole = ap (λ (vs : List Value). take k vs) (executed_run l) ∙ run-take k (end l) 0 l most whole
