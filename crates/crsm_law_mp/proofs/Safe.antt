-- Every possible run is safe.
use Rattle.std.proofs.Common.{zero, suc, ◌≡◌, ℕ, ◌+◌, ◌<◌, ◌≤◌, ◌⊎◌, Bool, true, false, cond, nat_lt, List, [], ◌∷◌, map, length, drop, arith, inl, inr, refl, sym, subst, ap, ◌∙◌, Some, None}
use Rattle.std.specs.List.{Contains, AllByRecursion, slice_get, fold, range_with_len}
use Rattle.std.proofs.lemmas.Bool.Decides.{nat_tests}
use Rattle.crsm_spec.specs.Acts.{Act}
use Rattle.crsm_spec.specs.Lists.{IsPrefixOf, numbers_below}
use Rattle.crsm_safety.proofs.Paxos.Instances.{agree}
use Rattle.crsm_mpspec.specs.Types.{Answer, Value}
use Rattle.crsm_mpspec.specs.Log.{executed}
use Rattle.crsm_mpspec.specs.Values.{answer_after}
use Rattle.crsm_mpspec.specs.World.{World, begin, log_at}
use Rattle.crsm_mpspec.specs.Run.{TraceLine, ArePossible, seen, all_worlds, all_lists, longest, the_list, last_world}
use Rattle.crsm_mpspec.specs.Safe.{AnswersAt, Agreed, Answered, RealTime, IsSafe}
use Rattle.crsm_law_mp.proofs.Agree.{invariant}
use Rattle.crsm_law_mp.proofs.Lists.{cons_cases, first_in, later_in, none_in, in_map, map_in}
use Rattle.crsm_law_mp.proofs.Telling.{in_flat_map}
use Rattle.crsm_law_mp.proofs.Worlds.{is_replica}
use Rattle.crsm_law_mp.specs.Traces.{Runs}
use Rattle.crsm_law_mp.specs.Traces.Runs.{first, next}
use Rattle.crsm_law_mp.specs.Kept.{IsList, IsAnswered, IsEarlier, IsReplied, IsDropped, Kept}
use Rattle.crsm_law_mp.proofs.Happen.{run_of}
use Rattle.crsm_law_mp.proofs.Told.{Begins, take_same, split_at, within}
use Rattle.crsm_law_mp.proofs.Places.{in_flat}
use Rattle.crsm_law_mp.proofs.Happened.{keeps_on}
use Rattle.crsm_law_mp.proofs.Begin.{kept_first}

in_range : (len a k : ℕ) → Contains (range_with_len a len) k → k < a + len
in_range zero a k c = absurd (none_in k c)
in_range (suc len) a k c =
    elim (cons_cases a (range_with_len (a + 1) len) k c) [ inl is ↦ omega arith | inr rest ↦ let h = in_range len (a + 1) k rest in omega arith ]

below_of : (n k : ℕ) → Contains (numbers_below n) k → k < n
unfolding numbers_below
below_of n k c = let h = in_range n 0 k c in omega arith

-- ---- the longest list

longer : List Value → List Value → List Value
longer best vs = cond (nat_lt (length best) (length vs)) vs best

record IsLongest (lists : List (List Value)) (b r : List Value) : Type 0 where
  pub of : (r ≡ b) ⊎ Contains lists r
  pub not_less : length b ≤ length r
  pub all : (vs : List Value) → Contains lists vs → length vs ≤ length r

found_longest : (lists : List (List Value)) (b : List Value) → IsLongest lists b (fold longer b lists)
unfolding longer
found_longest [] b = record { of = inl refl; not_less = omega arith; all = λ vs c. absurd (none_in vs c) }
found_longest (l ∷ lists) b = go (nat_lt (length b) (length l)) refl (found_longest lists (longer b l))
  where
    go : (t : Bool) → nat_lt (length b) (length l) ≡ t → IsLongest lists (cond t l b) (fold longer (cond t l b) lists) → IsLongest (l ∷ lists) b (fold longer (cond t l b) lists)
    go true e r = record {
      of = elim r.of [ inl is ↦ inr (subst (λ z. Contains (l ∷ lists) z) (sym is) (first_in l lists)) | inr later ↦ inr (later_in l lists _ later) ];
      not_less = let m = r.not_less in let lt : length b < length l = grind (arith, nat_tests) in omega arith;
      all = λ vs c. elim (cons_cases l lists vs c) [ inl is ↦ subst (λ z. length z ≤ length (fold longer l lists)) is r.not_less | inr rest ↦ r.all vs rest ];
    }
    go false e r = record {
      of = elim r.of [ inl is ↦ inl is | inr later ↦ inr (later_in l lists _ later) ];
      not_less = r.not_less;
      all = λ vs c. elim (cons_cases l lists vs c) [
        | inl is ↦ subst (λ z. length z ≤ length (fold longer b lists)) is (let m = r.not_less in let le : length l ≤ length b = grind (arith, nat_tests) in omega arith)
        | inr rest ↦ r.all vs rest
      ];
    }

all_by : {A : Type 0} (P : A → Type 0) (xs : List A) → ((x : A) → Contains xs x → P x) → AllByRecursion P xs
all_by P [] each = tt
all_by P (x ∷ xs) each = (each x (first_in x xs), all_by P xs (λ y c. each y (later_in x xs y c)))

there_is : (xs : List Value) (i : ℕ) → i < length xs → (v : Value) × (slice_get xs i ≡ Some v)
there_is [] i less = absurd (omega arith)
there_is (x ∷ xs) zero less = (x, refl)
there_is (x ∷ xs) (suc i) less = there_is xs i (omega arith)

module _ (n : ℕ) where
  kept_run : (lines : List TraceLine) (worlds : List World) (w : World) → Runs n lines worlds w → Kept n lines worlds w
  kept_run lines worlds w first = kept_first n
  kept_run _ _ _ (next {lines} {worlds} {w} {m} run a h) = keeps_on n lines worlds w (kept_run lines worlds w run) a m h

  module _ (acts : List Act) (may : ArePossible (begin n) acts) where
    kept : Kept n (seen n acts) (all_worlds n acts) (last_world n acts)
    kept = kept_run (seen n acts) (all_worlds n acts) (last_world n acts) (run_of n acts may)

    -- executed lists do not differ
    same_values : (es fs : List Value) → IsList (all_worlds n acts) es → IsList (all_worlds n acts) fs → (s : ℕ) (u v : Value) → slice_get es s ≡ Some u → slice_get fs s ≡ Some v → u ≡ v
    same_values es fs l k s u v is_u is_v =
        let i = invariant (numbers_below n) (kept.sound.slots s) (kept.sound.holds.reached s) in
        agree Value (numbers_below n) (kept.sound.slots s) i u v (kept.sound.holds.stays s u (kept.known es l s u is_u)) (kept.sound.holds.stays s v (kept.known fs k s v is_v))

    in_all : (es : List Value) → IsList (all_worlds n acts) es → Contains (all_lists n acts) es
    unfolding all_lists
    in_all es l =
        let k : ℕ = l.replica in
        in_flat (λ j. map (λ w. executed (log_at w j)) (all_worlds n acts)) (numbers_below n) k es
        (is_replica n k (subst (λ z. k < z) (kept.sizes l.world l.of) l.below))
        (subst (λ z. Contains (map (λ w. executed (log_at w k)) (all_worlds n acts)) z) (sym l.is) (map_in (λ w. executed (log_at w k)) (all_worlds n acts) l.world l.of))

    all_in : (es : List Value) → Contains (all_lists n acts) es → (w : World) × (k : ℕ) × Contains (all_worlds n acts) w × Contains (numbers_below n) k × (executed (log_at w k) ≡ es)
    unfolding all_lists
    all_in es c =
        let (k, member, here) = in_flat_map (λ j. map (λ w. executed (log_at w j)) (all_worlds n acts)) (numbers_below n) es c in
        let (w, of, is) = in_map (λ w. executed (log_at w k)) (all_worlds n acts) es here in
        (w, k, of, member, is)

    list_of : (es : List Value) → Contains (all_lists n acts) es → IsList (all_worlds n acts) es
    list_of es c =
        let (w, k, of, member, is) = all_in es c in
        record { world = w; of = of; replica = k; below = subst (λ l. k < l) (sym (kept.sizes w of)) (below_of n k member); is = sym is }

    is_longest : IsLongest (all_lists n acts) [] (the_list n acts)
    unfolding the_list longest longer
    is_longest = found_longest (all_lists n acts) []

    -- each of them is a prefix of the one list
    begins_it : (es : List Value) → IsList (all_worlds n acts) es → Begins es (the_list n acts)
    begins_it es l i v e =
        let less : length es ≤ length (the_list n acts) = is_longest.all es (in_all es l) in
        let here : i < length es = within es i v e in
        let (u, is) = there_is (the_list n acts) i (omega arith) in
        elim is_longest.of [
          | inl nothing ↦ absurd (let z = ap length nothing in let h : i < 0 = omega arith in omega arith)
          | inr member ↦ is ∙ ap (λ z. Some z) (same_values (the_list n acts) es (list_of (the_list n acts) member) l i u v is e)
        ]

    agreed : Agreed n acts
    agreed = all_by (λ vs. IsPrefixOf vs (the_list n acts)) (all_lists n acts)
        (λ vs c. (drop (length vs) (the_list n acts), sym (split_at vs (the_list n acts) (begins_it vs (list_of vs c)))))

    answers : (slot client number : ℕ) (a : Answer) (r : IsAnswered (all_worlds n acts) slot client number a) → AnswersAt (the_list n acts) slot r.command a
    answers slot client number a r =
        let b : Begins r.es (the_list n acts) = begins_it r.es r.list in (
          b slot (Some r.command) r.at,
          r.answer ∙ ap (λ vs. answer_after vs r.command) (take_same slot r.es (the_list n acts) b (let h = within r.es slot (Some r.command) r.at in omega arith)),
        )

    answered : Answered n acts
    answered = record {
      executed = λ i k slot client number a at. let r : IsAnswered (all_worlds n acts) slot client number a = kept.right i _ at.1 in
          (r.command, answers slot client number a r, r.of_client, r.of_number);
      noops = λ i k slot at. let r = kept.right i _ at.1 in begins_it r.0 r.1 slot None r.2;
      answered = λ i k client number slot a at. let r : IsReplied (seen n acts) (all_worlds n acts) i k slot client number a = kept.right i _ at.1 in
          (r.answered.command, answers slot client number a r.answered, r.submitted);
      dropped = λ i k client number slot at. let r : IsDropped (seen n acts) (all_worlds n acts) i k slot client number = kept.right i _ at.1 in
          (r.command, r.value, begins_it r.es r.list slot r.value r.at, r.other, r.submitted);
    }

    real_time : RealTime n acts
    real_time i j k client number slot k' slot' a c before at submitted first_time q is = go (nat_lt slot q) refl
      where
        go : (t : Bool) → nat_lt slot q ≡ t → slot < q
        go true e = grind (arith, nat_tests)
        go false e =
            let low : q ≤ slot = grind (arith, nat_tests) in
            let r : IsReplied (seen n acts) (all_worlds n acts) i k slot client number a = kept.right i _ at.1 in
            let here : slot < length r.answered.es = within r.answered.es slot (Some r.answered.command) r.answered.at in
            let (u, there) = there_is r.answered.es q (omega arith) in
            let same : Some u ≡ Some (Some c) = sym (begins_it r.answered.es r.answered.list q u there) ∙ is in
            let earlier : IsEarlier (seen n acts) i c = r.earlier q c low (there ∙ same) in
            absurd (first_time earlier.line earlier.replica earlier.slot (let b = earlier.before in omega arith) earlier.submitted)

pub safe : IsSafe
safe n some few acts may = (agreed n acts may, answered n acts may, real_time n acts may)
