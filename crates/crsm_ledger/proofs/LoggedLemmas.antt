-- Entries sorted by stamp: where an entry stands among them, and which stand above a stamp.
use Rattle.std.proofs.Common.{◌≡◌, ℕ, suc, zero, Bool, true, false, ◌<◌, ◌≤◌, ◌+◌, ◌-◌, List, [], ◌∷◌, ◌++◌, refl, ap, sym, ◌∙◌, arith, length, take, drop, get_or, subst}
use Rattle.std.specs.Prelude.{◌==◌, ◌||◌, ◌&&◌, not, nat_lt, insert, set, slice_get, filter, find, if◌then◌else◌, Option, None, Some}
use Rattle.std.specs.List.{AllByRecursion, AllWithin, list_any}
use Rattle.std.specs.Option.{option_map_or}
use Rattle.std.specs.List.Sorted.{IsPartitionedBy, IsPartitionPoint}
use Rattle.std.proofs.lemmas.Bool.Decides.{nat_tests}
use Rattle.crsm_base.specs.Order.{stamp_lt, stamp_eq}
use Rattle.crsm_spec.specs.Types.{Stamp, Entry}
use Rattle.crsm_spec.specs.Lists.{first_of}
use Rattle.crsm_spec.specs.Log.{with_entry, above}
use Rattle.crsm_spec.specs.Fits.{is_newest}
use Rattle.crsm_fact_log.proofs.Lists.{all_got, all_more, get_left, take-rest}
use Rattle.crsm_ledger.specs.declared.kept.Kept.{Kept}
use Rattle.crsm_ledger.specs.declared.kept.LoggedItem.{LoggedItem}
use Rattle.crsm_ledger.specs.Sorted.{AreKeptFor, FitsKept, IsKept, IsKeptFor, IsLogged, IsNotBelow, IsSortedByStamp, items_above, marked}

-- ---- stamps

-- a ≤ b, b ≤ c
pub not_below-trans : (a b c : Stamp) → stamp_lt b a ≡ false → stamp_lt c b ≡ false → stamp_lt c a ≡ false
unfolding stamp_lt
not_below-trans a b c p q = grind (arith, nat_tests)

-- a < b, b ≤ c
pub below-not_below : (a b c : Stamp) → stamp_lt a b ≡ true → stamp_lt c b ≡ false → stamp_lt a c ≡ true
unfolding stamp_lt
below-not_below a b c p q = grind (arith, nat_tests)

-- a < b
pub below-asym : (a b : Stamp) → stamp_lt a b ≡ true → stamp_lt b a ≡ false
unfolding stamp_lt
below-asym a b p = grind (arith, nat_tests)

time-not_below : (a b : Stamp) (t : ℕ) → stamp_lt b a ≡ false → nat_lt b.time t ≡ true → nat_lt a.time t ≡ true
unfolding stamp_lt
time-not_below a b t p q = grind (arith, nat_tests)

not-not_below : (s a b : Stamp) → stamp_lt b a ≡ false → not (stamp_lt s b) ≡ true → not (stamp_lt s a) ≡ true
unfolding stamp_lt
not-not_below s a b p q = grind (arith, nat_tests)

-- ---- partitions

-- a test that earlier entries pass where later ones do
partitioned : (p : LoggedItem → Bool) → ((e f : LoggedItem) → IsNotBelow e f → p f ≡ true → p e ≡ true) → (es : List LoggedItem) → IsSortedByStamp es → IsPartitionedBy p es
partitioned p closed [] sorted i j d ij within passes = absurd (omega arith)
partitioned p closed (e ∷ es) sorted zero zero d ij within passes = passes
partitioned p closed (e ∷ es) sorted zero (suc j) d ij within passes =
    closed e (get_or es j d) (all_got (IsNotBelow e) es j d sorted.0 (omega arith)) passes
partitioned p closed (e ∷ es) sorted (suc i) zero d ij within passes = absurd (omega arith)
partitioned p closed (e ∷ es) sorted (suc i) (suc j) d ij within passes =
    partitioned p closed es sorted.1 i j d (omega arith) (omega arith) passes

pub partitioned_up_to : (s : Stamp) (es : List LoggedItem) → IsSortedByStamp es → IsPartitionedBy (λ e. not (stamp_lt s e.stamp)) es
partitioned_up_to s = partitioned (λ e. not (stamp_lt s e.stamp)) (λ e f. not-not_below s e.stamp f.stamp)

-- all up to one that is not above the stamp are not above it
pub within_up_to : (s : Stamp) (es : List LoggedItem) (k : ℕ) → IsSortedByStamp es → k < length es → ((d : LoggedItem) → stamp_lt s (get_or es k d).stamp ≡ false) → AllWithin (λ e. not (stamp_lt s e.stamp) ≡ true) es 0 (k + 1)
within_up_to s es k sorted within here j d low high =
    partitioned_up_to s es sorted j k d (omega (arith, high)) within (ap not (here d))

-- all from one on that is above the stamp are above it
pub within_above : (s : Stamp) (es : List LoggedItem) (k : ℕ) → IsSortedByStamp es → k < length es → ((d : LoggedItem) → stamp_lt s (get_or es k d).stamp ≡ true) → AllWithin (λ e. not (stamp_lt s e.stamp) ≡ false) es k (length es)
within_above s es k sorted within here j d low high = by_test (not (stamp_lt s (get_or es j d).stamp)) refl
  where
    by_test : (b : Bool) → not (stamp_lt s (get_or es j d).stamp) ≡ b → b ≡ false
    by_test false is = refl
    by_test true is = sym (partitioned_up_to s es sorted k j d low high is) ∙ ap not (here d)

pub partitioned_before : (t : ℕ) (es : List LoggedItem) → IsSortedByStamp es → IsPartitionedBy (λ e. nat_lt e.stamp.time t) es
partitioned_before t = partitioned (λ e. nat_lt e.stamp.time t) (λ e f. time-not_below e.stamp f.stamp t)

-- where the last one has a smaller time, all have
pub all_before : (t : ℕ) (es : List LoggedItem) (k : ℕ) → IsSortedByStamp es → k < length es → ((d : LoggedItem) → nat_lt (get_or es k d).stamp.time t ≡ true) → AllWithin (λ e. nat_lt e.stamp.time t ≡ true) es 0 (k + 1)
all_before t es k sorted within here j d low high = partitioned_before t es sorted j k d (omega (arith, high)) within (here d)

-- ---- what stands at a partition point

not-true : (b : Bool) → not b ≡ true → b ≡ false
not-true true h = sym h
not-true false h = refl

not-false : (b : Bool) → not b ≡ false → b ≡ true
not-false true h = refl
not-false false h = sym h

-- the stamps of items compare as those of their entries
compared : (a b s t : Stamp) (c : Bool) → a ≡ s → b ≡ t → stamp_lt a b ≡ c → stamp_lt s t ≡ c
compared a b s t c is js h = rw (is, js) at h

abbrev UpTo : Stamp → List LoggedItem → ℕ → Type 0
UpTo s is k = IsPartitionPoint (λ j. not (stamp_lt s j.stamp) ≡ true) (λ j. not (stamp_lt s j.stamp) ≡ false) is k

later_point : (s : Stamp) (i : LoggedItem) (is : List LoggedItem) (k : ℕ) → UpTo s (i ∷ is) (suc k) → UpTo s is k
later_point s i is k point =
    ((λ j d low high. point.0 (suc j) d (omega arith) (omega arith)), (λ j d low high. point.1 (suc j) d (omega arith) (omega arith)))

pub insert-kept : (done : List Entry) (i : LoggedItem) (e : Entry) (is : List LoggedItem) (es : List Entry) (k : ℕ) → IsKeptFor done i e → AreKeptFor done is es → k ≤ length is → UpTo i.stamp is k → AreKeptFor done (insert is k i) (with_entry e es)
unfolding with_entry
insert-kept done i e [] [] zero here all bound point = (here, tt)
insert-kept done i e [] [] (suc k) here all bound point = absurd (omega arith)
insert-kept done i e [] (f ∷ es) k here all bound point = absurd all
insert-kept done i e (j ∷ is) [] k here all bound point = absurd all
insert-kept done i e (j ∷ is) (f ∷ es) zero here all bound point =
    let less : stamp_lt e.stamp f.stamp ≡ true = compared i.stamp j.stamp e.stamp f.stamp true here.stamp all.0.stamp (not-false (stamp_lt i.stamp j.stamp) (point.1 0 j (omega arith) (omega arith))) in
    rw less (here, all)
insert-kept done i e (j ∷ is) (f ∷ es) (suc k) here all bound point =
    let less : stamp_lt e.stamp f.stamp ≡ false = compared i.stamp j.stamp e.stamp f.stamp false here.stamp all.0.stamp (not-true (stamp_lt i.stamp j.stamp) (point.0 0 j (omega arith) (omega arith))) in
    rw less (all.0, insert-kept done i e is es k here all.1 (omega arith) (later_point i.stamp j is k point))

drop-kept : (done : List Entry) (s : Stamp) (is : List LoggedItem) (es : List Entry) (k : ℕ) → AreKeptFor done is es → k ≤ length is → UpTo s is k → drop k es ≡ filter (λ f. stamp_lt s f.stamp) es
drop-kept done s [] [] k all bound point = drop-nil k
  where
    drop-nil : (k : ℕ) → drop k (let none : List Entry = [] in none) ≡ []
    drop-nil zero = refl
    drop-nil (suc k) = refl
drop-kept done s [] (f ∷ es) k all bound point = absurd all
drop-kept done s (j ∷ is) [] k all bound point = absurd all
drop-kept done s (j ∷ is) (f ∷ es) zero all bound point =
    let less : stamp_lt s f.stamp ≡ true = compared s j.stamp s f.stamp true refl all.0.stamp (not-false (stamp_lt s j.stamp) (point.1 0 j (omega arith) (omega arith))) in
    rw less
    (ap (λ rest. f ∷ rest) (drop-kept done s is es zero all.1 (omega arith) ((λ j d low high. absurd (omega arith)), (λ j d low high. point.1 (suc j) d (omega arith) (omega arith)))))
drop-kept done s (j ∷ is) (f ∷ es) (suc k) all bound point =
    let less : stamp_lt s f.stamp ≡ false = compared s j.stamp s f.stamp false refl all.0.stamp (not-true (stamp_lt s j.stamp) (point.0 0 j (omega arith) (omega arith))) in
    rw less (drop-kept done s is es k all.1 (omega arith) (later_point s j is k point))

pub above-kept : (done : List Entry) (s : Stamp) (is : List LoggedItem) (es : List Entry) (k : ℕ) → AreKeptFor done is es → k ≤ length is → UpTo s is k → drop k es ≡ above (Some s) es
unfolding above
above-kept done s is es k all bound point = drop-kept done s is es k all bound point

-- the items from a partition point on are those above the stamp
pub from-point : (s : Stamp) (is : List LoggedItem) (k : ℕ) → k ≤ length is → UpTo s is k → drop k is ≡ items_above (Some s) is
unfolding items_above
from-point s [] zero bound point = refl
from-point s [] (suc k) bound point = absurd (omega arith)
from-point s (j ∷ is) zero bound point =
    let less : stamp_lt s j.stamp ≡ true = not-false (stamp_lt s j.stamp) (point.1 0 j (omega arith) (omega arith)) in
    rw less
    (ap (λ rest. j ∷ rest) (from-point s is zero (omega arith) ((λ m d low high. absurd (omega arith)), (λ m d low high. point.1 (suc m) d (omega arith) (omega arith)))))
from-point s (j ∷ is) (suc k) bound point =
    let less : stamp_lt s j.stamp ≡ false = not-true (stamp_lt s j.stamp) (point.0 0 j (omega arith) (omega arith)) in
    rw less (from-point s is k (omega arith) (later_point s j is k point))

newest_of_later : (same earlier : Bool) (others : Bool) → earlier ≡ false → not (same || others) ≡ ((not same || earlier) && not others)
newest_of_later true earlier others h = rw h
newest_of_later false earlier others h = refl

newest_of_earlier : (same earlier : Bool) (others : Bool) → earlier ≡ true → others ≡ ((not same || earlier) && others)
newest_of_earlier true earlier others h = rw h
newest_of_earlier false earlier others h = refl

abbrev Before : ℕ → List LoggedItem → ℕ → Type 0
Before t is k = IsPartitionPoint (λ j. nat_lt j.stamp.time t ≡ true) (λ j. nat_lt j.stamp.time t ≡ false) is k

newest-kept : (done : List Entry) (e : Entry) (is : List LoggedItem) (es : List Entry) (k : ℕ) → AreKeptFor done is es → k ≤ length is → Before e.stamp.time is k → not (list_any (λ j. j.stamp.origin == e.stamp.origin) (drop k is)) ≡ is_newest e es
unfolding is_newest
newest-kept done e [] [] zero all bound point = refl
newest-kept done e [] [] (suc k) all bound point = absurd (omega arith)
newest-kept done e [] (f ∷ es) k all bound point = absurd all
newest-kept done e (j ∷ is) [] k all bound point = absurd all
newest-kept done e (j ∷ is) (f ∷ es) zero all bound point =
    newest_of_later (j.stamp.origin == e.stamp.origin) (nat_lt j.stamp.time e.stamp.time) (list_any (λ i. i.stamp.origin == e.stamp.origin) is)
    (point.1 0 j (omega arith) (omega arith))
    ∙ ap (λ rest. (not (j.stamp.origin == e.stamp.origin) || nat_lt j.stamp.time e.stamp.time) && rest)
    (newest-kept done e is es zero all.1 (omega arith) ((λ j d low high. absurd (omega arith)), (λ j d low high. point.1 (suc j) d (omega arith) (omega arith))))
    ∙ ap (λ (s : Stamp). (not (s.origin == e.stamp.origin) || nat_lt s.time e.stamp.time) && is_newest e es) all.0.stamp
newest-kept done e (j ∷ is) (f ∷ es) (suc k) all bound point =
    newest-kept done e is es k all.1 (omega arith) ((λ j d low high. point.0 (suc j) d (omega arith) (omega arith)), (λ j d low high. point.1 (suc j) d (omega arith) (omega arith)))
    ∙ newest_of_earlier (j.stamp.origin == e.stamp.origin) (nat_lt j.stamp.time e.stamp.time) (is_newest e es)
    (point.0 0 j (omega arith) (omega arith))
    ∙ ap (λ (s : Stamp). (not (s.origin == e.stamp.origin) || nat_lt s.time e.stamp.time) && is_newest e es) all.0.stamp

pub range-newest : (done : List Entry) (e : Entry) (is : List LoggedItem) (es : List Entry) (k : ℕ) → AreKeptFor done is es → k ≤ length is → Before e.stamp.time is k → not (list_any (λ j. j.stamp.origin == e.stamp.origin) (take (length is - k) (drop k is))) ≡ is_newest e es
range-newest done e is es k all bound point = rw (take-rest is k bound) (newest-kept done e is es k all bound point)

-- ---- an item of an entry

pub length-kept : (done : List Entry) (is : List LoggedItem) (es : List Entry) → AreKeptFor done is es → length is ≡ length es
length-kept done [] [] all = refl
length-kept done [] (e ∷ es) all = absurd all
length-kept done (i ∷ is) [] all = absurd all
length-kept done (i ∷ is) (e ∷ es) all = ap (λ k. suc k) (length-kept done is es all.1)

-- the item with this index, and the entry that it is for
pub kept-at : (done : List Entry) (is : List LoggedItem) (es : List Entry) (k : ℕ) (i : LoggedItem) → AreKeptFor done is es → slice_get is k ≡ Some i → (e : Entry) × (slice_get es k ≡ Some e) × IsKeptFor done i e
kept-at done [] [] k i all at = cc
kept-at done [] (e ∷ es) k i all at = absurd all
kept-at done (j ∷ is) [] k i all at = absurd all
kept-at done (j ∷ is) (e ∷ es) zero i all at =
    let same : j ≡ i = cc in (e, refl, subst (λ (x : LoggedItem). IsKeptFor done x e) same all.0)
kept-at done (j ∷ is) (e ∷ es) (suc k) i all at = kept-at done is es k i all.1 at

-- where there is no item, there is no entry
pub none-at : (done : List Entry) (is : List LoggedItem) (es : List Entry) (k : ℕ) → AreKeptFor done is es → slice_get is k ≡ None → slice_get es k ≡ None
none-at done [] [] k all at = refl
none-at done [] (e ∷ es) k all at = absurd all
none-at done (j ∷ is) [] k all at = absurd all
none-at done (j ∷ is) (e ∷ es) zero all at = cc
none-at done (j ∷ is) (e ∷ es) (suc k) all at = none-at done is es k all.1 at

pub first_of-drop : (es : List Entry) (k : ℕ) → first_of (drop k es) ≡ slice_get es k
unfolding first_of
first_of-drop [] zero = refl
first_of-drop [] (suc k) = refl
first_of-drop (e ∷ es) zero = refl
first_of-drop (e ∷ es) (suc k) = first_of-drop es k

stamp_there : (o : Option LoggedItem) (p : Option Entry) (t : Stamp) → ((i : LoggedItem) → o ≡ Some i → (e : Entry) × (p ≡ Some e) × (i.stamp ≡ e.stamp)) → (o ≡ None → p ≡ None) → option_map_or (λ i. stamp_eq i.stamp t) o false ≡ option_map_or (λ e. stamp_eq e.stamp t) p false
stamp_there None p t some none = rw (none refl) refl
stamp_there (Some i) p t some none =
    let there : (e : Entry) × (p ≡ Some e) × (i.stamp ≡ e.stamp) = some i refl in
    ap (λ (s : Stamp). stamp_eq s t) there.2 ∙ ap (λ (o : Option Entry). option_map_or (λ e. stamp_eq e.stamp t) o false) (sym there.1)

-- the stamps of the item and of the entry with this index
pub stamp-at : (done : List Entry) (is : List LoggedItem) (es : List Entry) (k : ℕ) (t : Stamp) → AreKeptFor done is es → option_map_or (λ i. stamp_eq i.stamp t) (slice_get is k) false ≡ option_map_or (λ e. stamp_eq e.stamp t) (first_of (drop k es)) false
stamp-at done is es k t all =
    stamp_there (slice_get is k) (slice_get es k) t
    (λ i at. let there : (e : Entry) × (slice_get es k ≡ Some e) × IsKeptFor done i e = kept-at done is es k i all at in (there.0, there.1, there.2.stamp))
    (none-at done is es k all)
    ∙ ap (λ (o : Option Entry). option_map_or (λ e. stamp_eq e.stamp t) o false) (sym (first_of-drop es k))

-- ---- more is executed

kept_longer : (done more : List Entry) (kept : Kept) (e : Entry) → IsKept done kept e → IsKept (done ++ more) kept e
kept_longer done more (Kept.Whole entry) e is = is
kept_longer done more (Kept.Executed place) e is = get_left done more place e is

pub kept-more : (done more : List Entry) (is : List LoggedItem) (es : List Entry) → AreKeptFor done is es → AreKeptFor (done ++ more) is es
kept-more done more [] [] all = tt
kept-more done more [] (e ∷ es) all = absurd all
kept-more done more (i ∷ is) [] all = absurd all
kept-more done more (i ∷ is) (e ∷ es) all =
    (record { stamp = all.0.stamp; kept = kept_longer done more i.kept e all.0.kept }, kept-more done more is es all.1)

marked-kept : (done : List Entry) (is : List LoggedItem) (es : List Entry) (k place : ℕ) (i : LoggedItem) (e : Entry) → AreKeptFor done is es → slice_get is k ≡ Some i → slice_get es k ≡ Some e → slice_get done place ≡ Some e → AreKeptFor done (set is k (marked i place)) es
marked-kept done [] [] k place i e all at is there = cc
marked-kept done [] (f ∷ es) k place i e all at is there = absurd all
marked-kept done (j ∷ js) [] k place i e all at is there = absurd all
marked-kept done (j ∷ js) (f ∷ es) zero place i e all at is there =
    let same : j ≡ i = cc in
    let it : f ≡ e = cc in
    (record { stamp = ap (λ (x : LoggedItem). x.stamp) (sym same) ∙ all.0.stamp; kept = there ∙ ap (λ (x : Entry). Some x) (sym it) }, all.1)
marked-kept done (j ∷ js) (f ∷ es) (suc k) place i e all at is there =
    (all.0, marked-kept done js es k place i e all.1 at is there)

get_end : (done : List Entry) (e : Entry) → slice_get (done ++ e ∷ []) (length done) ≡ Some e
get_end [] e = refl
get_end (f ∷ done) e = get_end done e

-- the item is marked as that of the entry that is executed next
pub marked-next : (done es : List Entry) (is : List LoggedItem) (k place : ℕ) (i : LoggedItem) (e : Entry) → AreKeptFor done is es → slice_get is k ≡ Some i → slice_get es k ≡ Some e → place ≡ length done → AreKeptFor (done ++ e ∷ []) (set is k (marked i place)) es
marked-next done es is k place i e all at there next =
    marked-kept (done ++ e ∷ []) is es k place i e (kept-more done (e ∷ []) is es all) at there (ap (λ p. slice_get (done ++ e ∷ []) p) next ∙ get_end done e)

-- ---- the first entry above a stamp

same_parts : (a b : Stamp) → a.time ≡ b.time → a.origin ≡ b.origin → a ≡ b
same_parts a b time origin = ap (λ t. record { time = t; origin = a.origin }) time ∙ ap (λ o. record { time = b.time; origin = o }) origin

pub stamp_eq-same : (a b : Stamp) → stamp_eq a b ≡ true → a ≡ b
unfolding stamp_eq
stamp_eq-same a b same =
    let parts : (a.time ≡ b.time) × (a.origin ≡ b.origin) = grind (arith, nat_tests) in same_parts a b parts.0 parts.1

stamp_eq-refl : (a : Stamp) → stamp_eq a a ≡ true
unfolding stamp_eq
stamp_eq-refl a = grind (arith, nat_tests)

-- a ≤ l < b
stamp_eq-apart : (l a b : Stamp) → stamp_lt l a ≡ false → stamp_lt l b ≡ true → stamp_eq a b ≡ false
unfolding stamp_lt stamp_eq
stamp_eq-apart l a b p q = grind (arith, nat_tests)

passes_by_test : {X : Type 0} (p : X → Bool) (b : Bool) (y : X) (kept : List X) (x : X) → b ≡ p y → first_of (if b then y ∷ kept else kept) ≡ Some x → (first_of kept ≡ Some x → p x ≡ true) → p x ≡ true
unfolding first_of
passes_by_test p true y kept x is first later = let same : y ≡ x = cc in ap p (sym same) ∙ sym is
passes_by_test p false y kept x is first later = later first

first_passes : {X : Type 0} (p : X → Bool) (xs : List X) (x : X) → first_of (filter p xs) ≡ Some x → p x ≡ true
unfolding first_of
first_passes p [] x is = cc
first_passes p (y ∷ xs) x is = passes_by_test p (p y) y (filter p xs) x refl is (first_passes p xs x)

find_by_test : (l : Stamp) (e f : Entry) (es : List Entry) (b : Bool) → b ≡ stamp_lt l f.stamp → first_of (if b then f ∷ filter (λ g. stamp_lt l g.stamp) es else filter (λ g. stamp_lt l g.stamp) es) ≡ Some e → (first_of (filter (λ g. stamp_lt l g.stamp) es) ≡ Some e → find (λ g. stamp_eq g.stamp e.stamp) es ≡ Some e) → find (λ g. stamp_eq g.stamp e.stamp) (f ∷ es) ≡ Some e
unfolding first_of
find_by_test l e f es true is first later =
    let same : f ≡ e = cc in rw (same, stamp_eq-refl e.stamp) refl
find_by_test l e f es false is first later =
    rw (stamp_eq-apart l f.stamp e.stamp (sym is) (first_passes (λ g. stamp_lt l g.stamp) es e first)) (later first)

none_first : (e : Entry) → first_of {A = Entry} [] ≡ Some e → find (λ f. stamp_eq f.stamp e.stamp) [] ≡ Some e
unfolding first_of
none_first e first = cc

find_above_stamp : (l : Stamp) (es : List Entry) (e : Entry) → first_of (filter (λ f. stamp_lt l f.stamp) es) ≡ Some e → find (λ f. stamp_eq f.stamp e.stamp) es ≡ Some e
find_above_stamp l [] e first = none_first e first
find_above_stamp l (f ∷ es) e first = find_by_test l e f es (stamp_lt l f.stamp) refl first (find_above_stamp l es e)

find_first : (es : List Entry) (e : Entry) → first_of es ≡ Some e → find (λ f. stamp_eq f.stamp e.stamp) es ≡ Some e
unfolding first_of
find_first [] e first = cc
find_first (f ∷ es) e first = let same : f ≡ e = cc in rw (same, stamp_eq-refl e.stamp) refl

-- the first entry above a stamp is the first of its stamp
pub find-above : (last : Option Stamp) (es : List Entry) (e : Entry) → first_of (above last es) ≡ Some e → find (λ f. stamp_eq f.stamp e.stamp) es ≡ Some e
unfolding above
find-above None es e first = find_first es e first
find-above (Some l) es e first = find_above_stamp l es e first

-- ---- the order is kept

all_by_test : (P : Entry → Type 0) (b : Bool) (e f : Entry) (es rest : List Entry) → P e → AllByRecursion P (f ∷ es) → AllByRecursion P rest → AllByRecursion P (if b then e ∷ f ∷ es else f ∷ rest)
all_by_test P true e f es rest here all later = (here, all)
all_by_test P false e f es rest here all later = (all.0, later)

pub with_entry-all : (P : Entry → Type 0) (e : Entry) (es : List Entry) → P e → AllByRecursion P es → AllByRecursion P (with_entry e es)
unfolding with_entry
with_entry-all P e [] here all = (here, tt)
with_entry-all P e (f ∷ es) here all =
    all_by_test P (stamp_lt e.stamp f.stamp) e f es (with_entry e es) here all (with_entry-all P e es here all.1)

-- ---- the order of the items is kept

all_set : {X : Type 0} (P : X → Type 0) (xs : List X) (k : ℕ) (x : X) → P x → AllByRecursion P xs → AllByRecursion P (set xs k x)
all_set P [] k x here all = tt
all_set P (y ∷ xs) zero x here all = (here, all.1)
all_set P (y ∷ xs) (suc k) x here all = (all.0, all_set P xs k x here all.1)

all_insert : {X : Type 0} (P : X → Type 0) (xs : List X) (k : ℕ) (x : X) → k ≤ length xs → P x → AllByRecursion P xs → AllByRecursion P (insert xs k x)
all_insert P [] zero x bound here all = (here, tt)
all_insert P [] (suc k) x bound here all = absurd (omega arith)
all_insert P (y ∷ xs) zero x bound here all = (here, all)
all_insert P (y ∷ xs) (suc k) x bound here all = (all.0, all_insert P xs k x (omega arith) here all.1)

inserted_sorted : (i : LoggedItem) (is : List LoggedItem) (k : ℕ) → IsSortedByStamp is → k ≤ length is → UpTo i.stamp is k → IsSortedByStamp (insert is k i)
inserted_sorted i [] zero sorted bound point = (tt, tt)
inserted_sorted i [] (suc k) sorted bound point = absurd (omega arith)
inserted_sorted i (j ∷ is) zero sorted bound point =
    let here : IsNotBelow i j = below-asym i.stamp j.stamp (not-false (stamp_lt i.stamp j.stamp) (point.1 0 j (omega arith) (omega arith))) in
    ((here, all_more (IsNotBelow j) (IsNotBelow i) (λ g above. not_below-trans i.stamp j.stamp g.stamp here above) is sorted.0), sorted)
inserted_sorted i (j ∷ is) (suc k) sorted bound point =
    let here : IsNotBelow j i = not-true (stamp_lt i.stamp j.stamp) (point.0 0 j (omega arith) (omega arith)) in
    (all_insert (IsNotBelow j) is k i (omega arith) here sorted.0, inserted_sorted i is k sorted.1 (omega arith) (later_point i.stamp j is k point))

pub insert-logged : (i : LoggedItem) (is : List LoggedItem) (k : ℕ) → IsLogged is → FitsKept i.kept → k ≤ length is → UpTo i.stamp is k → IsLogged (insert is k i)
insert-logged i is k logged fits bound point = record {
  sorted = inserted_sorted i is k logged.sorted bound point;
  fit = all_insert (λ j. FitsKept j.kept) is k i bound fits logged.fit;
}

marked_sorted : (is : List LoggedItem) (k place : ℕ) (i : LoggedItem) → slice_get is k ≡ Some i → IsSortedByStamp is → IsSortedByStamp (set is k (marked i place))
marked_sorted [] k place i at sorted = tt
marked_sorted (j ∷ is) zero place i at sorted =
    let same : j ≡ i = cc in
    (subst (λ (x : LoggedItem). AllByRecursion (IsNotBelow x) is) same sorted.0, sorted.1)
marked_sorted (j ∷ is) (suc k) place i at sorted =
    (all_set (IsNotBelow j) is k (marked i place) (at_index is k i at sorted.0) sorted.0, marked_sorted is k place i at sorted.1)
  where
    at_index : (xs : List LoggedItem) (m : ℕ) (x : LoggedItem) → slice_get xs m ≡ Some x → AllByRecursion (IsNotBelow j) xs → IsNotBelow j x
    at_index [] m x got all = cc
    at_index (y ∷ xs) zero x got all = let same : y ≡ x = cc in subst (λ (z : LoggedItem). IsNotBelow j z) same all.0
    at_index (y ∷ xs) (suc m) x got all = at_index xs m x got all.1

pub marked-logged : (is : List LoggedItem) (k place : ℕ) (i : LoggedItem) → slice_get is k ≡ Some i → IsLogged is → IsLogged (set is k (marked i place))
marked-logged is k place i at logged = record {
  sorted = marked_sorted is k place i at logged.sorted;
  fit = all_set (λ j. FitsKept j.kept) is k (marked i place) tt logged.fit;
}

-- what is kept of the item with this index has an encoding
pub fits-at : (is : List LoggedItem) (k : ℕ) (i : LoggedItem) → AllByRecursion (λ j. FitsKept j.kept) is → slice_get is k ≡ Some i → FitsKept i.kept
fits-at [] k i all at = cc
fits-at (j ∷ is) zero i all at = let same : j ≡ i = cc in subst (λ (x : LoggedItem). FitsKept x.kept) same all.0
fits-at (j ∷ is) (suc k) i all at = fits-at is k i all.1 at

-- no item is sorted
pub none_logged : IsLogged []
none_logged = record { sorted = tt; fit = tt }

pub ruleset logged_rules = (insert-kept, insert-logged, none_logged)
