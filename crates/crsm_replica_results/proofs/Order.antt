-- The index of an entry in an ascending list.
use Rattle.std.proofs.Common.{◌≡◌, ℕ, zero, suc, ◌+◌, ◌≤◌, length, Bool, cond, true, false, List, [], ◌∷◌, take, drop, refl, sym, ap, ◌∙◌, subst, arith}
use Rattle.std.specs.Prelude.{slice_get, Option, None, Some, find, IsTrue}
use Rattle.std.specs.List.{AllByRecursion, enumerate_from}
use Rattle.std.proofs.lemmas.Bool.Decides.{nat_tests}
use Rattle.std.proofs.lemmas.Option.{slice_get_within}
use Rattle.crsm_base.specs.Order.{stamp_lt, stamp_eq, entry_lt}
use Rattle.crsm_base.specs.Store.{answer_after}
use Rattle.crsm_spec.specs.Types.{Entry, Answer}
use Rattle.crsm_replica_results.specs.Answering.{IsAnswerAt, answered}
use Rattle.crsm_spec.specs.Clients.{find_executed}
use Rattle.crsm_spec.specs.Fits.{goes_on}
use Rattle.std.specs.Option.{option_map, option_map_or}
use Rattle.crsm_replica_results.specs.Rising.{RisesStrictly, is_same}
use Rattle.crsm_replica_results.proofs.Kept.{below_last}

abbrev pub Below : Entry → Entry → Type 0
Below e f = entry_lt f e ≡ true

abbrev pub NotBelow : Entry → Entry → Type 0
NotBelow e f = entry_lt f e ≡ false

lt_trans : (a b c : Entry) → entry_lt a b ≡ true → entry_lt b c ≡ true → entry_lt a c ≡ true
unfolding entry_lt stamp_lt
lt_trans a b c p q = grind (arith, nat_tests, p, q)

-- what is above one that is not below is not below
above_not : (a b c : Entry) → entry_lt a b ≡ true → entry_lt a c ≡ false → entry_lt b c ≡ false
unfolding entry_lt stamp_lt
above_not a b c p q = grind (arith, nat_tests, p, q)

below_other : (e f : Entry) → entry_lt f e ≡ true → is_same e f ≡ false
unfolding entry_lt stamp_lt stamp_eq is_same
below_other e f p = grind (arith, nat_tests, p)

-- what is above one that is not below and not the same is not the same either
above_other : (e m f : Entry) → entry_lt m f ≡ true → entry_lt m e ≡ false → is_same e f ≡ false
unfolding entry_lt stamp_lt stamp_eq is_same
above_other e m f p q = grind (arith, nat_tests, p, q)

all_of : (P Q : Entry → Type 0) (es : List Entry) → ((f : Entry) → P f → Q f) → AllByRecursion P es → AllByRecursion Q es
all_of P Q [] h all = tt
all_of P Q (e ∷ es) h all = (h e all.0, all_of P Q es h all.1)

at_place : (P : Entry → Type 0) (es : List Entry) (i : ℕ) (m : Entry) → AllByRecursion P es → slice_get es i ≡ Some m → P m
at_place P [] i m all there = cc
at_place P (e ∷ es) zero m all there = let is : e ≡ m = cc in subst P is all.0
at_place P (e ∷ es) (suc i) m all there = at_place P es i m all.1 there

-- all up to one that is below are below
below_up_to_suc : (e : Entry) (es : List Entry) (i : ℕ) (m : Entry) → RisesStrictly es → slice_get es i ≡ Some m → Below e m → AllByRecursion (Below e) (take (suc i) es)
below_up_to_suc e [] i m rises there below = cc
below_up_to_suc e (f ∷ es) zero m rises there below = let is : f ≡ m = cc in (subst (λ (g : Entry). entry_lt g e ≡ true) (sym is) below, tt)
below_up_to_suc e (f ∷ es) (suc i) m rises there below =
    (lt_trans f m e (at_place (λ g. IsTrue (entry_lt f g)) es i m rises.0 there) below, below_up_to_suc e es i m rises.1 there below)

pub below_up_to : (e : Entry) (es : List Entry) (i : ℕ) (m : Entry) → RisesStrictly es → slice_get es i ≡ Some m → Below e m → AllByRecursion (Below e) (take (i + 1) es)
below_up_to e es i m rises there below =
    let next : suc i ≡ i + 1 = omega arith in
    subst (λ (n : ℕ). AllByRecursion (Below e) (take n es)) next (below_up_to_suc e es i m rises there below)

-- all from one on that is not below are not below
pub not_below_from : (e : Entry) (es : List Entry) (i : ℕ) (m : Entry) → RisesStrictly es → slice_get es i ≡ Some m → NotBelow e m → AllByRecursion (NotBelow e) (drop i es)
not_below_from e [] i m rises there not = cc
not_below_from e (f ∷ es) zero m rises there not =
    let is : f ≡ m = cc in
    let here : entry_lt f e ≡ false = subst (λ (g : Entry). entry_lt g e ≡ false) (sym is) not in
    (here, all_of (λ g. IsTrue (entry_lt f g)) (NotBelow e) es (λ g p. above_not f g e p here) rises.0)
not_below_from e (f ∷ es) (suc i) m rises there not = not_below_from e es i m rises.1 there not

-- ---- where it is found

none_of : (e : Entry) (k : ℕ) (es : List Entry) → AllByRecursion (λ f. is_same e f ≡ false) es → find (λ p. is_same e p.1) (enumerate_from k es) ≡ None
none_of e k [] all = refl
none_of e k (f ∷ es) all = rw (all.0) (none_of e (k + 1) es all.1)

find_next : {X : Type 0} (b c : Bool) (x : X) (rest : Option X) → b ≡ c → cond b (Some x) rest ≡ cond c (Some x) rest
find_next b c x rest e = ap (λ d. cond d (Some x) rest) e

found_from : (e : Entry) (k i : ℕ) (es : List Entry) (m : Entry) → AllByRecursion (Below e) (take i es) → slice_get es i ≡ Some m → is_same e m ≡ true →
    find (λ p. is_same e p.1) (enumerate_from k es) ≡ Some (k + i, m)
found_from e k i [] m below there is = cc
found_from e k zero (f ∷ es) m below there is =
    let head : f ≡ m = cc in
    let place : k ≡ k + 0 = omega arith in
    find_next (is_same e f) true (k, f) (find (λ p. is_same e p.1) (enumerate_from (k + 1) es)) (ap (is_same e) head ∙ is)
    ∙ (λ j. Some (place j, head j))
found_from e k (suc i) (f ∷ es) m below there is =
    let place : k + 1 + i ≡ k + suc i = omega arith in
    find_next (is_same e f) false (k, f) (find (λ p. is_same e p.1) (enumerate_from (k + 1) es)) (below_other e f below.0)
    ∙ found_from e (k + 1) i es m below.1 there is
    ∙ ap (λ n. Some (n, m)) place

none_others : (e : Entry) (i : ℕ) (es : List Entry) → RisesStrictly es → AllByRecursion (Below e) (take i es) → AllByRecursion (NotBelow e) (drop i es) →
    ((m : Entry) → slice_get es i ≡ Some m → is_same e m ≡ false) → AllByRecursion (λ f. is_same e f ≡ false) es
none_others e i [] rises below above other = tt
none_others e zero (m ∷ es) rises below above other = (other m refl, all_of (λ f. IsTrue (entry_lt m f)) (λ f. is_same e f ≡ false) es (λ f p. above_other e m f p above.0) rises.0)
none_others e (suc i) (f ∷ es) rises below above other = (below_other e f below.0, none_others e i es rises.1 below.1 above other)

pub found : (e : Entry) (i : ℕ) (es : List Entry) (m : Entry) → AllByRecursion (Below e) (take i es) → slice_get es i ≡ Some m → is_same e m ≡ true →
    Some i ≡ option_map (λ (p : ℕ × Entry). p.0) (find_executed es e)
unfolding find_executed is_same
found e i es m below there is =
    (let none : i ≡ 0 + i = omega arith in ap (λ (n : ℕ). Some n) none)
    ∙ sym (ap (λ (o : Option (ℕ × Entry)). option_map (λ (p : ℕ × Entry). p.0) o) (found_from e 0 i es m below there is))

pub not_found : (e : Entry) (i : ℕ) (es : List Entry) → RisesStrictly es → AllByRecursion (Below e) (take i es) → AllByRecursion (NotBelow e) (drop i es) →
    ((m : Entry) → slice_get es i ≡ Some m → is_same e m ≡ false) → None ≡ option_map (λ (p : ℕ × Entry). p.0) (find_executed es e)
unfolding find_executed is_same
not_found e i es rises below above other =
    sym (ap (λ (o : Option (ℕ × Entry)). option_map (λ (p : ℕ × Entry). p.0) o) (none_of e 0 es (none_others e i es rises below above other)))

-- what stands past the end is none of them
pub past_end : (e : Entry) (i : ℕ) (es : List Entry) → length es ≤ i → (m : Entry) → slice_get es i ≡ Some m → is_same e m ≡ false
past_end e i es beyond m there = let within = slice_get_within es i m there in absurd (omega (arith, within, beyond))

-- what stands behind all that are executed is none of them
pub none_ahead : (e : Entry) (es : List Entry) → RisesStrictly es → goes_on es (e ∷ []) ≡ true → None ≡ option_map (λ (p : ℕ × Entry). p.0) (find_executed es e)
unfolding find_executed is_same goes_on
none_ahead e es rises ahead =
    let others : AllByRecursion (λ f. is_same e f ≡ false) es = all_of (Below e) (λ f. is_same e f ≡ false) es (below_other e) (below_last es e rises ahead) in
    sym (ap (λ (o : Option (ℕ × Entry)). option_map (λ (p : ℕ × Entry). p.0) o) (none_of e 0 es others))

-- ---- what stands at the place that was found

some_same : {X : Type 0} (x y : X) → Some x ≡ Some y → x ≡ y
some_same x y e = cc

by_test : (b : Bool) (k : ℕ) (f : Entry) (es : List Entry) (rest : Option (ℕ × Entry)) (p : ℕ × Entry) → cond b (Some (k, f)) rest ≡ Some p →
    (rest ≡ Some p → (i : ℕ) × (p.0 ≡ k + 1 + i) × (slice_get es i ≡ Some p.1)) → (i : ℕ) × (p.0 ≡ k + i) × (slice_get (f ∷ es) i ≡ Some p.1)
by_test true k f es rest p is later =
    let here : (k, f) ≡ p = some_same (k, f) p is in
    (0, (let at : k ≡ p.0 = ap (λ (q : ℕ × Entry). q.0) here in omega (arith, at)), ap (λ (q : ℕ × Entry). Some q.1) here)
by_test false k f es rest p is later =
    let r = later is in
    (suc r.0, (let at = r.1 in omega (arith, at)), r.2)

place_above : (e : Entry) (k : ℕ) (es : List Entry) (p : ℕ × Entry) → find (λ q. is_same e q.1) (enumerate_from k es) ≡ Some p → (i : ℕ) × (p.0 ≡ k + i) × (slice_get es i ≡ Some p.1)
place_above e k [] p is = cc
place_above e k (f ∷ es) p is =
    by_test (is_same e f) k f es (find (λ q. is_same e q.1) (enumerate_from (k + 1) es)) p is (place_above e (k + 1) es p)

-- the entry that is found stands at its place
pub stands_there : (e : Entry) (es : List Entry) (p : ℕ × Entry) → find_executed es e ≡ Some p → slice_get es p.0 ≡ Some p.1
unfolding find_executed is_same
stands_there e es p is =
    let r = place_above e 0 es p is in
    let at : p.0 ≡ r.0 = (let e0 = r.1 in omega (arith, e0)) in
    ap (λ (n : ℕ). slice_get es n) at ∙ r.2

-- ---- the test at a place

pub at_of : (e : Entry) (o : Option Entry) → option_map_or (is_same e) o false ≡ true → (m : Entry) × (o ≡ Some m) × (is_same e m ≡ true)
at_of e None is = cc
at_of e (Some m) is = (m, refl, is)

pub other_of : (e : Entry) (o : Option Entry) → option_map_or (is_same e) o false ≡ false → (m : Entry) → o ≡ Some m → is_same e m ≡ false
other_of e None is m there = cc
other_of e (Some f) is m there = let here : f ≡ m = some_same f m there in ap (is_same e) (sym here) ∙ is

-- ---- the answer to an entry that is found

abbrev with_answer : List Entry → ℕ × Entry → ℕ × Answer
with_answer es p = (p.0, answer_after (take p.0 es) p.1)

abbrev both : ℕ → Answer → ℕ × Answer
both place a = (place, a)

answer_found : (e : Entry) (es : List Entry) (o : Option (ℕ × Entry)) (place : ℕ) (a : Answer) → find_executed es e ≡ o → Some place ≡ option_map (λ (p : ℕ × Entry). p.0) o → IsAnswerAt es place a →
    Some (both place a) ≡ option_map (with_answer es) o
answer_found e es None place a is at t = cc
answer_found e es (Some p) place a is at t =
    let here : place ≡ p.0 = some_same place p.0 at in
    let same : t.entry ≡ p.1 = some_same t.entry p.1 (sym t.there ∙ ap (λ (n : ℕ). slice_get es n) here ∙ stands_there e es p is) in
    ap (λ (b : Answer). Some (both place b)) t.is
    ∙ (λ j. Some (both (here j) (answer_after (take (here j) es) (same j))))

pub answered_at : (e : Entry) (es : List Entry) (place : ℕ) (a : Answer) → Some place ≡ option_map (λ (p : ℕ × Entry). p.0) (find_executed es e) → IsAnswerAt es place a →
    Some (both place a) ≡ answered es e
unfolding answered
answered_at e es place a at t = answer_found e es (find_executed es e) place a refl at t

none_found : (es : List Entry) (o : Option (ℕ × Entry)) → None ≡ option_map (λ (p : ℕ × Entry). p.0) o → None ≡ option_map (with_answer es) o
none_found es None is = refl
none_found es (Some p) is = cc

pub not_answered : (e : Entry) (es : List Entry) → None ≡ option_map (λ (p : ℕ × Entry). p.0) (find_executed es e) → None ≡ answered es e
unfolding answered
not_answered e es is = none_found es (find_executed es e) is
