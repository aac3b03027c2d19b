-- Values in a list up to a slot, and in a map beyond.
use Rattle.std.proofs.Common.{◌≡◌, ℕ, zero, suc, ◌+◌, ◌<◌, ◌≤◌, true, false, List, [], ◌∷◌, ◌++◌, length, Option, None, Some, refl, ap, sym, subst, ◌∙◌, arith, Bor}
use Rattle.std.specs.Prelude.{nat_eq, nat_le, nat_lt, is_some, IfSome, filter, map, slice_get, slice_set, slice_index_or, All, take}
use Rattle.std.specs.Option.{option_copied}
use Rattle.std.specs.Ordering.{nat_cmp, is_gt}
use Rattle.std.specs.declared.cmp.Ordering.TheVariants.{Less, Equal}
use Rattle.std.specs.Map.{lookup, keys_of}
use Rattle.std.specs.BTreeMap.{insert_entry, is_at}
use Rattle.std.specs.BTreeMap.Range.{IsLeBy, IsLtBy}
use Rattle.std.proofs.lemmas.Bool.Decides.{nat_tests}
use Rattle.std.proofs.lemmas.List.Elements.{filter-append}
use Rattle.std.proofs.lemmas.List.{length-append, map-append}
use Rattle.std.proofs.lemmas.Option.{slice_get_past, slice_get_read}
use Rattle.crsm_mpspec.specs.Log.{from_slot}
use Rattle.crsm_mpledger.specs.BySlot.{AreFrom, BeginsAt, numbered}
use Rattle.crsm_mpledger.proofs.SlotLemmas.{Below, Same, Above, compared, below_cmp, above_cmp}

-- ---- a slot of the list, and one beyond

equal_cmp : (a b : ℕ) → a ≡ b → nat_cmp a b ≡ Equal
equal_cmp a b e = grind (arith, nat_tests, e)

pub get-listed : {X : Type 0} (a i q : ℕ) (xs : List X) (es : List (ℕ × X)) → q ≡ a + i → i < length xs → lookup (is_at (nat_cmp q)) (numbered a xs ++ es) ≡ slice_get xs i
get-listed a i q [] es e below = absurd (omega (arith, below))
get-listed a zero q (x ∷ xs) es e below = rw (equal_cmp q a (omega (arith, e))) refl
get-listed a (suc i) q (x ∷ xs) es e below = rw (above_cmp q a (omega (arith, e))) (get-listed (suc a) i q xs es (omega (arith, e)) (omega (arith, below)))

pub get-beyond : {X : Type 0} (a q : ℕ) (xs : List X) (es : List (ℕ × X)) → a + length xs ≤ q → lookup (is_at (nat_cmp q)) (numbered a xs ++ es) ≡ lookup (is_at (nat_cmp q)) es
get-beyond a q [] es most = refl
get-beyond a q (x ∷ xs) es most = rw (above_cmp q a (omega (arith, most))) (get-beyond (suc a) q xs es (omega (arith, most)))

-- an item of a list that was lent
pub lent-item : {X : Type 0} (xs : List X) (i : ℕ) (r : Option (Bor X)) → is_some r ≡ nat_lt i (length xs) → IfSome r (λ x. x.now ≡ slice_index_or xs i x.now)
    → option_copied r ≡ slice_get xs i
lent-item xs i None some is =
    let past : length xs ≤ i = grind (arith, nat_tests, some) in
    sym (slice_get_past xs i past)
lent-item xs i (Some x) some is =
    let below : i < length xs = grind (arith, nat_tests, some) in
    sym (slice_get_read xs (length xs) i x.now refl below is)

-- ---- one value more

pub insert-listed : {X : Type 0} (a i q : ℕ) (v : X) (xs : List X) (es : List (ℕ × X)) → q ≡ a + i → i < length xs
    → insert_entry nat_cmp (numbered a xs ++ es) q v ≡ numbered a (slice_set xs i v) ++ es
insert-listed a i q v [] es e below = absurd (omega (arith, below))
insert-listed a zero q v (x ∷ xs) es e below = rw (equal_cmp q a (omega (arith, e))) refl
insert-listed a (suc i) q v (x ∷ xs) es e below =
    rw (above_cmp q a (omega (arith, e)), insert-listed (suc a) i q v xs es (omega (arith, e)) (omega (arith, below))) refl

pub insert-beyond : {X : Type 0} (a q : ℕ) (v : X) (xs : List X) (es : List (ℕ × X)) → a + length xs ≤ q
    → insert_entry nat_cmp (numbered a xs ++ es) q v ≡ numbered a xs ++ insert_entry nat_cmp es q v
insert-beyond a q v [] es most = refl
insert-beyond a q v (x ∷ xs) es most = rw (above_cmp q a (omega (arith, most)), insert-beyond (suc a) q v xs es (omega (arith, most))) refl

-- a value before all others
insert-first : {X : Type 0} (q : ℕ) (v : X) (es : List (ℕ × X)) → AreFrom (suc q) es → insert_entry nat_cmp es q v ≡ (q, v) ∷ es
insert-first q v [] are = refl
insert-first q v (e ∷ es) are = rw (below_cmp q e.0 (omega (arith, are.0))) refl

-- the list, with one value more
pub numbered-snoc : {X : Type 0} (a q : ℕ) (xs : List X) (v : X) (es : List (ℕ × X)) → q ≡ a + length xs → numbered a (xs ++ v ∷ []) ++ es ≡ numbered a xs ++ (q, v) ∷ es
numbered-snoc {X = X} a q [] v es e = ap (λ (n : ℕ). (n, v) ∷ es) (omega (arith, e))
numbered-snoc {X = X} a q (x ∷ xs) v es e = ap (λ (zs : List (ℕ × X)). (a, x) ∷ zs) (numbered-snoc (suc a) q xs v es (omega (arith, e)))

-- a value behind the list and before the map
pub insert-between : {X : Type 0} (q : ℕ) (v : X) (xs : List X) (es : List (ℕ × X)) → q ≡ length xs → AreFrom (suc q) es
    → numbered 0 (xs ++ v ∷ []) ++ es ≡ insert_entry nat_cmp (numbered 0 xs ++ es) q v
insert-between {X = X} q v xs es e are =
    numbered-snoc 0 q xs v es (omega (arith, e)) ∙ ap (λ (zs : List (ℕ × X)). numbered 0 xs ++ zs) (sym (insert-first q v es are))
    ∙ sym (insert-beyond 0 q v xs es (omega (arith, e)))

-- ---- slots from one on

pub are_from-less : {X : Type 0} (n m : ℕ) (es : List (ℕ × X)) → n ≤ m → AreFrom m es → AreFrom n es
are_from-less n m [] less are = tt
are_from-less n m (e ∷ es) less are = (omega (arith, less, are.0), are_from-less n m es less are.1)

pub are_from-insert : {X : Type 0} (n q : ℕ) (v : X) (es : List (ℕ × X)) → n ≤ q → AreFrom n es → AreFrom n (insert_entry nat_cmp es q v)
are_from-insert n q v [] less are = (less, tt)
are_from-insert n q v (e ∷ es) less are = elim (compared q e.0) [
  | Below l d ↦ rw (l) (less, are)
  | Same s ↦ rw (equal_cmp q e.0 s) are
  | Above l d ↦ rw (l) (are.0, are_from-insert n q v es less are.1)
]

-- keys that none is below
all-from : {X : Type 0} (n : ℕ) (P : ℕ → Type 0) → ((q : ℕ) → P q → n ≤ q) → (es : List (ℕ × X)) → All P (keys_of es) → AreFrom n es
all-from n P says [] all = tt
all-from n P says (e ∷ es) all = (says e.0 (all zero e.0 (omega arith)), all-from n P says es (λ k d below. all (suc k) d (omega (arith, below))))

above_less : (k q : ℕ) → nat_cmp k q ≡ Less → suc k ≤ q
above_less k q l = grind (arith, nat_tests, l)

not_below : (k q : ℕ) → is_gt (nat_cmp k q) ≡ false → k ≤ q
not_below k q l = grind (arith, nat_tests, l)

one_behind : {X : Type 0} (xs : List X) (x : X) → length (xs ++ x ∷ []) ≡ length xs + 1
one_behind xs x = length-append xs (x ∷ [])

-- the first value of the map goes to the list
pub gap-closes : {X : Type 0} (xs more : List X) (es rest whole : List (ℕ × X)) (p : ℕ × X) → BeginsAt (length xs) es → es ≡ p ∷ rest
    → All (IsLtBy nat_cmp p.0) (keys_of rest) → more ≡ xs ++ p.1 ∷ [] → numbered 0 xs ++ es ≡ whole
    → (numbered 0 more ++ rest ≡ whole) × AreFrom (length more) rest
gap-closes {X = X} xs more es rest whole p begins is above grown same =
    let at : p.0 ≡ length xs = subst (λ (zs : List (ℕ × X)). BeginsAt (length xs) zs) is begins in
    let long : length more ≡ length xs + 1 = ap length grown ∙ one_behind xs p.1 in (
      ap (λ (zs : List X). numbered 0 zs ++ rest) grown ∙ numbered-snoc 0 p.0 xs p.1 rest (omega (arith, at))
          ∙ ap (λ (zs : List (ℕ × X)). numbered 0 xs ++ zs) (sym is) ∙ same,
      are_from-less (length more) (suc p.0) rest (omega (arith, at, long)) (all-from (suc p.0) (IsLtBy nat_cmp p.0) (above_less p.0) rest above),
    )

first_from : {X : Type 0} (n : ℕ) (es : List (ℕ × X)) (p : ℕ × X) → slice_get es 0 ≡ Some p → AreFrom n es → n ≤ p.0
first_from n [] p e are = absurd cc
first_from {X = X} n (x ∷ es) p e are = subst (λ (y : ℕ × X). n ≤ y.0) (same e) are.0
  where
    same : ◌≡◌ {A = Option (ℕ × X)} (Some x) (Some p) → x ≡ p
    same e = cc

-- the map begins beyond the slot behind the list
pub gap-stays : {X : Type 0} (n : ℕ) (es : List (ℕ × X)) (p : ℕ × X) (len : ℕ) → slice_get es 0 ≡ Some p → All (IsLeBy nat_cmp p.0) (keys_of es) → len ≡ n → nat_eq p.0 len ≡ false
    → AreFrom n es → AreFrom (suc n) es
gap-stays n es p len first least long differs are =
    let most : n ≤ p.0 = first_from n es p first are in
    are_from-less (suc n) p.0 es (grind (arith, nat_tests, most, long, differs)) (all-from p.0 (IsLeBy nat_cmp p.0) (not_below p.0) es least)

-- ---- reports

-- the list has no slot below the start
pub none_before : {X : Type 0} (a start n : ℕ) (xs : List X) → a + n ≤ start → from_slot start (numbered a (take n xs)) ≡ []
unfolding from_slot
none_before a start zero xs most = refl
none_before a start (suc n) [] most = refl
none_before a start (suc n) (x ∷ xs) most =
    let below : nat_le start a ≡ false = grind (arith, nat_tests, most) in
    rw (below) (none_before (suc a) start n xs (omega (arith, most)))

-- the list up to a slot
numbered-take : {X : Type 0} (a i q : ℕ) (xs : List X) (x : X) → q ≡ a + i → slice_get xs i ≡ Some x → numbered a (take (suc i) xs) ≡ numbered a (take i xs) ++ (q, x) ∷ []
numbered-take a i q [] x e is = absurd cc
numbered-take {X = X} a zero q (y ∷ ys) x e is = both (omega (arith, e)) (same is)
  where
    same : ◌≡◌ {A = Option X} (Some y) (Some x) → y ≡ x
    same e = cc

    both : a ≡ q → y ≡ x → ◌≡◌ {A = List (ℕ × X)} ((a, y) ∷ []) ((q, x) ∷ [])
    both s t = rw (s, t) refl
numbered-take {X = X} a (suc i) q (y ∷ ys) x e is = ap (λ (zs : List (ℕ × X)). (a, y) ∷ zs) (numbered-take (suc a) i q ys x (omega (arith, e)) is)

one_more : (k : ℕ) → k + 1 ≡ suc k
one_more k = omega arith

-- one slot more
pub from_slot-next : {X : Type 0} (start k : ℕ) (xs : List X) (x : X) → start ≤ k → slice_get xs k ≡ Some x
    → from_slot start (numbered 0 (take (k + 1) xs)) ≡ from_slot start (numbered 0 (take k xs)) ++ (k, x) ∷ []
unfolding from_slot
from_slot-next {X = X} start k xs x most is =
    let within : nat_le start k ≡ true = grind (arith, nat_tests, most) in
    ap (λ (n : ℕ). filter (λ y. nat_le start y.0) (numbered 0 (take n xs))) (one_more k)
    ∙ ap (λ (es : List (ℕ × X)). filter (λ y. nat_le start y.0) es) (numbered-take 0 k k xs x (omega arith) is)
    ∙ filter-append (λ y. nat_le start y.0) (numbered 0 (take k xs)) ((k, x) ∷ [])
    ∙ rw (within) refl

-- and what is reported of it
pub reported-next : {X Y : Type 0} (f : ℕ × X → Y) (start k : ℕ) (xs : List X) (x : X) (old new : List Y) → start ≤ k → slice_get xs k ≡ Some x
    → old ≡ map f (from_slot start (numbered 0 (take k xs))) → new ≡ old ++ f (k, x) ∷ [] → new ≡ map f (from_slot start (numbered 0 (take (k + 1) xs)))
reported-next {X = X} {Y = Y} f start k xs x old new most is before more =
    more ∙ ap (λ (ys : List Y). ys ++ f (k, x) ∷ []) before
    ∙ sym (map-append f (from_slot start (numbered 0 (take k xs))) ((k, x) ∷ []))
    ∙ ap (λ (es : List (ℕ × X)). map f es) (sym (from_slot-next start k xs x most is))

-- a report of the list and then of the map
pub reported-whole : {X Y : Type 0} (f : ℕ × X → Y) (start : ℕ) (xs : List X) (es whole : List (ℕ × X)) (out : List Y) → numbered 0 xs ++ es ≡ whole
    → out ≡ map f (from_slot start (numbered 0 xs)) ++ map f (from_slot start es) → out ≡ map f (from_slot start whole)
unfolding from_slot
reported-whole {X = X} f start xs es whole out is out_is =
    out_is ∙ sym (map-append f (from_slot start (numbered 0 xs)) (from_slot start es))
    ∙ ap (λ (zs : List (ℕ × X)). map f zs) (sym (filter-append (λ y. nat_le start y.0) (numbered 0 xs) es))
    ∙ ap (λ (zs : List (ℕ × X)). map f (from_slot start zs)) is
