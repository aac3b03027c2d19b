-- Lists: properties of all elements, membership, elements at an index, and one element more.
use Rattle.std.proofs.Common.{◌≡◌, ℕ, zero, suc, ◌+◌, ◌-◌, ◌<◌, ◌≤◌, Bool, true, false, refl, sym, ◌∙◌, subst, ap, ◌⊎◌, inl, inr, arith, List, [], ◌∷◌, ◌++◌, length, take, drop, get_or, set, cond}
use Rattle.std.specs.Prelude.{IsTrue, ◌==◌, Option, Some, map, filter, flat_map, slice_get, if◌then◌else◌}
use Rattle.std.specs.List.{AllByRecursion, list_all, list_any, last_or}
use Rattle.std.specs.Option.{option_map}
use Rattle.std.proofs.lemmas.Bool.{eqb-true, and_parts, or_cases, eq-eqb, false≢true, or_left, or_right}
use Rattle.std.proofs.lemmas.Option.{same_Some, none-some}
use Rattle.crsm_spec.specs.Lists.{Among, has, first_of, last_of}

-- ---- what holds of each

pub all_at : {A : Type 0} (P : A → Type 0) (xs : List A) (x : A) → AllByRecursion P xs → Among xs x → P x
all_at P [] x h m = absurd m
all_at P (y ∷ ys) x h (inl e) = subst P e h.0
all_at P (y ∷ ys) x h (inr m) = all_at P ys x h.1 m

pub all_from : {A : Type 0} (P : A → Type 0) (xs : List A) → ((x : A) → Among xs x → P x) → AllByRecursion P xs
all_from P [] h = tt
all_from P (y ∷ ys) h = (h y (inl refl), all_from P ys (λ x m. h x (inr m)))

pub list_all_at : {A : Type 0} (p : A → Bool) (xs : List A) (x : A) → IsTrue (list_all p xs) → Among xs x → IsTrue (p x)
list_all_at p [] x h m = absurd m
list_all_at p (y ∷ ys) x h (inl e) = subst (λ z. IsTrue (p z)) e (and_parts (p y) (list_all p ys) h).0
list_all_at p (y ∷ ys) x h (inr m) = list_all_at p ys x (and_parts (p y) (list_all p ys) h).1 m

pub all_got : {X : Type 0} (P : X → Type 0) (xs : List X) (j : ℕ) (d : X) → AllByRecursion P xs → j < length xs → P (get_or xs j d)
all_got P [] j d all within = absurd (omega arith)
all_got P (x ∷ xs) zero d all within = all.0
all_got P (x ∷ xs) (suc j) d all within = all_got P xs j d all.1 (omega arith)

pub all_more : {X : Type 0} (P Q : X → Type 0) → ((x : X) → P x → Q x) → (xs : List X) → AllByRecursion P xs → AllByRecursion Q xs
all_more P Q more [] all = tt
all_more P Q more (x ∷ xs) all = (more x all.0, all_more P Q more xs all.1)

pub all-push : {X : Type 0} (P : X → Type 0) (xs : List X) (x : X) → AllByRecursion P xs → P x → AllByRecursion P (xs ++ x ∷ [])
all-push P [] x all here = (here, tt)
all-push P (y ∷ xs) x all here = (all.0, all-push P xs x all.1 here)

pub all-append : {X : Type 0} (P : X → Type 0) (xs ys : List X) → AllByRecursion P xs → AllByRecursion P ys → AllByRecursion P (xs ++ ys)
all-append P [] ys all more = more
all-append P (x ∷ xs) ys all more = (all.0, all-append P xs ys all.1 more)

pub all-drop : {X : Type 0} (P : X → Type 0) (xs : List X) (k : ℕ) → AllByRecursion P xs → AllByRecursion P (drop k xs)
all-drop P xs zero all = all
all-drop P [] (suc k) all = tt
all-drop P (x ∷ xs) (suc k) all = all-drop P xs k all.1

pub all-take : {X : Type 0} (P : X → Type 0) (xs : List X) (k : ℕ) → AllByRecursion P xs → AllByRecursion P (take k xs)
all-take P xs zero all = tt
all-take P [] (suc k) all = tt
all-take P (x ∷ xs) (suc k) all = (all.0, all-take P xs k all.1)

-- ---- what is among them

pub among_left : {A : Type 0} (xs ys : List A) (x : A) → Among xs x → Among (xs ++ ys) x
among_left [] ys x m = absurd m
among_left (y ∷ xs) ys x (inl e) = inl e
among_left (y ∷ xs) ys x (inr m) = inr (among_left xs ys x m)

pub among_right : {A : Type 0} (xs ys : List A) (x : A) → Among ys x → Among (xs ++ ys) x
among_right [] ys x m = m
among_right (y ∷ xs) ys x m = inr (among_right xs ys x m)

pub among_either : {A : Type 0} (xs ys : List A) (x : A) → Among (xs ++ ys) x → Among xs x ⊎ Among ys x
among_either [] ys x m = inr m
among_either (y ∷ xs) ys x (inl e) = inl (inl e)
among_either (y ∷ xs) ys x (inr m) = go (among_either xs ys x m)
  where
    go : Among xs x ⊎ Among ys x → Among (y ∷ xs) x ⊎ Among ys x
    go (inl n) = inl (inr n)
    go (inr n) = inr n

pub kept_from : {A : Type 0} (p : A → Bool) (xs : List A) (x : A) → Among (filter p xs) x → Among xs x × IsTrue (p x)
kept_from p [] x m = absurd m
kept_from p (y ∷ ys) x m = go (p y) refl m (kept_from p ys x)
  where
    go : (c : Bool) → p y ≡ c → Among (cond c (y ∷ filter p ys) (filter p ys)) x → (Among (filter p ys) x → Among ys x × IsTrue (p x)) → Among (y ∷ ys) x × IsTrue (p x)
    go true e (inl f) r = (inl f, subst (λ z. IsTrue (p z)) f e)
    go true e (inr n) r = (inr (r n).0, (r n).1)
    go false e n r = (inr (r n).0, (r n).1)

pub kept_in : {A : Type 0} (p : A → Bool) (xs : List A) (x : A) → Among xs x → IsTrue (p x) → Among (filter p xs) x
kept_in p [] x m t = absurd m
kept_in p (y ∷ ys) x m t = go (p y) refl m (λ n. kept_in p ys x n t)
  where
    go : (c : Bool) → p y ≡ c → Among (y ∷ ys) x → (Among ys x → Among (filter p ys) x) → Among (cond c (y ∷ filter p ys) (filter p ys)) x
    go true e (inl f) r = inl f
    go true e (inr n) r = inr (r n)
    go false e (inl f) r = absurd (cc (sym e ∙ subst (λ z. IsTrue (p z)) (sym f) t))
    go false e (inr n) r = r n

-- a part of a list
pub among_take : {A : Type 0} (n : ℕ) (xs : List A) (a : A) → Among (take n xs) a → Among xs a
among_take zero xs a h = absurd h
among_take (suc n) [] a h = absurd h
among_take (suc n) (x ∷ xs) a (inl e) = inl e
among_take (suc n) (x ∷ xs) a (inr h) = inr (among_take n xs a h)

pub flat_from : {A B : Type 0} (f : A → List B) (xs : List A) (z : B) → Among (flat_map f xs) z → (x : A) × Among xs x × Among (f x) z
flat_from f [] z m = absurd m
flat_from f (x ∷ xs) z m = go (among_either (f x) (flat_map f xs) z m) (flat_from f xs z)
  where
    go : Among (f x) z ⊎ Among (flat_map f xs) z → (Among (flat_map f xs) z → (y : _) × Among xs y × Among (f y) z) → (y : _) × Among (x ∷ xs) y × Among (f y) z
    go (inl n) r = (x, inl refl, n)
    go (inr n) r = let s = r n in (s.0, inr s.1, s.2)

pub flat_in : {A B : Type 0} (f : A → List B) (xs : List A) (x : A) (z : B) → Among xs x → Among (f x) z → Among (flat_map f xs) z
flat_in f [] x z m n = absurd m
flat_in f (y ∷ xs) x z (inl e) n = among_left (f y) (flat_map f xs) z (subst (λ w. Among (f w) z) (sym e) n)
flat_in f (y ∷ xs) x z (inr m) n = among_right (f y) (flat_map f xs) z (flat_in f xs x z m n)

pub has_from : (ks : List ℕ) (k : ℕ) → IsTrue (has ks k) → Among ks k
unfolding has
has_from [] k h = absurd (false≢true h)
has_from (j ∷ ks) k h = elim (or_cases (j == k) (list_any (λ i. i == k) ks) h) [ inl t ↦ inl (eqb-true j k t) | inr t ↦ inr (has_from ks k t) ]

pub has_in : (ks : List ℕ) (k : ℕ) → Among ks k → IsTrue (has ks k)
unfolding has
has_in [] k m = absurd m
has_in (j ∷ ks) k (inl e) = or_left (j == k) _ (eq-eqb j k e)
has_in (j ∷ ks) k (inr m) = or_right (j == k) _ (has_in ks k m)

-- ---- places

pub get_left : {A : Type 0} (xs ys : List A) (i : ℕ) (x : A) → slice_get xs i ≡ Some x → slice_get (xs ++ ys) i ≡ Some x
get_left [] ys i x e = absurd (grind arith)
get_left (z ∷ xs) ys zero x e = e
get_left (z ∷ xs) ys (suc i) x e = get_left xs ys i x e

pub get_inside : {A : Type 0} (xs : List A) (i : ℕ) (x : A) → slice_get xs i ≡ Some x → i < length xs
get_inside [] i x e = absurd (none-some x e)
get_inside (y ∷ ys) zero x e = omega arith
get_inside (y ∷ ys) (suc i) x e = let r = get_inside ys i x e in omega arith

pub get_some : {A : Type 0} (xs : List A) (i : ℕ) → i < length xs → (x : A) × (slice_get xs i ≡ Some x)
get_some [] i l = absurd (omega (arith, l))
get_some (y ∷ ys) zero l = (y, refl)
get_some (y ∷ ys) (suc i) l = get_some ys i (omega (arith, l))

pub first_among : {A : Type 0} (xs : List A) (x : A) → first_of xs ≡ Some x → Among xs x
unfolding first_of
first_among [] x h = absurd (none-some x h)
first_among (y ∷ ys) x h = inl (same_Some y x h)

pub last_among : {A : Type 0} (xs : List A) (x : A) → last_of xs ≡ Some x → Among xs x
unfolding last_of
last_among [] x h = absurd (none-some x h)
last_among (y ∷ []) x h = inl (same_Some y x h)
last_among (y ∷ z ∷ zs) x h = inr (last_among (z ∷ zs) x h)

-- ---- reads of a longer or a changed list

pub get_or-grown : {X : Type 0} (xs ys : List X) (i : ℕ) (d : X) → i < length xs → get_or (xs ++ ys) i d ≡ get_or xs i d
get_or-grown [] ys i d within = absurd (omega arith)
get_or-grown (x ∷ xs) ys zero d within = refl
get_or-grown (x ∷ xs) ys (suc i) d within = get_or-grown xs ys i d (omega arith)

pub get_or-set : {X : Type 0} (xs : List X) (i : ℕ) (y d : X) → i < length xs → get_or (set xs i y) i d ≡ y
get_or-set [] i y d within = absurd (omega arith)
get_or-set (x ∷ xs) zero y d within = refl
get_or-set (x ∷ xs) (suc i) y d within = get_or-set xs i y d (omega arith)

-- a changed list at an index is the old one there, or the new item at its index
pub at_set : {X : Type 0} (P : X → Type 0) (xs : List X) (i j : ℕ) (y d : X) → i < length xs → j < length xs → (j ≡ i → P y) → P (get_or xs j d) → P (get_or (set xs i y) j d)
at_set P [] i j y d iw jw here other = absurd (omega arith)
at_set P (x ∷ xs) zero zero y d iw jw here other = here refl
at_set P (x ∷ xs) zero (suc j) y d iw jw here other = other
at_set P (x ∷ xs) (suc i) zero y d iw jw here other = other
at_set P (x ∷ xs) (suc i) (suc j) y d iw jw here other = at_set P xs i j y d (omega arith) (omega arith) (λ e. here (ap (λ k. suc k) e)) other

pub length-set : {X : Type 0} (xs : List X) (i : ℕ) (y : X) → length (set xs i y) ≡ length xs
length-set [] i y = refl
length-set (x ∷ xs) zero y = refl
length-set (x ∷ xs) (suc i) y = ap (λ k. suc k) (length-set xs i y)

pub take-grown : {X : Type 0} (xs ys : List X) (k : ℕ) → k ≤ length xs → take k (xs ++ ys) ≡ take k xs
take-grown xs ys zero within = refl
take-grown [] ys (suc k) within = absurd (omega arith)
take-grown (x ∷ xs) ys (suc k) within = ap (λ rest. x ∷ rest) (take-grown xs ys k (omega arith))

pub range-grown : {X : Type 0} (xs ys : List X) (a b : ℕ) → a ≤ b → b ≤ length xs → take (b - a) (drop a (xs ++ ys)) ≡ take (b - a) (drop a xs)
range-grown xs ys zero b order within = let same : b - 0 ≡ b = omega arith in rw same (take-grown xs ys b within)
range-grown [] ys (suc a) b order within = absurd (omega arith)
range-grown (x ∷ xs) ys (suc a) zero order within = absurd (omega arith)
range-grown (x ∷ xs) ys (suc a) (suc b) order within =
    let less : suc b - suc a ≡ b - a = omega arith in
    rw less (range-grown xs ys a b (omega arith) (omega arith))

pub take-all : {X : Type 0} (ys : List X) (n : ℕ) → n ≡ length ys → take n ys ≡ ys
take-all [] zero is = refl
take-all [] (suc n) is = refl
take-all (y ∷ ys) zero is = absurd (omega arith)
take-all (y ∷ ys) (suc n) is = ap (λ rest. y ∷ rest) (take-all ys n (omega arith))

pub range-end : {X : Type 0} (xs ys : List X) → take (length xs + length ys - length xs) (drop (length xs) (xs ++ ys)) ≡ ys
range-end [] ys = take-all ys (zero + length ys - zero) (omega arith)
range-end (x ∷ xs) ys =
    let less : suc (length xs) + length ys - suc (length xs) ≡ length xs + length ys - length xs = omega arith in
    ap (λ k. take k (drop (length xs) (xs ++ ys))) less ∙ range-end xs ys

pub take-rest : {X : Type 0} (xs : List X) (k : ℕ) → k ≤ length xs → take (length xs - k) (drop k xs) ≡ drop k xs
take-rest [] zero bound = take-all [] (zero - zero) (omega arith)
take-rest [] (suc k) bound = absurd (omega arith)
take-rest (x ∷ xs) zero bound = take-all (x ∷ xs) (length (x ∷ xs) - zero) (omega arith)
take-rest (x ∷ xs) (suc k) bound =
    let less : suc (length xs) - suc k ≡ length xs - k = omega arith in rw less (take-rest xs k (omega arith))

-- ---- one item more

pub map-push : {X Y : Type 0} (f : X → Y) (xs : List X) (x : X) → map f (xs ++ x ∷ []) ≡ map f xs ++ f x ∷ []
map-push f [] x = refl
map-push f (y ∷ xs) x = ap (λ rest. f y ∷ rest) (map-push f xs x)

pub slice_get-map : {X Y : Type 0} (f : X → Y) (xs : List X) (i : ℕ) → slice_get (map f xs) i ≡ option_map f (slice_get xs i)
slice_get-map f [] i = refl
slice_get-map f (x ∷ xs) zero = refl
slice_get-map f (x ∷ xs) (suc i) = slice_get-map f xs i

pub length-map : {X Y : Type 0} (f : X → Y) (xs : List X) → length (map f xs) ≡ length xs
length-map f [] = refl
length-map f (x ∷ xs) = ap (λ k. suc k) (length-map f xs)

pub last_or-push : {X : Type 0} (o : Option X) (xs : List X) (x : X) → last_or o (xs ++ x ∷ []) ≡ Some x
last_or-push o [] x = refl
last_or-push o (y ∷ xs) x = last_or-push (Some y) xs x

pub append-none : {X : Type 0} (xs : List X) → xs ++ [] ≡ xs
append-none [] = refl
append-none (x ∷ xs) = ap (λ rest. x ∷ rest) (append-none xs)

filter_by_test : {X : Type 0} (b : Bool) (y : X) (kept : List X) (rest : List X) → (if b then y ∷ (kept ++ rest) else kept ++ rest) ≡ (if b then y ∷ kept else kept) ++ rest
filter_by_test true y kept rest = refl
filter_by_test false y kept rest = refl

pub filter-push : {X : Type 0} (p : X → Bool) (xs : List X) (x : X) → filter p (xs ++ x ∷ []) ≡ filter p xs ++ (if p x then x ∷ [] else [])
filter-push p [] x = refl
filter-push p (y ∷ xs) x =
    ap (λ rest. if p y then y ∷ rest else rest) (filter-push p xs x) ∙ filter_by_test (p y) y (filter p xs) (if p x then x ∷ [] else [])

-- a list is its prefix and its rest
pub halves : {X : Type 0} (xs : List X) (k : ℕ) → xs ≡ take k xs ++ drop k xs
halves xs zero = refl
halves [] (suc k) = refl
halves (x ∷ xs) (suc k) = ap (λ rest. x ∷ rest) (halves xs k)

item_suc : {X : Type 0} (xs : List X) (i : ℕ) (x : X) → i < length xs → take (suc i) xs ≡ take i xs ++ x ∷ [] → slice_get xs i ≡ Some x
item_suc [] i x within more = absurd (omega arith)
item_suc (y ∷ xs) zero x within more = cc
item_suc (y ∷ xs) (suc i) x within more =
    let rest : take (suc i) xs ≡ take i xs ++ x ∷ [] = cc in item_suc xs i x (omega arith) rest

-- the item by which the prefix grows
pub item_at : {X : Type 0} (xs : List X) (i : ℕ) (x : X) → i < length xs → take (i + 1) xs ≡ take i xs ++ x ∷ [] → slice_get xs i ≡ Some x
item_at xs i x within more = item_suc xs i x within (let next : i + 1 ≡ suc i = omega arith in rw next at more)
