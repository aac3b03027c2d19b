-- Look-ups in lists.
use Rattle.std.proofs.Common.{◌≡◌, ◌<◌, ◌≤◌, ◌+◌, ◌-◌, ℕ, zero, suc, Bool, List, [], ◌∷◌, ◌++◌, length, map, set, get_or, take, take_all, Some, refl, ap, sym, ◌∙◌, subst, arith, length-append}
use Rattle.std.specs.Prelude.{slice_get, filter}
use Rattle.std.proofs.lemmas.List.{take_more}
use Rattle.std.proofs.lemmas.List.Elements.{filter-append}

-- one more element through a filter
pub filter_more : {X : Type 0} (p : X → Bool) (xs : List X) (i : ℕ) (d : X) → i < length xs → filter p (take i xs) ++ filter p (get_or xs i d ∷ []) ≡ filter p (take (i + 1) xs)
filter_more p xs i d l = sym (filter-append p (take i xs) (get_or xs i d ∷ [])) ∙ ap (filter p) (sym (take_more xs i d l))

-- all elements are through where the index is at the end
pub filter_whole : {X : Type 0} (p : X → Bool) (xs ys : List X) (i : ℕ) → ys ≡ xs → length ys ≤ i → filter p (take i xs) ≡ filter p xs
filter_whole {X} p xs ys i e l = ap (filter p) (take_all i xs (subst (λ (zs : List X). length zs ≤ i) e l))

-- the same through a vector that was read by its slice
pub filter_next : (p : ℕ → Bool) (xs ys : List ℕ) (i : ℕ) → ys ≡ xs → i < length ys → filter p (take i xs) ++ filter p (get_or ys i 0 ∷ []) ≡ filter p (take (i + 1) xs)
filter_next p xs ys i e = subst (λ (zs : List ℕ). i < length ys → filter p (take i zs) ++ filter p (get_or ys i 0 ∷ []) ≡ filter p (take (i + 1) zs)) e (λ l. filter_more p ys i 0 l)

-- where one more stands behind them
pub get_before : {A : Type 0} (xs : List A) (x : A) (i : ℕ) → i < length xs → slice_get (xs ++ x ∷ []) i ≡ slice_get xs i
get_before [] x i l = absurd (omega arith)
get_before (a ∷ xs) x zero l = refl
get_before (a ∷ xs) x (suc i) l = get_before xs x i (omega arith)

get_behind : {A : Type 0} (xs : List A) (x : A) → slice_get (xs ++ x ∷ []) (length xs) ≡ Some x
get_behind [] x = refl
get_behind (a ∷ xs) x = get_behind xs x

-- the last one
pub get_last : {A : Type 0} (xs all : List A) (x : A) → all ≡ xs ++ x ∷ [] → slice_get all (length all - 1) ≡ Some x
get_last {A} xs all x e =
    let n : length (xs ++ x ∷ []) - 1 ≡ length xs = omega (arith, length-append xs (x ∷ [])) in
    ap (λ (ys : List A). slice_get ys (length ys - 1)) e ∙ ap (slice_get (xs ++ x ∷ [])) n ∙ get_behind xs x

-- where one is set
pub map_set : {A B : Type 0} (f : A → B) (xs : List A) (i : ℕ) (x : A) → map f (set xs i x) ≡ set (map f xs) i (f x)
map_set f [] i x = refl
map_set f (a ∷ xs) zero x = refl
map_set f (a ∷ xs) (suc i) x = ap (λ ys. f a ∷ ys) (map_set f xs i x)
