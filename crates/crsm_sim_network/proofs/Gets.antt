-- Look-ups in lists.
use Rattle.std.proofs.Common.{◌≡◌, ◌<◌, ◌≤◌, ◌+◌, ◌-◌, ℕ, zero, suc, arith, refl, drop, Bool, true, false, ltb, List, [], ◌∷◌, ◌++◌, length, get_or, take, take_all, Some, None, ap, sym, ◌∙◌, subst}
use Rattle.std.specs.Prelude.{slice_get, filter}
use Rattle.std.proofs.lemmas.List.{take_more}
use Rattle.std.proofs.lemmas.Option.{slice_get_past, slice_get-get_or}
use Rattle.std.proofs.lemmas.List.Elements.{filter-append}
use Rattle.std.proofs.lemmas.Bool.{ltb-true, ltb-false}

pub got : {X : Type 0} (xs : List X) (i : ℕ) (x : X) → true ≡ ltb i (length xs) → x ≡ get_or xs i x → slice_get xs i ≡ Some x
got xs i x b e = slice_get-get_or xs i x (ltb-true i (length xs) (sym b)) ∙ ap Some (sym e)

pub not_got : {X : Type 0} (xs : List X) (i : ℕ) → false ≡ ltb i (length xs) → slice_get xs i ≡ None
not_got xs i b = slice_get_past xs i (ltb-false i (length xs) (sym b))

-- one more element through a filter
pub filter_more : {X : Type 0} (p : X → Bool) (xs : List X) (i : ℕ) (d : X) → i < length xs → filter p (take i xs) ++ filter p (get_or xs i d ∷ []) ≡ filter p (take (i + 1) xs)
filter_more p xs i d l = sym (filter-append p (take i xs) (get_or xs i d ∷ [])) ∙ ap (filter p) (sym (take_more xs i d l))

-- all elements are through where the index is at the end
pub filter_whole : {X : Type 0} (p : X → Bool) (xs ys : List X) (i : ℕ) → ys ≡ xs → length ys ≤ i → filter p (take i xs) ≡ filter p xs
filter_whole {X} p xs ys i e l = ap (filter p) (take_all i xs (subst (λ (zs : List X). length zs ≤ i) e l))

-- the same through a vector that was read by its slice
pub filter_next : (p : ℕ → Bool) (xs ys : List ℕ) (i : ℕ) → ys ≡ xs → i < length ys → filter p (take i xs) ++ filter p (get_or ys i 0 ∷ []) ≡ filter p (take (i + 1) xs)
filter_next p xs ys i e = subst (λ (zs : List ℕ). i < length ys → filter p (take i zs) ++ filter p (get_or ys i 0 ∷ []) ≡ filter p (take (i + 1) zs)) e (λ l. filter_more p ys i 0 l)

-- ---- parts of a list

take_grown : {X : Type 0} (xs ys : List X) (k : ℕ) → k ≤ length xs → take k (xs ++ ys) ≡ take k xs
take_grown xs ys zero within = refl
take_grown [] ys (suc k) within = absurd (omega arith)
take_grown (x ∷ xs) ys (suc k) within = ap (λ rest. x ∷ rest) (take_grown xs ys k (omega arith))

-- what stands in a list stays there where it grows
pub range_grown : {X : Type 0} (xs ys : List X) (a b : ℕ) → a ≤ b → b ≤ length xs → take (b - a) (drop a (xs ++ ys)) ≡ take (b - a) (drop a xs)
range_grown xs ys zero b order within = let same : b - 0 ≡ b = omega arith in rw same (take_grown xs ys b within)
range_grown [] ys (suc a) b order within = absurd (omega arith)
range_grown (x ∷ xs) ys (suc a) zero order within = absurd (omega arith)
range_grown (x ∷ xs) ys (suc a) (suc b) order within =
    let less : suc b - suc a ≡ b - a = omega arith in
    rw less (range_grown xs ys a b (omega arith) (omega arith))

-- the end of a list that grew
pub range_end : {X : Type 0} (xs ys : List X) → take (length xs + length ys - length xs) (drop (length xs) (xs ++ ys)) ≡ ys
range_end [] ys = take_all (zero + length ys - zero) ys (omega arith)
range_end (x ∷ xs) ys =
    let less : suc (length xs) + length ys - suc (length xs) ≡ length xs + length ys - length xs = omega arith in
    ap (λ k. take k (drop (length xs) (xs ++ ys))) less ∙ range_end xs ys

pub drop_seam : {X : Type 0} (xs ys : List X) → drop (length xs) (xs ++ ys) ≡ ys
drop_seam [] ys = refl
drop_seam (x ∷ xs) ys = drop_seam xs ys
