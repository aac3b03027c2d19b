-- Properties of each element of a list and of those before it.
use Rattle.std.proofs.Common.{◌≡◌, ℕ, zero, suc, ◌<◌, List, [], ◌∷◌, ◌++◌, take, refl, sym, subst, inl, inr, arith, append_assoc}
use Rattle.std.specs.Prelude.{Some, slice_get}
use Rattle.std.proofs.lemmas.List.{append-nil}
use Rattle.std.proofs.lemmas.Option.{none-some, same_Some}
use Rattle.crsm_spec.specs.Lists.{Among}

-- of each of the elements, behind this prefix
abbrev pub Each : {A : Type 0} → (List A → A → Type 0) → List A → List A → Type 0
Each P prefix [] = Unit {0}
Each P prefix (t ∷ ts) = P prefix t × Each P (prefix ++ t ∷ []) ts

pub each_then : {A : Type 0} (P : List A → A → Type 0) (prefix xs ys : List A) → Each P prefix xs → Each P (prefix ++ xs) ys → Each P prefix (xs ++ ys)
each_then P prefix [] ys h g = subst (λ l. Each P l ys) (append-nil prefix) g
each_then P prefix (x ∷ xs) ys h g = (h.0, each_then P (prefix ++ x ∷ []) xs ys h.1 (subst (λ l. Each P l ys) (sym (append_assoc prefix (x ∷ []) xs)) g))

pub each_take : {A : Type 0} (P : List A → A → Type 0) (n : ℕ) (prefix xs : List A) → Each P prefix xs → Each P prefix (take n xs)
each_take P zero prefix xs h = tt
each_take P (suc n) prefix [] h = tt
each_take P (suc n) prefix (x ∷ xs) h = (h.0, each_take P n (prefix ++ x ∷ []) xs h.1)

-- what holds behind a prefix holds behind another, where it does so for each element
pub each_from : {A : Type 0} (P Q : List A → A → Type 0) (prefix other xs : List A) → ((more : List A) (t : A) → Among xs t → P (prefix ++ more) t → Q (other ++ more) t) → Each P prefix xs → Each Q other xs
each_from P Q prefix other [] f h = tt
each_from {A} P Q prefix other (x ∷ xs) f h = (
  subst (λ l. Q l x) (append-nil other) (f [] x (inl refl) (subst (λ l. P l x) (sym (append-nil prefix)) h.0)),
  each_from P Q (prefix ++ x ∷ []) (other ++ x ∷ []) xs
      (λ m t a p. subst (λ l. Q l t) (sym (append_assoc other (x ∷ []) m)) (f (x ∷ m) t (inr a) (subst (λ l. P l t) (append_assoc prefix (x ∷ []) m) p))) h.1,
)

-- what holds of each behind whatever prefix
pub each_all : {A : Type 0} (P : List A → A → Type 0) (prefix xs : List A) → ((l : List A) (t : A) → Among xs t → P l t) → Each P prefix xs
each_all P prefix [] f = tt
each_all P prefix (x ∷ xs) f = (f prefix x (inl refl), each_all P (prefix ++ x ∷ []) xs (λ l t a. f l t (inr a)))

pub each_at : {A : Type 0} (P : List A → A → Type 0) (prefix xs : List A) (j : ℕ) (t : A) → Each P prefix xs → slice_get xs j ≡ Some t → P (prefix ++ take j xs) t
each_at P prefix [] j t h e = absurd (none-some t e)
each_at P prefix (x ∷ xs) zero t h e = subst (λ l. P l t) (sym (append-nil prefix)) (subst (P prefix) (same_Some x t e) h.0)
each_at P prefix (x ∷ xs) (suc j) t h e = subst (λ l. P l t) (append_assoc prefix (x ∷ []) (take j xs)) (each_at P (prefix ++ x ∷ []) xs j t h.1 e)

pub got_before : {A : Type 0} (xs : List A) (i j : ℕ) (u : A) → slice_get xs i ≡ Some u → i < j → Among (take j xs) u
got_before xs i zero u e lt = absurd (omega (arith, lt))
got_before [] i (suc j) u e lt = absurd (none-some u e)
got_before (x ∷ xs) zero (suc j) u e lt = inl (same_Some x u e)
got_before (x ∷ xs) (suc i) (suc j) u e lt = inr (got_before xs i j u e (omega (arith, lt)))

pub among_prefix : {A : Type 0} (n : ℕ) (xs : List A) (a : A) → Among (take n xs) a → Among xs a
among_prefix zero xs a h = absurd h
among_prefix (suc n) [] a h = absurd h
among_prefix (suc n) (x ∷ xs) a (inl e) = inl e
among_prefix (suc n) (x ∷ xs) a (inr h) = inr (among_prefix n xs a h)
