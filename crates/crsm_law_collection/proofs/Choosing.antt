-- Two majorities share a replica.
use Rattle.std.proofs.Common.{◌≡◌, ℕ, suc, ◌+◌, ◌≤◌, Bool, true, false, refl, ◌∙◌, ap, ◌⊎◌, inl, inr, arith, List, [], ◌∷◌, cond}
use Rattle.std.proofs.lemmas.List.Sums.{sum_by-cons}
use Rattle.std.specs.Prelude.{IsTrue, length, count_by}
use Rattle.crsm_spec.specs.Paxos.{majority}

abbrev Both : (p q : ℕ → Bool) → Type 0
Both p q = (k : ℕ) × IsTrue (p k) × IsTrue (q k)

-- how a count goes on
count_more : {A : Type 0} (p : A → Bool) (x : A) (xs : List A) (a : Bool) → p x ≡ a → count_by p (x ∷ xs) ≡ cond a 1 0 + count_by p xs
count_more p x xs a e = sum_by-cons (λ y. cond (p y) 1 0) x xs ∙ ap (λ t. cond t 1 0 + count_by p xs) e

few : (a b m n l : ℕ) → a + b ≤ 1 → m + n ≤ l → (a + m) + (b + n) ≤ suc l
few a b m n l h i = omega arith

meet_step : (p q : ℕ → Bool) (x : ℕ) (xs : List ℕ) (a b : Bool) → p x ≡ a → q x ≡ b → Both p q ⊎ (count_by p xs + count_by q xs ≤ length xs) → Both p q ⊎ (count_by p (x ∷ xs) + count_by q (x ∷ xs) ≤ length (x ∷ xs))
meet_step p q x xs a b e f (inl h) = inl h
meet_step p q x xs true true e f (inr h) = inl (x, e, f)
meet_step p q x xs true false e f (inr h) = inr (rw (count_more p x xs true e, count_more q x xs false f) (few 1 0 _ _ _ (omega arith) h))
meet_step p q x xs false true e f (inr h) = inr (rw (count_more p x xs false e, count_more q x xs true f) (few 0 1 _ _ _ (omega arith) h))
meet_step p q x xs false false e f (inr h) = inr (rw (count_more p x xs false e, count_more q x xs false f) (few 0 0 _ _ _ (omega arith) h))

meet_or : (p q : ℕ → Bool) (xs : List ℕ) → Both p q ⊎ (count_by p xs + count_by q xs ≤ length xs)
meet_or p q [] = inr (omega arith)
meet_or p q (x ∷ xs) = meet_step p q x xs _ _ refl refl (meet_or p q xs)

-- Two majorities of one list share an element.
pub meet : (p q : ℕ → Bool) (xs : List ℕ) → majority (length xs) ≤ count_by p xs → majority (length xs) ≤ count_by q xs → Both p q
meet p q xs h i = go (meet_or p q xs)
  where
    go : Both p q ⊎ (count_by p xs + count_by q xs ≤ length xs) → Both p q
    go (inl b) = b
    go (inr l) = absurd (omega arith)
