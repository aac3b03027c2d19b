-- Elements of lists, by their places and as a fact by recursion.
use Rattle.std.proofs.Common.{◌≡◌, ℕ, zero, suc, ◌<◌, ◌≤◌, List, [], ◌∷◌, length, ap, subst, inl, inr, arith, get_or, length-append}
use Rattle.std.specs.Prelude.{Some, slice_get}
use Rattle.std.specs.List.{Contains}
use Rattle.crsm_spec.specs.Lists.{Among, IsPrefixOf}
use Rattle.crsm_fact_log.proofs.Lists.{get_left}

at_place : {A : Type 0} (xs : List A) (x : A) (i : ℕ) → i < length xs → get_or xs i x ≡ x → Among xs x
at_place [] x i lt e = absurd (omega (arith, lt))
at_place (y ∷ ys) x zero lt e = inl e
at_place (y ∷ ys) x (suc i) lt e = inr (at_place ys x i (omega (arith, lt)) e)

pub among_contains : {A : Type 0} (xs : List A) (x : A) → Contains xs x → Among xs x
among_contains xs x c = at_place xs x c.0 c.1 c.2

pub among_place : {A : Type 0} (xs : List A) (x : A) → Among xs x → (i : ℕ) × (slice_get xs i ≡ Some x)
among_place [] x a = absurd a
among_place (y ∷ ys) x (inl e) = (0, ap Some e)
among_place (y ∷ ys) x (inr a) = let t = among_place ys x a in (suc t.0, t.1)

pub prefix_length : {A : Type 0} (xs ys : List A) → IsPrefixOf xs ys → length xs ≤ length ys
prefix_length xs ys p = let a = length-append xs p.0 in let b = ap length p.1 in omega (arith, a, b)

pub prefix_get : {A : Type 0} (xs ys : List A) → IsPrefixOf xs ys → (i : ℕ) (x : A) → slice_get xs i ≡ Some x → slice_get ys i ≡ Some x
prefix_get xs ys p i x q = subst (λ l. slice_get l i ≡ Some x) p.1 (get_left xs p.0 i x q)
