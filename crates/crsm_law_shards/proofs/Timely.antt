-- Real time by recursion: nothing precedes itself, nor what stands before it.
use Rattle.std.proofs.Common.{◌≡◌, ℕ, zero, suc, List, [], ◌∷◌, arith, refl, subst, sym}
use Rattle.std.specs.Prelude.{Some, slice_get}
use Rattle.std.specs.List.{AllByRecursion}
use Rattle.std.proofs.lemmas.Option.{none-some, same_Some}
use Rattle.crsm_law_shards.specs.Served.{KeepsRealTime, Precedes, Served}

abbrev pub IsTimely : List Served → Type 0
IsTimely [] = Unit {0}
IsTimely (x ∷ xs) = (Precedes x x → ⊥) × AllByRecursion (λ y. Precedes y x → ⊥) xs × IsTimely xs

pub all_got : {A : Type 0} (P : A → Type 0) (xs : List A) → ((i : ℕ) (x : A) → slice_get xs i ≡ Some x → P x) → AllByRecursion P xs
all_got P [] h = tt
all_got P (x ∷ xs) h = (h 0 x refl, all_got P xs (λ i y e. h (suc i) y e))

got : {A : Type 0} (P : A → Type 0) (xs : List A) (i : ℕ) (x : A) → AllByRecursion P xs → slice_get xs i ≡ Some x → P x
got P [] i x h e = absurd (none-some x e)
got P (y ∷ ys) zero x h e = subst P (same_Some y x e) h.0
got P (y ∷ ys) (suc i) x h e = got P ys i x h.1 e

pub timely : (list : List Served) → KeepsRealTime list → IsTimely list
timely [] h = tt
timely (x ∷ xs) h = (
  λ p. absurd (omega (arith, h 0 0 x x refl refl p)),
  all_got (λ y. Precedes y x → ⊥) xs (λ i y e p. absurd (omega (arith, h (suc i) 0 y x e refl p))),
  timely xs (λ i j y z e f p. let lt = h (suc i) (suc j) y z e f p in omega (arith, lt)),
)

pub keeps : (list : List Served) → IsTimely list → KeepsRealTime list
keeps [] h p q x y e f t = absurd (none-some x e)
keeps (z ∷ zs) h zero zero x y e f t = absurd (h.0 (subst (λ w. Precedes w z) (sym (same_Some z x e)) (subst (Precedes x) (sym (same_Some z y f)) t)))
keeps (z ∷ zs) h zero (suc q) x y e f t = omega arith
keeps (z ∷ zs) h (suc p) zero x y e f t = absurd (got (λ w. Precedes w z → ⊥) zs p x h.1 e (subst (Precedes x) (sym (same_Some z y f)) t))
keeps (z ∷ zs) h (suc p) (suc q) x y e f t = let lt = keeps zs h.2 p q x y e f t in omega (arith, lt)
