-- Lemmas on lists.
use Rattle.std.proofs.Common.{◌≡◌, ℕ, zero, suc, List, [], ◌∷◌, ◌++◌, refl, sym, subst, inl, inr, Bool, true, false, cond, take, map}
use Rattle.std.specs.Prelude.{◌⊎◌, IsTrue, filter, ◌&&◌}
use Rattle.crsm_spec.specs.Lists.{Among}

pub among_unmap : {A B : Type 0} (f : A → B) (xs : List A) (b : B) → Among (map f xs) b → (a : A) × Among xs a × (f a ≡ b)
among_unmap f [] b h = absurd h
among_unmap f (x ∷ xs) b (inl e) = (x, inl refl, e)
among_unmap f (x ∷ xs) b (inr h) = let t = among_unmap f xs b h in (t.0, inr t.1, t.2)

pub both : (a b : Bool) → IsTrue a → IsTrue b → IsTrue (a && b)
both true b p q = q
both false b p q = p
