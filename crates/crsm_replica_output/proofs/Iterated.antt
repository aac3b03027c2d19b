-- The rest of an iterator over a list by value.
use Rattle.std.proofs.Common.{◌≡◌, [], ◌∷◌, ◌++◌, List, length, refl, append_assoc, arith}

pub nothing_left : {X : Type 0} (xs : List X) → length xs ≡ 0 → xs ≡ []
nothing_left [] h = refl
nothing_left (x ∷ xs) h = absurd (omega arith)

-- one more is taken from what is left, and put behind what there is
pub one_more : {X : Type 0} (made : List X) (x : X) (left : List X) → (made ++ x ∷ []) ++ left ≡ made ++ x ∷ left
one_more made x left = append_assoc made (x ∷ []) left
