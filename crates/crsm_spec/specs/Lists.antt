-- Functions on lists that std lacks.
use Rattle.std.specs.Prelude.{◌⊎◌, ◌≡◌, ℕ, List, [], ◌∷◌, ◌++◌, Option, None, Some, max}
use Rattle.std.specs.List.{last_or}
unfoldable pub use Rattle.crsm_base.specs.Replicas.{has, numbers_below}

-- the last element
unfoldable pub last_of : {A : Type 0} → List A → Option A
last_of xs = last_or None xs

-- the first element
unfoldable pub first_of : {A : Type 0} → List A → Option A
first_of [] = None
first_of (x ∷ xs) = Some x

-- the greatest of the numbers, 0 if there are none
unfoldable pub greatest : List ℕ → ℕ
greatest [] = 0
greatest (x ∷ xs) = max x (greatest xs)

-- xs is a prefix of ys
abbrev pub IsPrefixOf : {A : Type 0} → List A → List A → Type 0
IsPrefixOf {A} xs ys = (rest : List A) × (xs ++ rest ≡ ys)

-- x is an element, as a fact by recursion
abbrev pub Among : {A : Type 0} → List A → A → Type 0
Among [] x = ⊥
Among (y ∷ ys) x = (y ≡ x) ⊎ Among ys x
