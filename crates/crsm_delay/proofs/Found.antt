-- The first element of a list that passes a test.
use Rattle.std.proofs.Common.{ℕ, List, Bool}
use Rattle.std.specs.Prelude.{find}
use Rattle.std.specs.Option.{option_map_or}

-- the value of the first that passes, 0 of none
abbrev pub value_in : {A : Type 0} → (A → Bool) → (A → ℕ) → List A → ℕ
value_in p v xs = option_map_or v (find p xs) 0
