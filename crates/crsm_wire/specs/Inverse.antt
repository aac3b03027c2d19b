-- When parsing is the inverse of encoding.
use Rattle.std.specs.Prelude.{◌≡◌, ℕ, ◌<◌, ◌↔◌, List, Option, Some, slice_index}

-- each of the numbers is a byte
abbrev pub AreBytes : List ℕ → Type 0
AreBytes bytes = (i : ℕ) → slice_index bytes i < 256

-- bytes are parsed as a value if and only if they are its encoding
abbrev pub ReadsSpelt : {A : Type 0} → (List ℕ → Option A) → (A → List ℕ → Type 0) → Type 0
ReadsSpelt {A} read Is = (bytes : List ℕ) (x : A) → AreBytes bytes → (read bytes ≡ Some x) ↔ Is x bytes
