-- The results of readers, and unique decodability.
use Rattle.std.specs.Prelude.{◌≡◌, ℕ, ◌≤◌, List, ◌++◌, length, take, Option, Some, Result, IfOk}
use Rattle.crsm_base.specs.declared.memory.NoMemory.{NoMemory}

-- the first prefix.1 bytes are the encoding of the value prefix.0
abbrev pub IsPrefix : {X : Type 0} → (X → List ℕ → Type 0) → List ℕ → X × ℕ → Type 0
IsPrefix Spelt bytes prefix = (prefix.1 ≤ length bytes) × Spelt prefix.0 (take prefix.1 bytes)

-- no prefix of the bytes is the encoding of a value
abbrev pub HasNoPrefix : {X : Type 0} → (X → List ℕ → Type 0) → List ℕ → Type 0
HasNoPrefix {X = X} Spelt bytes = (x : X) (len : ℕ) → Spelt x (take len bytes) → ⊥

-- where the bytes begin with the encoding of a value that fits, the reader returns this value and the encoding's length
abbrev pub ReadsAgain : {X : Type 0} → (X → List ℕ) → (X → Type 0) → List ℕ → Result (Option (X × ℕ)) NoMemory → Type 0
ReadsAgain {X = X} spell Fits bytes result =
    (x : X) (rest : List ℕ) → Fits x → bytes ≡ spell x ++ rest → IfOk result (λ r. r ≡ Some (x, length (spell x)))

-- each value has one encoding, each encoding one value, and no encoding is a prefix of another
abbrev pub OneSpelling : {X : Type 0} → (X → List ℕ → Type 0) → Type 0
OneSpelling {X = X} Spelt = (a b : X) (s t x y : List ℕ) → Spelt a s → Spelt b t → s ++ x ≡ t ++ y → (a ≡ b) × (s ≡ t) × (x ≡ y)
