-- The effect of reads and writes on the bytes of a source and a sink, where these specify them.
use Rattle.std.specs.Prelude.{◌≡◌, ℕ, take, Option, Result, Ok, Err, List, [], ◌++◌, IfSome}
use Rattle.std.specs.Option.{option_map}

-- the bytes left before are those taken and those left now, where they are specified
abbrev pub Takes : Option (List ℕ) → Option (List ℕ) → List ℕ → Type 0
Takes before after taken = before ≡ option_map (λ (rest : List ℕ). taken ++ rest) after

-- the bytes written now are those written before and those put, where they are specified
abbrev pub Puts : Option (List ℕ) → Option (List ℕ) → List ℕ → Type 0
Puts before after put = after ≡ option_map (λ (had : List ℕ). had ++ put) before

-- no bytes are left, where they are specified
abbrev pub AtEnd : Option (List ℕ) → Type 0
AtEnd left = IfSome left (λ bytes. bytes ≡ [])

-- the prefix whose length a call returned; nothing if it failed
abbrev pub prefix_of : {E : Type 0} → Result ℕ E → List ℕ → List ℕ
prefix_of (Ok n) bytes = take n bytes
prefix_of (Err e) bytes = []

-- a prefix of the bytes was written
pub record PutsPrefix (before after : Option (List ℕ)) (bytes : List ℕ) : Type 0 where
  pub prefix : List ℕ
  pub rest : List ℕ
  pub cut : bytes ≡ prefix ++ rest
  pub put : Puts before after prefix
