-- When a node did something last, by the readings of its turns, in microseconds.
use Rattle.std.specs.Prelude.{◌≡◌, ◌⊎◌, ℕ, ◌<◌, List, Some, slice_get, take}
use Rattle.crsm_spec.specs.Node.{Turn}
use Rattle.crsm_shell.specs.Taking.{heard_in}

-- The last of these turns that is of a kind was taken at this reading. The first turn of all counts as one of each
-- kind, since a node knows nothing of the time before.
pub record IsLast (kind : Turn → Type 0) (turns : List (Turn × ℕ)) (reading : ℕ) : Type 0 where
  pub place : ℕ
  pub turn : Turn
  pub there : slice_get turns place ≡ Some (turn, reading)
  pub of_kind : kind turn ⊎ (place ≡ 0)
  pub none_later : (q : ℕ) (t : Turn × ℕ) → place < q → slice_get turns q ≡ Some t → kind t.0 → ⊥

-- ---- kinds of turns

abbrev pub IsAny : Turn → Type 0
IsAny t = Unit {0}

-- it receives a datagram that names replica k as its sender
abbrev pub HearsFrom : ℕ → Turn → Type 0
HearsFrom k t = heard_in t ≡ Some k

abbrev pub IsTick : Turn → Type 0
IsTick t = t ≡ Turn.Tick

-- ---- readings before a turn

module _ (turns : List (Turn × ℕ)) (place : ℕ) where
  -- at the turn before this place
  abbrev pub IsNow : ℕ → Type 0
  IsNow = IsLast IsAny (take place turns)

  -- when replica k was heard last before this place
  abbrev pub IsLastWordOf : ℕ → ℕ → Type 0
  IsLastWordOf k = IsLast (HearsFrom k) (take place turns)

  abbrev pub IsLastTick : ℕ → Type 0
  IsLastTick = IsLast IsTick (take place turns)
