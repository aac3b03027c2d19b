-- The readings of a clock.
use Rattle.std.specs.Prelude.{◌≡◌, ℕ, List, [], ◌∷◌, Option, IfSome}
use Rattle.std.specs.Option.{option_map}

-- The readings still to come: those of the list in order, and then the latest one again and again.
pub record Readings : Type 0 where
  pub latest : ℕ  -- the reading that was given last, 0 before the first
  pub ahead : List ℕ

-- the first of the readings, or the latest one if there is none
abbrev pub first_or : ℕ → List ℕ → ℕ
first_or latest [] = latest
first_or latest (t ∷ ts) = t

-- all but the first
abbrev pub rest_of : List ℕ → List ℕ
rest_of [] = []
rest_of (t ∷ ts) = ts

-- the next reading
abbrev pub next_reading : Readings → ℕ
next_reading r = first_or r.latest r.ahead

-- the readings after the next one
abbrev pub after_next : Readings → Readings
after_next r = record { latest = next_reading r; ahead = rest_of r.ahead }

-- The clock returns the next reading, where it specifies its readings.
pub record Gives (before after : Option Readings) (reading : ℕ) : Type 0 where
  pub is : IfSome before (λ r. reading ≡ next_reading r)
  pub rest : after ≡ option_map after_next before
