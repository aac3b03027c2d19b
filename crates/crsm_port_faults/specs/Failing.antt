-- Calls that fail by their number, and how many further calls succeed.
use Rattle.std.specs.Prelude.{ℕ, ◌-◌, ◌^◌, ◌<◌, min, List, [], ◌∷◌, Option, Some, None, Contains, nat_lt, ◌&&◌, if◌then◌else◌}

-- the number of calls made, and the numbers, from 1, of the calls that fail
pub record Failing : Type 0 where
  pub calls : ℕ
  pub listed : List ℕ

-- the call with this number fails; the number is a u64
abbrev pub IsListed : List ℕ → ℕ → Type 0
IsListed listed number = (number < 2 ^ 64) × Contains listed number

-- the smaller of two bounds, where None is no bound
abbrev pub least : Option ℕ → Option ℕ → Option ℕ
least None b = b
least (Some a) None = Some a
least (Some a) (Some b) = Some (min a b)

-- how many calls after the first `calls` succeed before a listed one; None: all
abbrev pub until_listed : List ℕ → ℕ → Option ℕ
until_listed [] calls = None
until_listed (number ∷ listed) calls =
    if nat_lt calls number && nat_lt number (2 ^ 64) then least (Some (number - calls - 1)) (until_listed listed calls) else until_listed listed calls

abbrev pub good_of : Failing → Option ℕ
good_of f = until_listed f.listed f.calls

-- one call fewer
abbrev pub one_less : Option ℕ → Option ℕ
one_less None = None
one_less (Some n) = Some (n - 1)

-- one more call succeeds
abbrev pub IsNotEnd : Option ℕ → Type 0
IsNotEnd None = Unit {0}
IsNotEnd (Some n) = 0 < n
