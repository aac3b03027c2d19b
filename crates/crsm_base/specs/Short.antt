-- Where a short list of bytes is kept.
use Rattle.std.specs.Prelude.{ℕ, ◌≤◌, List, take}
use Rattle.crsm_base.specs.declared.short.Held.{Held}
use Rattle.crsm_base.specs.declared.short.Held.TheVariants.{Near, Far}

-- the list: the first bytes of the array, or all of the vector
abbrev pub held_bytes : Held → List ℕ
held_bytes (Near len bytes) = take len bytes
held_bytes (Far bytes) = bytes.items

-- the array has room for the list
abbrev pub IsHeld : Held → Type 0
IsHeld (Near len bytes) = len ≤ 24
IsHeld (Far bytes) = Unit {0}
