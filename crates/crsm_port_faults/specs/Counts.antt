-- Counters that never fall.
use Rattle.std.specs.Prelude.{ℕ, ◌+◌, ◌-◌, ◌^◌, ◌≤◌, min}

-- one more, or the greatest u64
abbrev pub raised : ℕ → ℕ
raised count = min (count + 1) (2 ^ 64 - 1)

-- the counter rose, or is at the greatest u64
abbrev pub Rose : ℕ → ℕ → Type 0
Rose before after = raised before ≤ after
