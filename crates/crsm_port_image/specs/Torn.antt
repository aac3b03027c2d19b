-- The images that a crash may leave, described in one sentence.
use Rattle.std.specs.Prelude.{◌≡◌, ℕ, ◌+◌, ◌<◌, ◌≤◌, min, max, List, [], ◌∷◌, length, slice_index, Bool, false, nat_le, nat_lt, ◌&&◌, ◌||◌}
use Rattle.crsm_port_image.specs.Calls.{Call, wrote, cut, synced, contents}

-- the bytes at the last sync
abbrev pub held : List ℕ → List Call → List ℕ
held first [] = first
held first (wrote at bytes ∷ calls) = held first calls
held first (cut n ∷ calls) = held first calls
held first (synced ∷ calls) = contents first calls

-- whether a write since the last sync covers this offset
abbrev pub is_written : List Call → ℕ → Bool
is_written [] i = false
is_written (wrote at bytes ∷ calls) i = (nat_le at i && nat_lt i (at + length bytes)) || is_written calls i
is_written (cut n ∷ calls) i = is_written calls i
is_written (synced ∷ calls) i = false

-- the bytes at the last sync, up to their end, except where something was written since, and with a length between
-- theirs and the present one
pub record IsTorn (first : List ℕ) (calls : List Call) (image : List ℕ) : Type 0 where
  pub agrees : (i : ℕ) → i < length image → i < length (held first calls) → is_written calls i ≡ false → slice_index image i ≡ slice_index (held first calls) i
  pub no_shorter : min (length (held first calls)) (length (contents first calls)) ≤ length image
  pub no_longer : length image ≤ max (length (held first calls)) (length (contents first calls))
