-- The images that a crash may leave of a disk after its calls.
use Rattle.std.specs.Prelude.{◌≡◌, ◌⊎◌, ℕ, ◌+◌, ◌-◌, ◌≤◌, List, [], ◌∷◌, ◌++◌, length, take, drop, replicate, min}
use Rattle.crsm_port_image.specs.Bytes.{Torn, Shortened}
use Rattle.crsm_port_image.specs.Calls.{Call, wrote, cut, synced, contents}

-- An image: synced bytes outside the ranges written since the last sync are unchanged, those ranges and the part past
-- the old end may have any bytes, and the length is between the old and the new one.
abbrev pub IsImage : List ℕ → List Call → List ℕ → Type 0
IsImage first [] image = image ≡ first
IsImage first (wrote at bytes ∷ calls) image = (d : List ℕ) × IsImage first calls d × Torn at (length bytes) d image
IsImage first (cut n ∷ calls) image = (d : List ℕ) × IsImage first calls d × Shortened n d image
IsImage first (synced ∷ calls) image = image ≡ contents first calls

-- an image at some moment since the first t calls
abbrev pub IsLeftSince : List ℕ → List Call → ℕ → List ℕ → Type 0
IsLeftSince first [] t image = IsImage first [] image
IsLeftSince first (call ∷ calls) t image = IsImage first (call ∷ calls) image ⊎ ((t ≤ length calls) × IsLeftSince first calls t image)

-- the bytes with the fill in a range, up to their end
abbrev pub ranged : ℕ → ℕ → ℕ → List ℕ → List ℕ
ranged at n fill bytes =
    let from = min at (length bytes) in
    let to = from + min n (length bytes - from) in take from bytes ++ replicate (to - from) fill ++ drop to bytes

-- the bytes with the fill in the ranges written since the last sync
abbrev pub painted : List Call → ℕ → List ℕ → List ℕ
painted [] fill bytes = bytes
painted (wrote at piece ∷ calls) fill bytes = ranged at (length piece) fill (painted calls fill bytes)
painted (cut n ∷ calls) fill bytes = painted calls fill bytes
painted (synced ∷ calls) fill bytes = bytes

-- the bytes of the new disk after a stop
abbrev pub image_of : List ℕ → List Call → ℕ → List ℕ
image_of first calls fill = painted calls fill (contents first calls)
