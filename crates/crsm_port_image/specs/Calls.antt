-- The calls that change a disk, and the bytes after them.
use Rattle.std.specs.Prelude.{ℕ, List, [], ◌∷◌, take, Option, Some, None}
use Rattle.crsm_port_image.specs.Bytes.{overwritten}

-- a call that changes a disk
pub data Call : Type 0 where
  wrote : ℕ → List ℕ → Call
  cut : ℕ → Call
  synced : Call

-- a disk's initial bytes, and the successful calls since, the newest first
pub record History : Type 0 where
  pub first : List ℕ
  pub calls : List Call

-- the bytes after these calls, the newest first
abbrev pub contents : List ℕ → List Call → List ℕ
contents first [] = first
contents first (wrote at bytes ∷ calls) = overwritten (contents first calls) at bytes
contents first (cut n ∷ calls) = take n (contents first calls)
contents first (synced ∷ calls) = contents first calls

-- the history with one more call, where the disk specifies it
abbrev pub noted : Call → Option History → Option History
noted call None = None
noted call (Some h) = Some (record { first = h.first; calls = call ∷ h.calls })
