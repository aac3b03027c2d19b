-- The list of stamps with a pending acknowledgement.
use Rattle.std.specs.Prelude.{◌≡◌, ℕ, false, nat_lt, List, [], ◌∷◌, Option, None, Some, if◌then◌else◌}
use Rattle.std.specs.List.{AllByRecursion}
use Rattle.crsm_base.specs.declared.Stamp.{Stamp}
use Rattle.crsm_base.specs.Order.{stamp_lt, stamp_eq}

-- No stamp is above a later one.
abbrev pub IsAscending : List Stamp → Type 0
IsAscending [] = Unit {0}
IsAscending (s ∷ ss) = AllByRecursion (λ t. stamp_lt t s ≡ false) ss × IsAscending ss

-- the stamp, where the time that would be issued exceeds its time
abbrev pub exceeded : Option ℕ → Stamp → Option Stamp
exceeded None s = None
exceeded (Some t) s = if nat_lt s.time t then Some s else None

-- the least of ascending stamps, where the time that would be issued exceeds its time
abbrev pub due_of : List Stamp → Option ℕ → Option Stamp
due_of [] time = None
due_of (s ∷ ss) time = exceeded time s

-- the stamps without the first one that is equal to s
abbrev pub without : Stamp → List Stamp → List Stamp
without s [] = []
without s (t ∷ ts) = if stamp_eq t s then ts else t ∷ without s ts
