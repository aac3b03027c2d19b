-- Entries that wait for their execution.
use Rattle.std.specs.Prelude.{ℕ, Bool, ◌==◌, min, List, [], ◌∷◌, if◌then◌else◌}
use Rattle.crsm_base.specs.declared.Stamp.{Stamp}
use Rattle.crsm_base.specs.declared.Entry.{Entry}
use Rattle.crsm_base.specs.Order.{stamp_eq}

-- an entry's stamp
abbrev pub stamp_of : Entry → Stamp
stamp_of e = e.stamp

-- whether an entry has this stamp
abbrev pub is_at : Stamp → Entry → Bool
is_at s e = stamp_eq e.stamp s

-- the entries without the first one of this stamp
abbrev pub without_entry : Stamp → List Entry → List Entry
without_entry s [] = []
without_entry s (e ∷ es) = if stamp_eq e.stamp s then es else e ∷ without_entry s es

-- whether an entry is in the i-th of sixteen queues: one for each replica, and the last for any other origin
abbrev pub is_in : ℕ → Entry → Bool
is_in i e = min e.stamp.origin 15 == i
