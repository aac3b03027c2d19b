-- When a node has nothing to do but to tell its time.
use Rattle.std.specs.Prelude.{◌≡◌, ◌⊎◌, ℕ, List, ◌∷◌, Some, true, slice_get}
use Rattle.crsm_wire.specs.Marks.{behind_any_mark}
use Rattle.crsm_port_flow.specs.Went.{IsRecent}
use Rattle.crsm_port_flow.specs.declared.quiet.Quiet.{Quiet}

-- the bytes are a frame (1) whose payload is a time alone (3), behind the 18 bytes of its other fields
abbrev pub IsTime : List ℕ → Type 0
IsTime bytes = (fields : List ℕ) × (behind_any_mark bytes ≡ 1 ∷ fields) × (slice_get fields 18 ≡ Some 3)

-- the bytes tell a time or acknowledge frames (2), and nothing else
abbrev pub TellsTime : List ℕ → Type 0
TellsTime bytes = ((fields : List ℕ) × (behind_any_mark bytes ≡ 2 ∷ fields)) ⊎ IsTime bytes

-- nothing but times and acknowledgements came or went for 50 milliseconds
abbrev pub IsIdle : ℕ → Quiet → Type 0
IsIdle now q = (at : ℕ) → q.busy_at ≡ Some at → IsRecent at now 50_000 → ⊥

-- a peer was heard since the last flush, and that was 7 milliseconds ago
abbrev pub IsDue : ℕ → Quiet → Type 0
IsDue now q = (q.has_heard ≡ true) × (IsRecent q.flushed_at now 7_000 → ⊥)
