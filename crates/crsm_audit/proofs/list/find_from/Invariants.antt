use Rattle.std.proofs.Common.{ℕ, ◌<◌, ◌≤◌}
use Rattle.std.specs.Prelude.{◌≢◌, Some, slice_get}
use Rattle.crsm_audit.proofs.list.find_from.Given as goal

-- none from the first one up to this place has the bytes
abbrev pub invariant-loop-place : goal.invariant-loop-place
invariant-loop-place l = (p : ℕ) → l.from ≤ p → p < l.place → slice_get l.entries.held p ≢ Some l.bytes
