use Rattle.std.proofs.Common.{◌≡◌, ℕ, ◌<◌}
use Rattle.std.specs.Prelude.{slice_get}
use Rattle.crsm_audit.proofs.list.first_difference.Given as goal

-- up to this place they have the same
abbrev pub invariant-loop-place : goal.invariant-loop-place
invariant-loop-place l = (q : ℕ) → q < l.place → slice_get l.one.list q ≡ slice_get l.entries.list q
