use Rattle.std.proofs.Common.{◌≡◌, length, take}
use Rattle.crsm_text_fields.proofs.members.widened.Given as goal

abbrev pub invariant-loop-place : goal.invariant-loop-place
invariant-loop-place l = (length l.numbers ≡ 15) × (take l.place l.numbers ≡ take l.place l.cells)
