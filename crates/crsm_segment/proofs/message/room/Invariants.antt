use Rattle.std.proofs.Common.{◌≡◌, None, replicate}
use Rattle.crsm_segment.proofs.message.room.Given as goal

abbrev pub invariant-loop-k : goal.invariant-loop-k
invariant-loop-k l = l.slots.items ≡ replicate l._k None
