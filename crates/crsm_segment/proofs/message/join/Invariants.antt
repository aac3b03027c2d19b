use Rattle.std.proofs.Common.{◌≡◌, take}
use Rattle.crsm_segment.specs.Gathering.{all_bytes}
use Rattle.crsm_segment.proofs.message.join.Given as goal

abbrev pub invariant-loop-slot : goal.invariant-loop-slot
invariant-loop-slot l = l.whole ≡ all_bytes (take l.slot-index l.slots)
