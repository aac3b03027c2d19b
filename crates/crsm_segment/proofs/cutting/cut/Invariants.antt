use Rattle.std.proofs.Common.{◌≡◌, map}
use Rattle.std.specs.List.{range_with_len}
use Rattle.crsm_segment.proofs.Pieces.{sent}
use Rattle.crsm_segment.proofs.cutting.cut.Given as goal

abbrev pub invariant-loop-index : goal.invariant-loop-index
invariant-loop-index l = l.sends ≡ map (sent l.from l.to l.boot l.number l.bytes) (range_with_len 0 l.index)
