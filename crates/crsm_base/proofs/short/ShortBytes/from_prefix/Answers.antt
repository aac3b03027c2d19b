use Rattle.std.proofs.Common.{arith}
use Rattle.std.proofs.lemmas.List.{take-take}
use Rattle.crsm_base.proofs.short.ShortBytes.from_prefix.Goals as goal

-- The first `count` of the 24 bytes that are copied are the first `count` of all.
pub returns : goal.returns
returns c = rw c.copy_from_slice.ensures.after (take-take c.args.count 24 c.args.bytes.now (omega arith))
