use Rattle.std.proofs.Common.{arith}
use Rattle.crsm_base.proofs.bytes.Bytes.append_few.Goals as goal

pub push_reserved-requires : goal.push_reserved-requires
push_reserved-requires c =
    let room = c.loop-byte.invariant.1 in
    let more = c.loop-byte-test.true in
    omega arith
