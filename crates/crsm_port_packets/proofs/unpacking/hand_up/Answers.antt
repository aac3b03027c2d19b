use Rattle.std.proofs.Common.{drop, refl, arith}
use Rattle.crsm_port_packets.proofs.Unpackings.{cut_and_rest}
use Rattle.crsm_port_packets.proofs.unpacking.hand_up.Goals as goal

pub returns-clause-cut : goal.returns-clause-cut
returns-clause-cut c =
    let len = c.min-len.result in
    (drop len c.args.bytes.now, (refl, cut_and_rest len c.args.bytes.now c.copy_from_slice.new.self (drop len c.args.buf.now) (omega (arith, c.min-len.ensures)) c.copy_from_slice.ensures.after))
