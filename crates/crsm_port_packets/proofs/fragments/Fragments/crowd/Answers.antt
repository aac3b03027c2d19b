use Rattle.std.proofs.Common.{◌<◌, arith, length}
use Rattle.crsm_port_packets.proofs.Crowds.{one_is, one_not, piece_at}
use Rattle.crsm_port_packets.proofs.fragments.Fragments.crowd.Goals as goal
use Rattle.crsm_port_packets.proofs.fragments.Fragments.crowd.Goals.{then-piece-from, else-piece-from}

pub loop-piece-preserved : goal.loop-piece-preserved
loop-piece-preserved c =
    let items = c.deref-piece-items.result.now in
    let i = c.loop-piece.piece-index in
    let p = c.piece-item.result in
    let from = c.args.from in
    let lt : i < length items = omega (arith, c.loop-piece-test.true) in
    let more = piece_at from items i p lt c.piece-item.is in
    let inv = c.loop-piece.invariant in
    elim c.if-piece-from.branch [
      | then-piece-from w ↦ record {
        is = omega (arith, inv.is, more, w.count-is, one_is from p w.if-piece-from.true);
        most = omega (arith, inv.most, w.count-is);
      }
      | else-piece-from w ↦ record {
        is = omega (arith, inv.is, more, w.count-is, one_not from p w.if-piece-from.false);
        most = omega (arith, inv.most, w.count-is);
      }
    ]
