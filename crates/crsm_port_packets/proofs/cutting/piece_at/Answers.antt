use Rattle.std.proofs.Common.{◌≡◌, ◌-◌, ◌*◌, length, min, drop, arith, length-drop, length-take}
use Rattle.crsm_port_packets.proofs.Cuttings.{piece}
use Rattle.crsm_port_packets.proofs.cutting.piece_at.Goals as goal

pub returns-clause-bytes : goal.returns-clause-bytes
returns-clause-bytes c =
    let bytes = c.args.bytes.now in
    let start = c.min-start.result in
    let len : c.min.result ≡ min 1192 (length bytes - start) = omega (arith, c.min.ensures, length-drop start bytes, length-take (length bytes - start) (drop start bytes)) in
    piece bytes (c.args.index * 1192) start c.min.result c.min-start.ensures len
