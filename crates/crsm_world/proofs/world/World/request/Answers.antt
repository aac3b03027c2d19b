use Rattle.std.proofs.Common.{◌≤◌, ◌∙◌, ap, arith, length, subst, List, ℕ}
use Rattle.crsm_spec.specs.Node.{Turn}
use Rattle.crsm_world.specs.Turning.{ending_of, turn_at}
use Rattle.crsm_base.specs.Messages.{datagram_bytes}
use Rattle.crsm_spec.specs.Types.{Datagram}
use Rattle.crsm_replica_io.proofs.Lengths.{datagram_short}
use Rattle.crsm_world.specs.World.{LeadsOn}
use Rattle.crsm_world.proofs.world.World.request.Goals as goal

pub returns : goal.returns
returns c v h =
    let spelling = c.as_slice.ensures ∙ c.in_ok-bytes.ensures in
    subst (λ (bs : List ℕ). LeadsOn (turn_at (ending_of c.args.ending) v c.args.k (Turn.In c.args.command.now.client bs) c.args.reading) c.bytes_arrive.new.self.sites c.bytes_arrive.new.self.network c.args.lines.now c.bytes_arrive.new.lines) spelling (c.in_ok-bytes_arrive.ensures v h)

pub bytes_arrive-requires-clause-short : goal.bytes_arrive-requires-clause-short
bytes_arrive-requires-clause-short c =
    let long = ap length (c.as_slice.ensures ∙ c.in_ok-bytes.ensures) in
    let short : length (datagram_bytes (Datagram.Request c.args.command.now)) ≤ 8183 = datagram_short (Datagram.Request c.args.command.now) c.requires.fits in
    omega (arith, long, short)
