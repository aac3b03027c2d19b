use Rattle.std.proofs.Common.{List, ℕ, subst}
use Rattle.crsm_port.specs.Passing.{NoMore, either}
use Rattle.crsm_port_packets.specs.Carrying.{carried}
use Rattle.crsm_port_packets.specs.Sent.{standing_in}
use Rattle.crsm_port_packets.proofs.bundle.make_room.Goals as goal

pub returns-clause-sends : goal.returns-clause-sends
returns-clause-sends g c =
    let before = g.P.Port.may_send c.args.port.now in
    let after = g.P.Port.may_send c.send_packet-has_packed.new.port in
    subst (λ (x : List ℕ). NoMore (either (carried before) (standing_in c.args.to x)) (carried after)) c.as_slice-2.ensures.value c.send_packet-has_packed.ensures.sends
