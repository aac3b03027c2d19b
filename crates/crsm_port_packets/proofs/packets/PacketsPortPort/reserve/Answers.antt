use Rattle.crsm_port.specs.Sent.{packets_of}
use Rattle.crsm_port_packets.proofs.Passings.{carries_less, sends_less}
use Rattle.crsm_port_packets.proofs.Keepings.{forgets_recent}
use Rattle.crsm_port_packets.proofs.Openings.{forgets_more}
use Rattle.crsm_port_packets.proofs.packets.PacketsPortPort.reserve.Goals as goal
use Rattle.std.proofs.Common.{refl}

pub returns-clause-rests : goal.returns-clause-rests
returns-clause-rests g c =
    let old = c.args.self.now in
    let held = c.forget_old.new.self in
    let after = c.reserve.new.self in
    let waiting = packets_of old.waiting in
    record {
      no_more_given = forgets_more (g.P.Port.gives old.port) (g.P.Port.gives after) old.received held c.reserve.ensures.rests.no_more_given c.forget_old.ensures.same
          (forgets_recent c.now-self.result old.received.fragments.pieces.items held.fragments.pieces.items c.forget_old.ensures.kept);
      no_more_sent = sends_less (g.P.Port.may_send old.port) (g.P.Port.may_send after) waiting waiting refl
          (carries_less (g.P.Port.may_send old.port) (g.P.Port.may_send after) c.reserve.ensures.rests.no_more_sent);
    }
