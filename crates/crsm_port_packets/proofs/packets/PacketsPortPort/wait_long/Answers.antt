use Rattle.std.proofs.Common.{refl}
use Rattle.crsm_port.specs.Sent.{packets_of}
use Rattle.crsm_port_packets.proofs.Passings.{carries_less, sends_less, unpacks_less}
use Rattle.crsm_port_packets.proofs.packets.PacketsPortPort.wait_long.Goals as goal

pub returns-clause-rests : goal.returns-clause-rests
returns-clause-rests g c =
    let old = c.args.self.now in
    let after = c.wait_long.new.self in
    let waiting = packets_of old.waiting in
    record {
      no_more_given = unpacks_less (g.P.Port.gives old.port) (g.P.Port.gives after) old.received old.received c.wait_long.ensures.rests.no_more_given refl;
      no_more_sent = sends_less (g.P.Port.may_send old.port) (g.P.Port.may_send after) waiting waiting refl
          (carries_less (g.P.Port.may_send old.port) (g.P.Port.may_send after) c.wait_long.ensures.rests.no_more_sent);
    }
