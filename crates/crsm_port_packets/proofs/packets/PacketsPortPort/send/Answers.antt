use Rattle.crsm_port_packets.proofs.Passings.{unpacks_less}
use Rattle.crsm_port_packets.proofs.packets.PacketsPortPort.send.Goals as goal

pub returns-in-Ok-clause-passes_on : goal.returns-in-Ok-clause-passes_on
returns-in-Ok-clause-passes_on g c =
    let old = c.args.self.now in
    let new = c.pass_on.new.self in
    record {
      no_more_given = unpacks_less (g.P.Port.gives old.port) (g.P.Port.gives new.port) old.received new.received c.pass_on.ensures.gives c.pass_on.ensures.received;
      one_more_sent = c.pass_on.ensures.sends;
    }

pub returns-in-Err-clause-passes_on : goal.returns-in-Err-clause-passes_on
returns-in-Err-clause-passes_on g c =
    let old = c.args.self.now in
    let new = c.pass_on.new.self in
    record {
      no_more_given = unpacks_less (g.P.Port.gives old.port) (g.P.Port.gives new.port) old.received new.received c.pass_on.ensures.gives c.pass_on.ensures.received;
      one_more_sent = c.pass_on.ensures.sends;
    }
