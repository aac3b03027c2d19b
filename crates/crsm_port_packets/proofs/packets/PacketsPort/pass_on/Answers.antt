use Rattle.std.proofs.Common.{ap, inl, inr, refl}
use Rattle.crsm_port.specs.Sent.{packets_of}
use Rattle.crsm_port_packets.proofs.Counted.{on_ok}
use Rattle.crsm_port_packets.proofs.Passings.{sends_less}
use Rattle.crsm_port_packets.proofs.packets.PacketsPort.pass_on.Goals as goal

pub returns-then-not-speaks-clause-goes : goal.returns-then-not-speaks-clause-goes
returns-then-not-speaks-clause-goes g c = on_ok c.send.result _ (λ ok. inr (refl, inl (c.send.result, ok, c.send.ensures.sends)))

pub returns-then-bytes-gt-MOST_BYTES-clause-sends : goal.returns-then-bytes-gt-MOST_BYTES-clause-sends
returns-then-bytes-gt-MOST_BYTES-clause-sends g c =
    let old = c.args.self.now in
    let new = c.send_fragments.new.self in
    λ a d has. inl (sends_less (g.P.Port.may_send old.port) (g.P.Port.may_send new.port) (packets_of old.waiting) (packets_of new.waiting) (ap (λ p. packets_of p.waiting) c.send_fragments.ensures.same) c.send_fragments.ensures.carries a d has)
