use Rattle.std.proofs.Common.{ℕ, refl, subst, sym}
use Rattle.crsm_port_flow.proofs.Flows.{acks_same, reserved}
use Rattle.crsm_port_flow.proofs.Keepings.{dropped_rest}
use Rattle.crsm_port_flow.specs.declared.inbound.Inbound.{Inbound}
use Rattle.crsm_port_flow.proofs.Reading.{kept_as_it_is}
use Rattle.crsm_port_flow.specs.Reads.{DropsOld, ReadsAll, State, state_of}
use Rattle.crsm_port_flow.proofs.flow.FlowPortPort.reserve.Goals as goal

pub returns-clause-rests : goal.returns-clause-rests
returns-clause-rests g c =
    let p = c.args.self.now in
    let looked : Inbound = record p.inbound { clients = c.look_at_clock.new.self } in
    let q = c.read_ahead.new.self in
    let stays = dropped_rest c.now-self.result p.inbound looked refl c.look_at_clock.ensures.dropped c.look_at_clock.ensures.operate in
    reserved g.P.Port.gives g.P.Port.may_send p.port q.port c.reserve.new.self p.inbound looked q.inbound p.outbound.acks.acks.items q.outbound.acks.acks.items
    stays c.read_ahead.ensures.gives c.read_ahead.ensures.sends (acks_same q.outbound.acks p.outbound.acks c.read_ahead.ensures.acks)
    c.reserve.ensures.rests

pub returns-clause-reads : goal.returns-clause-reads
returns-clause-reads g c =
    let p = c.args.self.now in
    let q = c.read_ahead.new.self in
    let start = state_of (g.P.Port.meaning p.port) p in
    let looked : State = record start { kept = record p.inbound { clients = c.look_at_clock.new.self } } in
    let read = state_of (g.P.Port.meaning q.port) q in
    let then = sym c.read_ahead.ensures.now in (
      looked,
      read,
      subst (λ (n : ℕ). DropsOld n start looked) then (refl, (refl, refl, refl), refl, c.look_at_clock.ensures.operate, c.look_at_clock.ensures.dropped, c.look_at_clock.ensures.in_time),
      subst (λ (n : ℕ). ReadsAll p.has_failed q.has_failed n looked read) then c.read_ahead.ensures.reads,
      c.reserve.ensures.reserves,
      (kept_as_it_is q.inbound, (refl, refl, refl)),
    )
