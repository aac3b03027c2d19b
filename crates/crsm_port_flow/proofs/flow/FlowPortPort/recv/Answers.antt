use Rattle.std.proofs.Common.{◌≡◌, ◌∙◌, ℕ, Option, Ok, Err, ap, inl, inr, refl, subst, sym, take}
use Rattle.crsm_clock.specs.Readings.{Gives, Readings}
use Rattle.crsm_port.specs.declared.port.Recv.TheVariants.{Nothing, Datagram}
use Rattle.crsm_port_flow.proofs.Flows.{acks_same, given_before, received}
use Rattle.crsm_port_flow.proofs.Reading.{kept_as_it_is}
use Rattle.crsm_port_flow.specs.Reads.{TakesAndEnds, state_of}
use Rattle.crsm_port_flow.specs.Ticks.{IsTickDue}
use Rattle.crsm_port_flow.specs.declared.ticks.Ticks.{Ticks}
use Rattle.crsm_port_flow.proofs.flow.FlowPortPort.recv.Goals as goal

-- ---- a tick goes first

pub returns-then-goes_first-clause-hands_up : goal.returns-then-goes_first-clause-hands_up
returns-then-goes_first-clause-hands_up g c =
    let p = c.args.self.now in
    record { given = tt; no_more_given = given_before g.P.Port.gives g.P.Port.may_send p.port c.let_go.new.port p.inbound c.let_go.ensures.gives; no_more_sent = c.let_go.ensures.sends }

pub returns-then-goes_first-clause-goes : goal.returns-then-goes_first-clause-goes
returns-then-goes_first-clause-goes g c =
    λ ready. inr (record { nothing = refl; due = (c.goes_first.ensures.due c.if-goes_first.true).0; sends = c.let_go.ensures.each; waits = (kept_as_it_is c.args.self.now.inbound, (refl, refl, refl)) })

pub returns-then-goes_first-clause-nothing : goal.returns-then-goes_first-clause-nothing
returns-then-goes_first-clause-nothing g c =
    λ is. inr (record { nothing = refl; due = (c.goes_first.ensures.due c.if-goes_first.true).0; sends = c.let_go.ensures.each; waits = (kept_as_it_is c.args.self.now.inbound, (refl, refl, refl)) })

pub returns-then-goes_first-clause-takes : goal.returns-then-goes_first-clause-takes
returns-then-goes_first-clause-takes g c =
    inr (record { nothing = refl; due = (c.goes_first.ensures.due c.if-goes_first.true).0; sends = c.let_go.ensures.each; waits = (kept_as_it_is c.args.self.now.inbound, (refl, refl, refl)) })

-- ---- the next datagram goes up, or nothing does

pub returns-in-Ok-Datagram-clause-hands_up : goal.returns-in-Ok-Datagram-clause-hands_up
returns-in-Ok-Datagram-clause-hands_up g c =
    let p = c.args.self.now in
    let r = received g.P.Port.gives g.P.Port.may_send p.port c.let_go.new.port c.next_once.new.self.port p.inbound c.next_once.new.self.inbound p.outbound.acks.acks.items c.let_go.new.self.acks.items
    c.next_once.new.self.outbound.acks.acks.items c.let_go.ensures.gives c.let_go.ensures.sends c.next_once.ensures.gives c.next_once.ensures.sends (acks_same c.next_once.new.self.outbound.acks c.let_go.new.self c.next_once.ensures.acks) in
    let up = rw c.in-Ok-Datagram.field-0-is at c.in-Ok-Datagram.ensures.given in
    record {
      given = given_before g.P.Port.gives g.P.Port.may_send p.port c.let_go.new.port p.inbound c.let_go.ensures.gives c.in-Ok-Datagram.from (take c.in-Ok-Datagram.len c.next_once.new.buf) up;
      no_more_given = r.no_more_given;
      no_more_sent = r.no_more_sent;
    }

pub returns-in-Ok-Nothing-clause-hands_up : goal.returns-in-Ok-Nothing-clause-hands_up
returns-in-Ok-Nothing-clause-hands_up g c =
    let p = c.args.self.now in
    let r = received g.P.Port.gives g.P.Port.may_send p.port c.let_go.new.port c.next_once.new.self.port p.inbound c.next_once.new.self.inbound p.outbound.acks.acks.items c.let_go.new.self.acks.items
    c.next_once.new.self.outbound.acks.acks.items c.let_go.ensures.gives c.let_go.ensures.sends c.next_once.ensures.gives c.next_once.ensures.sends (acks_same c.next_once.new.self.outbound.acks c.let_go.new.self c.next_once.ensures.acks) in
    record { given = tt; no_more_given = r.no_more_given; no_more_sent = r.no_more_sent }

pub returns-in-Err-clause-hands_up : goal.returns-in-Err-clause-hands_up
returns-in-Err-clause-hands_up g c =
    let p = c.args.self.now in
    let r = received g.P.Port.gives g.P.Port.may_send p.port c.let_go.new.port c.next_once.new.self.port p.inbound c.next_once.new.self.inbound p.outbound.acks.acks.items c.let_go.new.self.acks.items
    c.next_once.new.self.outbound.acks.acks.items c.let_go.ensures.gives c.let_go.ensures.sends c.next_once.ensures.gives c.next_once.ensures.sends (acks_same c.next_once.new.self.outbound.acks c.let_go.new.self c.next_once.ensures.acks) in
    record { given = tt; no_more_given = r.no_more_given; no_more_sent = r.no_more_sent }

pub returns-in-Ok-Datagram-clause-goes : goal.returns-in-Ok-Datagram-clause-goes
returns-in-Ok-Datagram-clause-goes g c = λ ready. inl (rw c.in-Ok-Datagram.field-0-is at (c.in-Ok-Datagram.ensures.goes ready))

pub returns-in-Ok-Nothing-clause-goes : goal.returns-in-Ok-Nothing-clause-goes
returns-in-Ok-Nothing-clause-goes g c = λ ready. inl (rw c.in-Ok-Nothing.field-0-is at (c.in-Ok-Nothing.ensures.goes ready))

pub returns-in-Err-clause-goes : goal.returns-in-Err-clause-goes
returns-in-Err-clause-goes g c = λ ready. inl (c.in-Err.ensures.goes ready)

pub returns-in-Ok-Nothing-clause-nothing : goal.returns-in-Ok-Nothing-clause-nothing
returns-in-Ok-Nothing-clause-nothing g c = λ is. inl (c.in-Ok-Nothing.ensures.nothing c.in-Ok-Nothing.field-0-is)

pub returns-in-Ok-Datagram-clause-takes : goal.returns-in-Ok-Datagram-clause-takes
returns-in-Ok-Datagram-clause-takes g c =
    let p = c.args.self.now in
    let q = c.next_once.new.self in
    let M = g.P.Port.meaning in
    let takes = rw c.in-Ok-Datagram.field-0-is at c.in-Ok-Datagram.ensures.takes in
    inl (
      M c.let_go.new.port,
      c.let_go.ensures.each,
      subst
          (λ (n : ℕ). TakesAndEnds p.has_failed n c.args.buf.now c.next_once.new.buf (record (state_of (M p.port) p) { below = M c.let_go.new.port }) (state_of (M q.port) q) (Ok (Datagram c.in-Ok-Datagram.from c.in-Ok-Datagram.len)))
          (sym c.next_once.ensures.now) takes,
    )

pub returns-in-Ok-Nothing-clause-takes : goal.returns-in-Ok-Nothing-clause-takes
returns-in-Ok-Nothing-clause-takes g c =
    let p = c.args.self.now in
    let q = c.next_once.new.self in
    let M = g.P.Port.meaning in
    let takes = rw c.in-Ok-Nothing.field-0-is at c.in-Ok-Nothing.ensures.takes in
    inl (
      M c.let_go.new.port,
      c.let_go.ensures.each,
      subst (λ (n : ℕ). TakesAndEnds p.has_failed n c.args.buf.now c.next_once.new.buf (record (state_of (M p.port) p) { below = M c.let_go.new.port }) (state_of (M q.port) q) (Ok Nothing)) (sym c.next_once.ensures.now) takes,
    )

pub returns-in-Err-clause-takes : goal.returns-in-Err-clause-takes
returns-in-Err-clause-takes g c =
    let p = c.args.self.now in
    let q = c.next_once.new.self in
    let M = g.P.Port.meaning in
    inl (
      M c.let_go.new.port,
      c.let_go.ensures.each,
      subst (λ (n : ℕ). TakesAndEnds p.has_failed n c.args.buf.now c.next_once.new.buf (record (state_of (M p.port) p) { below = M c.let_go.new.port }) (state_of (M q.port) q) (Err c.in-Err.field-0)) (sym c.next_once.ensures.now) c.in-Err.ensures.takes,
    )

-- ---- what is noted of it

pub returns-then-goes_first-clause-due : goal.returns-then-goes_first-clause-due
returns-then-goes_first-clause-due g c =
    λ is. record { nothing = refl; due = (c.goes_first.ensures.due c.if-goes_first.true).0; sends = c.let_go.ensures.each; waits = (kept_as_it_is c.args.self.now.inbound, (refl, refl, refl)) }

pub returns-in-Ok-Datagram-clause-due : goal.returns-in-Ok-Datagram-clause-due
returns-in-Ok-Datagram-clause-due g c = λ due. absurd ((c.goes_first.ensures.not c.if-goes_first.false).1 (subst (λ (n : ℕ). IsTickDue n c.args.self.now.ticks) c.next_once.ensures.now due))

pub returns-in-Ok-Datagram-clause-reading : goal.returns-in-Ok-Datagram-clause-reading
returns-in-Ok-Datagram-clause-reading g c = λ flushed.
    let p = c.args.self.now in
    subst (λ (n : ℕ). (after : Option Readings) × Gives (g.C.Clock.readings p.clock) after n) (sym c.next_once.ensures.now) (c.reading-self.ensures.first flushed)

pub returns-in-Ok-Datagram-clause-same_reading : goal.returns-in-Ok-Datagram-clause-same_reading
returns-in-Ok-Datagram-clause-same_reading g c = λ not. c.next_once.ensures.now ∙ c.reading-self.ensures.later not

pub returns-in-Ok-Nothing-clause-due : goal.returns-in-Ok-Nothing-clause-due
returns-in-Ok-Nothing-clause-due g c = λ due. absurd ((c.goes_first.ensures.not c.if-goes_first.false).1 (subst (λ (n : ℕ). IsTickDue n c.args.self.now.ticks) c.next_once.ensures.now due))

pub returns-in-Ok-Nothing-clause-reading : goal.returns-in-Ok-Nothing-clause-reading
returns-in-Ok-Nothing-clause-reading g c = λ flushed.
    let p = c.args.self.now in
    subst (λ (n : ℕ). (after : Option Readings) × Gives (g.C.Clock.readings p.clock) after n) (sym c.next_once.ensures.now) (c.reading-self.ensures.first flushed)

pub returns-in-Ok-Nothing-clause-same_reading : goal.returns-in-Ok-Nothing-clause-same_reading
returns-in-Ok-Nothing-clause-same_reading g c = λ not. c.next_once.ensures.now ∙ c.reading-self.ensures.later not

pub returns-in-Err-clause-due : goal.returns-in-Err-clause-due
returns-in-Err-clause-due g c = λ due. absurd ((c.goes_first.ensures.not c.if-goes_first.false).1 (subst (λ (n : ℕ). IsTickDue n c.args.self.now.ticks) c.next_once.ensures.now due))

pub returns-in-Err-clause-reading : goal.returns-in-Err-clause-reading
returns-in-Err-clause-reading g c = λ flushed.
    let p = c.args.self.now in
    subst (λ (n : ℕ). (after : Option Readings) × Gives (g.C.Clock.readings p.clock) after n) (sym c.next_once.ensures.now) (c.reading-self.ensures.first flushed)

pub returns-in-Err-clause-same_reading : goal.returns-in-Err-clause-same_reading
returns-in-Err-clause-same_reading g c = λ not. c.next_once.ensures.now ∙ c.reading-self.ensures.later not

pub returns-in-Ok-Datagram-clause-ticks : goal.returns-in-Ok-Datagram-clause-ticks
returns-in-Ok-Datagram-clause-ticks g c = c.next_once.ensures.ticks ∙ (c.goes_first.ensures.not c.if-goes_first.false).0

pub returns-in-Err-clause-ticks : goal.returns-in-Err-clause-ticks
returns-in-Err-clause-ticks g c = c.next_once.ensures.ticks ∙ (c.goes_first.ensures.not c.if-goes_first.false).0

pub returns-in-Ok-Nothing-clause-ticks : goal.returns-in-Ok-Nothing-clause-ticks
returns-in-Ok-Nothing-clause-ticks g c =
    let now = c.next_once.new.self.now in
    c.note_nothing.ensures ∙ ap (λ (t : Ticks). let noted : Ticks = record t { at = now } in noted) (c.next_once.ensures.ticks ∙ (c.goes_first.ensures.not c.if-goes_first.false).0)
