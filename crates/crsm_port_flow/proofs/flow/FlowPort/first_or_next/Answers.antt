use Rattle.crsm_port_flow.proofs.Flows.{given_after, no_more_of}
use Rattle.crsm_port_flow.proofs.Keepings.{kept_given}
use Rattle.crsm_port_flow.specs.Kept.{given_by}
use Rattle.std.proofs.Common.{◌≡◌, ap, arith, length}
use Rattle.crsm_port.specs.declared.port.Recv.TheVariants.{Nothing}
use Rattle.crsm_port_flow.proofs.Reading.{last_goes}
use Rattle.crsm_port_flow.proofs.flow.FlowPort.first_or_next.Goals as goal

pub returns-then-ready-gt0-clause-given : goal.returns-then-ready-gt0-clause-given
returns-then-ready-gt0-clause-given g c = kept_given (g.P.Port.gives c.args.self.now.port) c.args.self.now.inbound c.last.new.buf c.last.result c.last.ensures.kept

pub returns-then-ready-gt0-clause-gives : goal.returns-then-ready-gt0-clause-gives
returns-then-ready-gt0-clause-gives g c =
    let p = c.args.self.now in
    let q = c.last.new.self in
    given_after g.P.Port.gives g.P.Port.may_send (given_by (g.P.Port.gives p.port) p.inbound) p.port q.port p.inbound q.inbound (λ x y h. h) (no_more_of g.P.Port.gives p.port q.port c.last.ensures.port) c.last.ensures.rest

pub returns-then-ready-gt0-clause-goes : goal.returns-then-ready-gt0-clause-goes
returns-then-ready-gt0-clause-goes g c = λ ready. c.last.ensures.goes (λ none. ready (c.last.ensures.some none))

pub returns-then-ready-gt0-clause-takes : goal.returns-then-ready-gt0-clause-takes
returns-then-ready-gt0-clause-takes g c =
    let p = c.args.self.now in
    let e = c.last.ensures in
    let some : c.last.result ≡ Nothing → ⊥ = λ (is : c.last.result ≡ Nothing). omega (arith, c.if-ready-gt0.true, c.ready.ensures, ap length (e.some is)) in
    last_goes g.P.Port.meaning p.has_failed p.now c.args.buf.now c.last.new.buf p c.last.new.self c.last.result e.same some (e.goes some)
