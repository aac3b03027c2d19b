use Rattle.std.proofs.Common.{◌≡◌, [], arith, length, refl}
use Rattle.crsm_port_flow.proofs.Flows.{no_more_then}
use Rattle.crsm_port_flow.proofs.Keepings.{gives_same, kept_given, next_is, next_kept, next_rest, ok_some_of_more}
use Rattle.crsm_port_flow.proofs.Reading.{same_rest}
use Rattle.crsm_port_flow.specs.Kept.{given_by}
use Rattle.crsm_port_flow.proofs.Reading.{ends_at_once, later, stands_still}
use Rattle.crsm_port_flow.specs.Reads.{state_of}
use Rattle.crsm_port_flow.proofs.flow.FlowPort.next_or_more.Goals as goal

pub returns-in-Some-clause-within : goal.returns-in-Some-clause-within
returns-in-Some-clause-within g c = (next_is c.args.self.now.inbound c.hand_up.new.self c.args.buf.now c.hand_up.new.buf c.in-Some.got c.in-Some.ensures.goes).1

pub returns-in-Some-clause-nothing : goal.returns-in-Some-clause-nothing
returns-in-Some-clause-nothing g c = λ is. absurd ((next_is c.args.self.now.inbound c.hand_up.new.self c.args.buf.now c.hand_up.new.buf c.in-Some.got c.in-Some.ensures.goes).0 is)

pub returns-in-Some-clause-given : goal.returns-in-Some-clause-given
returns-in-Some-clause-given g c =
    let p = c.args.self.now in
    kept_given (g.P.Port.gives p.port) p.inbound c.hand_up.new.buf c.in-Some.got (next_kept p.inbound c.hand_up.new.self c.args.buf.now c.hand_up.new.buf c.in-Some.got c.in-Some.ensures.goes)

pub returns-in-Some-clause-gives : goal.returns-in-Some-clause-gives
returns-in-Some-clause-gives g c =
    let p = c.args.self.now in
    let P = g.P.Port.gives p.port in
    gives_same P P (λ x y h. h) p.inbound c.hand_up.new.self (next_rest p.inbound c.hand_up.new.self c.args.buf.now c.hand_up.new.buf c.in-Some.got c.in-Some.ensures.goes)

pub returns-in-None-clause-given : goal.returns-in-None-clause-given
returns-in-None-clause-given g c =
    let p = c.args.self.now in
    let P = g.P.Port.gives p.port in
    ok_some_of_more (given_by P p.inbound) (given_by P c.hand_up.new.self) c.receive_one.new.buf c.receive_one.result (gives_same P P (λ x y h. h) p.inbound c.hand_up.new.self (same_rest p.inbound c.hand_up.new.self (c.in-None.ensures.same refl))) c.receive_one.ensures.given

pub returns-in-None-clause-gives : goal.returns-in-None-clause-gives
returns-in-None-clause-gives g c =
    let p = c.args.self.now in
    let P = g.P.Port.gives p.port in
    let n = c.receive_one.new.self in
    no_more_then (given_by P p.inbound) (given_by P c.hand_up.new.self) (given_by (g.P.Port.gives n.port) n.inbound) (gives_same P P (λ x y h. h) p.inbound c.hand_up.new.self (same_rest p.inbound c.hand_up.new.self (c.in-None.ensures.same refl))) c.receive_one.ensures.gives

pub returns-in-Some-clause-takes : goal.returns-in-Some-clause-takes
returns-in-Some-clause-takes g c =
    let p = c.args.self.now in
    let goes = c.in-Some.ensures.goes in
    let s = state_of (g.P.Port.meaning p.port) p in
    let some = (next_is p.inbound c.hand_up.new.self c.args.buf.now c.hand_up.new.buf c.in-Some.got goes).0 in
    (s, stands_still s, ends_at_once p.has_failed [] c.args.buf.now c.hand_up.new.buf s (state_of (g.P.Port.meaning p.port) (record p { inbound = c.hand_up.new.self })) c.in-Some.got some goes (refl, refl, refl) refl)

pub returns-in-None-clause-takes : goal.returns-in-None-clause-takes
returns-in-None-clause-takes g c =
    let p = c.args.self.now in
    let n = c.receive_one.new.self in
    let size : length c.args.buf.now ≡ length c.hand_up.new.buf = omega arith in
    later p.has_failed p.now c.hand_up.new.buf c.args.buf.now c.receive_one.new.buf (state_of (g.P.Port.meaning p.port) p) (state_of (g.P.Port.meaning p.port) (record p { inbound = c.hand_up.new.self })) (state_of (g.P.Port.meaning n.port) n) c.receive_one.result size (refl, (c.in-None.ensures.same refl, (refl, refl, refl))) c.receive_one.ensures.takes
