use Rattle.std.proofs.Common.{◌≡◌, ◌∙◌, Err, Ok, arith, length, refl}
use Rattle.crsm_port_flow.proofs.Flows.{given_after, no_more_of}
use Rattle.crsm_port_flow.proofs.Keepings.{kept_given, of_more}
use Rattle.crsm_port_flow.specs.Kept.{given_by}
use Rattle.crsm_port_flow.proofs.Reading.{ends_on, fails_so, many_end, none_came, one_more}
use Rattle.crsm_port_flow.specs.Reads.{state_of}
use Rattle.crsm_port_flow.proofs.flow.FlowPort.next.Goals as goal

pub returns-in-Some-clause-given : goal.returns-in-Some-clause-given
returns-in-Some-clause-given g c =
    let p = c.args.self.now in
    let s = c.loop.self in
    of_more (given_by (g.P.Port.gives p.port) p.inbound) (given_by (g.P.Port.gives s.port) s.inbound) c.next_or_more.new.buf c.in-Some.got c.loop.invariant.gives
    (rw c.in-Some.is at c.in_ok-got.ensures.given)

pub returns-clause-given : goal.returns-clause-given
returns-clause-given g c =
    let p = c.args.self.now in
    let s = c.loop.self in
    of_more (given_by (g.P.Port.gives p.port) p.inbound) (given_by (g.P.Port.gives s.port) s.inbound) c.last.new.buf c.last.result c.loop.invariant.gives
    (kept_given (g.P.Port.gives s.port) s.inbound c.last.new.buf c.last.result c.last.ensures.kept)

pub returns-clause-gives : goal.returns-clause-gives
returns-clause-gives g c =
    let p = c.args.self.now in
    let s = c.loop.self in
    given_after g.P.Port.gives g.P.Port.may_send (given_by (g.P.Port.gives p.port) p.inbound) s.port c.last.new.self.port s.inbound c.last.new.self.inbound c.loop.invariant.gives (no_more_of g.P.Port.gives s.port c.last.new.self.port c.last.ensures.port) c.last.ensures.rest

pub loop-init : goal.loop-init
loop-init g c =
    let p = c.args.self.now in
    record { gives = λ a b h. h; sends = λ a b h. h; counts = refl; acks = refl; noted = (refl, refl); takes = none_came p.now (state_of (g.P.Port.meaning p.port) p); failed = refl; now = refl; ticks = refl }

pub loop-preserved : goal.loop-preserved
loop-preserved g c =
    let inv = c.loop.invariant in
    let p = c.args.self.now in
    let s = c.loop.self in
    let n = c.next_or_more.new.self in
    let e = c.in_ok-got.ensures in
    record {
      gives = λ a b h. inv.gives a b (e.gives a b h);
      sends = λ a b h. inv.sends a b (e.sends a b h);
      counts = e.counts ∙ inv.counts;
      acks = e.acks ∙ inv.acks;
      noted = (e.noted.0 ∙ inv.noted.0, e.noted.1 ∙ inv.noted.1);
      takes = one_more p.now s.now inv.now inv.takes.0 (state_of (g.P.Port.meaning p.port) p) (state_of (g.P.Port.meaning s.port) s) (state_of (g.P.Port.meaning n.port) n) inv.takes.1 c.loop.counter inv.takes.2 s.has_failed c.loop.buf c.next_or_more.new.buf c.in_ok-got.field-0 c.in_default.is e.takes;
      failed = e.ready ∙ inv.failed;
      now = e.now ∙ inv.now;
      ticks = e.ticks ∙ inv.ticks;
    }

pub returns-in-Some-clause-takes : goal.returns-in-Some-clause-takes
returns-in-Some-clause-takes g c =
    let p = c.args.self.now in
    let s = c.loop.self in
    let inv = c.loop.invariant in
    let n = c.next_or_more.new.self in
    let size : length c.args.buf.now ≡ length c.loop.buf = omega arith in
    ends_on p.has_failed s.has_failed p.now inv.takes.0 c.loop.buf c.args.buf.now c.next_or_more.new.buf (state_of (g.P.Port.meaning p.port) p) (state_of (g.P.Port.meaning s.port) s) (state_of (g.P.Port.meaning n.port) n) (Ok c.in-Some.got) inv.failed size inv.takes.1 (rw c.in-Some.is at c.in_ok-got.ensures.takes)

pub returns-in_err-got-clause-takes : goal.returns-in_err-got-clause-takes
returns-in_err-got-clause-takes g c =
    let p = c.args.self.now in
    let s = c.loop.self in
    let inv = c.loop.invariant in
    let n = c.next_or_more.new.self in
    let e = c.in_err-got.field-0.0 in
    let old = state_of (g.P.Port.meaning p.port) p in
    let new = state_of (g.P.Port.meaning n.port) n in
    let size : length c.args.buf.now ≡ length c.loop.buf = omega arith in
    let ends = ends_on p.has_failed s.has_failed p.now inv.takes.0 c.loop.buf c.args.buf.now c.next_or_more.new.buf old (state_of (g.P.Port.meaning s.port) s) new (Err e) inv.failed size inv.takes.1 c.in_err-got.ensures.takes in
    fails_so p.has_failed p.now c.args.buf.now c.next_or_more.new.buf old new e c.from_residual.result c.from_residual.ensures.1 ends

pub returns-clause-takes : goal.returns-clause-takes
returns-clause-takes g c =
    let p = c.args.self.now in
    let s = c.loop.self in
    let inv = c.loop.invariant in
    let size : length c.args.buf.now ≡ length c.loop.buf = omega arith in
    many_end g.P.Port.meaning p.has_failed p.now inv.takes.0 (state_of (g.P.Port.meaning p.port) p) c.loop.buf c.args.buf.now c.last.new.buf s c.last.new.self c.last.result c.last.ensures.same size (omega (arith, inv.takes.2, c.loop-test.false)) inv.takes.1
    c.last.ensures.goes c.last.ensures.stays
