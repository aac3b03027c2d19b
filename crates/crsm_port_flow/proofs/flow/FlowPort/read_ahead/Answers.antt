use Rattle.std.proofs.Common.{◌∙◌, arith, inl, inr, refl}
use Rattle.crsm_port_flow.proofs.Reading.{none_came, reads_none, reads_on, stands_still}
use Rattle.crsm_port_flow.specs.Reads.{state_of}
use Rattle.crsm_port_flow.proofs.flow.FlowPort.read_ahead.Goals as goal

pub loop-init : goal.loop-init
loop-init g c =
    let p = c.args.self.now in
    record { gives = λ a b h. h; sends = λ a b h. h; counts = refl; acks = refl; noted = (refl, refl); takes = none_came p.now (state_of (g.P.Port.meaning p.port) p); failed = refl; now = refl; ticks = refl }

pub loop-preserved : goal.loop-preserved
loop-preserved g c =
    let inv = c.loop.invariant in
    let p = c.args.self.now in
    let s = c.loop.self in
    let n = c.read_one.new.self in
    let e = c.read_one.ensures in
    let read = reads_on p.now s.now inv.now inv.takes.0 (state_of (g.P.Port.meaning p.port) p) (state_of (g.P.Port.meaning s.port) s) (state_of (g.P.Port.meaning n.port) n) inv.takes.1 c.loop.counter inv.takes.2 p.has_failed s.has_failed n.has_failed c.read_one.result inv.failed c.if-not-read_one.false e.reads in
    record {
      gives = λ a b h. inv.gives a b (e.gives a b h);
      sends = λ a b h. inv.sends a b (e.sends a b h);
      counts = e.counts ∙ inv.counts;
      acks = e.acks ∙ inv.acks;
      noted = (e.noted.0 ∙ inv.noted.0, e.noted.1 ∙ inv.noted.1);
      takes = read.0;
      failed = read.1;
      now = e.now ∙ inv.now;
      ticks = e.ticks ∙ inv.ticks;
    }

pub returns-then-ready-ge-MOST_AHEAD-clause-reads : goal.returns-then-ready-ge-MOST_AHEAD-clause-reads
returns-then-ready-ge-MOST_AHEAD-clause-reads g c =
    let s = c.loop.self in
    let inv = c.loop.invariant in
    let t = state_of (g.P.Port.meaning s.port) s in
    (inv.takes.0, t, inv.takes.1, inl (stands_still t, inv.failed, inl (omega (arith, c.ready.ensures))))

pub returns-then-not-read_one-clause-reads : goal.returns-then-not-read_one-clause-reads
returns-then-not-read_one-clause-reads g c =
    let s = c.loop.self in
    let inv = c.loop.invariant in
    let t = state_of (g.P.Port.meaning s.port) s in
    let n = c.read_one.new.self in
    (inv.takes.0, t, inv.takes.1, inr (reads_none c.args.self.now.has_failed s.has_failed n.has_failed s.now c.read_one.result t (state_of (g.P.Port.meaning n.port) n) inv.failed c.if-not-read_one.true c.read_one.ensures.reads))

pub returns-clause-reads : goal.returns-clause-reads
returns-clause-reads g c =
    let s = c.loop.self in
    let inv = c.loop.invariant in
    let t = state_of (g.P.Port.meaning s.port) s in
    (inv.takes.0, t, inv.takes.1, inl (stands_still t, inv.failed, inr (omega (arith, inv.takes.2, c.loop-test.false))))
