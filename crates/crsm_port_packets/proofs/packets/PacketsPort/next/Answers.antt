use Rattle.std.proofs.Common.{◌≡◌, ◌∙◌, ℕ, List, Err, Ok, Some, ap, arith, inr, length, refl, subst}
use Rattle.crsm_port_packets.specs.Asking.{Asks, taker_of}
use Rattle.crsm_port_packets.specs.Held.{unpacked}
use Rattle.crsm_port_packets.specs.Peers.{addresses_of}
use Rattle.crsm_port_packets.specs.declared.packets.PacketsPort.{PacketsPort}
use Rattle.crsm_port_packets.proofs.Askings.{ends_failed, ends_some, one_came}
use Rattle.crsm_port_packets.proofs.Unpackings.{of_more}
use Rattle.crsm_port_packets.proofs.packets.PacketsPort.next.Goals as goal

pub returns-in-Some-clause-given : goal.returns-in-Some-clause-given
returns-in-Some-clause-given g c =
    let old = c.args.self.now in
    let mid = c.loop.self in
    of_more (unpacked (g.P.Port.gives old.port) old.received) (unpacked (g.P.Port.gives mid.port) mid.received) c.next_or_none.new.buf c.in-Some.got c.loop.invariant.0
    (rw c.in-Some.is at c.in_ok-got.ensures.given)

pub loop-preserved : goal.loop-preserved
loop-preserved g c =
    let inv = c.loop.invariant in
    let M = g.P.Port.meaning in
    let p = c.args.self.now in
    let s = c.loop.self in
    let n = c.next_or_none.new.self in
    let A = addresses_of p.peers.items in
    let e = c.in_ok-got.ensures in
    let asks = subst (λ (places : List ℕ). Asks places p.now (length c.loop.buf) c.next_or_none.new.buf (taker_of (M s.port) s) (taker_of (M n.port) n) (Ok c.in_ok-got.field-0)) inv.4
    (subst (λ (at : ℕ). Asks (addresses_of s.peers.items) at (length c.loop.buf) c.next_or_none.new.buf (taker_of (M s.port) s) (taker_of (M n.port) n) (Ok c.in_ok-got.field-0)) (ap (λ (x : PacketsPort g.row.P.Denot g.row.C.Denot). x.now) inv.2) e.asks) in (
      λ a d h. inv.0 a d (e.rest a d h),
      λ a d h. inv.1 a d (e.sends a d h),
      e.same ∙ ap (λ (x : PacketsPort g.row.P.Denot g.row.C.Denot). record x { port = n.port; peers = n.peers; room = n.room; received = n.received }) inv.2,
      one_came A p.now (length c.loop.buf) c.next_or_none.new.buf c.loop.counter (taker_of (M p.port) p) (taker_of (M s.port) s) (taker_of (M n.port) n) c.in_ok-got.field-0 c.in_default.is inv.3 asks,
      e.addresses ∙ inv.4,
    )

pub returns-in-Some-clause-asks : goal.returns-in-Some-clause-asks
returns-in-Some-clause-asks g c =
    let inv = c.loop.invariant in
    let M = g.P.Port.meaning in
    let p = c.args.self.now in
    let s = c.loop.self in
    let n = c.next_or_none.new.self in
    let size : length c.loop.buf ≡ length c.args.buf.now = omega arith in
    let whole = rw c.in-Some.is at c.in_ok-got.ensures.asks in
    let asks = subst (λ (places : List ℕ). Asks places p.now (length c.loop.buf) c.next_or_none.new.buf (taker_of (M s.port) s) (taker_of (M n.port) n) (Ok (Some c.in-Some.got))) inv.4
    (subst (λ (at : ℕ). Asks (addresses_of s.peers.items) at (length c.loop.buf) c.next_or_none.new.buf (taker_of (M s.port) s) (taker_of (M n.port) n) (Ok (Some c.in-Some.got))) (ap (λ (x : PacketsPort g.row.P.Denot g.row.C.Denot). x.now) inv.2) whole) in
    let sized = subst (λ (k : ℕ). Asks (addresses_of p.peers.items) p.now k c.next_or_none.new.buf (taker_of (M s.port) s) (taker_of (M n.port) n) (Ok (Some c.in-Some.got))) size asks in
    ends_some (addresses_of p.peers.items) p.now (length c.args.buf.now) c.next_or_none.new.buf c.loop.counter (taker_of (M p.port) p) (taker_of (M s.port) s) (taker_of (M n.port) n) inv.3 c.in-Some.got sized

pub returns-in_err-got-clause-asks : goal.returns-in_err-got-clause-asks
returns-in_err-got-clause-asks g c =
    let inv = c.loop.invariant in
    let M = g.P.Port.meaning in
    let p = c.args.self.now in
    let s = c.loop.self in
    let n = c.next_or_none.new.self in
    let e = c.in_err-got.field-0.0 in
    let size : length c.loop.buf ≡ length c.args.buf.now = omega arith in
    let whole = c.in_err-got.ensures.asks in
    let asks = subst (λ (places : List ℕ). Asks places p.now (length c.loop.buf) c.next_or_none.new.buf (taker_of (M s.port) s) (taker_of (M n.port) n) (Err e)) inv.4
    (subst (λ (at : ℕ). Asks (addresses_of s.peers.items) at (length c.loop.buf) c.next_or_none.new.buf (taker_of (M s.port) s) (taker_of (M n.port) n) (Err e)) (ap (λ (x : PacketsPort g.row.P.Denot g.row.C.Denot). x.now) inv.2) whole) in
    let sized = subst (λ (k : ℕ). Asks (addresses_of p.peers.items) p.now k c.next_or_none.new.buf (taker_of (M s.port) s) (taker_of (M n.port) n) (Err e)) size asks in
    ends_failed (addresses_of p.peers.items) p.now (length c.args.buf.now) c.next_or_none.new.buf c.loop.counter (taker_of (M p.port) p) (taker_of (M s.port) s) (taker_of (M n.port) n) inv.3 e c.from_residual.result c.from_residual.ensures.1 sized

pub returns-clause-asks : goal.returns-clause-asks
returns-clause-asks g c =
    (c.loop.counter, taker_of (g.P.Port.meaning c.loop.self.port) c.loop.self, c.loop.invariant.3, inr (refl, omega (arith, c.loop-test.false)))
