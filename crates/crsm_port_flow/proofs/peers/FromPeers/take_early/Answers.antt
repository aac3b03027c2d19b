use Rattle.std.proofs.Common.{Global, arith, Option, Some, Vec, inl, inr, subst, sym}
use Rattle.std.specs.Prelude.{Contains}
use Rattle.crsm_port_flow.proofs.Earlies.{early_still, frames_within, peers_keep, waits_in, waits_same}
use Rattle.crsm_port_flow.proofs.Keepings.{early_more}
use Rattle.crsm_port_flow.specs.declared.early.Early.{Early}
use Rattle.crsm_port_flow.specs.declared.early.Frame.{Frame}
use Rattle.crsm_port_flow.proofs.peers.FromPeers.take_early.Goals as goal

pub invariant_of-self-2-clause-few : goal.invariant_of-self-2-clause-few
invariant_of-self-2-clause-few c = omega (arith, c.requires.few, frames_within c.tells.new.self.frames.items, c.tells.new.self.wide)

pub returns-in-Err-clause-only : goal.returns-in-Err-clause-only
returns-in-Err-clause-only c =
    let p = c.args.self.now in
    let now = c.keep.new.self.frames.items in
    peers_keep p.ready.items p.ready.items p.early.frames.items now c.args.from c.args.bytes.now (λ a b h. inr h) (early_more c.args.from c.args.bytes.now c.in_ok-datagram.datagram p.early.frames.items now c.in_ok-datagram.ensures.copy c.keep.ensures.only)

pub returns-then-tells-clause-waits : goal.returns-then-tells-clause-waits
returns-then-tells-clause-waits c =
    let d = c.in_ok-datagram.datagram in
    let from = c.args.frame.from in
    let number = c.args.frame.number in
    let waits = waits_same from number d c.keep.new.self.frames c.tells.new.self.frames c.tells.ensures c.in_default.ensures.waits in
    (d, c.in_ok-datagram.ensures.copy, waits_in from number d c.tells.new.self c.make_ready.new.self.early c.make_ready.ensures.early waits)

pub returns-then-tells-clause-only : goal.returns-then-tells-clause-only
returns-then-tells-clause-only c =
    let from = c.args.from in
    let bytes = c.args.bytes.now in
    let p = c.args.self.now in
    let now = c.tells.new.self.frames.items in
    let waits = early_more from bytes c.in_ok-datagram.datagram p.early.frames.items c.keep.new.self.frames.items c.in_ok-datagram.ensures.copy c.keep.ensures.only in
    let one =
    peers_keep p.ready.items p.ready.items p.early.frames.items now from bytes (λ a b h. inr h) (early_still from bytes p.early.frames.items c.keep.new.self.frames c.tells.new.self.frames c.tells.ensures waits) in
    λ a b h. elim (c.make_ready.ensures.only a b h) [
      | inl only ↦ inl only
      | inr before ↦ one a b before
    ]

pub returns-else-tells-clause-waits : goal.returns-else-tells-clause-waits
returns-else-tells-clause-waits c =
    let d = c.in_ok-datagram.datagram in
    (d, c.in_ok-datagram.ensures.copy, waits_same c.args.frame.from c.args.frame.number d c.keep.new.self.frames c.tells.new.self.frames c.tells.ensures c.in_default.ensures.waits)

pub returns-else-tells-clause-only : goal.returns-else-tells-clause-only
returns-else-tells-clause-only c =
    let from = c.args.from in
    let bytes = c.args.bytes.now in
    let p = c.args.self.now in
    let now = c.tells.new.self.frames.items in
    let waits = early_more from bytes c.in_ok-datagram.datagram p.early.frames.items c.keep.new.self.frames.items c.in_ok-datagram.ensures.copy c.keep.ensures.only in
    peers_keep p.ready.items p.ready.items p.early.frames.items now from bytes (λ a b h. inr h) (early_still from bytes p.early.frames.items c.keep.new.self.frames c.tells.new.self.frames c.tells.ensures waits)

pub returns-then-tells-clause-none_lost : goal.returns-then-tells-clause-none_lost
returns-then-tells-clause-none_lost c = λ f has.
    let told = subst (λ (v : Vec (Option Frame) Global). Contains v.items (Some f)) (sym c.tells.ensures) (c.keep.ensures.stay f has) in
    inl (subst (λ (e : Early). Contains e.frames.items (Some f)) (sym c.make_ready.ensures.early) told)

pub returns-else-tells-clause-none_lost : goal.returns-else-tells-clause-none_lost
returns-else-tells-clause-none_lost c = λ f has. inl (subst (λ (v : Vec (Option Frame) Global). Contains v.items (Some f)) (sym c.tells.ensures) (c.keep.ensures.stay f has))
