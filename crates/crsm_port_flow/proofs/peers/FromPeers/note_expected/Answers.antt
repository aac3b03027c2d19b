use Rattle.std.proofs.Common.{◌∙◌, ap, arith, subst, sym}
use Rattle.crsm_port_flow.proofs.Earlies.{frames_fewer, peers_rest}
use Rattle.crsm_port_flow.proofs.Pasts.{is_expected, loses_past}
use Rattle.crsm_port_flow.specs.Again.{Acknowledges}
use Rattle.crsm_port_flow.specs.declared.again.Again.{Again}
use Rattle.crsm_port_flow.proofs.peers.FromPeers.note_expected.Goals as goal

pub invariant_of-self : goal.invariant_of-self
invariant_of-self c =
    let p = c.args.self.now in
    record {
      few = omega (arith, frames_fewer p.early.frames.items c.note_expected.new.self.frames.items c.note_expected.ensures.only, p.few);
      reserved = p.reserved;
    }

pub returns-clause-only : goal.returns-clause-only
returns-clause-only c =
    let p = c.args.self.now in
    let now = c.note_expected.new.self.frames.items in
    λ a b h. peers_rest p.ready.items p.ready.items p.early.frames.items now (λ x y is. is) c.note_expected.ensures.only a b (c.follow.ensures.only a b h)

pub returns-clause-lost : goal.returns-clause-lost
returns-clause-lost c =
    let early = c.args.self.now.early in
    let mid = c.note_expected.new.self in
    let new = c.follow.new.self in
    let head = c.args.expected in
    loses_past head.to head.epoch head.number early.links.items mid.links.items new.early.links.items early.frames.items mid.frames.items new.early.frames.items new.ready.items c.note_expected.ensures.learns c.follow.ensures.none_lost

pub returns-clause-expected : goal.returns-clause-expected
returns-clause-expected c =
    let early = c.args.self.now.early in
    let mid = c.note_expected.new.self in
    let new = c.follow.new.self in
    let head = c.args.expected in
    is_expected head.to head.epoch head.number early.links.items mid.links.items new.early.links.items early.frames.items mid.frames.items new.early.frames.items new.ready.items (omega arith) c.note_expected.ensures.learns
    (λ e number expects. let (behind, _, (last, are, now, none)) = c.follow.ensures.follow e number expects in (behind, last, are, now, none))

pub returns-clause-acknowledged : goal.returns-clause-acknowledged
returns-clause-acknowledged c =
    let p = c.args.self.now in
    let head = c.args.expected in (
      subst (λ (a : Again). Acknowledges head.to head.epoch head.number p.again.said.items a.said.items) (sym c.follow.ensures.again) c.note_said.ensures.said,
      ap (λ (a : Again). a.went_at) c.follow.ensures.again ∙ c.note_said.ensures.went,
    )
