use Rattle.std.proofs.Common.{◌∙◌, ◌++◌, List, [], ◌∷◌, Option, Some, ap, inl, inr, refl, subst, sym}
use Rattle.std.proofs.lemmas.List.{append_assoc}
use Rattle.std.specs.Prelude.{Contains}
use Rattle.crsm_port_flow.proofs.Earlies.{frames_more, holds_last, holds_still, keeps_some_same, moved, none_behind, none_next, peers_rest, stays_same, stays_then, takes_expected, takes_keeps, takes_rest, takes_was, waits_before}
use Rattle.crsm_port_flow.specs.Early.{Expects, Waits}
use Rattle.crsm_port_flow.specs.declared.datagram.Datagram.{Datagram}
use Rattle.crsm_port_flow.specs.declared.early.Frame.{Frame}
use Rattle.crsm_port_flow.specs.declared.early.Link.{Link}
use Rattle.crsm_port_flow.proofs.peers.FromPeers.follow.Goals as goal

pub loop-datagram-init : goal.loop-datagram-init
loop-datagram-init c = record {
  follow = λ epoch number expects. ([], number, sym (none_behind c.args.self.now.ready.items), refl, expects);
  less = λ k f at. at;
  none_lost = λ f has. inl has;
  stays = stays_same c.args.self.now.ready.items c.args.self.now.ready.items refl;
  only = λ a b h. h;
  again = refl;
}

pub loop-datagram-preserved : goal.loop-datagram-preserved
loop-datagram-preserved c =
    let start = c.args.self.now in
    let p = c.loop-datagram.self in
    let inv = c.loop-datagram.invariant in
    let d = c.in-Some.datagram in
    let early = c.take_next.new.self in
    let ready = c.push_back_reserved.new.self in
    let takes = c.in-Some.ensures.next in
    let sender = c.args.sender in
    let more = c.push_back_reserved.ensures.items in
    let frames = p.early.frames.items in
    let keeps = takes_keeps sender d p.early.links.items early.links.items frames early.frames.items takes in
    record {
      follow = λ epoch number expects.
          let (behind, last, same, are, expected) = inv.follow epoch number expects in
          let (waits, next) = takes_expected sender d p.early.links.items early.links.items frames early.frames.items takes epoch last expected in (
            behind ++ d ∷ [],
            _,
            more ∙ ap (λ (ds : List Datagram). ds ++ d ∷ []) same ∙ append_assoc start.ready.items behind (d ∷ []),
            frames_more sender number behind last d start.early.frames.items are (waits_before sender last d start.early.frames.items frames inv.less waits),
            next,
          );
      less = λ k f at. inv.less k f (keeps k f at);
      none_lost = λ f has. elim (inv.none_lost f has) [
        | inl waits ↦ elim (takes_rest sender d p.early.links.items early.links.items frames early.frames.items takes f waits) [
          | inl still ↦ inl still
          | inr is ↦ inr (holds_last p.ready.items ready.items d f.datagram more is)
        ]
        | inr was ↦ inr (holds_still p.ready.items ready.items d f.datagram more was)
      ];
      stays = stays_then start.ready.items p.ready.items ready.items inv.stays (d ∷ [], more);
      only = λ a b h. inv.only a b (moved p.ready.items ready.items frames early.frames.items d more (takes_was sender d p.early.links.items early.links.items frames early.frames.items takes) keeps a b h);
      again = inv.again;
    }

pub returns-clause-follow : goal.returns-clause-follow
returns-clause-follow c = λ epoch number expects.
    let sender = c.args.sender in
    let early = c.loop-datagram.self.early in
    let (behind, last, same, are, expected) = c.loop-datagram.invariant.follow epoch number expects in
    let (none, links, frames) = c.in_default.ensures.none refl in (
      behind,
      same,
      (
        last,
        are,
        subst (λ (ls : List Link). Expects sender epoch last ls) (sym links) expected,
        λ waits. none_next sender epoch last early.links.items early.frames.items none expected (subst (λ (fs : List (Option Frame)). Waits sender last fs) frames waits),
      ),
    )

pub returns-clause-none_lost : goal.returns-clause-none_lost
returns-clause-none_lost c = λ f has. elim (c.loop-datagram.invariant.none_lost f has) [
  | inl waits ↦ inl (let (_, _, frames) = c.in_default.ensures.none refl in subst (λ (fs : List (Option Frame)). Contains fs (Some f)) (sym frames) waits)
  | inr ready ↦ inr ready
]

pub returns-clause-only : goal.returns-clause-only
returns-clause-only c =
    let p = c.loop-datagram.self in
    let now = c.take_next.new.self.frames.items in
    let (_, _, frames) = c.in_default.ensures.none refl in
    λ a b h. c.loop-datagram.invariant.only a b (peers_rest p.ready.items p.ready.items p.early.frames.items now (λ x y is. is) (keeps_some_same p.early.frames.items now frames) a b h)
