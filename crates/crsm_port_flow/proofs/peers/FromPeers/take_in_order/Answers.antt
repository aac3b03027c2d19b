use Rattle.std.proofs.Common.{◌≡◌, ◌∙◌, ◌++◌, List, Option, Some, [], ◌∷◌, ap, subst, sym}
use Rattle.std.proofs.lemmas.List.{append_assoc}
use Rattle.std.specs.Prelude.{Contains}
use Rattle.crsm_port_flow.proofs.Earlies.{frames_same, keeps_some_same, made_ready, peers_rest}
use Rattle.crsm_port_flow.specs.Early.{AreFrames, Expects, after}
use Rattle.crsm_port_flow.specs.declared.datagram.Datagram.{Datagram}
use Rattle.crsm_port_flow.specs.declared.early.Early.{Early}
use Rattle.crsm_port_flow.specs.declared.early.Frame.{Frame}
use Rattle.crsm_port_flow.proofs.peers.FromPeers.take_in_order.Goals as goal

pub returns-clause-ready : goal.returns-clause-ready
returns-clause-ready c =
    let (d, is, more) = c.in_ok-make_ready.ensures.ready in
    made_ready c.args.from c.args.bytes.now c.args.self.now.ready.items c.make_ready.new.self.ready.items c.follow.new.self.ready.items d is more c.follow.ensures.stays

pub returns-clause-followed : goal.returns-clause-followed
returns-clause-followed c = λ expects.
    let p = c.args.self.now in
    let made = c.make_ready.new.self in
    let f = c.args.frame in
    let (d, is, more) = c.in_ok-make_ready.ensures.ready in
    let in_made = subst (λ (e : Early). Expects f.from f.epoch f.number e.links.items) (sym c.make_ready.ensures.early) expects in
    let (behind, same, (last, are, expected, none)) = c.follow.ensures.follow f.epoch (after f.number) (c.note_handed_up.ensures.next in_made) in
    let frames : c.note_handed_up.new.self.frames.items ≡ p.early.frames.items = frames_same made.early.frames c.note_handed_up.new.self.frames c.note_handed_up.ensures.frames ∙ ap (λ (e : Early). e.frames.items) c.make_ready.ensures.early in (
      d,
      behind,
      is,
      same ∙ ap (λ (ds : List Datagram). ds ++ behind) more ∙ append_assoc p.ready.items (d ∷ []) behind,
      (last, subst (λ (fs : List (Option Frame)). AreFrames f.from (after f.number) behind last fs) frames are, expected, none),
    )

pub returns-clause-none_lost : goal.returns-clause-none_lost
returns-clause-none_lost c = λ f has.
    let p = c.args.self.now in
    let made = c.make_ready.new.self in
    let frames : c.note_handed_up.new.self.frames.items ≡ p.early.frames.items = frames_same made.early.frames c.note_handed_up.new.self.frames c.note_handed_up.ensures.frames ∙ ap (λ (e : Early). e.frames.items) c.make_ready.ensures.early in
    c.follow.ensures.none_lost f (subst (λ (fs : List (Option Frame)). Contains fs (Some f)) (sym frames) has)

pub returns-clause-only : goal.returns-clause-only
returns-clause-only c =
    let made = c.make_ready.new.self in
    let now = c.note_handed_up.new.self.frames in
    let rest =
    peers_rest made.ready.items made.ready.items made.early.frames.items now.items (λ x y h. h) (keeps_some_same made.early.frames.items now.items (frames_same made.early.frames now c.note_handed_up.ensures.frames)) in
    λ a b h. c.make_ready.ensures.only a b (rest a b (c.follow.ensures.only a b h))
