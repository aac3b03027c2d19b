use Rattle.std.proofs.Common.{◌≡◌, [], inl, subst, sym}
use Rattle.std.proofs.lemmas.Option.{none-some}
use Rattle.crsm_port_flow.proofs.Earlies.{head_same, ok_later, ok_map}
use Rattle.crsm_port_flow.specs.Again.{IsAgain}
use Rattle.crsm_port_flow.specs.Early.{IsPastIn}
use Rattle.crsm_port_flow.specs.Followed.{IsFollowedFrom}
use Rattle.crsm_port_flow.specs.declared.heads.Head.{Head}
use Rattle.crsm_port_flow.proofs.peers.FromPeers.take_in.Goals as goal

pub returns-in-Some-clause-followed : goal.returns-in-Some-clause-followed
returns-in-Some-clause-followed c =
    let from = c.args.from in
    let bytes = c.args.bytes.now in
    let old = c.args.self.now in
    let new = c.take_frame.new.self in
    let frame = c.in-Some.frame in
    ok_map c.take_frame.result _ _
    (λ w sender to epoch number head.
    let h : Head = record { from = sender; to = to; epoch = epoch; number = number } in
    subst (λ (x : Head). IsFollowedFrom x.from x.epoch x.number from bytes old new) (head_same frame h (c.in-Some.ensures.only h head)) w)
    c.take_frame.ensures.followed

pub returns-in_ok-make_ready-in-None-clause-taken : goal.returns-in_ok-make_ready-in-None-clause-taken
returns-in_ok-make_ready-in-None-clause-taken c = let (d, is, more) = c.in_ok-make_ready-in-None.ensures.ready in inl (d, [], is, more)

pub returns-in_ok-make_ready-in-None-clause-followed : goal.returns-in_ok-make_ready-in-None-clause-followed
returns-in_ok-make_ready-in-None-clause-followed c = λ sender to epoch number head.
    let h : Head = record { from = sender; to = to; epoch = epoch; number = number } in
    absurd (none-some h (c.in-None.ensures.only h head))

pub returns-in-Some-clause-back : goal.returns-in-Some-clause-back
returns-in-Some-clause-back c =
    let old = c.args.self.now in
    let new = c.take_frame.new.self in
    let frame = c.in-Some.frame in
    let links = old.early.links.items in
    let back = c.take_frame.ensures.back in
    ok_map c.take_frame.result _ _
    (λ w sender to epoch number head past again.
    let h : Head = record { from = sender; to = to; epoch = epoch; number = number } in
    let same : frame ≡ h = head_same frame h (c.in-Some.ensures.only h head) in
    w (
      subst (λ (x : Head). IsPastIn x.from x.epoch x.number links) (sym same) past,
      subst (λ (x : Head). IsAgain x.from x.epoch x.number c.args.now old.again) (sym same) again,
    ))
    (ok_later c.take_frame.result (IsPastIn frame.from frame.epoch frame.number links × IsAgain frame.from frame.epoch frame.number c.args.now old.again) (new ≡ old) (λ both. back both.0 both.1))

pub returns-in_ok-make_ready-in-None-clause-back : goal.returns-in_ok-make_ready-in-None-clause-back
returns-in_ok-make_ready-in-None-clause-back c = λ sender to epoch number head past again.
    let h : Head = record { from = sender; to = to; epoch = epoch; number = number } in
    absurd (none-some h (c.in-None.ensures.only h head))
