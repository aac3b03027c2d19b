use Rattle.std.proofs.Common.{◌≡◌, ◌∙◌, ◌+◌, ◌<◌, ◌==◌, false, true, sym, subst, arith, take, get_or}
use Rattle.std.proofs.lemmas.Bool.Decides.{nat_tests}
use Rattle.std.proofs.lemmas.List.{take_all}
use Rattle.std.proofs.lemmas.List.Elements.{All-get_or}
use Rattle.crsm_base.specs.Members.{IsMembers}
use Rattle.crsm_replica_epoch.specs.Linked.{LinksStand, others_of}
use Rattle.crsm_replica_epoch.proofs.Pushing.{with_pushed, before_pushing, pushed_next, passed_over}
use Rattle.crsm_replica_epoch.proofs.links.Links.push.Goals as goal
use Rattle.crsm_replica_epoch.proofs.links.Links.push.Goals.{then-member-me+in_ok-copy+in_ok-push, else-member-me}

pub loop-member-init : goal.loop-member-init
loop-member-init c r s above = before_pushing c.args.self.now r c.args.time c.args.payload.now above s

pub loop-member-preserved : goal.loop-member-preserved
loop-member-preserved c r s above =
    let members : IsMembers c.as_slice-member-items.result.now = subst IsMembers (sym c.as_slice-member-items.ensures.value) c.as_slice-member-items.ensures.members in
    elim c.if-member-me.branch [
      | then-member-me+in_ok-copy+in_ok-push w ↦
          (let other : (get_or c.as_slice-member-items.result.now c.loop-member.member-index 0 == c.args.me) ≡ false = grind (arith, nat_tests, w.if-member-me.true) in
          let below : get_or c.as_slice-member-items.result.now c.loop-member.member-index 0 < 15 = All-get_or (λ k. k < 15) _ _ 0 c.loop-member-test.true c.as_slice-member-items.ensures.below in
          subst (λ links. LinksStand links (with_pushed r c.args.time c.args.payload.now (others_of c.args.me (take (c.loop-member.member-index + 1) c.as_slice-member-items.result.now)))) (sym w.self-is)
          (pushed_next c.args.self.now c.loop-member.self r c.args.time c.args.payload.now w.in_ok-copy.field-0 c.args.me c.as_slice-member-items.result.now c.loop-member.member-index 0 _ _
          members c.loop-member-test.true below other w.in_ok-copy.ensures s above (c.loop-member.invariant r s above) w.in_ok-push.ensures.sent w.push.ensures.receiver))
      | else-member-me w ↦
          (let same : (get_or c.as_slice-member-items.result.now c.loop-member.member-index 0 == c.args.me) ≡ true = grind (arith, nat_tests, w.if-member-me.false) in
          subst (λ links. LinksStand links (with_pushed r c.args.time c.args.payload.now (others_of c.args.me (take (c.loop-member.member-index + 1) c.as_slice-member-items.result.now)))) (sym w.self-is)
          (passed_over c.loop-member.self r c.args.time c.args.payload.now c.args.me c.as_slice-member-items.result.now c.loop-member.member-index 0 c.loop-member-test.true same (c.loop-member.invariant r s above)))
    ]

pub returns : goal.returns
returns c r s above =
    subst (λ ks. LinksStand c.loop-member.self (with_pushed r c.args.time c.args.payload.now (others_of c.args.me ks)))
    (take_all c.loop-member.member-index c.as_slice-member-items.result.now (omega arith) ∙ c.as_slice-member-items.ensures.value) (c.loop-member.invariant r s above)
