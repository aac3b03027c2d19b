use Rattle.std.proofs.Common.{◌≡◌, ◌∙◌, length, refl, sym, subst, arith}
use Rattle.std.specs.Prelude.{drop}
use Rattle.crsm_fact_log.proofs.Lists.{get_some}
use Rattle.crsm_mpspec.specs.Draft.{reply}
use Rattle.crsm_mpspec.specs.Log.{executed}
use Rattle.crsm_mpspec.specs.Step.{reply_line}
use Rattle.crsm_mpspec.specs.Types.{Command}
use Rattle.crsm_mpreplica.specs.State.{MpReplicaStands, waiting_of, with_waiting}
use Rattle.crsm_mpcore.proofs.ReplyLemmas.{first-replied, nobody, none-replied, one_less}
use Rattle.crsm_mpcore.proofs.replies.replies.Goals as goal

pub loop-replied-init : goal.loop-replied-init
loop-replied-init c x s = record { draft = x; stands = s; same = refl; left = omega arith }

pub returns-in_default : goal.returns-in_default
returns-in_default c x s =
    let way = c.loop-replied.invariant x s in
    let none = c.in_default.ensures.none way.draft way.stands in
    subst (MpReplicaStands c.next_due.new.self) (sym (none-replied way.draft none.0) ∙ way.same) none.1

pub loop-replied-preserved : goal.loop-replied-preserved
unfolding reply with_waiting waiting_of
loop-replied-preserved c x s =
    let way = c.loop-replied.invariant x s in
    let y = way.draft in
    let done = executed y.replica.log in
    let slot = c.in-Some.slot in
    let w = waiting_of (slot, c.in-Some.command) in
    let ws = drop 1 y.replica.waiting in
    let first = c.in-Some.ensures.first y way.stands in
    let rest = c.in-Some.ensures.rest y way.stands in
    let v = get_some done slot (c.in-Some.ensures.executed y way.stands) in
    let line = subst (λ (d : Command). c.in_ok-line.line ≡ reply_line y.replica.me done (waiting_of (slot, d)) v.0) c.get.ensures (c.in_ok-line.ensures (with_waiting ws y) v.0 rest v.1) in
    record {
      draft = reply (reply_line y.replica.me done w v.0) (with_waiting ws y);
      stands = subst (λ line. MpReplicaStands c.reply.new.self (reply line (with_waiting ws y))) line (c.in_ok-reply.ensures (with_waiting ws y) rest);
      same = first-replied y w ws v.0 first v.1 ∙ way.same;
      left = one_less y.replica.waiting ws w c.loop-replied._replied (length x.replica.waiting) first way.left;
    }

pub returns : goal.returns
returns c x s =
    let way = c.loop-replied.invariant x s in
    let all = c.waiting_len-replied-end.ensures x s in
    let gone : length way.draft.replica.waiting ≡ 0 = omega (arith, way.left, all, c.loop-replied-test.false) in
    subst (MpReplicaStands c.loop-replied.state) (sym (none-replied way.draft (nobody _ way.draft.replica.waiting gone)) ∙ way.same) way.stands
