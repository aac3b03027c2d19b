use Rattle.std.proofs.Common.{◌≡◌, ◌∙◌, ◌<◌, sym, subst, true}
use Rattle.std.specs.Prelude.{◌≢◌}
use Rattle.std.proofs.lemmas.Result.{IfOk-weaker}
use Rattle.crsm_spec.specs.Types.{Entry, Rec}
use Rattle.crsm_spec.specs.Replica.{latest_from}
use Rattle.crsm_spec.specs.Draft.{Draft, keep, count_vote}
use Rattle.crsm_spec.specs.Frames.{ack, owe}
use Rattle.crsm_replica.specs.Replica.{ReplicaStands}
use Rattle.crsm_core.proofs.Fitting.{if_fits, stands_as}
use Rattle.crsm_core.proofs.FrameLemmas.{received_at, me_kept, received_kept, is_taken, is_not_taken}
use Rattle.crsm_core.proofs.frames.take_prepare.Goals as goal

pub returns-then-not-branch : goal.returns-then-not-branch
returns-then-not-branch c = λ x s n l.
    let e : Entry = c.args.entry.now in
    let both = c.in_ok-log_entry.ensures x s in
    is_not_taken c.log_entry.new.state c.args.k e x (sym both.0 ∙ c.if-not-branch.true) both.1

pub returns : goal.returns
returns c =
    IfOk-weaker c.owe.result _ _ (λ _ made x s n l.
    let e : Entry = c.args.entry.now in
    let k = c.args.k in
    let t = e.stamp.time in
    let both = c.in_ok-log_entry.ensures x s in
    let y : Draft = keep (Rec.Prepare e) x in
    let fit : y.fitting ≡ true = sym both.0 ∙ c.if-not-branch.false in
    let kept : ReplicaStands c.log_entry.new.state y = stands_as c.log_entry.new.state _ y (if_fits x y fit) both.1 in
    let other : k ≢ y.replica.me = λ h. n (h ∙ me_kept (Rec.Prepare e) x) in
    let above : latest_from y.replica.received k < t = subst (λ hs. latest_from hs k < t) (sym (received_kept (Rec.Prepare e) x)) l in
    let a = c.in_ok-take_next.ensures y kept other above in
    let b = c.in_ok-ack.ensures (received_at k t y) a in
    let d = c.in_ok-count_vote.ensures (ack k (received_at k t y)) b in
    let f = c.in_ok-count_vote-2.ensures (count_vote e.stamp k (ack k (received_at k t y))) d in
    let g = made (count_vote e.stamp c.me-me.result (count_vote e.stamp k (ack k (received_at k t y)))) f in
    is_taken c.owe.new.self k e x fit
    (subst (λ m. ReplicaStands c.owe.new.self (owe e.stamp (count_vote e.stamp m (count_vote e.stamp k (ack k (received_at k t y)))))) (c.me-me.ensures.value x s) g)) c.owe.ensures
