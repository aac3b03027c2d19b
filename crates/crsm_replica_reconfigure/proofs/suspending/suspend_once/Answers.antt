use Rattle.std.proofs.Common.{◌≡◌, ◌∙◌, sym, subst, ap, true}
use Rattle.std.proofs.lemmas.Result.{IfOk-weaker}
use Rattle.crsm_spec.specs.Types.{Rec}
use Rattle.crsm_spec.specs.Draft.{keep}
use Rattle.crsm_replica.specs.Replica.{ReplicaStands}
use Rattle.crsm_replica_reconfigure.proofs.SuspendLemmas.{once_done, once_now}
use Rattle.crsm_replica_reconfigure.proofs.DraftLemmas.{is_whole, instead}
use Rattle.crsm_spec.specs.Coordinate.{suspend_once}
use Rattle.crsm_replica_reconfigure.proofs.suspending.suspend_once.Goals as goal

pub returns-then-is_suspended : goal.returns-then-is_suspended
returns-then-is_suspended c = λ x s.
    let is = once_done x (sym (c.is_suspended-is_suspended.ensures x s) ∙ c.if-is_suspended.true) in
    let fit : (suspend_once x).fitting ≡ true = ap (λ y. y.fitting) is ∙ (c.states_are_sound.ensures c.args.state.now x s).fitting in
    (sym fit, is_whole c.args.state.now x _ fit (subst (λ y. ReplicaStands c.args.state.now y) (sym is) s))

pub returns : goal.returns
returns c =
    IfOk-weaker c.keep.result _ _ (λ _ made x s.
    let epoch = c.known-epoch.ensures x s in
    let k = made x s in
    let is : keep (Rec.Suspend c.known-epoch.result) x ≡ suspend_once x =
    ap (λ e. keep (Rec.Suspend e) x) epoch ∙ sym (once_now x (sym (c.is_suspended-is_suspended.ensures x s) ∙ c.if-is_suspended.false)) in
    (k.0 ∙ ap (λ y. y.fitting) is, instead c.keep.new.self x _ _ is k.1)) c.keep.ensures
