-- The first of the unexecuted entries, if it is ready.
use Rattle.std.proofs.Common.{◌≡◌, ◌≤◌, ℕ, Bool, true, false, refl, sym, ◌∙◌, ap, List, [], ◌∷◌, Option, Some, None}
use Rattle.std.specs.Prelude.{◌&&◌, if◌then◌else◌}
use Rattle.std.specs.List.{AllByRecursion}
use Rattle.crsm_spec.specs.Types.{Stamp, Entry}
use Rattle.crsm_spec.specs.Lists.{first_of}
use Rattle.crsm_spec.specs.Log.{active, unexecuted, last_stamp, logged}
use Rattle.crsm_spec.specs.Replica.{Replica, members_of, spec_of}
use Rattle.crsm_spec.specs.Ready.{all_received, is_ready, is_next}
use Rattle.crsm_commit.specs.Received.{LatestStands}
use Rattle.crsm_commit.specs.Pending.{PendingStands, may_commit, first_ready}
use Rattle.crsm_commit.proofs.Bits.{same_stamp}
use Rattle.crsm_replica_epoch.specs.First.{ready_first, ready_of}
use Rattle.crsm_replica_epoch.specs.EpochState.{EpochStands, is_above}
use Rattle.crsm_replica_epoch.specs.declared.state.EpochState.{EpochState}
use Rattle.crsm_replica_epoch.proofs.Recorded.{all_above}

and_true : (b : Bool) → (b && true) ≡ b
and_true true = refl
and_true false = refl

-- of the first entry the commit rule is that of counts
is_ready_first : (r : Replica) (e : Entry) (es : List Entry) → unexecuted r.log ≡ e ∷ es →
    may_commit (spec_of r) (members_of r) (all_received r) r.votes e.stamp ≡ is_ready r e.stamp
unfolding is_ready is_next first_of
is_ready_first r e es is =
    let next : is_next (unexecuted r.log) e.stamp ≡ true = ap (λ fs. is_next fs e.stamp) is ∙ same_stamp e.stamp in
    sym (ap (λ b. may_commit (spec_of r) (members_of r) (all_received r) r.votes e.stamp && b) next ∙ and_true _)

by_first : (r : Replica) (es : List Entry) → unexecuted r.log ≡ es → first_ready (spec_of r) (members_of r) (all_received r) r.votes es ≡ ready_first r es
unfolding ready_first
by_first r [] is = refl
by_first r (e ∷ es) is = ap (λ b. if b then Some e.stamp else None) (is_ready_first r e es is)

above_is : (r : Replica) → AllByRecursion (λ e. is_above (last_stamp r.log) e.stamp ≡ true) (unexecuted r.log)
unfolding unexecuted
above_is r = all_above (last_stamp r.log) (logged r.log)

pub first_is_ready : (running : EpochState) (r : Replica) (result : Option Stamp) (members spec : List ℕ) → EpochStands running r → members ≡ members_of r → spec ≡ spec_of r → active r.log ≡ true →
    ((tracked : Stamp → Bool) (waiting : List Entry) (votes : List (Stamp × ℕ)) (received : List (ℕ × ℕ)) → PendingStands running.pending tracked waiting votes → LatestStands running.latest received →
    AllByRecursion (λ h. 1 ≤ h.1) received → AllByRecursion (λ e. tracked e.stamp ≡ true) waiting → result ≡ first_ready spec members received votes waiting) → result ≡ ready_of r
unfolding EpochStands ready_of
first_is_ready running r result members spec s ms sp a ready =
    ready (is_above (last_stamp r.log)) (unexecuted r.log) r.votes (all_received r) (s.waiting a) s.latest s.from_one (above_is r)
    ∙ ap (λ ks. first_ready ks members (all_received r) r.votes (unexecuted r.log)) sp ∙ ap (λ ks. first_ready (spec_of r) ks (all_received r) r.votes (unexecuted r.log)) ms
    ∙ by_first r (unexecuted r.log) refl
