-- The state at the beginning of an epoch.
use Rattle.std.proofs.Common.{◌≡◌, ℕ, Bool, true, false, refl, sym, ◌∙◌, subst, List, [], ◌∷◌}
use Rattle.crsm_spec.specs.Types.{Stamp, Entry, Rec}
use Rattle.crsm_spec.specs.Log.{Log, active, unexecuted, last_stamp, known, decision, executed, logged, logged_in}
use Rattle.crsm_spec.specs.Fits.{fits}
use Rattle.crsm_spec.specs.Replica.{Replica, last_issued}
use Rattle.crsm_spec.specs.Lists.{first_of}
use Rattle.crsm_spec.specs.Ready.{all_received}
use Rattle.crsm_commit.specs.Received.{LatestStands}
use Rattle.crsm_commit.specs.Pending.{PendingStands}
use Rattle.crsm_replica_epoch.specs.Linked.{LinksStand}
use Rattle.crsm_replica_epoch.specs.EpochState.{EpochStands, EachFits, forgotten, is_above}
use Rattle.crsm_replica_epoch.proofs.Logged.{fresh_at_entry}
use Rattle.crsm_replica_epoch.specs.declared.state.EpochState.{EpochState}

pub opened : (running : EpochState) (r : Replica) (log : Log) → running.clock ≡ 0 → LatestStands running.latest [] → running.owed ≡ [] →
    ((q : Replica) → q.pushed ≡ [] → q.acked ≡ [] → q.taken ≡ [] → LinksStand running.links q) → ((tracked : Stamp → Bool) → PendingStands running.pending tracked [] []) →
    EachFits r.me r.n log → (active log ≡ true → unexecuted log ≡ []) → EpochStands running (record (forgotten r) { log = log })
unfolding EpochStands last_issued first_of all_received
opened running r log clock latest owed links pending fit none = record {
  fitting = fit;
  clock = clock;
  latest = latest;
  from_one = tt;
  owed = owed;
  links = links _ refl refl refl;
  waiting = λ a. subst (λ (es : List Entry). PendingStands running.pending (is_above (last_stamp log)) es []) (sym (none a)) (pending (is_above (last_stamp log)));
}

-- the record of entering an epoch leaves the unexecuted entries
entered_same : (x : ℕ) (log : Log) → unexecuted (Rec.Enter x ∷ log) ≡ unexecuted log
unfolding unexecuted last_stamp logged logged_in executed known decision
entered_same x log = refl

pub opened_inactive : (running : EpochState) (r : Replica) → running.clock ≡ 0 → LatestStands running.latest [] → running.owed ≡ [] →
    ((q : Replica) → q.pushed ≡ [] → q.acked ≡ [] → q.taken ≡ [] → LinksStand running.links q) → ((tracked : Stamp → Bool) → PendingStands running.pending tracked [] []) →
    EachFits r.me r.n r.log → active r.log ≡ false → EpochStands running (forgotten r)
opened_inactive running r clock latest owed links pending fit idle = opened running r r.log clock latest owed links pending fit (λ a. absurd (cc (sym idle ∙ a)))

pub opened_entered : (running : EpochState) (r : Replica) → running.clock ≡ 0 → LatestStands running.latest [] → running.owed ≡ [] →
    ((q : Replica) → q.pushed ≡ [] → q.acked ≡ [] → q.taken ≡ [] → LinksStand running.links q) → ((tracked : Stamp → Bool) → PendingStands running.pending tracked [] []) →
    EachFits r.me r.n r.log → fits r.me r.n r.log (Rec.Enter (known r.log)) ≡ true → EpochStands running (record (forgotten r) { log = Rec.Enter (known r.log) ∷ r.log })
opened_entered running r clock latest owed links pending fit enters =
    opened running r (Rec.Enter (known r.log) ∷ r.log) clock latest owed links pending (enters, fit) (λ a. entered_same (known r.log) r.log ∙ fresh_at_entry r.me r.n r.log fit enters)
