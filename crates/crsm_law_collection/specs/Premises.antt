-- The premises of the law of collection in terms of replicas' states: votes, times received, and the logs of all at a
-- commit.
use Rattle.std.specs.Prelude.{◌≡◌, ◌⊎◌, ℕ, ◌+◌, ◌<◌, ◌≤◌, IsTrue, List, ◌∷◌, Some, slice_get}
use Rattle.crsm_spec.specs.Types.{Stamp, Entry, Rec}
use Rattle.crsm_spec.specs.Lists.{has, Among}
use Rattle.crsm_spec.specs.Log.{Log, known, start, logged_in, executed}
use Rattle.crsm_spec.specs.Replica.{Replica, members_of, spec_of}
use Rattle.crsm_spec.specs.Ready.{is_ready, voted, reached, all_received}
use Rattle.crsm_fact_log.specs.Logs.{Extends, AllFit}
use Rattle.crsm_law_collection.specs.Collecting.{CommitOf, EpochFacts}

-- How a commit was made: the replica's state, and the log of each replica at that moment.
pub record WasReady (e : ℕ) (spec members : List ℕ) (logs : ℕ → Log) (log : Log) (s : Stamp) : Type 0 where
  pub replica : Replica
  pub then : ℕ → Log
  pub log_is : replica.log ≡ log
  pub spec_is : spec_of replica ≡ spec
  pub members_are : members_of replica ≡ members
  pub ready : IsTrue (is_ready replica s)
  -- each vote names a replica whose records hold an entry of that stamp
  pub votes : (t : Stamp) (k : ℕ) → IsTrue (voted replica.votes t k) → (y : Entry) × (y.stamp ≡ t) × Among (logged_in e (logs k)) y
  -- where a time was received from a member, each entry of that member with a time not above it is logged here
  pub received : (time k : ℕ) → IsTrue (reached (all_received replica) time k) → (y : Entry) → Among (logged_in e (then k)) y →
      y.stamp.origin ≡ k → y.stamp.time ≤ time → Among (logged_in e log) y
  -- and each entry of that member that it logs in a later step has a greater time
  pub later : (time k : ℕ) → IsTrue (reached (all_received replica) time k) → (y : Entry) → Among (logged_in e (logs k)) y →
      y.stamp.origin ≡ k → Among (logged_in e (then k)) y ⊎ (time < y.stamp.time)

pub record Premises (e n begins : ℕ) (spec members : List ℕ) (logs : ℕ → Log) : Type 0 where
  pub fit : (k : ℕ) → AllFit k n (logs k)
  pub begin : (k : ℕ) (log : Log) → Extends log (logs k) → known log ≡ e → start log ≡ begins
  pub made : (p : ℕ) (x : Entry) (c : CommitOf e logs p x) → WasReady e spec members logs c.log x.stamp
  -- all logs have the same entry with one stamp, and its origin, a member, logged it
  pub one : (j k : ℕ) (x y : Entry) → Among (logged_in e (logs j)) x → Among (logged_in e (logs k)) y → x.stamp ≡ y.stamp → x ≡ y
  pub origin : (k : ℕ) (y : Entry) → Among (logged_in e (logs k)) y →
      IsTrue (has members y.stamp.origin) × Among (logged_in e (logs y.stamp.origin)) y
  -- entries of earlier epochs are below the start length of e
  pub older : (k : ℕ) (log : Log) → Extends log (logs k) →
      (p : ℕ) (y : Entry) → slice_get (executed log) p ≡ Some y → y.epoch < e → p < begins
  -- an entry of e that was executed by an adoption while e was known was executed at that place by a commit
  pub adopted : (k : ℕ) (log : Log) (place : ℕ) (es : List Entry) → Extends (Rec.Adopt place es ∷ log) (logs k) → known log ≡ e →
      (i : ℕ) (y : Entry) → slice_get es i ≡ Some y → y.epoch ≡ e → CommitOf e logs (place + i) y

abbrev pub PremisesSuffice : Type 0
PremisesSuffice =
    (e n begins : ℕ) (spec members : List ℕ) (logs : ℕ → Log) → Premises e n begins spec members logs → EpochFacts e n begins spec logs
