-- The law of collection, and its premises about the logs of all replicas at one moment.
use Rattle.std.specs.Prelude.{◌≡◌, ◌⊎◌, ℕ, suc, Bool, count_by, ◌-◌, ◌<◌, ◌≤◌, IsTrue, List, [], ◌∷◌, length, flat_map, Some, slice_get, Option, None}
use Rattle.std.specs.List.{AllByRecursion}
use Rattle.crsm_spec.specs.Types.{Stamp, Entry, Decision, Rec}
use Rattle.crsm_base.specs.Order.{stamp_lt}
use Rattle.crsm_spec.specs.Lists.{has, first_of, Among}
use Rattle.crsm_spec.specs.Log.{Log, known, start, logged_in, executed, last_stamp, unexecuted, suspended, above}
use Rattle.crsm_spec.specs.Paxos.{majority}
use Rattle.crsm_spec.specs.Replica.{LogPage}
use Rattle.crsm_fact_log.specs.Counting.{IsMajorityOf}
use Rattle.crsm_spec.specs.Collect.{frozen, pages_of, whole_ones, union, collected}
use Rattle.crsm_fact_log.specs.Logs.{Extends, AllFit}
use Rattle.crsm_fact_log.specs.Rising.{Rises}

-- A commit in epoch e that some replica has made by now: it had the log `log`, and executed x at this place.
-- `logs` says which log each replica has now.
pub record CommitOf (e : ℕ) (logs : ℕ → Log) (place : ℕ) (x : Entry) : Type 0 where
  pub by : ℕ
  pub log : Log
  pub kept : Extends (Rec.Commit x.stamp ∷ log) (logs by)
  pub epoch : known log ≡ e
  pub next : first_of (unexecuted log) ≡ Some x
  pub place_is : length (executed log) ≡ place

-- The properties of epoch e that hold at each moment.
pub record EpochFacts (e n begins : ℕ) (spec : List ℕ) (logs : ℕ → Log) : Type 0 where
  -- each record may follow those before it
  pub fit : (k : ℕ) → AllFit k n (logs k)
  -- all replicas that know the epoch have one start length
  pub begin : (k : ℕ) (log : Log) → Extends log (logs k) → known log ≡ e → start log ≡ begins
  -- a committed entry is logged at a majority, given by a test of replicas
  pub replicated : (p : ℕ) (x : Entry) → CommitOf e logs p x →
      (test : ℕ → Bool) × (majority (length spec) ≤ count_by test spec) × ((k : ℕ) → IsTrue (test k) → Among (logged_in e (logs k)) x)
  -- all logs have the same entry with one stamp
  pub one : (j k : ℕ) (x y : Entry) → Among (logged_in e (logs j)) x → Among (logged_in e (logs k)) y → x.stamp ≡ y.stamp → x ≡ y
  -- the replica that committed an entry had logged each entry up to its time that is logged anywhere by now
  pub stable : (p : ℕ) (x : Entry) (c : CommitOf e logs p x) (k : ℕ) (y : Entry) → Among (logged_in e (logs k)) y →
      y.stamp.time ≤ x.stamp.time → Among (logged_in e c.log) y
  -- while e is known, executed entries below its start are older, and the others were committed at their places
  pub before : (k : ℕ) (log : Log) → Extends log (logs k) → known log ≡ e →
      (p : ℕ) (x : Entry) → p < begins → slice_get (executed log) p ≡ Some x → x.epoch < e
  pub behind : (k : ℕ) (log : Log) → Extends log (logs k) → known log ≡ e →
      (p : ℕ) (x : Entry) → begins ≤ p → slice_get (executed log) p ≡ Some x → CommitOf e logs p x

-- These pages of k are a whole report: k had the log `log` when it sent the first of them, and was suspended.
pub record ReportOf (e : ℕ) (logs : ℕ → Log) (k : ℕ) (pages : List LogPage) : Type 0 where
  pub log : Log
  pub was : Extends log (logs k)
  pub epoch : known log ≡ e
  pub frozen_is : IsTrue (suspended log)
  pub page : LogPage
  pub first : first_of pages ≡ Some page
  pub length_is : page.executed ≡ length (executed log)
  pub last_is : page.last ≡ last_stamp log
  pub entries : flat_map (λ p. p.entries) pages ≡ frozen log (last_stamp log)

-- Each of these replicas has a complete report among the pages.
abbrev pub Reports : ℕ → (ℕ → Log) → List ℕ → List LogPage → Type 0
Reports e logs ks pages = (k : ℕ) → IsTrue (has ks k) → ReportOf e logs k (pages_of pages k)

-- An entry is at its place in what the decision begins with: in its tail, or in each list that is long enough; and one
-- of the reports' lists has the length of the base.
pub record StandsAt (e : ℕ) (logs : ℕ → Log) (ks : List ℕ) (pages : List LogPage) (reports : Reports e logs ks pages)
    (d : Decision) (p : ℕ) (x : Entry) : Type 0 where
  pub tail : d.base_len ≤ p → slice_get d.tail (p - d.base_len) ≡ Some x
  pub lists : (k : ℕ) (h : IsTrue (has ks k)) → p < length (executed (reports k h).log) →
      slice_get (executed (reports k h).log) p ≡ Some x
  pub base : p < d.base_len → (k : ℕ) × (h : IsTrue (has ks k)) × (length (executed (reports k h).log) ≡ d.base_len)

-- Each commit of epoch e is at its place in each decision that the reports of a majority make.
abbrev pub CollectionLaw : Type 0
CollectionLaw =
    (e n begins : ℕ) (spec members : List ℕ) (named : Option (List ℕ)) (logs : ℕ → Log) (log : Log) (pages : List LogPage) →
    EpochFacts e n begins spec logs → known log ≡ e → start log ≡ begins →
    IsMajorityOf spec (whole_ones spec pages) → (reports : Reports e logs (whole_ones spec pages) pages) →
    (p : ℕ) (x : Entry) → CommitOf e logs p x →
    StandsAt e logs (whole_ones spec pages) pages reports (collected spec named log members pages) p x

-- ---- the decision, without pages

-- A decision is a collection of epoch e: its tail is what a suspended majority has logged in e above its base.
pub record IsCollected (e begins : ℕ) (spec : List ℕ) (logs : ℕ → Log) (d : Decision) : Type 0 where
  pub ks : List ℕ
  pub many : IsMajorityOf spec ks
  pub frozen_are : (k : ℕ) → IsTrue (has ks k) → (log : Log) × Extends log (logs k) × (known log ≡ e) × IsTrue (suspended log)
  -- the base is the start, or ends with what was committed there
  pub floor : Option Stamp
  pub reaches : ((d.base_len ≡ begins) × (floor ≡ None))
      ⊎ ((q : ℕ) × (y : Entry) × CommitOf e logs q y × (d.base_len ≡ suc q) × (floor ≡ Some y.stamp))
  pub tail_is : d.tail ≡ above floor (union (flat_map (λ k. logged_in e (logs k)) ks))

-- The reports of a suspended majority make a collection.
abbrev pub ReportsMakeCollections : Type 0
ReportsMakeCollections =
    (e n begins : ℕ) (spec members : List ℕ) (named : Option (List ℕ)) (logs : ℕ → Log) (log : Log) (pages : List LogPage) →
    EpochFacts e n begins spec logs → known log ≡ e → start log ≡ begins →
    IsMajorityOf spec (whole_ones spec pages) → Reports e logs (whole_ones spec pages) pages →
    IsCollected e begins spec logs (collected spec named log members pages)

-- A collection stays one while logs grow.
abbrev pub CollectionsStay : Type 0
CollectionsStay =
    (e begins n : ℕ) (spec : List ℕ) (logs later : ℕ → Log) (d : Decision) →
    ((k : ℕ) → Extends (logs k) (later k)) → ((k : ℕ) → AllFit k n (later k)) →
    IsCollected e begins spec logs d → IsCollected e begins spec later d

-- Each commit of e, at any moment, is at its place in each collection: in the tail if it is past the base, and below it
-- in each executed list, of a replica that knows e, that is long enough. No commit's place is below the start.
pub record Stands (e begins : ℕ) (logs : ℕ → Log) (d : Decision) (p : ℕ) (x : Entry) : Type 0 where
  pub low : begins ≤ p
  pub tail : d.base_len ≤ p → slice_get d.tail (p - d.base_len) ≡ Some x
  pub lists : (k : ℕ) (log : Log) → Extends log (logs k) → known log ≡ e → p < length (executed log) → slice_get (executed log) p ≡ Some x

abbrev pub CommitsStand : Type 0
CommitsStand =
    (e n begins : ℕ) (spec : List ℕ) (logs : ℕ → Log) (d : Decision) (p : ℕ) (x : Entry) →
    EpochFacts e n begins spec logs → IsCollected e begins spec logs d → CommitOf e logs p x → Stands e begins logs d p x

-- A collection's tail rises, has logged entries of e only, and begins above the last entry of the base. Its base is not
-- below the start.
pub record IsWellMade (e begins : ℕ) (logs : ℕ → Log) (d : Decision) : Type 0 where
  pub low : begins ≤ d.base_len
  pub rises : Rises d.tail
  pub logged_are : (z : Entry) → Among d.tail z → (k : ℕ) × Among (logged_in e (logs k)) z
  pub behind : (q : ℕ) (y z : Entry) → CommitOf e logs q y → q < d.base_len → Among d.tail z → IsTrue (stamp_lt y.stamp z.stamp)

abbrev pub CollectionsAreWellMade : Type 0
CollectionsAreWellMade =
    (e n begins : ℕ) (spec : List ℕ) (logs : ℕ → Log) (d : Decision) →
    EpochFacts e n begins spec logs → IsCollected e begins spec logs d → IsWellMade e begins logs d
