-- The list that an epoch begins with, read off the logs of one moment.
use Rattle.std.specs.Prelude.{◌≡◌, ◌⊎◌, ℕ, ◌+◌, ◌<◌, ◌≤◌, List, length, Some, slice_get}
use Rattle.crsm_spec.specs.Types.{Entry, Decision, Rec}
use Rattle.crsm_spec.specs.Lists.{Among}
use Rattle.crsm_spec.specs.Log.{Log, known, start, executed}
use Rattle.crsm_fact_log.specs.Logs.{Extends}
use Rattle.crsm_law_collection.specs.Collecting.{CommitOf, EpochFacts}
use Rattle.crsm_law_agreement.specs.DecisionLaws.{IsSpecOf}

-- Epoch e begins with this list: each list of a replica that knows an earlier epoch is a prefix of it.
pub record IsOpening (e : ℕ) (opening : List Entry) (logs : ℕ → Log) : Type 0 where
  pub before : (k : ℕ) (log : Log) → Extends log (logs k) → known log < e → (p : ℕ) (x : Entry) → slice_get (executed log) p ≡ Some x → slice_get opening p ≡ Some x
  pub older : (p : ℕ) (x : Entry) → slice_get opening p ≡ Some x → x.epoch < e
  pub begin : (k : ℕ) (log : Log) → Extends log (logs k) → known log ≡ e → start log ≡ length opening
  pub tail : (k : ℕ) (d : Decision) → Among (logs k) (Rec.Decide d) → d.epoch ≡ e → (i : ℕ) (y : Entry) → slice_get d.tail i ≡ Some y → slice_get opening (d.base_len + i) ≡ Some y

-- Each executed entry of the log is the opening's at its place, or is after it and was committed there in epoch e.
abbrev pub IsPlaced : ℕ → List Entry → (ℕ → Log) → Log → Type 0
IsPlaced e opening logs log =
    (p : ℕ) (x : Entry) → slice_get (executed log) p ≡ Some x → (slice_get opening p ≡ Some x) ⊎ ((length opening ≤ p) × CommitOf e logs p x)

-- some log has a decision of epoch e, or e is 0
abbrev pub IsEpochOf : ℕ → (ℕ → Log) → Type 0
IsEpochOf e logs = (e ≡ 0) ⊎ ((k : ℕ) × (d : Decision) × Among (logs k) (Rec.Decide d) × (d.epoch ≡ e))

-- The properties of an epoch: it has an opening, of which each earlier one is a prefix, with newer entries after it,
-- and a Spec; lists of replicas that know it extend the opening by what was committed, and the premises of the law of
-- collection hold.
pub record EpochHolds (n e : ℕ) (logs : ℕ → Log) : Type 0 where
  pub opening : List Entry
  pub counted : List ℕ
  pub opens : IsOpening e opening logs
  pub earlier : (f : ℕ) (o : List Entry) → f < e → IsEpochOf f logs → IsOpening f o logs → (p : ℕ) (x : Entry) → slice_get o p ≡ Some x → slice_get opening p ≡ Some x
  pub newer : (f : ℕ) (o : List Entry) → f < e → IsEpochOf f logs → IsOpening f o logs → (p : ℕ) (x : Entry) → length o ≤ p → slice_get opening p ≡ Some x → f ≤ x.epoch
  pub specs : IsSpecOf n e counted logs
  pub placed : (k : ℕ) (log : Log) → Extends log (logs k) → known log ≡ e → IsPlaced e opening logs log
  pub facts : EpochFacts e n (length opening) counted logs
