-- The beginning of the next epoch, by a collection.
use Rattle.std.specs.Prelude.{◌≡◌, ℕ, ◌≤◌, ◌<◌, IsTrue, nat_le, List, ◌++◌, length, take, flat_map, Option, Some, None, slice_get, ◌⊎◌}
use Rattle.crsm_spec.specs.Types.{Stamp, Entry, Decision}
use Rattle.crsm_spec.specs.Lists.{IsPrefixOf, Among, first_of}
use Rattle.crsm_spec.specs.Log.{Log, known, start, executed}
use Rattle.crsm_spec.specs.Paxos.{majority}
use Rattle.crsm_spec.specs.Replica.{LogPage}
use Rattle.crsm_spec.specs.Collect.{pages_of, whole_ones, collected}
use Rattle.crsm_base.specs.Reading.{is_rising}
use Rattle.crsm_fact_log.specs.Logs.{Extends}
use Rattle.crsm_fact_log.specs.Rising.{Rises, IsAbove}
use Rattle.crsm_law_collection.specs.Collecting.{EpochFacts, IsCollected}
use Rattle.crsm_law_collection.specs.Paging.{AreParts}

-- A coordinator's decision, made when as many reports are complete as a majority, is a collection.
abbrev pub CompleteIsCollected : Type 0
CompleteIsCollected =
    (e n begins : ℕ) (counted members : List ℕ) (named : Option (List ℕ)) (logs : ℕ → Log) (log : Log) (pages : List LogPage) →
    EpochFacts e n begins counted logs → known log ≡ e → start log ≡ begins → AreParts e logs pages →
    IsTrue (nat_le (majority (length counted)) (length (whole_ones counted pages))) →
    IsCollected e begins counted logs (collected counted named log members pages)

-- lists of replicas that know e are equal below its start
abbrev pub AgreeBelow : ℕ → ℕ → (ℕ → Log) → Type 0
AgreeBelow e begins logs =
    (j k : ℕ) (log other : Log) → Extends log (logs j) → known log ≡ e → Extends other (logs k) → known other ≡ e →
    (p : ℕ) (x y : Entry) → p < begins → slice_get (executed log) p ≡ Some x → slice_get (executed other) p ≡ Some y → x ≡ y

-- Each list of a replica that knows e is a prefix of the beginning of the next epoch, whichever replica's list its base
-- is taken from.
abbrev pub ListsArePrefixes : Type 0
ListsArePrefixes =
    (e n begins : ℕ) (counted : List ℕ) (logs : ℕ → Log) (d : Decision) (h : ℕ) (holder : Log) (k : ℕ) (log : Log) →
    EpochFacts e n begins counted logs → AgreeBelow e begins logs → IsCollected e begins counted logs d →
    Extends holder (logs h) → known holder ≡ e → d.base_len ≤ length (executed holder) →
    Extends log (logs k) → known log ≡ e →
    IsPrefixOf (executed log) (take d.base_len (executed holder) ++ d.tail)

-- The beginning of the next epoch rises by epoch and stamp, if the list that its base is taken from does.
abbrev pub StartRises : Type 0
StartRises =
    (e n begins : ℕ) (counted : List ℕ) (logs : ℕ → Log) (d : Decision) (h : ℕ) (holder : Log) →
    EpochFacts e n begins counted logs → IsCollected e begins counted logs d →
    Extends holder (logs h) → known holder ≡ e → IsTrue (is_rising (executed holder)) →
    IsTrue (is_rising (take d.base_len (executed holder) ++ d.tail))
