-- Logs short enough that every number in them can be encoded.
use Rattle.std.specs.Prelude.{◌≡◌, ℕ, ◌<◌, ◌≤◌, List, length, Some, slice_get}
use Rattle.std.specs.List.{AllByRecursion}
use Rattle.crsm_base.specs.Records.{FitsRec}
use Rattle.crsm_spec.specs.World.{Site, World, log_at, begin}
use Rattle.crsm_spec.specs.Acts.{Act}
use Rattle.crsm_spec.specs.Run.{ArePossible, all_worlds}
use Rattle.crsm_law_steps.specs.Happenings.{IsReached}
use Rattle.crsm_law_messages.specs.Counted.{AllSpelt}
use Rattle.crsm_law_epoch.specs.LogWorlds.{HasFewBoots}

-- maximum number of records of a log: 2^50
abbrev pub most_records : ℕ
most_records = 1125899906842624

-- no log has more records than that
abbrev pub HasShortLogs : World → Type 0
HasShortLogs w = (k : ℕ) → length (log_at w k) ≤ most_records

-- Each number of each log, of each replica and of each message sent is in its range.
pub record IsSpelt (n : ℕ) (w : World) : Type 0 where
  pub numbers : (k : ℕ) (s : Site) → slice_get w.sites k ≡ Some s → k < 15
  pub few : HasFewBoots w
  pub records : (k : ℕ) → AllByRecursion FitsRec (log_at w k)
  pub messages : AllSpelt n w

-- In every world that at most 15 replicas have reached with short logs, everything can be encoded.
abbrev pub ShortLogsAreSpelt : Type 0
ShortLogsAreSpelt = (n : ℕ) (w : World) → n ≤ 15 → IsReached n w → HasShortLogs w → IsSpelt n w

-- In every world of every possible run of at most 15 replicas, everything can be encoded.
abbrev pub RunsAreSpelt : Type 0
RunsAreSpelt = (n : ℕ) (acts : List Act) → n ≤ 15 → ArePossible (begin n) acts → AllByRecursion (IsSpelt n) (all_worlds n acts)
