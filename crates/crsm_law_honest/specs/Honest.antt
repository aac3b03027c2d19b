-- Sheets as the nodes of a cluster wrote them.
use Rattle.std.specs.Prelude.{◌≡◌, ℕ, List, Some}
use Rattle.crsm_spec.specs.Types.{Entry}
use Rattle.crsm_spec.specs.Lists.{Among, IsPrefixOf, last_of}
use Rattle.crsm_fact_log.specs.Logs.{Logged}
use Rattle.crsm_spec_process.specs.Lives.{Life, kept_turns}
use Rattle.crsm_law_cluster.specs.Clusters.{Event, log_in}
use Rattle.crsm_law_cluster.specs.Histories.{last_cluster}
use Rattle.crsm_law_lives.specs.Events.{lives_of}
use Rattle.crsm_law_sheets.specs.Sheets.{Sheet, last_log}
use Rattle.crsm_law_sheets.specs.Verdicts.{IsLastOf}

-- The sheet is that of a process: the log that it found, and all turns that it kept or the first of them.
pub record IsWrittenBy (l : Life) (s : Sheet) : Type 0 where
  pub me : s.me ≡ l.me
  pub found : s.found ≡ l.found
  pub turns : IsPrefixOf s.turns (kept_turns l.groups)

-- each of the sheets is that of one of these processes
abbrev pub AreWrittenBy : List Life → List Sheet → Type 0
AreWrittenBy ls sheets = (s : Sheet) → Among sheets s → (l : Life) × Among ls l × IsWrittenBy l s

-- The sheet has all own entries that its node's log file has at the end of the history.
abbrev pub IsComplete : ℕ → List Event → Sheet → Type 0
IsComplete n h s =
    (e : Entry) → e.stamp.origin ≡ s.me → Logged (log_in (last_cluster n h) s.me) e → Logged (last_log n s) e

-- the last sheet of each node is complete; of a node without a sheet nothing is asked
abbrev pub EndComplete : ℕ → List Event → List Sheet → Type 0
EndComplete n h sheets = (k : ℕ) (s : Sheet) → IsLastOf n sheets k s → IsComplete n h s

-- ---- sheets with all that was kept

-- The sheet is that of a process, with all turns that it kept.
pub record IsWholeOf (l : Life) (s : Sheet) : Type 0 where
  pub me : s.me ≡ l.me
  pub found : s.found ≡ l.found
  pub turns : s.turns ≡ kept_turns l.groups

-- the last sheet of each node is that of its last process, with all turns that this one kept
abbrev pub EndWhole : ℕ → List Life → List Sheet → Type 0
EndWhole n ls sheets =
    (k : ℕ) (s : Sheet) → IsLastOf n sheets k s →
    (l : Life) × (last_of (lives_of k ls) ≡ Some l) × IsWholeOf l s
