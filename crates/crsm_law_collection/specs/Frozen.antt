-- A suspended replica logs no more entries in the epoch that it knows: its later logs have the same entries of it.
use Rattle.std.specs.Prelude.{◌≡◌, ℕ, IsTrue}
use Rattle.crsm_spec.specs.Log.{Log, known, logged_in, suspended}
use Rattle.crsm_fact_log.specs.Logs.{Extends, AllFit}

abbrev pub StaysFrozen : Type 0
StaysFrozen =
    (me n : ℕ) (log later : Log) → Extends log later → AllFit me n later → IsTrue (suspended log) →
    logged_in (known log) later ≡ logged_in (known log) log
