-- What a detector in memory stands for.
use Rattle.std.specs.Prelude.{◌≡◌, ℕ, ◌<◌, slice_index, Option, Some, None}
use Rattle.crsm_spec.specs.Log.{Log}
use Rattle.crsm_ledger.specs.declared.ledger.Ledger.{Ledger}
use Rattle.crsm_ledger.specs.Ledger.{LedgerStands}
use Rattle.crsm_replica_io.specs.declared.input.WantedInput.{WantedInput}
use Rattle.crsm_replica_detector.specs.declared.detector.Detector.{Detector}
use Rattle.crsm_replica_detector.specs.declared.timers.Timers.{Timers}
use Rattle.crsm_replica_detector.specs.Watching.{Times, Watch}
use Rattle.crsm_replica_detector.specs.Wishing.{wish}
use Rattle.crsm_replica_detector.specs.Wished.{chosen}

-- the times that stand in memory
abbrev pub times_of : Timers → Times
times_of t = record { newest = t.newest; heard = slice_index t.heard; ticked = t.ticked; suspected = t.suspected }

-- the same times, but for numbers that no replica has
pub record AreAlike (t u : Times) : Type 0 where
  pub newest : t.newest ≡ u.newest
  pub heard : (k : ℕ) → k < 15 → t.heard k ≡ u.heard k
  pub ticked : t.ticked ≡ u.ticked
  pub suspected : t.suspected ≡ u.suspected

abbrev pub TimersStand : Option Timers → Watch → Type 0
TimersStand None None = Unit {0}
TimersStand None (Some u) = ⊥
TimersStand (Some t) None = ⊥
TimersStand (Some t) (Some u) = AreAlike (times_of t) u

-- the detector is that of replica me, and has these times
pub record DetectorStands (d : Detector) (me : ℕ) (w : Watch) : Type 0 where
  pub owner : d.me ≡ me
  pub timers : TimersStand d.timers w

-- for all times that the detector stands for
abbrev pub WhereStands : Detector → (ℕ → Watch → Type 0) → Type 0
WhereStands d P = (me : ℕ) (w : Watch) → DetectorStands d me w → P me w

-- The input is the one that is wanted, and the detector has noted it if it is a suspicion.
pub record Wishes (new : Detector) (me n : ℕ) (w : Watch) (log : Log) (what : WantedInput) : Type 0 where
  pub wished : what ≡ wish me n w log
  pub stands : DetectorStands new me (chosen what w)

-- the same for each log that the ledger stands for
abbrev pub WishesWithLedger : Ledger → Detector → ℕ → Watch → WantedInput → Type 0
WishesWithLedger ledger new me w what = (n : ℕ) (log : Log) → LedgerStands me n ledger log → Wishes new me n w log what
