-- The laws of logs in every world reached.
use Rattle.std.specs.Prelude.{ℕ, ◌≤◌}
use Rattle.crsm_spec.specs.Clock.{u64_max}
use Rattle.crsm_spec.specs.Log.{boots}
use Rattle.crsm_spec.specs.World.{World, log_at}
use Rattle.crsm_fact_log.specs.Logs.{AllFit}
use Rattle.crsm_law_steps.specs.Happenings.{IsReached}
use Rattle.crsm_law_epoch.specs.Seats.{Facts}
use Rattle.crsm_law_epoch.specs.Worlds.{seats, sent_in}
use Rattle.crsm_law_epoch.specs.Ordered.{AreOrdered}

-- no log has more than 2^64 - 1 boots
abbrev pub HasFewBoots : World → Type 0
HasFewBoots w = (k : ℕ) → boots (log_at w k) ≤ u64_max

-- Each record of each log may follow those before it.
abbrev pub LogsFit : Type 0
LogsFit = (n : ℕ) (w : World) → IsReached n w → HasFewBoots w → (k : ℕ) → AllFit k n (log_at w k)

-- The members of each recorded decision strictly rise and are below 15.
abbrev pub DecisionsAreOrdered : Type 0
DecisionsAreOrdered = (n : ℕ) (w : World) → IsReached n w → (k : ℕ) → AreOrdered (log_at w k)

-- The facts of all epochs hold in every world reached.
abbrev pub EpochsHoldAlways : Type 0
EpochsHoldAlways = (n : ℕ) (w : World) → IsReached n w → HasFewBoots w → Facts n (seats w) (sent_in w)
