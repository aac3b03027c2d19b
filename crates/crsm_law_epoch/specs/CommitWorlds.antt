-- The law of commits.
use Rattle.std.specs.Prelude.{ℕ}
use Rattle.crsm_spec.specs.World.{World}
use Rattle.crsm_law_steps.specs.Happenings.{IsReached}
use Rattle.crsm_law_epoch.specs.Worlds.{seats, sent_in}
use Rattle.crsm_law_epoch.specs.LogWorlds.{HasFewBoots}
use Rattle.crsm_law_epoch.specs.Witness.{AreWitnessed}

-- In every world reached, a committed entry was logged by a majority of its epoch's Spec, and every entry that a member
-- stamps with an earlier timestamp in that epoch, at any time, had been logged at the commit.
abbrev pub CommitsAreWitnessed : Type 0
CommitsAreWitnessed = (n : ℕ) (w : World) → IsReached n w → HasFewBoots w → AreWitnessed n (seats w) (sent_in w)
