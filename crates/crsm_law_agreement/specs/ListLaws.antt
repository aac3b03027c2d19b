-- The laws of agreement.
use Rattle.std.specs.Prelude.{◌⊎◌, ℕ}
use Rattle.crsm_spec.specs.Lists.{IsPrefixOf}
use Rattle.crsm_spec.specs.Log.{Log, executed}
use Rattle.crsm_spec.specs.World.{World, log_at}
use Rattle.crsm_fact_log.specs.Logs.{Extends}
use Rattle.crsm_law_steps.specs.Happenings.{IsReached}
use Rattle.crsm_law_epoch.specs.LogWorlds.{HasFewBoots}
use Rattle.crsm_law_messages.specs.Counted.{AllSpelt}
use Rattle.crsm_law_agreement.specs.Openings.{IsEpochOf, EpochHolds}

-- In every world reached, each epoch that has begun has the properties of `EpochHolds`.
abbrev pub BegunEpochsHold : Type 0
BegunEpochsHold = (n : ℕ) (w : World) → IsReached n w → HasFewBoots w → AllSpelt n w → (e : ℕ) → IsEpochOf e (log_at w) → EpochHolds n e (log_at w)

-- Of two replicas' executed lists, at any moments, one is a prefix of the other: in every world reached, whatever was
-- lost, repeated or late, whatever the clocks read, whichever replicas stopped and restarted, and whatever epochs were
-- begun.
abbrev pub ListsAgree : Type 0
ListsAgree =
    (n : ℕ) (w : World) → IsReached n w → HasFewBoots w → AllSpelt n w →
    (j k : ℕ) (a b : Log) → Extends a (log_at w j) → Extends b (log_at w k) → IsPrefixOf (executed a) (executed b) ⊎ IsPrefixOf (executed b) (executed a)
