-- The laws of decisions.
use Rattle.std.specs.Prelude.{◌≡◌, ℕ, ◌+◌, List}
use Rattle.crsm_spec.specs.Types.{Ballot, Decision, Rec}
use Rattle.crsm_spec.specs.Lists.{Among}
use Rattle.crsm_spec.specs.Log.{Log, known, decision, spec}
use Rattle.crsm_spec.specs.World.{World, log_at}
use Rattle.crsm_fact_log.specs.Logs.{Extends, AllFit}
use Rattle.crsm_law_steps.specs.Happenings.{IsReached}
use Rattle.crsm_law_collection.specs.Collecting.{EpochFacts, IsCollected}
use Rattle.crsm_law_epoch.specs.LogWorlds.{HasFewBoots}
use Rattle.crsm_law_messages.specs.Counted.{AllSpelt}
use Rattle.crsm_law_agreement.specs.Ballots.{AreBallots, IsComplete}

-- In every world reached, each accepted decision was offered once in its ballot, over the promises of a majority, and
-- each recorded decision was chosen.
abbrev pub BallotsHold : Type 0
BallotsHold = (n : ℕ) (w : World) → IsReached n w → HasFewBoots w → AllSpelt n w → AreBallots n (log_at w)

-- all logs that knew epoch e had this Spec of it
abbrev pub IsSpecOf : ℕ → ℕ → List ℕ → (ℕ → Log) → Type 0
IsSpecOf n e counted logs = (k : ℕ) (log : Log) → Extends log (logs k) → known log ≡ e → spec n log ≡ counted

-- If an epoch has one Spec, all decisions after it are equal.
abbrev pub ChoicesAreOne : Type 0
ChoicesAreOne =
    (n e : ℕ) (counted : List ℕ) (logs : ℕ → Log) → ((k : ℕ) → AllFit k n (logs k)) → AreBallots n logs → IsSpecOf n e counted logs →
    (j k : ℕ) (c d : Decision) → Among (logs j) (Rec.Decide c) → Among (logs k) (Rec.Decide d) → c.epoch ≡ e + 1 → d.epoch ≡ e + 1 → c ≡ d

-- Each decision that is accepted or recorded was made of the complete reports of a majority.
abbrev pub DecidedAreComplete : Type 0
DecidedAreComplete =
    (n : ℕ) (logs : ℕ → Log) → AreBallots n logs →
    ((k i : ℕ) (b : Ballot) (d : Decision) → Among (logs k) (Rec.Accept i b d) → IsComplete n logs i d)
    × ((k : ℕ) (d : Decision) → Among (logs k) (Rec.Decide d) → IsComplete n logs d.epoch d)

-- A decision made of the complete reports of a majority is a collection of the epoch before it.
abbrev pub CompleteAreCollected : Type 0
CompleteAreCollected =
    (n e begins : ℕ) (counted : List ℕ) (logs : ℕ → Log) → EpochFacts e n begins counted logs → IsSpecOf n e counted logs →
    (i : ℕ) (d : Decision) → i ≡ e + 1 → IsComplete n logs i d → IsCollected e begins counted logs d

-- In every world all recorded decisions of one epoch are equal.
abbrev pub DecisionsAreOne : Type 0
DecisionsAreOne =
    (n : ℕ) (w : World) → IsReached n w → HasFewBoots w → AllSpelt n w →
    (j k : ℕ) (c d : Decision) → Among (log_at w j) (Rec.Decide c) → Among (log_at w k) (Rec.Decide d) → c.epoch ≡ d.epoch → c ≡ d

-- So replicas that knew one epoch, at any time, knew it by one decision, with the same members, Spec and start.
abbrev pub KnownAreOne : Type 0
KnownAreOne =
    (n : ℕ) (w : World) → IsReached n w → HasFewBoots w → AllSpelt n w →
    (j k : ℕ) (a b : Log) → Extends a (log_at w j) → Extends b (log_at w k) → known a ≡ known b → decision a ≡ decision b

-- In every world: if the facts of an epoch hold and it has one Spec, each decision after it is a collection of it.
abbrev pub DecisionsAreCollected : Type 0
DecisionsAreCollected =
    (n e begins : ℕ) (counted : List ℕ) (w : World) → IsReached n w → HasFewBoots w → AllSpelt n w →
    EpochFacts e n begins counted (log_at w) → IsSpecOf n e counted (log_at w) →
    (k : ℕ) (d : Decision) → Among (log_at w k) (Rec.Decide d) → d.epoch ≡ e + 1 → IsCollected e begins counted (log_at w) d
