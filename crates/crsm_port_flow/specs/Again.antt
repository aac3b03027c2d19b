-- Frames that the replica has acknowledged, and that come again.
use Rattle.std.specs.Prelude.{◌≡◌, ◌⊎◌, ◌<◌, ℕ, List, Option, Some, slice_get, slice_set}
use Rattle.crsm_port_flow.specs.Went.{IsRecent}
use Rattle.crsm_port_flow.specs.declared.again.Again.{Again}
use Rattle.crsm_port_flow.specs.declared.again.Said.{Said}

-- the replica has acknowledged this frame: it said that it expects a later one of the sender, in its epoch
abbrev pub IsAcknowledged : (sender epoch number : ℕ) → List Said → Type 0
IsAcknowledged sender epoch number said = (s : Said) × (slice_get said sender ≡ Some s) × (s.epoch ≡ epoch) × (number < s.next)

-- a frame of this sender that was acknowledged went up less than 40 milliseconds ago
abbrev pub WentAgain : (sender now : ℕ) → List (Option ℕ) → Type 0
WentAgain sender now went_at = (at : ℕ) × (slice_get went_at sender ≡ Some (Some at)) × IsRecent at now 40_000

-- both: this frame is acknowledged, and one of its sender went up a moment ago
abbrev pub IsAgain : (sender epoch number now : ℕ) → Again → Type 0
IsAgain sender epoch number now a = IsAcknowledged sender epoch number a.said.items × WentAgain sender now a.went_at.items

-- a frame that goes up is noted, if it was acknowledged, and nothing else changes
abbrev pub NotesWent : (sender epoch number now : ℕ) → Again → Again → Type 0
NotesWent sender epoch number now old new =
    (new ≡ old) ⊎ (IsAcknowledged sender epoch number old.said.items × (new.said ≡ old.said) × (new.went_at.items ≡ slice_set old.went_at.items sender (Some now)))

-- the replica says that it expects this number of a sender, if the sender is one of those that are known
abbrev pub Acknowledges : (sender epoch next : ℕ) → List Said → List Said → Type 0
Acknowledges sender epoch next old new = new ≡ slice_set old sender (record { epoch = epoch; next = next })
