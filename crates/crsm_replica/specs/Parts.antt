-- Parts of control messages, as they are taken.
use Rattle.std.specs.Prelude.{◌≡◌, ℕ, List, Option}
use Rattle.crsm_segment.specs.Gather.{GatherStands}
use Rattle.crsm_segment.specs.Gathering.{Gathering}
use Rattle.crsm_spec.specs.Parts.{Piece, with_part, whole_with}

-- behind any parts that stood there this one stands too, and this is the message that is whole with it
abbrev pub TakesPart : List (Option Gathering) → List (Option Gathering) → Piece → Option (List ℕ) → Type 0
TakesPart old new part whole = (parts : List Piece) → GatherStands old parts → GatherStands new (with_part part parts) × (whole ≡ whole_with part parts)
