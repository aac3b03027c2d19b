-- The ranges of a disk that were written since the last sync.
use Rattle.std.specs.Prelude.{ℕ, List, [], ◌∷◌, ◌++◌, length}
use Rattle.crsm_port_image.specs.Calls.{Call, wrote, cut, synced}
use Rattle.crsm_port_image.specs.Image.{ranged}
use Rattle.crsm_disk.specs.declared.content.Range.{Range}

-- those of these calls, which are the newest first; the oldest range is the first
abbrev pub unsynced : List Call → List Range
unsynced [] = []
unsynced (wrote at bytes ∷ calls) = unsynced calls ++ record { at = at; count = length bytes } ∷ []
unsynced (cut n ∷ calls) = unsynced calls
unsynced (synced ∷ calls) = []

-- bytes with the fill in these ranges
abbrev pub painted_on : List Range → ℕ → List ℕ → List ℕ
painted_on [] fill image = image
painted_on (range ∷ ranges) fill image = painted_on ranges fill (ranged range.at range.count fill image)
