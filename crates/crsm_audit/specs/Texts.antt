-- The text of a verdict.
use Rattle.std.specs.Prelude.{ℕ, ◌+◌, List, [], ◌∷◌, ◌++◌, codes}
use Rattle.crsm_text.specs.Words.{named}
use Rattle.crsm_audit.specs.declared.place.ExecutedEntry.{ExecutedEntry}
use Rattle.crsm_audit.specs.declared.verdict.Verdict.{Verdict}

-- a word and numbers, and the end of the line
abbrev pub row : List ℕ → List ℕ → List ℕ
row name numbers = named name numbers ++ 10 ∷ []

-- an entry at its place
abbrev pub place_text : ℕ → ExecutedEntry → List ℕ
place_text at p = row (codes "place") (at ∷ p.epoch ∷ p.stamp.time ∷ p.stamp.origin ∷ p.client ∷ p.number ∷ [])

-- entries, of which the first has this index
unfoldable pub places_text : ℕ → List ExecutedEntry → List ℕ
places_text at [] = []
places_text at (p ∷ places) = place_text at p ++ places_text (at + 1) places

-- the text of a verdict on sheets whose longest list has these entries
unfoldable pub verdict_text : List ExecutedEntry → Verdict → List ℕ
verdict_text places (Verdict.List sheet place) = row (codes "list") (sheet ∷ place ∷ [])
verdict_text places (Verdict.Stranger place) = row (codes "stranger") (place ∷ [])
verdict_text places (Verdict.Dropped sheet line) = row (codes "dropped") (sheet ∷ line ∷ [])
verdict_text places (Verdict.Agree count) = places_text 0 places ++ row (codes "agree") (count ∷ [])
