-- A text cut into consecutive pieces, by the offsets at which they end.
use Rattle.std.specs.Prelude.{◌≡◌, ◌≤◌, ℕ, List, [], ◌∷◌, length}
use Rattle.std.specs.List.{slice_range}

-- the pieces of the text that end at these offsets; the first begins at `from`
abbrev pub pieces : ℕ → List ℕ → List ℕ → List (List ℕ)
pieces from [] text = []
pieces from (end ∷ ends) text = slice_range text from end ∷ pieces end ends text

-- the offsets do not fall, and the last is the length of the text
abbrev pub AreEnds : ℕ → List ℕ → List ℕ → Type 0
AreEnds from [] text = from ≡ length text
AreEnds from (end ∷ ends) text = (from ≤ end) × AreEnds end ends text
