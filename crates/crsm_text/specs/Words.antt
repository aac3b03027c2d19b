-- Texts joined by separators.
use Rattle.std.specs.Prelude.{◌≢◌, ℕ, List, [], ◌∷◌, ◌++◌, map, decimal}
use Rattle.std.specs.List.{join_with_byte}

-- the element is not in the list
abbrev pub Lacks : ℕ → List ℕ → Type 0
Lacks c [] = Unit {0}
Lacks c (x ∷ xs) = (x ≢ c) × Lacks c xs

-- words, separated by single spaces
abbrev pub spaced : List (List ℕ) → List ℕ
spaced words = join_with_byte 32 words

-- decimal numbers, separated by commas
abbrev pub commas : List ℕ → List ℕ
commas numbers = join_with_byte 44 (map decimal numbers)

-- a word and decimal numbers, separated by single spaces
abbrev pub named : List ℕ → List ℕ → List ℕ
named name numbers = spaced (name ∷ map decimal numbers)

-- each number in decimal digits, with a space before it
abbrev pub numbers : List ℕ → List ℕ
numbers [] = []
numbers (n ∷ ns) = 32 ∷ decimal n ++ numbers ns
