-- Distinct numbers, by recursion.
use Rattle.std.specs.Prelude.{ℕ, List, [], ◌∷◌}
use Rattle.crsm_spec.specs.Lists.{Among}

abbrev pub Distinct : List ℕ → Type 0
Distinct [] = Unit {0}
Distinct (k ∷ ks) = (Among ks k → ⊥) × Distinct ks
