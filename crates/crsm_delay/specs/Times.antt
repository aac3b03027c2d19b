-- The texts of a plan.
use Rattle.std.specs.Prelude.{ℕ, List, [], ◌∷◌, ◌++◌, codes}
use Rattle.std.specs.List.{flat_map}
use Rattle.crsm_spec.specs.Lists.{numbers_below}
use Rattle.crsm_text.specs.Words.{named}
use Rattle.crsm_spec_plan.specs.declared.Plan.{Plan}
use Rattle.crsm_spec_plan.specs.Plans.{commit_at}

-- a replica, and the moment at which it executes the command
abbrev pub row : Plan → ℕ → List ℕ
row plan i = named (codes "commit") (i ∷ commit_at plan i ∷ []) ++ 10 ∷ []

-- the line of each replica, in order
abbrev pub times_text : Plan → List ℕ
times_text plan = flat_map (row plan) (numbers_below plan.n)
