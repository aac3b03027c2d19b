-- The law of answered entries, over all possible runs.
use Rattle.std.specs.Prelude.{ℕ, ◌≤◌, List}
use Rattle.crsm_spec.specs.World.{begin}
use Rattle.crsm_spec.specs.Acts.{Act}
use Rattle.crsm_spec.specs.Run.{ArePossible}
use Rattle.crsm_spec.specs.Durable.{KeepsAnswered}

-- In every possible run of at most 15 replicas an answered entry is durable from its answer on.
abbrev pub AnsweredAreKept : Type 0
AnsweredAreKept = (n : ℕ) (acts : List Act) → n ≤ 15 → ArePossible (begin n) acts → KeepsAnswered n acts
