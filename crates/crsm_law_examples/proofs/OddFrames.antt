-- Frames that their sender may not send are ignored and not acknowledged; early and old ones are acknowledged.
use Rattle.std.proofs.Common.{◌≡◌, List, [], ◌∷◌, ◌++◌, ℕ, refl}
use Rattle.crsm_spec.specs.Types.{Line}
use Rattle.crsm_spec.specs.Node.{Turn}
use Rattle.crsm_law_examples.specs.Words.{lines_of_node, u64, came}
use Rattle.crsm_law_examples.proofs.Opened.{the_model}

abbrev turns : List (Turn × ℕ)
turns =
    came 5 9 (1 ∷ 1 ∷ 0 ∷ u64 0 ++ u64 0 ++ 3 ∷ u64 0 ++ [])
    ∷ came 5 9 (1 ∷ 1 ∷ 0 ∷ u64 0 ++ u64 0 ++ 1 ∷ u64 0 ++ u64 5 ++ 2 ∷ u64 7 ++ u64 1 ++ 1 ∷ 1 ∷ 97 ∷ [])
    ∷ came 5 9 (1 ∷ 1 ∷ 0 ∷ u64 0 ++ u64 0 ++ 1 ∷ u64 1 ++ u64 5 ++ 1 ∷ u64 7 ++ u64 1 ++ 1 ∷ 1 ∷ 97 ∷ [])
    ∷ came 5 9 (1 ∷ 1 ∷ 0 ∷ u64 0 ++ u64 1 ++ 3 ∷ u64 0 ++ [])
    ∷ came 5 9 (1 ∷ 1 ∷ 0 ∷ u64 0 ++ u64 0 ++ 2 ∷ u64 5 ++ 3 ∷ u64 7 ++ [])
    ∷ came 5 9 (1 ∷ 1 ∷ 0 ∷ u64 0 ++ u64 0 ++ 3 ∷ u64 9 ++ [])
    ∷ came 5 9 (1 ∷ 1 ∷ 0 ∷ u64 0 ++ u64 0 ++ 3 ∷ u64 9 ++ [])
    ∷ came 5 9 (1 ∷ 1 ∷ 0 ∷ u64 0 ++ u64 1 ++ 3 ∷ u64 9 ++ [])
    ∷ []

lines : lines_of_node 0 3 turns ≡
    (Line.Boot 0 1 ∷
    Line.Enter 0 0 ∷ [])
    ∷ []
    ∷ []
    ∷ []
    ∷ (Line.Out 1 (2 ∷ 0 ∷ 1 ∷ u64 0 ++ u64 0 ++ []) ∷ [])
    ∷ []
    ∷ (Line.Out 1 (2 ∷ 0 ∷ 1 ∷ u64 0 ++ u64 1 ++ []) ∷ [])
    ∷ (Line.Out 1 (2 ∷ 0 ∷ 1 ∷ u64 0 ++ u64 1 ++ []) ∷ [])
    ∷ []
    ∷ []
unfolding the_model
lines = refl
