-- A proposal whose acceptance record does not fit is ignored whole.
use Rattle.std.proofs.Common.{◌≡◌, List, [], ◌∷◌, ◌++◌, ℕ, refl}
use Rattle.crsm_spec.specs.Types.{Line}
use Rattle.crsm_spec.specs.Node.{Turn}
use Rattle.crsm_law_examples.specs.Words.{lines_of_node, u64, u32, came}
use Rattle.crsm_law_examples.proofs.Opened.{the_model}

abbrev turns : List (Turn × ℕ)
turns =
    came 5 1 (3 ∷ 1 ∷ 0 ∷ u64 1 ++ u64 0 ++ u32 0 ++ u32 1 ++ 6 ∷ u64 1 ++ u64 1 ++ 1 ∷ u64 2 ++ 3 ∷ 0 ∷ 1 ∷ 2 ∷ u64 0 ++ u32 0 ++ [])
    ∷ came 5 1 (3 ∷ 1 ∷ 0 ∷ u64 1 ++ u64 1 ++ u32 0 ++ u32 1 ++ 6 ∷ u64 1 ++ u64 1 ++ 1 ∷ u64 1 ++ 3 ∷ 0 ∷ 1 ∷ 2 ∷ u64 0 ++ u32 2 ++ u64 0 ++ u64 5 ++ 0 ∷ u64 7 ++ u64 1 ++ 1 ∷ 1 ∷ 97 ∷ u64 0 ++ u64 6 ++ 1 ∷ u64 7 ++ u64 1 ++ 1 ∷ 1 ∷ 97 ∷ [])
    ∷ came 5 1 (3 ∷ 1 ∷ 0 ∷ u64 1 ++ u64 2 ++ u32 0 ++ u32 1 ++ 6 ∷ u64 1 ++ u64 1 ++ 1 ∷ u64 1 ++ 3 ∷ 0 ∷ 1 ∷ 2 ∷ u64 0 ++ u32 2 ++ u64 0 ++ u64 5 ++ 0 ∷ u64 7 ++ u64 1 ++ 1 ∷ 1 ∷ 97 ∷ u64 0 ++ u64 6 ++ 1 ∷ u64 7 ++ u64 1 ++ 1 ∷ 1 ∷ 97 ∷ [])
    ∷ came 5 1 (3 ∷ 1 ∷ 0 ∷ u64 1 ++ u64 3 ++ u32 0 ++ u32 1 ++ 3 ∷ u64 1 ++ u64 1 ++ 0 ∷ [])
    ∷ came 5 1 (3 ∷ 1 ∷ 0 ∷ u64 1 ++ u64 4 ++ u32 0 ++ u32 1 ++ 3 ∷ u64 1 ++ u64 1 ++ 1 ∷ [])
    ∷ came 5 1 (3 ∷ 1 ∷ 0 ∷ u64 1 ++ u64 5 ++ u32 0 ++ u32 1 ++ 3 ∷ u64 1 ++ u64 2 ++ 1 ∷ [])
    ∷ []

lines : lines_of_node 0 3 turns ≡
    (Line.Boot 0 1 ∷
    Line.Enter 0 0 ∷ [])
    ∷ []
    ∷ (Line.Accept 0 1 1 1 ∷
    Line.Out 1 (3 ∷ 0 ∷ 1 ∷ u64 1 ++ u64 0 ++ u32 0 ++ u32 1 ++ 7 ∷ u64 1 ++ u64 1 ++ 1 ∷ []) ∷ [])
    ∷ (Line.Out 1 (3 ∷ 0 ∷ 1 ∷ u64 1 ++ u64 1 ++ u32 0 ++ u32 1 ++ 7 ∷ u64 1 ++ u64 1 ++ 1 ∷ []) ∷ [])
    ∷ (Line.Out 1 (3 ∷ 0 ∷ 1 ∷ u64 1 ++ u64 2 ++ u32 0 ++ u32 1 ++ 5 ∷ u64 1 ++ u64 1 ++ 0 ∷ u64 1 ++ 1 ∷ []) ∷ [])
    ∷ (Line.Out 1 (3 ∷ 0 ∷ 1 ∷ u64 1 ++ u64 3 ++ u32 0 ++ u32 1 ++ 4 ∷ u64 1 ++ u64 1 ++ 1 ∷ 1 ∷ u64 1 ++ 1 ∷ u64 1 ++ 3 ∷ 0 ∷ 1 ∷ 2 ∷ u64 0 ++ u32 2 ++ u64 0 ++ u64 5 ++ 0 ∷ u64 7 ++ u64 1 ++ 1 ∷ 1 ∷ 97 ∷ u64 0 ++ u64 6 ++ 1 ∷ u64 7 ++ u64 1 ++ 1 ∷ 1 ∷ 97 ∷ []) ∷ [])
    ∷ (Line.Promise 0 1 2 1 ∷
    Line.Out 1 (3 ∷ 0 ∷ 1 ∷ u64 1 ++ u64 4 ++ u32 0 ++ u32 1 ++ 4 ∷ u64 1 ++ u64 2 ++ 1 ∷ 1 ∷ u64 1 ++ 1 ∷ u64 1 ++ 3 ∷ 0 ∷ 1 ∷ 2 ∷ u64 0 ++ u32 2 ++ u64 0 ++ u64 5 ++ 0 ∷ u64 7 ++ u64 1 ++ 1 ∷ 1 ∷ 97 ∷ u64 0 ++ u64 6 ++ 1 ∷ u64 7 ++ u64 1 ++ 1 ∷ 1 ∷ 97 ∷ []) ∷ [])
    ∷ []
unfolding the_model
lines = refl
