-- A stamp below the last executed one of its epoch is never ready.
use Rattle.std.proofs.Common.{◌≡◌, List, [], ◌∷◌, ◌++◌, ℕ, refl}
use Rattle.crsm_spec.specs.Types.{Answer, Line}
use Rattle.crsm_spec.specs.Node.{Turn}
use Rattle.crsm_law_examples.specs.Words.{lines_of_node, stamp, u64, u32, came, ticked}
use Rattle.crsm_law_examples.proofs.Opened.{the_model}

abbrev turns : List (Turn × ℕ)
turns =
    came 5 1 (3 ∷ 1 ∷ 0 ∷ u64 1 ++ u64 0 ++ u32 0 ++ u32 1 ++ 8 ∷ u64 1 ++ 2 ∷ 0 ∷ 1 ∷ u64 1 ++ u32 0 ++ [])
    ∷ came 5 1 (3 ∷ 1 ∷ 0 ∷ u64 1 ++ u64 1 ++ u32 0 ++ u32 1 ++ 10 ∷ u64 1 ++ u64 0 ++ u32 1 ++ u64 1 ++ u64 100 ++ 1 ∷ u64 7 ++ u64 1 ++ 1 ∷ 1 ∷ 97 ∷ [])
    ∷ came 5 9 (4 ∷ u64 9 ++ u64 1 ++ 1 ∷ 1 ∷ 97 ∷ [])
    ∷ came 7 9 (1 ∷ 1 ∷ 0 ∷ u64 1 ++ u64 0 ++ 2 ∷ u64 5 ++ 0 ∷ u64 6 ++ [])
    ∷ came 200 9 (1 ∷ 1 ∷ 0 ∷ u64 1 ++ u64 1 ++ 1 ∷ u64 1 ++ u64 101 ++ 1 ∷ u64 7 ++ u64 2 ++ 1 ∷ 1 ∷ 97 ∷ [])
    ∷ ticked 300
    ∷ []

lines : lines_of_node 0 2 turns ≡
    (Line.Boot 0 1 ∷
    Line.Enter 0 0 ∷ [])
    ∷ (Line.Decide 0 1 (0 ∷ 1 ∷ []) 1 0 ∷
    Line.Out 1 (3 ∷ 0 ∷ 1 ∷ u64 1 ++ u64 0 ++ u32 0 ++ u32 1 ++ 9 ∷ u64 1 ++ u64 0 ++ []) ∷ [])
    ∷ (Line.Exec 0 0 1 (stamp 100 1) 7 1 Answer.Missing ∷
    Line.Enter 0 1 ∷
    Line.Out 1 (3 ∷ 0 ∷ 1 ∷ u64 1 ++ u64 1 ++ u32 0 ++ u32 1 ++ 9 ∷ u64 1 ++ u64 1 ++ []) ∷ [])
    ∷ (Line.Submit 0 1 5 9 1 ∷
    Line.Out 1 (1 ∷ 0 ∷ 1 ∷ u64 1 ++ u64 0 ++ 1 ∷ u64 1 ++ u64 5 ++ 0 ∷ u64 9 ++ u64 1 ++ 1 ∷ 1 ∷ 97 ∷ []) ∷ [])
    ∷ (Line.Out 1 (2 ∷ 0 ∷ 1 ∷ u64 1 ++ u64 1 ++ []) ∷ [])
    ∷ (Line.Log 0 1 (stamp 101 1) ∷
    Line.Exec 0 1 1 (stamp 101 1) 7 2 Answer.Missing ∷
    Line.Out 1 (2 ∷ 0 ∷ 1 ∷ u64 1 ++ u64 2 ++ []) ∷
    Line.Out 1 (1 ∷ 0 ∷ 1 ∷ u64 1 ++ u64 1 ++ 2 ∷ u64 101 ++ 1 ∷ u64 200 ++ []) ∷ [])
    ∷ (Line.Out 1 (1 ∷ 0 ∷ 1 ∷ u64 1 ++ u64 0 ++ 1 ∷ u64 1 ++ u64 5 ++ 0 ∷ u64 9 ++ u64 1 ++ 1 ∷ 1 ∷ 97 ∷ []) ∷
    Line.Out 1 (1 ∷ 0 ∷ 1 ∷ u64 1 ++ u64 1 ++ 2 ∷ u64 101 ++ 1 ∷ u64 200 ++ []) ∷
    Line.Out 1 (1 ∷ 0 ∷ 1 ∷ u64 1 ++ u64 2 ++ 3 ∷ 0 ∷ 0 ∷ 0 ∷ 0 ∷ 0 ∷ 0 ∷ 1 ∷ 44 ∷ []) ∷ [])
    ∷ []
unfolding the_model
lines = refl
