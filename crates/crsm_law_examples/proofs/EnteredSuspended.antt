-- A replica that is suspended before it enters an epoch is live and held.
use Rattle.std.proofs.Common.{◌≡◌, List, [], ◌∷◌, ◌++◌, ℕ, refl}
use Rattle.crsm_spec.specs.Types.{Answer, Line}
use Rattle.crsm_spec.specs.Node.{Turn}
use Rattle.crsm_law_examples.specs.Words.{lines_of_node, stamp, u64, u32, came, ticked}
use Rattle.crsm_law_examples.proofs.Opened.{the_model}

abbrev turns : List (Turn × ℕ)
turns =
    came 5 1 (3 ∷ 1 ∷ 0 ∷ u64 1 ++ u64 0 ++ u32 0 ++ u32 1 ++ 8 ∷ u64 1 ++ 2 ∷ 0 ∷ 1 ∷ u64 2 ++ u32 1 ++ u64 0 ++ u64 9 ++ 0 ∷ u64 7 ++ u64 4 ++ 1 ∷ 1 ∷ 97 ∷ [])
    ∷ came 5 1 (3 ∷ 1 ∷ 0 ∷ u64 1 ++ u64 1 ++ u32 0 ++ u32 1 ++ 1 ∷ u64 1 ++ 0 ∷ [])
    ∷ came 5 1 (3 ∷ 1 ∷ 0 ∷ u64 1 ++ u64 2 ++ u32 0 ++ u32 1 ++ 10 ∷ u64 1 ++ u64 0 ++ u32 2 ++ u64 0 ++ u64 4 ++ 0 ∷ u64 7 ++ u64 1 ++ 1 ∷ 1 ∷ 97 ∷ u64 0 ++ u64 5 ++ 0 ∷ u64 7 ++ u64 2 ++ 1 ∷ 1 ∷ 97 ∷ [])
    ∷ came 5 9 (4 ∷ u64 9 ++ u64 1 ++ 1 ∷ 1 ∷ 97 ∷ [])
    ∷ ticked 30
    ∷ []

lines : lines_of_node 0 3 turns ≡
    (Line.Boot 0 1 ∷
    Line.Enter 0 0 ∷ [])
    ∷ (Line.Decide 0 1 (0 ∷ 1 ∷ []) 2 1 ∷
    Line.Out 1 (3 ∷ 0 ∷ 1 ∷ u64 1 ++ u64 0 ++ u32 0 ++ u32 1 ++ 9 ∷ u64 1 ++ u64 0 ++ []) ∷ [])
    ∷ (Line.Suspend 0 1 ∷
    Line.Out 1 (3 ∷ 0 ∷ 1 ∷ u64 1 ++ u64 1 ++ u32 0 ++ u32 1 ++ 2 ∷ u64 1 ++ u64 0 ++ 0 ∷ 0 ∷ 1 ∷ u32 0 ++ []) ∷ [])
    ∷ (Line.Exec 0 0 0 (stamp 4 0) 7 1 Answer.Missing ∷
    Line.Exec 0 1 0 (stamp 5 0) 7 2 Answer.Missing ∷
    Line.Exec 0 2 0 (stamp 9 0) 7 4 Answer.Missing ∷
    Line.Enter 0 1 ∷
    Line.Out 1 (3 ∷ 0 ∷ 1 ∷ u64 1 ++ u64 2 ++ u32 0 ++ u32 1 ++ 9 ∷ u64 1 ++ u64 3 ++ []) ∷ [])
    ∷ (Line.Back 9 (5 ∷ u64 9 ++ u64 1 ++ 2 ∷ []) ∷ [])
    ∷ (Line.Out 1 (3 ∷ 0 ∷ 1 ∷ u64 1 ++ u64 3 ++ u32 0 ++ u32 1 ++ 9 ∷ u64 1 ++ u64 3 ++ []) ∷
    Line.Out 2 (3 ∷ 0 ∷ 2 ∷ u64 1 ++ u64 4 ++ u32 0 ++ u32 1 ++ 9 ∷ u64 1 ++ u64 3 ++ []) ∷ [])
    ∷ []
unfolding the_model
lines = refl
