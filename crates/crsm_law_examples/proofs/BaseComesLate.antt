-- A proposer without the base still proposes; its own vote is late and completes the majority.
use Rattle.std.proofs.Common.{◌≡◌, List, [], ◌∷◌, ◌++◌, ℕ, refl}
use Rattle.crsm_spec.specs.Types.{Answer, Line}
use Rattle.crsm_spec.specs.Node.{Turn}
use Rattle.crsm_law_examples.specs.Words.{lines_of_node, stamp, u64, u32, came, ticked, suspected}
use Rattle.crsm_law_examples.proofs.Opened.{the_model}

abbrev turns : List (Turn × ℕ)
turns =
    suspected 5 (0 ∷ 1 ∷ 2 ∷ [])
    ∷ came 5 1 (3 ∷ 1 ∷ 0 ∷ u64 1 ++ u64 0 ++ u32 0 ++ u32 1 ++ 2 ∷ u64 0 ++ u64 1 ++ 1 ∷ u64 4 ++ 1 ∷ 0 ∷ 1 ∷ u32 0 ++ [])
    ∷ came 5 1 (3 ∷ 1 ∷ 0 ∷ u64 1 ++ u64 1 ++ u32 0 ++ u32 1 ++ 4 ∷ u64 1 ++ u64 1 ++ 0 ∷ 0 ∷ [])
    ∷ came 5 1 (3 ∷ 1 ∷ 0 ∷ u64 1 ++ u64 2 ++ u32 0 ++ u32 1 ++ 7 ∷ u64 1 ++ u64 1 ++ 0 ∷ [])
    ∷ ticked 6
    ∷ came 5 1 (3 ∷ 1 ∷ 0 ∷ u64 1 ++ u64 3 ++ u32 0 ++ u32 1 ++ 10 ∷ u64 0 ++ u64 0 ++ u32 1 ++ u64 0 ++ u64 4 ++ 1 ∷ u64 7 ++ u64 1 ++ 1 ∷ 1 ∷ 97 ∷ [])
    ∷ ticked 7
    ∷ []

lines : lines_of_node 0 3 turns ≡
    (Line.Boot 0 1 ∷
    Line.Enter 0 0 ∷ [])
    ∷ (Line.Suspend 0 0 ∷
    Line.Out 1 (3 ∷ 0 ∷ 1 ∷ u64 1 ++ u64 0 ++ u32 0 ++ u32 1 ++ 1 ∷ u64 0 ++ 0 ∷ []) ∷
    Line.Out 2 (3 ∷ 0 ∷ 2 ∷ u64 1 ++ u64 1 ++ u32 0 ++ u32 1 ++ 1 ∷ u64 0 ++ 0 ∷ []) ∷ [])
    ∷ (Line.Promise 0 1 1 0 ∷
    Line.Out 1 (3 ∷ 0 ∷ 1 ∷ u64 1 ++ u64 2 ++ u32 0 ++ u32 1 ++ 3 ∷ u64 1 ++ u64 1 ++ 0 ∷ []) ∷
    Line.Out 2 (3 ∷ 0 ∷ 2 ∷ u64 1 ++ u64 3 ++ u32 0 ++ u32 1 ++ 3 ∷ u64 1 ++ u64 1 ++ 0 ∷ []) ∷ [])
    ∷ (Line.Out 1 (3 ∷ 0 ∷ 1 ∷ u64 1 ++ u64 4 ++ u32 0 ++ u32 1 ++ 6 ∷ u64 1 ++ u64 1 ++ 0 ∷ u64 1 ++ 3 ∷ 0 ∷ 1 ∷ 2 ∷ u64 1 ++ u32 0 ++ []) ∷
    Line.Out 2 (3 ∷ 0 ∷ 2 ∷ u64 1 ++ u64 5 ++ u32 0 ++ u32 1 ++ 6 ∷ u64 1 ++ u64 1 ++ 0 ∷ u64 1 ++ 3 ∷ 0 ∷ 1 ∷ 2 ∷ u64 1 ++ u32 0 ++ []) ∷ [])
    ∷ []
    ∷ (Line.Out 2 (3 ∷ 0 ∷ 2 ∷ u64 1 ++ u64 6 ++ u32 0 ++ u32 1 ++ 6 ∷ u64 1 ++ u64 1 ++ 0 ∷ u64 1 ++ 3 ∷ 0 ∷ 1 ∷ 2 ∷ u64 1 ++ u32 0 ++ []) ∷
    Line.Out 1 (3 ∷ 0 ∷ 1 ∷ u64 1 ++ u64 7 ++ u32 0 ++ u32 1 ++ 9 ∷ u64 0 ++ u64 0 ++ []) ∷
    Line.Out 2 (3 ∷ 0 ∷ 2 ∷ u64 1 ++ u64 8 ++ u32 0 ++ u32 1 ++ 9 ∷ u64 0 ++ u64 0 ++ []) ∷ [])
    ∷ (Line.Exec 0 0 0 (stamp 4 1) 7 1 Answer.Missing ∷
    Line.Out 1 (3 ∷ 0 ∷ 1 ∷ u64 1 ++ u64 9 ++ u32 0 ++ u32 1 ++ 9 ∷ u64 0 ++ u64 1 ++ []) ∷ [])
    ∷ (Line.Accept 0 1 1 0 ∷
    Line.Decide 0 1 (0 ∷ 1 ∷ 2 ∷ []) 1 0 ∷
    Line.Enter 0 1 ∷
    Line.Out 1 (3 ∷ 0 ∷ 1 ∷ u64 1 ++ u64 10 ++ u32 0 ++ u32 1 ++ 8 ∷ u64 1 ++ 3 ∷ 0 ∷ 1 ∷ 2 ∷ u64 1 ++ u32 0 ++ []) ∷
    Line.Out 2 (3 ∷ 0 ∷ 2 ∷ u64 1 ++ u64 11 ++ u32 0 ++ u32 1 ++ 8 ∷ u64 1 ++ 3 ∷ 0 ∷ 1 ∷ 2 ∷ u64 1 ++ u32 0 ++ []) ∷ [])
    ∷ []
unfolding the_model
lines = refl
