-- A replica that receives RETRIEVE from one that knows more replies with a page and a RETRIEVE of its own.
use Rattle.std.proofs.Common.{◌≡◌, List, [], ◌∷◌, ◌++◌, ℕ, refl}
use Rattle.crsm_spec.specs.Types.{Answer, Line}
use Rattle.crsm_spec.specs.Node.{Turn}
use Rattle.crsm_law_examples.specs.Words.{lines_of_node, stamp, u64, u32, came}
use Rattle.crsm_law_examples.proofs.Opened.{the_model}

abbrev turns : List (Turn × ℕ)
turns =
    came 5 0 (3 ∷ 0 ∷ 1 ∷ u64 1 ++ u64 0 ++ u32 0 ++ u32 1 ++ 8 ∷ u64 1 ++ 2 ∷ 0 ∷ 1 ∷ u64 0 ++ u32 2 ++ u64 0 ++ u64 4 ++ 0 ∷ u64 7 ++ u64 1 ++ 1 ∷ 1 ∷ 97 ∷ u64 0 ++ u64 5 ++ 0 ∷ u64 7 ++ u64 2 ++ 1 ∷ 1 ∷ 97 ∷ [])
    ∷ came 5 2 (3 ∷ 2 ∷ 1 ∷ u64 1 ++ u64 0 ++ u32 0 ++ u32 1 ++ 9 ∷ u64 0 ++ u64 0 ++ [])
    ∷ came 5 2 (3 ∷ 2 ∷ 1 ∷ u64 1 ++ u64 1 ++ u32 0 ++ u32 1 ++ 9 ∷ u64 1 ++ u64 0 ++ [])
    ∷ came 5 2 (3 ∷ 2 ∷ 1 ∷ u64 1 ++ u64 2 ++ u32 0 ++ u32 1 ++ 9 ∷ u64 1 ++ u64 2 ++ [])
    ∷ came 5 2 (3 ∷ 2 ∷ 1 ∷ u64 1 ++ u64 3 ++ u32 0 ++ u32 1 ++ 9 ∷ u64 2 ++ u64 0 ++ [])
    ∷ came 5 2 (3 ∷ 2 ∷ 1 ∷ u64 1 ++ u64 4 ++ u32 0 ++ u32 1 ++ 9 ∷ u64 2 ++ u64 2 ++ [])
    ∷ came 5 2 (3 ∷ 2 ∷ 1 ∷ u64 1 ++ u64 5 ++ u32 0 ++ u32 1 ++ 3 ∷ u64 0 ++ u64 1 ++ 2 ∷ [])
    ∷ came 5 2 (3 ∷ 2 ∷ 1 ∷ u64 1 ++ u64 6 ++ u32 0 ++ u32 1 ++ 3 ∷ u64 3 ++ u64 1 ++ 2 ∷ [])
    ∷ came 5 2 (3 ∷ 2 ∷ 1 ∷ u64 1 ++ u64 7 ++ u32 0 ++ u32 1 ++ 1 ∷ u64 2 ++ 0 ∷ [])
    ∷ came 5 2 (3 ∷ 2 ∷ 1 ∷ u64 1 ++ u64 8 ++ u32 0 ++ u32 1 ++ 1 ∷ u64 0 ++ 0 ∷ [])
    ∷ came 5 9 (1 ∷ 2 ∷ 1 ∷ u64 0 ++ u64 0 ++ 3 ∷ u64 4 ++ [])
    ∷ came 5 9 (1 ∷ 2 ∷ 1 ∷ u64 2 ++ u64 0 ++ 3 ∷ u64 4 ++ [])
    ∷ came 5 9 (1 ∷ 2 ∷ 1 ∷ u64 1 ++ u64 0 ++ 3 ∷ u64 4 ++ [])
    ∷ []

lines : lines_of_node 1 3 turns ≡
    (Line.Boot 1 1 ∷
    Line.Enter 1 0 ∷ [])
    ∷ (Line.Decide 1 1 (0 ∷ 1 ∷ []) 0 2 ∷
    Line.Exec 1 0 0 (stamp 4 0) 7 1 Answer.Missing ∷
    Line.Exec 1 1 0 (stamp 5 0) 7 2 Answer.Missing ∷
    Line.Enter 1 1 ∷ [])
    ∷ (Line.Out 2 (3 ∷ 1 ∷ 2 ∷ u64 1 ++ u64 0 ++ u32 0 ++ u32 1 ++ 8 ∷ u64 1 ++ 2 ∷ 0 ∷ 1 ∷ u64 0 ++ u32 2 ++ u64 0 ++ u64 4 ++ 0 ∷ u64 7 ++ u64 1 ++ 1 ∷ 1 ∷ 97 ∷ u64 0 ++ u64 5 ++ 0 ∷ u64 7 ++ u64 2 ++ 1 ∷ 1 ∷ 97 ∷ []) ∷ [])
    ∷ (Line.Out 2 (3 ∷ 1 ∷ 2 ∷ u64 1 ++ u64 1 ++ u32 0 ++ u32 1 ++ 10 ∷ u64 1 ++ u64 0 ++ u32 2 ++ u64 0 ++ u64 4 ++ 0 ∷ u64 7 ++ u64 1 ++ 1 ∷ 1 ∷ 97 ∷ u64 0 ++ u64 5 ++ 0 ∷ u64 7 ++ u64 2 ++ 1 ∷ 1 ∷ 97 ∷ []) ∷ [])
    ∷ []
    ∷ (Line.Out 2 (3 ∷ 1 ∷ 2 ∷ u64 1 ++ u64 2 ++ u32 0 ++ u32 1 ++ 10 ∷ u64 1 ++ u64 0 ++ u32 2 ++ u64 0 ++ u64 4 ++ 0 ∷ u64 7 ++ u64 1 ++ 1 ∷ 1 ∷ 97 ∷ u64 0 ++ u64 5 ++ 0 ∷ u64 7 ++ u64 2 ++ 1 ∷ 1 ∷ 97 ∷ []) ∷
    Line.Out 2 (3 ∷ 1 ∷ 2 ∷ u64 1 ++ u64 3 ++ u32 0 ++ u32 1 ++ 9 ∷ u64 1 ++ u64 2 ++ []) ∷ [])
    ∷ (Line.Out 2 (3 ∷ 1 ∷ 2 ∷ u64 1 ++ u64 4 ++ u32 0 ++ u32 1 ++ 9 ∷ u64 1 ++ u64 2 ++ []) ∷ [])
    ∷ (Line.Out 2 (3 ∷ 1 ∷ 2 ∷ u64 1 ++ u64 5 ++ u32 0 ++ u32 1 ++ 8 ∷ u64 1 ++ 2 ∷ 0 ∷ 1 ∷ u64 0 ++ u32 2 ++ u64 0 ++ u64 4 ++ 0 ∷ u64 7 ++ u64 1 ++ 1 ∷ 1 ∷ 97 ∷ u64 0 ++ u64 5 ++ 0 ∷ u64 7 ++ u64 2 ++ 1 ∷ 1 ∷ 97 ∷ []) ∷ [])
    ∷ (Line.Out 2 (3 ∷ 1 ∷ 2 ∷ u64 1 ++ u64 6 ++ u32 0 ++ u32 1 ++ 9 ∷ u64 1 ++ u64 2 ++ []) ∷ [])
    ∷ (Line.Out 2 (3 ∷ 1 ∷ 2 ∷ u64 1 ++ u64 7 ++ u32 0 ++ u32 1 ++ 9 ∷ u64 1 ++ u64 2 ++ []) ∷ [])
    ∷ (Line.Out 2 (3 ∷ 1 ∷ 2 ∷ u64 1 ++ u64 8 ++ u32 0 ++ u32 1 ++ 8 ∷ u64 1 ++ 2 ∷ 0 ∷ 1 ∷ u64 0 ++ u32 2 ++ u64 0 ++ u64 4 ++ 0 ∷ u64 7 ++ u64 1 ++ 1 ∷ 1 ∷ 97 ∷ u64 0 ++ u64 5 ++ 0 ∷ u64 7 ++ u64 2 ++ 1 ∷ 1 ∷ 97 ∷ []) ∷ [])
    ∷ (Line.Out 2 (3 ∷ 1 ∷ 2 ∷ u64 1 ++ u64 9 ++ u32 0 ++ u32 1 ++ 8 ∷ u64 1 ++ 2 ∷ 0 ∷ 1 ∷ u64 0 ++ u32 2 ++ u64 0 ++ u64 4 ++ 0 ∷ u64 7 ++ u64 1 ++ 1 ∷ 1 ∷ 97 ∷ u64 0 ++ u64 5 ++ 0 ∷ u64 7 ++ u64 2 ++ 1 ∷ 1 ∷ 97 ∷ []) ∷ [])
    ∷ (Line.Out 2 (3 ∷ 1 ∷ 2 ∷ u64 1 ++ u64 10 ++ u32 0 ++ u32 1 ++ 9 ∷ u64 1 ++ u64 2 ++ []) ∷ [])
    ∷ []
    ∷ []
unfolding the_model
lines = refl
