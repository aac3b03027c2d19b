-- An acknowledgement of frames that were never pushed is ignored; one of a pushed frame ends its retransmission.
use Rattle.std.proofs.Common.{◌≡◌, List, [], ◌∷◌, ◌++◌, ℕ, refl}
use Rattle.crsm_spec.specs.Types.{Line}
use Rattle.crsm_spec.specs.Node.{Turn}
use Rattle.crsm_law_examples.specs.Words.{lines_of_node, u64, came, ticked}
use Rattle.crsm_law_examples.proofs.Opened.{the_model}

abbrev turns : List (Turn × ℕ)
turns =
    came 5 9 (2 ∷ 1 ∷ 0 ∷ u64 0 ++ u64 5 ++ [])
    ∷ came 5 9 (4 ∷ u64 9 ++ u64 1 ++ 1 ∷ 1 ∷ 97 ∷ [])
    ∷ ticked 6
    ∷ came 7 9 (2 ∷ 1 ∷ 0 ∷ u64 0 ++ u64 1 ++ [])
    ∷ ticked 8
    ∷ []

lines : lines_of_node 0 3 turns ≡
    (Line.Boot 0 1 ∷
    Line.Enter 0 0 ∷ [])
    ∷ []
    ∷ (Line.Submit 0 0 5 9 1 ∷
    Line.Out 1 (1 ∷ 0 ∷ 1 ∷ u64 0 ++ u64 0 ++ 1 ∷ u64 0 ++ u64 5 ++ 0 ∷ u64 9 ++ u64 1 ++ 1 ∷ 1 ∷ 97 ∷ []) ∷
    Line.Out 2 (1 ∷ 0 ∷ 2 ∷ u64 0 ++ u64 0 ++ 1 ∷ u64 0 ++ u64 5 ++ 0 ∷ u64 9 ++ u64 1 ++ 1 ∷ 1 ∷ 97 ∷ []) ∷ [])
    ∷ (Line.Out 1 (1 ∷ 0 ∷ 1 ∷ u64 0 ++ u64 0 ++ 1 ∷ u64 0 ++ u64 5 ++ 0 ∷ u64 9 ++ u64 1 ++ 1 ∷ 1 ∷ 97 ∷ []) ∷
    Line.Out 2 (1 ∷ 0 ∷ 2 ∷ u64 0 ++ u64 0 ++ 1 ∷ u64 0 ++ u64 5 ++ 0 ∷ u64 9 ++ u64 1 ++ 1 ∷ 1 ∷ 97 ∷ []) ∷ [])
    ∷ []
    ∷ (Line.Out 2 (1 ∷ 0 ∷ 2 ∷ u64 0 ++ u64 0 ++ 1 ∷ u64 0 ++ u64 5 ++ 0 ∷ u64 9 ++ u64 1 ++ 1 ∷ 1 ∷ 97 ∷ []) ∷ [])
    ∷ []
unfolding the_model
lines = refl
