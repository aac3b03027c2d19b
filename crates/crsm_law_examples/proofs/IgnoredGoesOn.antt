-- An ignored datagram still has the rest of its step: pending acknowledgements are sent.
use Rattle.std.proofs.Common.{◌≡◌, List, [], ◌∷◌, ◌++◌, ℕ, refl}
use Rattle.crsm_spec.specs.Types.{Line}
use Rattle.crsm_spec.specs.Node.{Turn}
use Rattle.crsm_law_examples.specs.Words.{lines_of_node, stamp, u64, came}
use Rattle.crsm_law_examples.proofs.Opened.{the_model}

abbrev turns : List (Turn × ℕ)
turns =
    came 10 9 (1 ∷ 1 ∷ 0 ∷ u64 0 ++ u64 0 ++ 1 ∷ u64 0 ++ u64 50 ++ 1 ∷ u64 7 ++ u64 1 ++ 1 ∷ 1 ∷ 97 ∷ [])
    ∷ came 60 9 (255 ∷ [])
    ∷ came 60 9 (2 ∷ 2 ∷ 1 ∷ u64 0 ++ u64 0 ++ [])
    ∷ []

lines : lines_of_node 0 3 turns ≡
    (Line.Boot 0 1 ∷
    Line.Enter 0 0 ∷ [])
    ∷ (Line.Log 0 0 (stamp 50 1) ∷
    Line.Out 1 (2 ∷ 0 ∷ 1 ∷ u64 0 ++ u64 1 ++ []) ∷ [])
    ∷ []
    ∷ (Line.Out 1 (1 ∷ 0 ∷ 1 ∷ u64 0 ++ u64 0 ++ 2 ∷ u64 50 ++ 1 ∷ u64 60 ++ []) ∷
    Line.Out 2 (1 ∷ 0 ∷ 2 ∷ u64 0 ++ u64 0 ++ 2 ∷ u64 50 ++ 1 ∷ u64 60 ++ []) ∷ [])
    ∷ []
unfolding the_model
lines = refl
