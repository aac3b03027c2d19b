-- Two datagrams are lost together with the step of the first.
use Rattle.std.proofs.Common.{◌≡◌, List, [], ◌∷◌, ◌++◌, refl}
use Rattle.std.specs.Prelude.{Some}
use Rattle.crsm_spec.specs.Types.{Op, Line, State, SendKind}
use Rattle.crsm_spec.specs.Acts.{Act}
use Rattle.crsm_law_examples.specs.Words.{replay, request, u64}
use Rattle.crsm_law_examples.proofs.Opened.{the_model}

abbrev schedule : List Act
schedule =
    Act.One (request 0 5 7 1 (Op.Put (97 ∷ []) (98 ∷ [])))
    ∷ Act.One (request 0 6 7 2 (Op.Get (97 ∷ [])))
    ∷ Act.CutLostBatch 20 (0 ∷ 1 ∷ [])
    ∷ Act.Start 1
    ∷ []

transcript : replay 2 schedule ≡ Some (
    (Line.Boot 0 1 ∷
    Line.Enter 0 0 ∷
    Line.Boot 1 1 ∷
    Line.Enter 1 0 ∷ [])
    ∷ (Line.Submit 0 0 5 7 1 ∷
    Line.Send 0 0 1 SendKind.Frame (1 ∷ 0 ∷ 1 ∷ u64 0 ++ u64 0 ++ 1 ∷ u64 0 ++ u64 5 ++ 0 ∷ u64 7 ++ u64 1 ++ 2 ∷ 1 ∷ 97 ∷ 0 ∷ 1 ∷ 98 ∷ []) ∷ [])
    ∷ (Line.Submit 0 0 6 7 2 ∷
    Line.Send 1 0 1 SendKind.Frame (1 ∷ 0 ∷ 1 ∷ u64 0 ++ u64 1 ++ 1 ∷ u64 0 ++ u64 6 ++ 0 ∷ u64 7 ++ u64 2 ++ 1 ∷ 1 ∷ 97 ∷ []) ∷ [])
    ∷ (Line.Down 1 ∷ [])
    ∷ (Line.Boot 1 2 ∷ [])
    ∷ (Line.Final 0 State.Live 0 0 ∷
    Line.Final 1 State.Out 0 0 ∷ [])
    ∷ [])
unfolding the_model
transcript = refl
