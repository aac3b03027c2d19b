-- Loss, repeats and reverse order on one link.
use Rattle.std.proofs.Common.{◌≡◌, List, [], ◌∷◌, ◌++◌, refl}
use Rattle.std.specs.Prelude.{Some}
use Rattle.crsm_spec.specs.Types.{Op, Answer, Line, State, SendKind}
use Rattle.crsm_spec.specs.Acts.{Act, Single}
use Rattle.crsm_law_examples.specs.Words.{replay, request, stamp, u64}
use Rattle.crsm_law_examples.proofs.Opened.{the_model}

abbrev schedule : List Act
schedule =
    Act.One (request 0 5 7 1 (Op.Put (97 ∷ []) (1 ∷ [])))
    ∷ Act.One (request 0 6 7 2 (Op.Put (97 ∷ []) (2 ∷ [])))
    ∷ Act.One (Single.Go 1 20)
    ∷ Act.Lose 0
    ∷ Act.One (Single.Tick 0 8)
    ∷ Act.One (Single.Go 4 20)
    ∷ Act.One (Single.Go 3 20)
    ∷ Act.One (Single.Again 1 21)
    ∷ Act.One (Single.Go 9 22)
    ∷ Act.One (Single.Go 7 22)
    ∷ Act.One (Single.Again 9 23)
    ∷ Act.One (Single.Again 7 24)
    ∷ []

transcript : replay 2 schedule ≡ Some (
    (Line.Boot 0 1 ∷
    Line.Enter 0 0 ∷
    Line.Boot 1 1 ∷
    Line.Enter 1 0 ∷ [])
    ∷ (Line.Submit 0 0 5 7 1 ∷
    Line.Send 0 0 1 SendKind.Frame (1 ∷ 0 ∷ 1 ∷ u64 0 ++ u64 0 ++ 1 ∷ u64 0 ++ u64 5 ++ 0 ∷ u64 7 ++ u64 1 ++ 2 ∷ 1 ∷ 97 ∷ 0 ∷ 1 ∷ 1 ∷ []) ∷ [])
    ∷ (Line.Submit 0 0 6 7 2 ∷
    Line.Send 1 0 1 SendKind.Frame (1 ∷ 0 ∷ 1 ∷ u64 0 ++ u64 1 ++ 1 ∷ u64 0 ++ u64 6 ++ 0 ∷ u64 7 ++ u64 2 ++ 2 ∷ 1 ∷ 97 ∷ 0 ∷ 1 ∷ 2 ∷ []) ∷ [])
    ∷ (Line.Send 2 1 0 SendKind.Ack (2 ∷ 1 ∷ 0 ∷ u64 0 ++ u64 0 ++ []) ∷ [])
    ∷ []
    ∷ (Line.Send 3 0 1 SendKind.Frame (1 ∷ 0 ∷ 1 ∷ u64 0 ++ u64 0 ++ 1 ∷ u64 0 ++ u64 5 ++ 0 ∷ u64 7 ++ u64 1 ++ 2 ∷ 1 ∷ 97 ∷ 0 ∷ 1 ∷ 1 ∷ []) ∷
    Line.Send 4 0 1 SendKind.Frame (1 ∷ 0 ∷ 1 ∷ u64 0 ++ u64 1 ++ 1 ∷ u64 0 ++ u64 6 ++ 0 ∷ u64 7 ++ u64 2 ++ 2 ∷ 1 ∷ 97 ∷ 0 ∷ 1 ∷ 2 ∷ []) ∷ [])
    ∷ (Line.Send 5 1 0 SendKind.Ack (2 ∷ 1 ∷ 0 ∷ u64 0 ++ u64 0 ++ []) ∷ [])
    ∷ (Line.Log 1 0 (stamp 5 0) ∷
    Line.Exec 1 0 0 (stamp 5 0) 7 1 Answer.Done ∷
    Line.Send 6 1 0 SendKind.Ack (2 ∷ 1 ∷ 0 ∷ u64 0 ++ u64 1 ++ []) ∷
    Line.Send 7 1 0 SendKind.Frame (1 ∷ 1 ∷ 0 ∷ u64 0 ++ u64 0 ++ 2 ∷ u64 5 ++ 0 ∷ u64 20 ++ []) ∷ [])
    ∷ (Line.Log 1 0 (stamp 6 0) ∷
    Line.Exec 1 1 0 (stamp 6 0) 7 2 Answer.Done ∷
    Line.Send 8 1 0 SendKind.Ack (2 ∷ 1 ∷ 0 ∷ u64 0 ++ u64 2 ++ []) ∷
    Line.Send 9 1 0 SendKind.Frame (1 ∷ 1 ∷ 0 ∷ u64 0 ++ u64 1 ++ 2 ∷ u64 6 ++ 0 ∷ u64 21 ++ []) ∷ [])
    ∷ (Line.Send 10 0 1 SendKind.Ack (2 ∷ 0 ∷ 1 ∷ u64 0 ++ u64 0 ++ []) ∷ [])
    ∷ (Line.Exec 0 0 0 (stamp 5 0) 7 1 Answer.Done ∷
    Line.Send 11 0 1 SendKind.Ack (2 ∷ 0 ∷ 1 ∷ u64 0 ++ u64 1 ++ []) ∷
    Line.ReplyOk 0 7 1 0 Answer.Done ∷ [])
    ∷ (Line.Exec 0 1 0 (stamp 6 0) 7 2 Answer.Done ∷
    Line.Send 12 0 1 SendKind.Ack (2 ∷ 0 ∷ 1 ∷ u64 0 ++ u64 2 ++ []) ∷
    Line.ReplyOk 0 7 2 1 Answer.Done ∷ [])
    ∷ (Line.Send 13 0 1 SendKind.Ack (2 ∷ 0 ∷ 1 ∷ u64 0 ++ u64 2 ++ []) ∷ [])
    ∷ (Line.Final 0 State.Live 0 2 ∷
    Line.Final 1 State.Live 0 2 ∷ [])
    ∷ [])
unfolding the_model
transcript = refl
