-- An entry that a majority has logged waits until the slowest clock has passed it.
use Rattle.std.proofs.Common.{◌≡◌, List, [], ◌∷◌, ◌++◌, refl}
use Rattle.std.specs.Prelude.{Some}
use Rattle.crsm_spec.specs.Types.{Op, Answer, Line, State, SendKind}
use Rattle.crsm_spec.specs.Acts.{Act, Single}
use Rattle.crsm_law_examples.specs.Words.{replay, request, stamp, u64}
use Rattle.crsm_law_examples.proofs.Opened.{the_model}

abbrev schedule : List Act
schedule =
    Act.One (request 2 3 9 1 (Op.Put (97 ∷ []) (1 ∷ [])))
    ∷ Act.One (request 0 50 7 1 (Op.Put (97 ∷ []) (2 ∷ [])))
    ∷ Act.One (Single.Go 0 51)
    ∷ Act.One (Single.Go 2 52)
    ∷ Act.One (Single.Go 8 53)
    ∷ Act.One (Single.Tick 2 60)
    ∷ Act.One (Single.Go 13 61)
    ∷ []

transcript : replay 3 schedule ≡ Some (
    (Line.Boot 0 1 ∷
    Line.Enter 0 0 ∷
    Line.Boot 1 1 ∷
    Line.Enter 1 0 ∷
    Line.Boot 2 1 ∷
    Line.Enter 2 0 ∷ [])
    ∷ (Line.Submit 2 0 3 9 1 ∷
    Line.Send 0 2 0 SendKind.Frame (1 ∷ 2 ∷ 0 ∷ u64 0 ++ u64 0 ++ 1 ∷ u64 0 ++ u64 3 ++ 2 ∷ u64 9 ++ u64 1 ++ 2 ∷ 1 ∷ 97 ∷ 0 ∷ 1 ∷ 1 ∷ []) ∷
    Line.Send 1 2 1 SendKind.Frame (1 ∷ 2 ∷ 1 ∷ u64 0 ++ u64 0 ++ 1 ∷ u64 0 ++ u64 3 ++ 2 ∷ u64 9 ++ u64 1 ++ 2 ∷ 1 ∷ 97 ∷ 0 ∷ 1 ∷ 1 ∷ []) ∷ [])
    ∷ (Line.Submit 0 0 50 7 1 ∷
    Line.Send 2 0 1 SendKind.Frame (1 ∷ 0 ∷ 1 ∷ u64 0 ++ u64 0 ++ 1 ∷ u64 0 ++ u64 50 ++ 0 ∷ u64 7 ++ u64 1 ++ 2 ∷ 1 ∷ 97 ∷ 0 ∷ 1 ∷ 2 ∷ []) ∷
    Line.Send 3 0 2 SendKind.Frame (1 ∷ 0 ∷ 2 ∷ u64 0 ++ u64 0 ++ 1 ∷ u64 0 ++ u64 50 ++ 0 ∷ u64 7 ++ u64 1 ++ 2 ∷ 1 ∷ 97 ∷ 0 ∷ 1 ∷ 2 ∷ []) ∷ [])
    ∷ (Line.Log 0 0 (stamp 3 2) ∷
    Line.Send 4 0 2 SendKind.Ack (2 ∷ 0 ∷ 2 ∷ u64 0 ++ u64 1 ++ []) ∷
    Line.Send 5 0 1 SendKind.Frame (1 ∷ 0 ∷ 1 ∷ u64 0 ++ u64 1 ++ 2 ∷ u64 3 ++ 2 ∷ u64 51 ++ []) ∷
    Line.Send 6 0 2 SendKind.Frame (1 ∷ 0 ∷ 2 ∷ u64 0 ++ u64 1 ++ 2 ∷ u64 3 ++ 2 ∷ u64 51 ++ []) ∷ [])
    ∷ (Line.Log 1 0 (stamp 50 0) ∷
    Line.Send 7 1 0 SendKind.Ack (2 ∷ 1 ∷ 0 ∷ u64 0 ++ u64 1 ++ []) ∷
    Line.Send 8 1 0 SendKind.Frame (1 ∷ 1 ∷ 0 ∷ u64 0 ++ u64 0 ++ 2 ∷ u64 50 ++ 0 ∷ u64 52 ++ []) ∷
    Line.Send 9 1 2 SendKind.Frame (1 ∷ 1 ∷ 2 ∷ u64 0 ++ u64 0 ++ 2 ∷ u64 50 ++ 0 ∷ u64 52 ++ []) ∷ [])
    ∷ (Line.Exec 0 0 0 (stamp 3 2) 9 1 Answer.Done ∷
    Line.Send 10 0 1 SendKind.Ack (2 ∷ 0 ∷ 1 ∷ u64 0 ++ u64 1 ++ []) ∷ [])
    ∷ (Line.Send 11 2 0 SendKind.Frame (1 ∷ 2 ∷ 0 ∷ u64 0 ++ u64 0 ++ 1 ∷ u64 0 ++ u64 3 ++ 2 ∷ u64 9 ++ u64 1 ++ 2 ∷ 1 ∷ 97 ∷ 0 ∷ 1 ∷ 1 ∷ []) ∷
    Line.Send 12 2 1 SendKind.Frame (1 ∷ 2 ∷ 1 ∷ u64 0 ++ u64 0 ++ 1 ∷ u64 0 ++ u64 3 ++ 2 ∷ u64 9 ++ u64 1 ++ 2 ∷ 1 ∷ 97 ∷ 0 ∷ 1 ∷ 1 ∷ []) ∷
    Line.Send 13 2 0 SendKind.Frame (1 ∷ 2 ∷ 0 ∷ u64 0 ++ u64 1 ++ 3 ∷ u64 60 ++ []) ∷
    Line.Send 14 2 1 SendKind.Frame (1 ∷ 2 ∷ 1 ∷ u64 0 ++ u64 1 ++ 3 ∷ u64 60 ++ []) ∷ [])
    ∷ (Line.Exec 0 1 0 (stamp 50 0) 7 1 Answer.Done ∷
    Line.Send 15 0 2 SendKind.Ack (2 ∷ 0 ∷ 2 ∷ u64 0 ++ u64 2 ++ []) ∷
    Line.ReplyOk 0 7 1 1 Answer.Done ∷ [])
    ∷ (Line.Final 0 State.Live 0 2 ∷
    Line.Final 1 State.Live 0 0 ∷
    Line.Final 2 State.Live 0 0 ∷ [])
    ∷ [])
unfolding the_model
transcript = refl
