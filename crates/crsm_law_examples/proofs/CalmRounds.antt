-- Two calm rounds after a request: its entry is executed everywhere and answered.
use Rattle.std.proofs.Common.{◌≡◌, List, [], ◌∷◌, ◌++◌, refl}
use Rattle.std.specs.Prelude.{Some}
use Rattle.crsm_spec.specs.Types.{Op, Answer, Line, State, SendKind}
use Rattle.crsm_spec.specs.Acts.{Act, Single}
use Rattle.crsm_law_examples.specs.Words.{replay, request, stamp, u64}
use Rattle.crsm_law_examples.proofs.Opened.{the_model}

abbrev schedule : List Act
schedule =
    Act.One (request 0 5 7 1 (Op.Put (97 ∷ []) (98 ∷ [])))
    ∷ Act.One (Single.Tick 0 20)
    ∷ Act.One (Single.Tick 1 20)
    ∷ Act.One (Single.Tick 2 20)
    ∷ Act.Settle 20
    ∷ Act.One (Single.Tick 0 60)
    ∷ Act.One (Single.Tick 1 60)
    ∷ Act.One (Single.Tick 2 60)
    ∷ Act.Settle 60
    ∷ []

transcript : replay 3 schedule ≡ Some (
    (Line.Boot 0 1 ∷
    Line.Enter 0 0 ∷
    Line.Boot 1 1 ∷
    Line.Enter 1 0 ∷
    Line.Boot 2 1 ∷
    Line.Enter 2 0 ∷ [])
    ∷ (Line.Submit 0 0 5 7 1 ∷
    Line.Send 0 0 1 SendKind.Frame (1 ∷ 0 ∷ 1 ∷ u64 0 ++ u64 0 ++ 1 ∷ u64 0 ++ u64 5 ++ 0 ∷ u64 7 ++ u64 1 ++ 2 ∷ 1 ∷ 97 ∷ 0 ∷ 1 ∷ 98 ∷ []) ∷
    Line.Send 1 0 2 SendKind.Frame (1 ∷ 0 ∷ 2 ∷ u64 0 ++ u64 0 ++ 1 ∷ u64 0 ++ u64 5 ++ 0 ∷ u64 7 ++ u64 1 ++ 2 ∷ 1 ∷ 97 ∷ 0 ∷ 1 ∷ 98 ∷ []) ∷ [])
    ∷ (Line.Send 2 0 1 SendKind.Frame (1 ∷ 0 ∷ 1 ∷ u64 0 ++ u64 0 ++ 1 ∷ u64 0 ++ u64 5 ++ 0 ∷ u64 7 ++ u64 1 ++ 2 ∷ 1 ∷ 97 ∷ 0 ∷ 1 ∷ 98 ∷ []) ∷
    Line.Send 3 0 2 SendKind.Frame (1 ∷ 0 ∷ 2 ∷ u64 0 ++ u64 0 ++ 1 ∷ u64 0 ++ u64 5 ++ 0 ∷ u64 7 ++ u64 1 ++ 2 ∷ 1 ∷ 97 ∷ 0 ∷ 1 ∷ 98 ∷ []) ∷
    Line.Send 4 0 1 SendKind.Frame (1 ∷ 0 ∷ 1 ∷ u64 0 ++ u64 1 ++ 3 ∷ u64 20 ++ []) ∷
    Line.Send 5 0 2 SendKind.Frame (1 ∷ 0 ∷ 2 ∷ u64 0 ++ u64 1 ++ 3 ∷ u64 20 ++ []) ∷ [])
    ∷ (Line.Send 6 1 0 SendKind.Frame (1 ∷ 1 ∷ 0 ∷ u64 0 ++ u64 0 ++ 3 ∷ u64 20 ++ []) ∷
    Line.Send 7 1 2 SendKind.Frame (1 ∷ 1 ∷ 2 ∷ u64 0 ++ u64 0 ++ 3 ∷ u64 20 ++ []) ∷ [])
    ∷ (Line.Send 8 2 0 SendKind.Frame (1 ∷ 2 ∷ 0 ∷ u64 0 ++ u64 0 ++ 3 ∷ u64 20 ++ []) ∷
    Line.Send 9 2 1 SendKind.Frame (1 ∷ 2 ∷ 1 ∷ u64 0 ++ u64 0 ++ 3 ∷ u64 20 ++ []) ∷ [])
    ∷ (Line.Log 1 0 (stamp 5 0) ∷
    Line.Send 10 1 0 SendKind.Ack (2 ∷ 1 ∷ 0 ∷ u64 0 ++ u64 1 ++ []) ∷
    Line.Send 11 1 0 SendKind.Frame (1 ∷ 1 ∷ 0 ∷ u64 0 ++ u64 1 ++ 2 ∷ u64 5 ++ 0 ∷ u64 21 ++ []) ∷
    Line.Send 12 1 2 SendKind.Frame (1 ∷ 1 ∷ 2 ∷ u64 0 ++ u64 1 ++ 2 ∷ u64 5 ++ 0 ∷ u64 21 ++ []) ∷
    Line.Log 2 0 (stamp 5 0) ∷
    Line.Send 13 2 0 SendKind.Ack (2 ∷ 2 ∷ 0 ∷ u64 0 ++ u64 1 ++ []) ∷
    Line.Send 14 2 0 SendKind.Frame (1 ∷ 2 ∷ 0 ∷ u64 0 ++ u64 1 ++ 2 ∷ u64 5 ++ 0 ∷ u64 21 ++ []) ∷
    Line.Send 15 2 1 SendKind.Frame (1 ∷ 2 ∷ 1 ∷ u64 0 ++ u64 1 ++ 2 ∷ u64 5 ++ 0 ∷ u64 21 ++ []) ∷
    Line.Send 16 1 0 SendKind.Ack (2 ∷ 1 ∷ 0 ∷ u64 0 ++ u64 1 ++ []) ∷
    Line.Send 17 2 0 SendKind.Ack (2 ∷ 2 ∷ 0 ∷ u64 0 ++ u64 1 ++ []) ∷
    Line.Send 18 1 0 SendKind.Ack (2 ∷ 1 ∷ 0 ∷ u64 0 ++ u64 2 ++ []) ∷
    Line.Send 19 2 0 SendKind.Ack (2 ∷ 2 ∷ 0 ∷ u64 0 ++ u64 2 ++ []) ∷
    Line.Send 20 0 1 SendKind.Ack (2 ∷ 0 ∷ 1 ∷ u64 0 ++ u64 1 ++ []) ∷
    Line.Exec 2 0 0 (stamp 5 0) 7 1 Answer.Done ∷
    Line.Send 21 2 1 SendKind.Ack (2 ∷ 2 ∷ 1 ∷ u64 0 ++ u64 1 ++ []) ∷
    Line.Send 22 0 2 SendKind.Ack (2 ∷ 0 ∷ 2 ∷ u64 0 ++ u64 1 ++ []) ∷
    Line.Exec 1 0 0 (stamp 5 0) 7 1 Answer.Done ∷
    Line.Send 23 1 2 SendKind.Ack (2 ∷ 1 ∷ 2 ∷ u64 0 ++ u64 1 ++ []) ∷ [])
    ∷ (Line.Send 24 0 1 SendKind.Frame (1 ∷ 0 ∷ 1 ∷ u64 0 ++ u64 0 ++ 1 ∷ u64 0 ++ u64 5 ++ 0 ∷ u64 7 ++ u64 1 ++ 2 ∷ 1 ∷ 97 ∷ 0 ∷ 1 ∷ 98 ∷ []) ∷
    Line.Send 25 0 1 SendKind.Frame (1 ∷ 0 ∷ 1 ∷ u64 0 ++ u64 1 ++ 3 ∷ u64 20 ++ []) ∷
    Line.Send 26 0 2 SendKind.Frame (1 ∷ 0 ∷ 2 ∷ u64 0 ++ u64 0 ++ 1 ∷ u64 0 ++ u64 5 ++ 0 ∷ u64 7 ++ u64 1 ++ 2 ∷ 1 ∷ 97 ∷ 0 ∷ 1 ∷ 98 ∷ []) ∷
    Line.Send 27 0 2 SendKind.Frame (1 ∷ 0 ∷ 2 ∷ u64 0 ++ u64 1 ++ 3 ∷ u64 20 ++ []) ∷
    Line.Send 28 0 1 SendKind.Frame (1 ∷ 0 ∷ 1 ∷ u64 0 ++ u64 2 ++ 3 ∷ u64 60 ++ []) ∷
    Line.Send 29 0 2 SendKind.Frame (1 ∷ 0 ∷ 2 ∷ u64 0 ++ u64 2 ++ 3 ∷ u64 60 ++ []) ∷ [])
    ∷ (Line.Send 30 1 0 SendKind.Frame (1 ∷ 1 ∷ 0 ∷ u64 0 ++ u64 0 ++ 3 ∷ u64 20 ++ []) ∷
    Line.Send 31 1 0 SendKind.Frame (1 ∷ 1 ∷ 0 ∷ u64 0 ++ u64 1 ++ 2 ∷ u64 5 ++ 0 ∷ u64 21 ++ []) ∷
    Line.Send 32 1 2 SendKind.Frame (1 ∷ 1 ∷ 2 ∷ u64 0 ++ u64 0 ++ 3 ∷ u64 20 ++ []) ∷
    Line.Send 33 1 2 SendKind.Frame (1 ∷ 1 ∷ 2 ∷ u64 0 ++ u64 1 ++ 2 ∷ u64 5 ++ 0 ∷ u64 21 ++ []) ∷
    Line.Send 34 1 0 SendKind.Frame (1 ∷ 1 ∷ 0 ∷ u64 0 ++ u64 2 ++ 3 ∷ u64 60 ++ []) ∷
    Line.Send 35 1 2 SendKind.Frame (1 ∷ 1 ∷ 2 ∷ u64 0 ++ u64 2 ++ 3 ∷ u64 60 ++ []) ∷ [])
    ∷ (Line.Send 36 2 0 SendKind.Frame (1 ∷ 2 ∷ 0 ∷ u64 0 ++ u64 0 ++ 3 ∷ u64 20 ++ []) ∷
    Line.Send 37 2 0 SendKind.Frame (1 ∷ 2 ∷ 0 ∷ u64 0 ++ u64 1 ++ 2 ∷ u64 5 ++ 0 ∷ u64 21 ++ []) ∷
    Line.Send 38 2 1 SendKind.Frame (1 ∷ 2 ∷ 1 ∷ u64 0 ++ u64 0 ++ 3 ∷ u64 20 ++ []) ∷
    Line.Send 39 2 1 SendKind.Frame (1 ∷ 2 ∷ 1 ∷ u64 0 ++ u64 1 ++ 2 ∷ u64 5 ++ 0 ∷ u64 21 ++ []) ∷
    Line.Send 40 2 0 SendKind.Frame (1 ∷ 2 ∷ 0 ∷ u64 0 ++ u64 2 ++ 3 ∷ u64 60 ++ []) ∷
    Line.Send 41 2 1 SendKind.Frame (1 ∷ 2 ∷ 1 ∷ u64 0 ++ u64 2 ++ 3 ∷ u64 60 ++ []) ∷ [])
    ∷ (Line.Exec 0 0 0 (stamp 5 0) 7 1 Answer.Done ∷
    Line.Send 42 0 1 SendKind.Ack (2 ∷ 0 ∷ 1 ∷ u64 0 ++ u64 2 ++ []) ∷
    Line.ReplyOk 0 7 1 0 Answer.Done ∷
    Line.Send 43 2 1 SendKind.Ack (2 ∷ 2 ∷ 1 ∷ u64 0 ++ u64 2 ++ []) ∷
    Line.Send 44 0 2 SendKind.Ack (2 ∷ 0 ∷ 2 ∷ u64 0 ++ u64 2 ++ []) ∷
    Line.Send 45 1 2 SendKind.Ack (2 ∷ 1 ∷ 2 ∷ u64 0 ++ u64 2 ++ []) ∷
    Line.Send 46 1 0 SendKind.Ack (2 ∷ 1 ∷ 0 ∷ u64 0 ++ u64 2 ++ []) ∷
    Line.Send 47 1 0 SendKind.Ack (2 ∷ 1 ∷ 0 ∷ u64 0 ++ u64 2 ++ []) ∷
    Line.Send 48 2 0 SendKind.Ack (2 ∷ 2 ∷ 0 ∷ u64 0 ++ u64 2 ++ []) ∷
    Line.Send 49 2 0 SendKind.Ack (2 ∷ 2 ∷ 0 ∷ u64 0 ++ u64 2 ++ []) ∷
    Line.Send 50 1 0 SendKind.Ack (2 ∷ 1 ∷ 0 ∷ u64 0 ++ u64 3 ++ []) ∷
    Line.Send 51 2 0 SendKind.Ack (2 ∷ 2 ∷ 0 ∷ u64 0 ++ u64 3 ++ []) ∷
    Line.Send 52 0 1 SendKind.Ack (2 ∷ 0 ∷ 1 ∷ u64 0 ++ u64 2 ++ []) ∷
    Line.Send 53 0 1 SendKind.Ack (2 ∷ 0 ∷ 1 ∷ u64 0 ++ u64 2 ++ []) ∷
    Line.Send 54 2 1 SendKind.Ack (2 ∷ 2 ∷ 1 ∷ u64 0 ++ u64 2 ++ []) ∷
    Line.Send 55 2 1 SendKind.Ack (2 ∷ 2 ∷ 1 ∷ u64 0 ++ u64 2 ++ []) ∷
    Line.Send 56 0 1 SendKind.Ack (2 ∷ 0 ∷ 1 ∷ u64 0 ++ u64 3 ++ []) ∷
    Line.Send 57 2 1 SendKind.Ack (2 ∷ 2 ∷ 1 ∷ u64 0 ++ u64 3 ++ []) ∷
    Line.Send 58 0 2 SendKind.Ack (2 ∷ 0 ∷ 2 ∷ u64 0 ++ u64 2 ++ []) ∷
    Line.Send 59 0 2 SendKind.Ack (2 ∷ 0 ∷ 2 ∷ u64 0 ++ u64 2 ++ []) ∷
    Line.Send 60 1 2 SendKind.Ack (2 ∷ 1 ∷ 2 ∷ u64 0 ++ u64 2 ++ []) ∷
    Line.Send 61 1 2 SendKind.Ack (2 ∷ 1 ∷ 2 ∷ u64 0 ++ u64 2 ++ []) ∷
    Line.Send 62 0 2 SendKind.Ack (2 ∷ 0 ∷ 2 ∷ u64 0 ++ u64 3 ++ []) ∷
    Line.Send 63 1 2 SendKind.Ack (2 ∷ 1 ∷ 2 ∷ u64 0 ++ u64 3 ++ []) ∷ [])
    ∷ (Line.Final 0 State.Live 0 1 ∷
    Line.Final 1 State.Live 0 1 ∷
    Line.Final 2 State.Live 0 1 ∷ [])
    ∷ [])
unfolding the_model
transcript = refl
