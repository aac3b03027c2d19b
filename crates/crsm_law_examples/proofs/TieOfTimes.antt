-- Two commands with one time: the one with the lesser origin is first, everywhere.
use Rattle.std.proofs.Common.{◌≡◌, List, [], ◌∷◌, ◌++◌, refl}
use Rattle.std.specs.Prelude.{Some}
use Rattle.crsm_spec.specs.Types.{Op, Answer, Line, State, SendKind}
use Rattle.crsm_spec.specs.Acts.{Act}
use Rattle.crsm_law_examples.specs.Words.{replay, request, stamp, u64}
use Rattle.crsm_law_examples.proofs.Opened.{the_model}

abbrev schedule : List Act
schedule =
    Act.One (request 1 5 9 1 (Op.Put (97 ∷ []) (2 ∷ [])))
    ∷ Act.One (request 0 5 7 1 (Op.Put (97 ∷ []) (1 ∷ [])))
    ∷ Act.Settle 8
    ∷ Act.Settle 9
    ∷ []

transcript : replay 3 schedule ≡ Some (
    (Line.Boot 0 1 ∷
    Line.Enter 0 0 ∷
    Line.Boot 1 1 ∷
    Line.Enter 1 0 ∷
    Line.Boot 2 1 ∷
    Line.Enter 2 0 ∷ [])
    ∷ (Line.Submit 1 0 5 9 1 ∷
    Line.Send 0 1 0 SendKind.Frame (1 ∷ 1 ∷ 0 ∷ u64 0 ++ u64 0 ++ 1 ∷ u64 0 ++ u64 5 ++ 1 ∷ u64 9 ++ u64 1 ++ 2 ∷ 1 ∷ 97 ∷ 0 ∷ 1 ∷ 2 ∷ []) ∷
    Line.Send 1 1 2 SendKind.Frame (1 ∷ 1 ∷ 2 ∷ u64 0 ++ u64 0 ++ 1 ∷ u64 0 ++ u64 5 ++ 1 ∷ u64 9 ++ u64 1 ++ 2 ∷ 1 ∷ 97 ∷ 0 ∷ 1 ∷ 2 ∷ []) ∷ [])
    ∷ (Line.Submit 0 0 5 7 1 ∷
    Line.Send 2 0 1 SendKind.Frame (1 ∷ 0 ∷ 1 ∷ u64 0 ++ u64 0 ++ 1 ∷ u64 0 ++ u64 5 ++ 0 ∷ u64 7 ++ u64 1 ++ 2 ∷ 1 ∷ 97 ∷ 0 ∷ 1 ∷ 1 ∷ []) ∷
    Line.Send 3 0 2 SendKind.Frame (1 ∷ 0 ∷ 2 ∷ u64 0 ++ u64 0 ++ 1 ∷ u64 0 ++ u64 5 ++ 0 ∷ u64 7 ++ u64 1 ++ 2 ∷ 1 ∷ 97 ∷ 0 ∷ 1 ∷ 1 ∷ []) ∷ [])
    ∷ (Line.Log 0 0 (stamp 5 1) ∷
    Line.Send 4 0 1 SendKind.Ack (2 ∷ 0 ∷ 1 ∷ u64 0 ++ u64 1 ++ []) ∷
    Line.Send 5 0 1 SendKind.Frame (1 ∷ 0 ∷ 1 ∷ u64 0 ++ u64 1 ++ 2 ∷ u64 5 ++ 1 ∷ u64 8 ++ []) ∷
    Line.Send 6 0 2 SendKind.Frame (1 ∷ 0 ∷ 2 ∷ u64 0 ++ u64 1 ++ 2 ∷ u64 5 ++ 1 ∷ u64 8 ++ []) ∷
    Line.Log 2 0 (stamp 5 1) ∷
    Line.Send 7 2 1 SendKind.Ack (2 ∷ 2 ∷ 1 ∷ u64 0 ++ u64 1 ++ []) ∷
    Line.Send 8 2 0 SendKind.Frame (1 ∷ 2 ∷ 0 ∷ u64 0 ++ u64 0 ++ 2 ∷ u64 5 ++ 1 ∷ u64 8 ++ []) ∷
    Line.Send 9 2 1 SendKind.Frame (1 ∷ 2 ∷ 1 ∷ u64 0 ++ u64 0 ++ 2 ∷ u64 5 ++ 1 ∷ u64 8 ++ []) ∷
    Line.Log 1 0 (stamp 5 0) ∷
    Line.Send 10 1 0 SendKind.Ack (2 ∷ 1 ∷ 0 ∷ u64 0 ++ u64 1 ++ []) ∷
    Line.Send 11 1 0 SendKind.Frame (1 ∷ 1 ∷ 0 ∷ u64 0 ++ u64 1 ++ 2 ∷ u64 5 ++ 0 ∷ u64 8 ++ []) ∷
    Line.Send 12 1 2 SendKind.Frame (1 ∷ 1 ∷ 2 ∷ u64 0 ++ u64 1 ++ 2 ∷ u64 5 ++ 0 ∷ u64 8 ++ []) ∷
    Line.Log 2 0 (stamp 5 0) ∷
    Line.Exec 2 0 0 (stamp 5 0) 7 1 Answer.Done ∷
    Line.Exec 2 1 0 (stamp 5 1) 9 1 Answer.Done ∷
    Line.Send 13 2 0 SendKind.Ack (2 ∷ 2 ∷ 0 ∷ u64 0 ++ u64 1 ++ []) ∷
    Line.Send 14 2 0 SendKind.Frame (1 ∷ 2 ∷ 0 ∷ u64 0 ++ u64 1 ++ 2 ∷ u64 5 ++ 0 ∷ u64 9 ++ []) ∷
    Line.Send 15 2 1 SendKind.Frame (1 ∷ 2 ∷ 1 ∷ u64 0 ++ u64 1 ++ 2 ∷ u64 5 ++ 0 ∷ u64 9 ++ []) ∷ [])
    ∷ (Line.Send 16 1 0 SendKind.Ack (2 ∷ 1 ∷ 0 ∷ u64 0 ++ u64 2 ++ []) ∷
    Line.Send 17 2 0 SendKind.Ack (2 ∷ 2 ∷ 0 ∷ u64 0 ++ u64 2 ++ []) ∷
    Line.Send 18 0 2 SendKind.Ack (2 ∷ 0 ∷ 2 ∷ u64 0 ++ u64 1 ++ []) ∷
    Line.Exec 1 0 0 (stamp 5 0) 7 1 Answer.Done ∷
    Line.Exec 1 1 0 (stamp 5 1) 9 1 Answer.Done ∷
    Line.Send 19 1 2 SendKind.Ack (2 ∷ 1 ∷ 2 ∷ u64 0 ++ u64 1 ++ []) ∷
    Line.ReplyOk 1 9 1 1 Answer.Done ∷
    Line.Exec 0 0 0 (stamp 5 0) 7 1 Answer.Done ∷
    Line.Exec 0 1 0 (stamp 5 1) 9 1 Answer.Done ∷
    Line.Send 20 0 1 SendKind.Ack (2 ∷ 0 ∷ 1 ∷ u64 0 ++ u64 2 ++ []) ∷
    Line.ReplyOk 0 7 1 0 Answer.Done ∷
    Line.Send 21 2 1 SendKind.Ack (2 ∷ 2 ∷ 1 ∷ u64 0 ++ u64 2 ++ []) ∷
    Line.Send 22 0 2 SendKind.Ack (2 ∷ 0 ∷ 2 ∷ u64 0 ++ u64 2 ++ []) ∷
    Line.Send 23 1 2 SendKind.Ack (2 ∷ 1 ∷ 2 ∷ u64 0 ++ u64 2 ++ []) ∷ [])
    ∷ (Line.Final 0 State.Live 0 2 ∷
    Line.Final 1 State.Live 0 2 ∷
    Line.Final 2 State.Live 0 2 ∷ [])
    ∷ [])
unfolding the_model
transcript = refl
