-- One client at two replicas: a repeated command is answered once more, a lower one is stale.
use Rattle.std.proofs.Common.{◌≡◌, List, [], ◌∷◌, ◌++◌, refl}
use Rattle.std.specs.Prelude.{Some}
use Rattle.crsm_spec.specs.Types.{Op, Answer, Line, State, SendKind}
use Rattle.crsm_spec.specs.Acts.{Act}
use Rattle.crsm_law_examples.specs.Words.{replay, request, stamp, u64}
use Rattle.crsm_law_examples.proofs.Opened.{the_model}

abbrev schedule : List Act
schedule =
    Act.One (request 0 5 7 3 (Op.Put (97 ∷ []) (1 ∷ [])))
    ∷ Act.One (request 1 5 7 3 (Op.Put (97 ∷ []) (1 ∷ [])))
    ∷ Act.Settle 9
    ∷ Act.Settle 9
    ∷ Act.One (request 0 30 7 2 (Op.Get (97 ∷ [])))
    ∷ Act.Settle 40
    ∷ Act.Settle 40
    ∷ []

transcript : replay 2 schedule ≡ Some (
    (Line.Boot 0 1 ∷
    Line.Enter 0 0 ∷
    Line.Boot 1 1 ∷
    Line.Enter 1 0 ∷ [])
    ∷ (Line.Submit 0 0 5 7 3 ∷
    Line.Send 0 0 1 SendKind.Frame (1 ∷ 0 ∷ 1 ∷ u64 0 ++ u64 0 ++ 1 ∷ u64 0 ++ u64 5 ++ 0 ∷ u64 7 ++ u64 3 ++ 2 ∷ 1 ∷ 97 ∷ 0 ∷ 1 ∷ 1 ∷ []) ∷ [])
    ∷ (Line.Submit 1 0 5 7 3 ∷
    Line.Send 1 1 0 SendKind.Frame (1 ∷ 1 ∷ 0 ∷ u64 0 ++ u64 0 ++ 1 ∷ u64 0 ++ u64 5 ++ 1 ∷ u64 7 ++ u64 3 ++ 2 ∷ 1 ∷ 97 ∷ 0 ∷ 1 ∷ 1 ∷ []) ∷ [])
    ∷ (Line.Log 1 0 (stamp 5 0) ∷
    Line.Exec 1 0 0 (stamp 5 0) 7 3 Answer.Done ∷
    Line.Send 2 1 0 SendKind.Ack (2 ∷ 1 ∷ 0 ∷ u64 0 ++ u64 1 ++ []) ∷
    Line.Send 3 1 0 SendKind.Frame (1 ∷ 1 ∷ 0 ∷ u64 0 ++ u64 1 ++ 2 ∷ u64 5 ++ 0 ∷ u64 9 ++ []) ∷
    Line.Log 0 0 (stamp 5 1) ∷
    Line.Send 4 0 1 SendKind.Ack (2 ∷ 0 ∷ 1 ∷ u64 0 ++ u64 1 ++ []) ∷
    Line.Send 5 0 1 SendKind.Frame (1 ∷ 0 ∷ 1 ∷ u64 0 ++ u64 1 ++ 2 ∷ u64 5 ++ 1 ∷ u64 9 ++ []) ∷ [])
    ∷ (Line.Exec 0 0 0 (stamp 5 0) 7 3 Answer.Done ∷
    Line.Exec 0 1 0 (stamp 5 1) 7 3 Answer.Done ∷
    Line.Send 6 0 1 SendKind.Ack (2 ∷ 0 ∷ 1 ∷ u64 0 ++ u64 2 ++ []) ∷
    Line.ReplyOk 0 7 3 0 Answer.Done ∷
    Line.Exec 1 1 0 (stamp 5 1) 7 3 Answer.Done ∷
    Line.Send 7 1 0 SendKind.Ack (2 ∷ 1 ∷ 0 ∷ u64 0 ++ u64 2 ++ []) ∷
    Line.ReplyOk 1 7 3 1 Answer.Done ∷ [])
    ∷ (Line.Submit 0 0 30 7 2 ∷
    Line.Send 8 0 1 SendKind.Frame (1 ∷ 0 ∷ 1 ∷ u64 0 ++ u64 2 ++ 1 ∷ u64 0 ++ u64 30 ++ 0 ∷ u64 7 ++ u64 2 ++ 1 ∷ 1 ∷ 97 ∷ []) ∷ [])
    ∷ (Line.Log 1 0 (stamp 30 0) ∷
    Line.Exec 1 2 0 (stamp 30 0) 7 2 (Answer.Stale 3) ∷
    Line.Send 9 1 0 SendKind.Ack (2 ∷ 1 ∷ 0 ∷ u64 0 ++ u64 3 ++ []) ∷
    Line.Send 10 1 0 SendKind.Frame (1 ∷ 1 ∷ 0 ∷ u64 0 ++ u64 2 ++ 2 ∷ u64 30 ++ 0 ∷ u64 40 ++ []) ∷ [])
    ∷ (Line.Exec 0 2 0 (stamp 30 0) 7 2 (Answer.Stale 3) ∷
    Line.Send 11 0 1 SendKind.Ack (2 ∷ 0 ∷ 1 ∷ u64 0 ++ u64 3 ++ []) ∷
    Line.ReplyOk 0 7 2 2 (Answer.Stale 3) ∷ [])
    ∷ (Line.Final 0 State.Live 0 3 ∷
    Line.Final 1 State.Live 0 3 ∷ [])
    ∷ [])
unfolding the_model
transcript = refl
