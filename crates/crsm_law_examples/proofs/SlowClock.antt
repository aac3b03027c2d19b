-- A replica with a slow clock delays the others until it sends a later time.
use Rattle.std.proofs.Common.{◌≡◌, List, [], ◌∷◌, ◌++◌, refl}
use Rattle.std.specs.Prelude.{Some}
use Rattle.crsm_spec.specs.Types.{Op, Answer, Line, State, SendKind}
use Rattle.crsm_spec.specs.Acts.{Act, Single}
use Rattle.crsm_law_examples.specs.Words.{replay, request, stamp, u64}
use Rattle.crsm_law_examples.proofs.Opened.{the_model}

abbrev schedule : List Act
schedule =
    Act.One (request 0 50 7 1 (Op.Put (97 ∷ []) (98 ∷ [])))
    ∷ Act.One (Single.Go 0 60)
    ∷ Act.One (Single.Go 1 40)
    ∷ Act.One (Single.Go 3 61)
    ∷ Act.One (Single.Go 4 41)
    ∷ Act.One (Single.Tick 2 51)
    ∷ Act.One (Single.Go 8 62)
    ∷ []

transcript : replay 3 schedule ≡ Some (
    (Line.Boot 0 1 ∷
    Line.Enter 0 0 ∷
    Line.Boot 1 1 ∷
    Line.Enter 1 0 ∷
    Line.Boot 2 1 ∷
    Line.Enter 2 0 ∷ [])
    ∷ (Line.Submit 0 0 50 7 1 ∷
    Line.Send 0 0 1 SendKind.Frame (1 ∷ 0 ∷ 1 ∷ u64 0 ++ u64 0 ++ 1 ∷ u64 0 ++ u64 50 ++ 0 ∷ u64 7 ++ u64 1 ++ 2 ∷ 1 ∷ 97 ∷ 0 ∷ 1 ∷ 98 ∷ []) ∷
    Line.Send 1 0 2 SendKind.Frame (1 ∷ 0 ∷ 2 ∷ u64 0 ++ u64 0 ++ 1 ∷ u64 0 ++ u64 50 ++ 0 ∷ u64 7 ++ u64 1 ++ 2 ∷ 1 ∷ 97 ∷ 0 ∷ 1 ∷ 98 ∷ []) ∷ [])
    ∷ (Line.Log 1 0 (stamp 50 0) ∷
    Line.Send 2 1 0 SendKind.Ack (2 ∷ 1 ∷ 0 ∷ u64 0 ++ u64 1 ++ []) ∷
    Line.Send 3 1 0 SendKind.Frame (1 ∷ 1 ∷ 0 ∷ u64 0 ++ u64 0 ++ 2 ∷ u64 50 ++ 0 ∷ u64 60 ++ []) ∷
    Line.Send 4 1 2 SendKind.Frame (1 ∷ 1 ∷ 2 ∷ u64 0 ++ u64 0 ++ 2 ∷ u64 50 ++ 0 ∷ u64 60 ++ []) ∷ [])
    ∷ (Line.Log 2 0 (stamp 50 0) ∷
    Line.Send 5 2 0 SendKind.Ack (2 ∷ 2 ∷ 0 ∷ u64 0 ++ u64 1 ++ []) ∷ [])
    ∷ (Line.Send 6 0 1 SendKind.Ack (2 ∷ 0 ∷ 1 ∷ u64 0 ++ u64 1 ++ []) ∷ [])
    ∷ (Line.Send 7 2 1 SendKind.Ack (2 ∷ 2 ∷ 1 ∷ u64 0 ++ u64 1 ++ []) ∷ [])
    ∷ (Line.Exec 2 0 0 (stamp 50 0) 7 1 Answer.Done ∷
    Line.Send 8 2 0 SendKind.Frame (1 ∷ 2 ∷ 0 ∷ u64 0 ++ u64 0 ++ 2 ∷ u64 50 ++ 0 ∷ u64 51 ++ []) ∷
    Line.Send 9 2 1 SendKind.Frame (1 ∷ 2 ∷ 1 ∷ u64 0 ++ u64 0 ++ 2 ∷ u64 50 ++ 0 ∷ u64 51 ++ []) ∷ [])
    ∷ (Line.Exec 0 0 0 (stamp 50 0) 7 1 Answer.Done ∷
    Line.Send 10 0 2 SendKind.Ack (2 ∷ 0 ∷ 2 ∷ u64 0 ++ u64 1 ++ []) ∷
    Line.ReplyOk 0 7 1 0 Answer.Done ∷ [])
    ∷ (Line.Final 0 State.Live 0 1 ∷
    Line.Final 1 State.Live 0 0 ∷
    Line.Final 2 State.Live 0 1 ∷ [])
    ∷ [])
unfolding the_model
transcript = refl
