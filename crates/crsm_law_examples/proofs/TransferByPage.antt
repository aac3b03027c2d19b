-- A replica that missed an epoch gets the executed entries by page.
use Rattle.std.proofs.Common.{◌≡◌, List, [], ◌∷◌, ◌++◌, refl}
use Rattle.std.specs.Prelude.{Some}
use Rattle.crsm_spec.specs.Types.{Op, Answer, Line, State, SendKind}
use Rattle.crsm_spec.specs.Acts.{Act, Single}
use Rattle.crsm_law_examples.specs.Words.{replay, request, stamp, u64, u32}
use Rattle.crsm_law_examples.proofs.Opened.{the_model}

abbrev schedule : List Act
schedule =
    Act.One (request 0 5 7 1 (Op.Put (97 ∷ []) (98 ∷ [])))
    ∷ Act.Settle 8
    ∷ Act.One (Single.Go 3 9)
    ∷ Act.One (Single.Go 6 9)
    ∷ Act.Crash 2
    ∷ Act.One (Single.Suspect 0 20 (0 ∷ 1 ∷ []))
    ∷ Act.Settle 21
    ∷ Act.Settle 22
    ∷ Act.Settle 23
    ∷ Act.Settle 24
    ∷ Act.Settle 25
    ∷ Act.Settle 26
    ∷ Act.Settle 27
    ∷ Act.Start 2
    ∷ Act.One (Single.Tick 2 30)
    ∷ Act.One (Single.Go 22 31)
    ∷ Act.One (Single.Go 24 32)
    ∷ Act.One (Single.Go 25 33)
    ∷ Act.One (Single.Go 26 34)
    ∷ Act.One (Single.Go 27 35)
    ∷ []

transcript : replay 3 schedule ≡ Some (
    (Line.Boot 0 1 ∷
    Line.Enter 0 0 ∷
    Line.Boot 1 1 ∷
    Line.Enter 1 0 ∷
    Line.Boot 2 1 ∷
    Line.Enter 2 0 ∷ [])
    ∷ (Line.Submit 0 0 5 7 1 ∷
    Line.Send 0 0 1 SendKind.Frame (1 ∷ 0 ∷ 1 ∷ u64 0 ++ u64 0 ++ 1 ∷ u64 0 ++ u64 5 ++ 0 ∷ u64 7 ++ u64 1 ++ 2 ∷ 1 ∷ 97 ∷ 0 ∷ 1 ∷ 98 ∷ []) ∷
    Line.Send 1 0 2 SendKind.Frame (1 ∷ 0 ∷ 2 ∷ u64 0 ++ u64 0 ++ 1 ∷ u64 0 ++ u64 5 ++ 0 ∷ u64 7 ++ u64 1 ++ 2 ∷ 1 ∷ 97 ∷ 0 ∷ 1 ∷ 98 ∷ []) ∷ [])
    ∷ (Line.Log 1 0 (stamp 5 0) ∷
    Line.Send 2 1 0 SendKind.Ack (2 ∷ 1 ∷ 0 ∷ u64 0 ++ u64 1 ++ []) ∷
    Line.Send 3 1 0 SendKind.Frame (1 ∷ 1 ∷ 0 ∷ u64 0 ++ u64 0 ++ 2 ∷ u64 5 ++ 0 ∷ u64 8 ++ []) ∷
    Line.Send 4 1 2 SendKind.Frame (1 ∷ 1 ∷ 2 ∷ u64 0 ++ u64 0 ++ 2 ∷ u64 5 ++ 0 ∷ u64 8 ++ []) ∷
    Line.Log 2 0 (stamp 5 0) ∷
    Line.Send 5 2 0 SendKind.Ack (2 ∷ 2 ∷ 0 ∷ u64 0 ++ u64 1 ++ []) ∷
    Line.Send 6 2 0 SendKind.Frame (1 ∷ 2 ∷ 0 ∷ u64 0 ++ u64 0 ++ 2 ∷ u64 5 ++ 0 ∷ u64 8 ++ []) ∷
    Line.Send 7 2 1 SendKind.Frame (1 ∷ 2 ∷ 1 ∷ u64 0 ++ u64 0 ++ 2 ∷ u64 5 ++ 0 ∷ u64 8 ++ []) ∷ [])
    ∷ (Line.Send 8 0 1 SendKind.Ack (2 ∷ 0 ∷ 1 ∷ u64 0 ++ u64 1 ++ []) ∷ [])
    ∷ (Line.Exec 0 0 0 (stamp 5 0) 7 1 Answer.Done ∷
    Line.Send 9 0 2 SendKind.Ack (2 ∷ 0 ∷ 2 ∷ u64 0 ++ u64 1 ++ []) ∷
    Line.ReplyOk 0 7 1 0 Answer.Done ∷ [])
    ∷ (Line.Down 2 ∷ [])
    ∷ (Line.Suspend 0 0 ∷
    Line.Send 10 0 1 SendKind.Part (3 ∷ 0 ∷ 1 ∷ u64 1 ++ u64 0 ++ u32 0 ++ u32 1 ++ 1 ∷ u64 0 ++ 0 ∷ []) ∷
    Line.Send 11 0 2 SendKind.Part (3 ∷ 0 ∷ 2 ∷ u64 1 ++ u64 1 ++ u32 0 ++ u32 1 ++ 1 ∷ u64 0 ++ 0 ∷ []) ∷ [])
    ∷ (Line.Exec 1 0 0 (stamp 5 0) 7 1 Answer.Done ∷
    Line.Send 12 1 2 SendKind.Ack (2 ∷ 1 ∷ 2 ∷ u64 0 ++ u64 1 ++ []) ∷
    Line.Suspend 1 0 ∷
    Line.Send 13 1 0 SendKind.Part (3 ∷ 1 ∷ 0 ∷ u64 1 ++ u64 0 ++ u32 0 ++ u32 1 ++ 2 ∷ u64 0 ++ u64 1 ++ 1 ∷ u64 5 ++ 0 ∷ 0 ∷ 1 ∷ u32 0 ++ []) ∷ [])
    ∷ (Line.Promise 0 1 1 0 ∷
    Line.Send 14 0 1 SendKind.Part (3 ∷ 0 ∷ 1 ∷ u64 1 ++ u64 2 ++ u32 0 ++ u32 1 ++ 3 ∷ u64 1 ++ u64 1 ++ 0 ∷ []) ∷
    Line.Send 15 0 2 SendKind.Part (3 ∷ 0 ∷ 2 ∷ u64 1 ++ u64 3 ++ u32 0 ++ u32 1 ++ 3 ∷ u64 1 ++ u64 1 ++ 0 ∷ []) ∷ [])
    ∷ (Line.Promise 1 1 1 0 ∷
    Line.Send 16 1 0 SendKind.Part (3 ∷ 1 ∷ 0 ∷ u64 1 ++ u64 1 ++ u32 0 ++ u32 1 ++ 4 ∷ u64 1 ++ u64 1 ++ 0 ∷ 0 ∷ []) ∷ [])
    ∷ (Line.Accept 0 1 1 0 ∷
    Line.Send 17 0 1 SendKind.Part (3 ∷ 0 ∷ 1 ∷ u64 1 ++ u64 4 ++ u32 0 ++ u32 1 ++ 6 ∷ u64 1 ++ u64 1 ++ 0 ∷ u64 1 ++ 2 ∷ 0 ∷ 1 ∷ u64 1 ++ u32 0 ++ []) ∷
    Line.Send 18 0 2 SendKind.Part (3 ∷ 0 ∷ 2 ∷ u64 1 ++ u64 5 ++ u32 0 ++ u32 1 ++ 6 ∷ u64 1 ++ u64 1 ++ 0 ∷ u64 1 ++ 2 ∷ 0 ∷ 1 ∷ u64 1 ++ u32 0 ++ []) ∷ [])
    ∷ (Line.Accept 1 1 1 0 ∷
    Line.Send 19 1 0 SendKind.Part (3 ∷ 1 ∷ 0 ∷ u64 1 ++ u64 2 ++ u32 0 ++ u32 1 ++ 7 ∷ u64 1 ++ u64 1 ++ 0 ∷ []) ∷ [])
    ∷ (Line.Decide 0 1 (0 ∷ 1 ∷ []) 1 0 ∷
    Line.Enter 0 1 ∷
    Line.Send 20 0 1 SendKind.Part (3 ∷ 0 ∷ 1 ∷ u64 1 ++ u64 6 ++ u32 0 ++ u32 1 ++ 8 ∷ u64 1 ++ 2 ∷ 0 ∷ 1 ∷ u64 1 ++ u32 0 ++ []) ∷
    Line.Send 21 0 2 SendKind.Part (3 ∷ 0 ∷ 2 ∷ u64 1 ++ u64 7 ++ u32 0 ++ u32 1 ++ 8 ∷ u64 1 ++ 2 ∷ 0 ∷ 1 ∷ u64 1 ++ u32 0 ++ []) ∷ [])
    ∷ (Line.Decide 1 1 (0 ∷ 1 ∷ []) 1 0 ∷
    Line.Enter 1 1 ∷ [])
    ∷ (Line.Boot 2 2 ∷ [])
    ∷ (Line.Send 22 2 0 SendKind.Part (3 ∷ 2 ∷ 0 ∷ u64 2 ++ u64 0 ++ u32 0 ++ u32 1 ++ 9 ∷ u64 0 ++ u64 0 ++ []) ∷
    Line.Send 23 2 1 SendKind.Part (3 ∷ 2 ∷ 1 ∷ u64 2 ++ u64 1 ++ u32 0 ++ u32 1 ++ 9 ∷ u64 0 ++ u64 0 ++ []) ∷ [])
    ∷ (Line.Send 24 0 2 SendKind.Part (3 ∷ 0 ∷ 2 ∷ u64 1 ++ u64 8 ++ u32 0 ++ u32 1 ++ 8 ∷ u64 1 ++ 2 ∷ 0 ∷ 1 ∷ u64 1 ++ u32 0 ++ []) ∷ [])
    ∷ (Line.Decide 2 1 (0 ∷ 1 ∷ []) 1 0 ∷
    Line.Send 25 2 0 SendKind.Part (3 ∷ 2 ∷ 0 ∷ u64 2 ++ u64 2 ++ u32 0 ++ u32 1 ++ 9 ∷ u64 1 ++ u64 0 ++ []) ∷ [])
    ∷ (Line.Send 26 0 2 SendKind.Part (3 ∷ 0 ∷ 2 ∷ u64 1 ++ u64 9 ++ u32 0 ++ u32 1 ++ 10 ∷ u64 1 ++ u64 0 ++ u32 1 ++ u64 0 ++ u64 5 ++ 0 ∷ u64 7 ++ u64 1 ++ 2 ∷ 1 ∷ 97 ∷ 0 ∷ 1 ∷ 98 ∷ []) ∷ [])
    ∷ (Line.Exec 2 0 0 (stamp 5 0) 7 1 Answer.Done ∷
    Line.Send 27 2 0 SendKind.Part (3 ∷ 2 ∷ 0 ∷ u64 2 ++ u64 3 ++ u32 0 ++ u32 1 ++ 9 ∷ u64 1 ++ u64 1 ++ []) ∷ [])
    ∷ []
    ∷ (Line.Final 0 State.Live 1 1 ∷
    Line.Final 1 State.Live 1 1 ∷
    Line.Final 2 State.Out 1 1 ∷ [])
    ∷ [])
unfolding the_model
transcript = refl
