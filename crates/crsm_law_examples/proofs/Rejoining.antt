-- A replica that was down learns the new epoch, and a later epoch makes it a member again.
use Rattle.std.proofs.Common.{◌≡◌, List, [], ◌∷◌, ◌++◌, refl}
use Rattle.std.specs.Prelude.{Some}
use Rattle.crsm_spec.specs.Types.{Op, Answer, Line, State, SendKind}
use Rattle.crsm_spec.specs.Acts.{Act, Single}
use Rattle.crsm_law_examples.specs.Words.{replay, request, stamp, u64, u32}
use Rattle.crsm_law_examples.proofs.Opened.{the_model}

abbrev schedule : List Act
schedule =
    Act.One (request 0 5 7 1 (Op.Put (97 ∷ []) (98 ∷ [])))
    ∷ Act.One (Single.Go 0 8)
    ∷ Act.Crash 2
    ∷ Act.One (Single.Suspect 0 20 (0 ∷ 1 ∷ []))
    ∷ Act.Settle 21
    ∷ Act.Settle 22
    ∷ Act.Settle 23
    ∷ Act.Settle 24
    ∷ Act.Settle 25
    ∷ Act.Settle 26
    ∷ Act.Settle 27
    ∷ Act.Start 2
    ∷ Act.One (Single.Go 1 30)
    ∷ Act.One (Single.Tick 2 31)
    ∷ Act.Settle 32
    ∷ Act.One (Single.Suspect 2 40 (0 ∷ 1 ∷ 2 ∷ []))
    ∷ Act.Settle 41
    ∷ Act.Settle 42
    ∷ Act.Settle 43
    ∷ Act.Settle 44
    ∷ Act.Settle 45
    ∷ Act.Settle 46
    ∷ Act.Settle 47
    ∷ []

transcript : replay 3 schedule ≡ Some (
    (Line.Boot 0 1 ∷
    Line.Enter 0 0 ∷
    Line.Boot 1 1 ∷
    Line.Enter 1 0 ∷
    Line.Boot 2 1 ∷
    Line.Enter 2 0 ∷ [])
    ∷ (Line.Submit 0 0 5 7 1 ∷
    Line.Send 0 0 1 SendKind.Frame (1 ∷ 0 ∷ 1 ∷ u64 0 ++ u64 0 ++ 1 ∷ u64 0 ++ u64 5 ++ 0 ∷ u64 7 ++ u64 1 ++ 2 ∷ 1 ∷ 97 ∷ 0 ∷ 1 ∷ 98 ∷ []) ∷
    Line.Send 1 0 2 SendKind.Frame (1 ∷ 0 ∷ 2 ∷ u64 0 ++ u64 0 ++ 1 ∷ u64 0 ++ u64 5 ++ 0 ∷ u64 7 ++ u64 1 ++ 2 ∷ 1 ∷ 97 ∷ 0 ∷ 1 ∷ 98 ∷ []) ∷ [])
    ∷ (Line.Log 1 0 (stamp 5 0) ∷
    Line.Send 2 1 0 SendKind.Ack (2 ∷ 1 ∷ 0 ∷ u64 0 ++ u64 1 ++ []) ∷
    Line.Send 3 1 0 SendKind.Frame (1 ∷ 1 ∷ 0 ∷ u64 0 ++ u64 0 ++ 2 ∷ u64 5 ++ 0 ∷ u64 8 ++ []) ∷
    Line.Send 4 1 2 SendKind.Frame (1 ∷ 1 ∷ 2 ∷ u64 0 ++ u64 0 ++ 2 ∷ u64 5 ++ 0 ∷ u64 8 ++ []) ∷ [])
    ∷ (Line.Down 2 ∷ [])
    ∷ (Line.Suspend 0 0 ∷
    Line.Send 5 0 1 SendKind.Part (3 ∷ 0 ∷ 1 ∷ u64 1 ++ u64 0 ++ u32 0 ++ u32 1 ++ 1 ∷ u64 0 ++ 0 ∷ []) ∷
    Line.Send 6 0 2 SendKind.Part (3 ∷ 0 ∷ 2 ∷ u64 1 ++ u64 1 ++ u32 0 ++ u32 1 ++ 1 ∷ u64 0 ++ 0 ∷ []) ∷ [])
    ∷ (Line.Suspend 1 0 ∷
    Line.Send 7 1 0 SendKind.Part (3 ∷ 1 ∷ 0 ∷ u64 1 ++ u64 0 ++ u32 0 ++ u32 1 ++ 2 ∷ u64 0 ++ u64 0 ++ 0 ∷ 0 ∷ 1 ∷ u32 1 ++ u64 0 ++ u64 5 ++ 0 ∷ u64 7 ++ u64 1 ++ 2 ∷ 1 ∷ 97 ∷ 0 ∷ 1 ∷ 98 ∷ []) ∷ [])
    ∷ (Line.Promise 0 1 1 0 ∷
    Line.Send 8 0 1 SendKind.Part (3 ∷ 0 ∷ 1 ∷ u64 1 ++ u64 2 ++ u32 0 ++ u32 1 ++ 3 ∷ u64 1 ++ u64 1 ++ 0 ∷ []) ∷
    Line.Send 9 0 2 SendKind.Part (3 ∷ 0 ∷ 2 ∷ u64 1 ++ u64 3 ++ u32 0 ++ u32 1 ++ 3 ∷ u64 1 ++ u64 1 ++ 0 ∷ []) ∷ [])
    ∷ (Line.Promise 1 1 1 0 ∷
    Line.Send 10 1 0 SendKind.Part (3 ∷ 1 ∷ 0 ∷ u64 1 ++ u64 1 ++ u32 0 ++ u32 1 ++ 4 ∷ u64 1 ++ u64 1 ++ 0 ∷ 0 ∷ []) ∷ [])
    ∷ (Line.Accept 0 1 1 0 ∷
    Line.Send 11 0 1 SendKind.Part (3 ∷ 0 ∷ 1 ∷ u64 1 ++ u64 4 ++ u32 0 ++ u32 1 ++ 6 ∷ u64 1 ++ u64 1 ++ 0 ∷ u64 1 ++ 2 ∷ 0 ∷ 1 ∷ u64 0 ++ u32 1 ++ u64 0 ++ u64 5 ++ 0 ∷ u64 7 ++ u64 1 ++ 2 ∷ 1 ∷ 97 ∷ 0 ∷ 1 ∷ 98 ∷ []) ∷
    Line.Send 12 0 2 SendKind.Part (3 ∷ 0 ∷ 2 ∷ u64 1 ++ u64 5 ++ u32 0 ++ u32 1 ++ 6 ∷ u64 1 ++ u64 1 ++ 0 ∷ u64 1 ++ 2 ∷ 0 ∷ 1 ∷ u64 0 ++ u32 1 ++ u64 0 ++ u64 5 ++ 0 ∷ u64 7 ++ u64 1 ++ 2 ∷ 1 ∷ 97 ∷ 0 ∷ 1 ∷ 98 ∷ []) ∷ [])
    ∷ (Line.Accept 1 1 1 0 ∷
    Line.Send 13 1 0 SendKind.Part (3 ∷ 1 ∷ 0 ∷ u64 1 ++ u64 2 ++ u32 0 ++ u32 1 ++ 7 ∷ u64 1 ++ u64 1 ++ 0 ∷ []) ∷ [])
    ∷ (Line.Decide 0 1 (0 ∷ 1 ∷ []) 0 1 ∷
    Line.Exec 0 0 0 (stamp 5 0) 7 1 Answer.Done ∷
    Line.Enter 0 1 ∷
    Line.Send 14 0 1 SendKind.Part (3 ∷ 0 ∷ 1 ∷ u64 1 ++ u64 6 ++ u32 0 ++ u32 1 ++ 8 ∷ u64 1 ++ 2 ∷ 0 ∷ 1 ∷ u64 0 ++ u32 1 ++ u64 0 ++ u64 5 ++ 0 ∷ u64 7 ++ u64 1 ++ 2 ∷ 1 ∷ 97 ∷ 0 ∷ 1 ∷ 98 ∷ []) ∷
    Line.Send 15 0 2 SendKind.Part (3 ∷ 0 ∷ 2 ∷ u64 1 ++ u64 7 ++ u32 0 ++ u32 1 ++ 8 ∷ u64 1 ++ 2 ∷ 0 ∷ 1 ∷ u64 0 ++ u32 1 ++ u64 0 ++ u64 5 ++ 0 ∷ u64 7 ++ u64 1 ++ 2 ∷ 1 ∷ 97 ∷ 0 ∷ 1 ∷ 98 ∷ []) ∷
    Line.ReplyOk 0 7 1 0 Answer.Done ∷ [])
    ∷ (Line.Decide 1 1 (0 ∷ 1 ∷ []) 0 1 ∷
    Line.Exec 1 0 0 (stamp 5 0) 7 1 Answer.Done ∷
    Line.Enter 1 1 ∷ [])
    ∷ (Line.Boot 2 2 ∷ [])
    ∷ []
    ∷ (Line.Send 16 2 0 SendKind.Part (3 ∷ 2 ∷ 0 ∷ u64 2 ++ u64 0 ++ u32 0 ++ u32 1 ++ 9 ∷ u64 0 ++ u64 0 ++ []) ∷
    Line.Send 17 2 1 SendKind.Part (3 ∷ 2 ∷ 1 ∷ u64 2 ++ u64 1 ++ u32 0 ++ u32 1 ++ 9 ∷ u64 0 ++ u64 0 ++ []) ∷ [])
    ∷ (Line.Suspend 2 0 ∷
    Line.Send 18 2 0 SendKind.Part (3 ∷ 2 ∷ 0 ∷ u64 2 ++ u64 2 ++ u32 0 ++ u32 1 ++ 2 ∷ u64 0 ++ u64 0 ++ 0 ∷ 0 ∷ 1 ∷ u32 0 ++ []) ∷
    Line.Promise 2 1 1 0 ∷
    Line.Send 19 2 0 SendKind.Part (3 ∷ 2 ∷ 0 ∷ u64 2 ++ u64 3 ++ u32 0 ++ u32 1 ++ 4 ∷ u64 1 ++ u64 1 ++ 0 ∷ 0 ∷ []) ∷
    Line.Accept 2 1 1 0 ∷
    Line.Send 20 2 0 SendKind.Part (3 ∷ 2 ∷ 0 ∷ u64 2 ++ u64 4 ++ u32 0 ++ u32 1 ++ 7 ∷ u64 1 ++ u64 1 ++ 0 ∷ []) ∷
    Line.Decide 2 1 (0 ∷ 1 ∷ []) 0 1 ∷
    Line.Exec 2 0 0 (stamp 5 0) 7 1 Answer.Done ∷
    Line.Send 21 0 2 SendKind.Part (3 ∷ 0 ∷ 2 ∷ u64 1 ++ u64 8 ++ u32 0 ++ u32 1 ++ 8 ∷ u64 1 ++ 2 ∷ 0 ∷ 1 ∷ u64 0 ++ u32 1 ++ u64 0 ++ u64 5 ++ 0 ∷ u64 7 ++ u64 1 ++ 2 ∷ 1 ∷ 97 ∷ 0 ∷ 1 ∷ 98 ∷ []) ∷
    Line.Send 22 1 2 SendKind.Part (3 ∷ 1 ∷ 2 ∷ u64 1 ++ u64 3 ++ u32 0 ++ u32 1 ++ 8 ∷ u64 1 ++ 2 ∷ 0 ∷ 1 ∷ u64 0 ++ u32 1 ++ u64 0 ++ u64 5 ++ 0 ∷ u64 7 ++ u64 1 ++ 2 ∷ 1 ∷ 97 ∷ 0 ∷ 1 ∷ 98 ∷ []) ∷ [])
    ∷ (Line.Suspend 2 1 ∷
    Line.Send 23 2 0 SendKind.Part (3 ∷ 2 ∷ 0 ∷ u64 2 ++ u64 5 ++ u32 0 ++ u32 1 ++ 1 ∷ u64 1 ++ 0 ∷ []) ∷
    Line.Send 24 2 1 SendKind.Part (3 ∷ 2 ∷ 1 ∷ u64 2 ++ u64 6 ++ u32 0 ++ u32 1 ++ 1 ∷ u64 1 ++ 0 ∷ []) ∷ [])
    ∷ (Line.Suspend 0 1 ∷
    Line.Send 25 0 2 SendKind.Part (3 ∷ 0 ∷ 2 ∷ u64 1 ++ u64 9 ++ u32 0 ++ u32 1 ++ 2 ∷ u64 1 ++ u64 1 ++ 0 ∷ 0 ∷ 1 ∷ u32 0 ++ []) ∷
    Line.Suspend 1 1 ∷
    Line.Send 26 1 2 SendKind.Part (3 ∷ 1 ∷ 2 ∷ u64 1 ++ u64 4 ++ u32 0 ++ u32 1 ++ 2 ∷ u64 1 ++ u64 1 ++ 0 ∷ 0 ∷ 1 ∷ u32 0 ++ []) ∷ [])
    ∷ (Line.Promise 2 2 1 2 ∷
    Line.Send 27 2 0 SendKind.Part (3 ∷ 2 ∷ 0 ∷ u64 2 ++ u64 7 ++ u32 0 ++ u32 1 ++ 3 ∷ u64 2 ++ u64 1 ++ 2 ∷ []) ∷
    Line.Send 28 2 1 SendKind.Part (3 ∷ 2 ∷ 1 ∷ u64 2 ++ u64 8 ++ u32 0 ++ u32 1 ++ 3 ∷ u64 2 ++ u64 1 ++ 2 ∷ []) ∷ [])
    ∷ (Line.Promise 0 2 1 2 ∷
    Line.Send 29 0 2 SendKind.Part (3 ∷ 0 ∷ 2 ∷ u64 1 ++ u64 10 ++ u32 0 ++ u32 1 ++ 4 ∷ u64 2 ++ u64 1 ++ 2 ∷ 0 ∷ []) ∷
    Line.Promise 1 2 1 2 ∷
    Line.Send 30 1 2 SendKind.Part (3 ∷ 1 ∷ 2 ∷ u64 1 ++ u64 5 ++ u32 0 ++ u32 1 ++ 4 ∷ u64 2 ++ u64 1 ++ 2 ∷ 0 ∷ []) ∷ [])
    ∷ (Line.Accept 2 2 1 2 ∷
    Line.Send 31 2 0 SendKind.Part (3 ∷ 2 ∷ 0 ∷ u64 2 ++ u64 9 ++ u32 0 ++ u32 1 ++ 6 ∷ u64 2 ++ u64 1 ++ 2 ∷ u64 2 ++ 3 ∷ 0 ∷ 1 ∷ 2 ∷ u64 1 ++ u32 0 ++ []) ∷
    Line.Send 32 2 1 SendKind.Part (3 ∷ 2 ∷ 1 ∷ u64 2 ++ u64 10 ++ u32 0 ++ u32 1 ++ 6 ∷ u64 2 ++ u64 1 ++ 2 ∷ u64 2 ++ 3 ∷ 0 ∷ 1 ∷ 2 ∷ u64 1 ++ u32 0 ++ []) ∷ [])
    ∷ (Line.Accept 0 2 1 2 ∷
    Line.Send 33 0 2 SendKind.Part (3 ∷ 0 ∷ 2 ∷ u64 1 ++ u64 11 ++ u32 0 ++ u32 1 ++ 7 ∷ u64 2 ++ u64 1 ++ 2 ∷ []) ∷
    Line.Accept 1 2 1 2 ∷
    Line.Send 34 1 2 SendKind.Part (3 ∷ 1 ∷ 2 ∷ u64 1 ++ u64 6 ++ u32 0 ++ u32 1 ++ 7 ∷ u64 2 ++ u64 1 ++ 2 ∷ []) ∷ [])
    ∷ (Line.Decide 2 2 (0 ∷ 1 ∷ 2 ∷ []) 1 0 ∷
    Line.Enter 2 2 ∷
    Line.Send 35 2 0 SendKind.Part (3 ∷ 2 ∷ 0 ∷ u64 2 ++ u64 11 ++ u32 0 ++ u32 1 ++ 8 ∷ u64 2 ++ 3 ∷ 0 ∷ 1 ∷ 2 ∷ u64 1 ++ u32 0 ++ []) ∷
    Line.Send 36 2 1 SendKind.Part (3 ∷ 2 ∷ 1 ∷ u64 2 ++ u64 12 ++ u32 0 ++ u32 1 ++ 8 ∷ u64 2 ++ 3 ∷ 0 ∷ 1 ∷ 2 ∷ u64 1 ++ u32 0 ++ []) ∷ [])
    ∷ (Line.Decide 0 2 (0 ∷ 1 ∷ 2 ∷ []) 1 0 ∷
    Line.Enter 0 2 ∷
    Line.Decide 1 2 (0 ∷ 1 ∷ 2 ∷ []) 1 0 ∷
    Line.Enter 1 2 ∷ [])
    ∷ (Line.Final 0 State.Live 2 1 ∷
    Line.Final 1 State.Live 2 1 ∷
    Line.Final 2 State.Live 2 1 ∷ [])
    ∷ [])
unfolding the_model
transcript = refl
