-- Two coordinators end one epoch: one decision is chosen, and an entry that nobody collected is dropped.
use Rattle.std.proofs.Common.{◌≡◌, List, [], ◌∷◌, ◌++◌, refl}
use Rattle.std.specs.Prelude.{Some}
use Rattle.crsm_spec.specs.Types.{Op, Line, State, SendKind}
use Rattle.crsm_spec.specs.Acts.{Act, Single}
use Rattle.crsm_law_examples.specs.Words.{replay, request, stamp, u64, u32}
use Rattle.crsm_law_examples.proofs.Opened.{the_model}

abbrev schedule : List Act
schedule =
    Act.One (request 2 5 9 1 (Op.Put (97 ∷ []) (1 ∷ [])))
    ∷ Act.One (Single.Suspect 0 10 (0 ∷ 1 ∷ 2 ∷ []))
    ∷ Act.One (Single.Suspect 2 10 (0 ∷ 1 ∷ 2 ∷ []))
    ∷ Act.One (Single.Go 2 11)
    ∷ Act.One (Single.Go 5 11)
    ∷ Act.One (Single.Go 6 12)
    ∷ Act.One (Single.Go 7 12)
    ∷ Act.One (Single.Go 8 13)
    ∷ Act.One (Single.Go 12 14)
    ∷ Act.One (Single.Go 13 15)
    ∷ Act.One (Single.Go 11 15)
    ∷ Act.One (Single.Go 16 16)
    ∷ Act.One (Single.Go 18 17)
    ∷ Act.One (Single.Go 19 18)
    ∷ Act.One (Single.Go 15 18)
    ∷ Act.One (Single.Go 21 19)
    ∷ Act.One (Single.Go 0 20)
    ∷ []

transcript : replay 3 schedule ≡ Some (
    (Line.Boot 0 1 ∷
    Line.Enter 0 0 ∷
    Line.Boot 1 1 ∷
    Line.Enter 1 0 ∷
    Line.Boot 2 1 ∷
    Line.Enter 2 0 ∷ [])
    ∷ (Line.Submit 2 0 5 9 1 ∷
    Line.Send 0 2 0 SendKind.Frame (1 ∷ 2 ∷ 0 ∷ u64 0 ++ u64 0 ++ 1 ∷ u64 0 ++ u64 5 ++ 2 ∷ u64 9 ++ u64 1 ++ 2 ∷ 1 ∷ 97 ∷ 0 ∷ 1 ∷ 1 ∷ []) ∷
    Line.Send 1 2 1 SendKind.Frame (1 ∷ 2 ∷ 1 ∷ u64 0 ++ u64 0 ++ 1 ∷ u64 0 ++ u64 5 ++ 2 ∷ u64 9 ++ u64 1 ++ 2 ∷ 1 ∷ 97 ∷ 0 ∷ 1 ∷ 1 ∷ []) ∷ [])
    ∷ (Line.Suspend 0 0 ∷
    Line.Send 2 0 1 SendKind.Part (3 ∷ 0 ∷ 1 ∷ u64 1 ++ u64 0 ++ u32 0 ++ u32 1 ++ 1 ∷ u64 0 ++ 0 ∷ []) ∷
    Line.Send 3 0 2 SendKind.Part (3 ∷ 0 ∷ 2 ∷ u64 1 ++ u64 1 ++ u32 0 ++ u32 1 ++ 1 ∷ u64 0 ++ 0 ∷ []) ∷ [])
    ∷ (Line.Suspend 2 0 ∷
    Line.Send 4 2 0 SendKind.Part (3 ∷ 2 ∷ 0 ∷ u64 1 ++ u64 0 ++ u32 0 ++ u32 1 ++ 1 ∷ u64 0 ++ 0 ∷ []) ∷
    Line.Send 5 2 1 SendKind.Part (3 ∷ 2 ∷ 1 ∷ u64 1 ++ u64 1 ++ u32 0 ++ u32 1 ++ 1 ∷ u64 0 ++ 0 ∷ []) ∷ [])
    ∷ (Line.Suspend 1 0 ∷
    Line.Send 6 1 0 SendKind.Part (3 ∷ 1 ∷ 0 ∷ u64 1 ++ u64 0 ++ u32 0 ++ u32 1 ++ 2 ∷ u64 0 ++ u64 0 ++ 0 ∷ 0 ∷ 1 ∷ u32 0 ++ []) ∷ [])
    ∷ (Line.Send 7 1 2 SendKind.Part (3 ∷ 1 ∷ 2 ∷ u64 1 ++ u64 1 ++ u32 0 ++ u32 1 ++ 2 ∷ u64 0 ++ u64 0 ++ 0 ∷ 0 ∷ 1 ∷ u32 0 ++ []) ∷ [])
    ∷ (Line.Promise 0 1 1 0 ∷
    Line.Send 8 0 1 SendKind.Part (3 ∷ 0 ∷ 1 ∷ u64 1 ++ u64 2 ++ u32 0 ++ u32 1 ++ 3 ∷ u64 1 ++ u64 1 ++ 0 ∷ []) ∷
    Line.Send 9 0 2 SendKind.Part (3 ∷ 0 ∷ 2 ∷ u64 1 ++ u64 3 ++ u32 0 ++ u32 1 ++ 3 ∷ u64 1 ++ u64 1 ++ 0 ∷ []) ∷ [])
    ∷ (Line.Promise 2 1 1 2 ∷
    Line.Send 10 2 0 SendKind.Part (3 ∷ 2 ∷ 0 ∷ u64 1 ++ u64 2 ++ u32 0 ++ u32 1 ++ 3 ∷ u64 1 ++ u64 1 ++ 2 ∷ []) ∷
    Line.Send 11 2 1 SendKind.Part (3 ∷ 2 ∷ 1 ∷ u64 1 ++ u64 3 ++ u32 0 ++ u32 1 ++ 3 ∷ u64 1 ++ u64 1 ++ 2 ∷ []) ∷ [])
    ∷ (Line.Promise 1 1 1 0 ∷
    Line.Send 12 1 0 SendKind.Part (3 ∷ 1 ∷ 0 ∷ u64 1 ++ u64 2 ++ u32 0 ++ u32 1 ++ 4 ∷ u64 1 ++ u64 1 ++ 0 ∷ 0 ∷ []) ∷ [])
    ∷ (Line.Accept 0 1 1 0 ∷
    Line.Send 13 0 1 SendKind.Part (3 ∷ 0 ∷ 1 ∷ u64 1 ++ u64 4 ++ u32 0 ++ u32 1 ++ 6 ∷ u64 1 ++ u64 1 ++ 0 ∷ u64 1 ++ 3 ∷ 0 ∷ 1 ∷ 2 ∷ u64 0 ++ u32 0 ++ []) ∷
    Line.Send 14 0 2 SendKind.Part (3 ∷ 0 ∷ 2 ∷ u64 1 ++ u64 5 ++ u32 0 ++ u32 1 ++ 6 ∷ u64 1 ++ u64 1 ++ 0 ∷ u64 1 ++ 3 ∷ 0 ∷ 1 ∷ 2 ∷ u64 0 ++ u32 0 ++ []) ∷ [])
    ∷ (Line.Accept 1 1 1 0 ∷
    Line.Send 15 1 0 SendKind.Part (3 ∷ 1 ∷ 0 ∷ u64 1 ++ u64 3 ++ u32 0 ++ u32 1 ++ 7 ∷ u64 1 ++ u64 1 ++ 0 ∷ []) ∷ [])
    ∷ (Line.Promise 1 1 1 2 ∷
    Line.Send 16 1 2 SendKind.Part (3 ∷ 1 ∷ 2 ∷ u64 1 ++ u64 4 ++ u32 0 ++ u32 1 ++ 4 ∷ u64 1 ++ u64 1 ++ 2 ∷ 1 ∷ u64 1 ++ 0 ∷ u64 1 ++ 3 ∷ 0 ∷ 1 ∷ 2 ∷ u64 0 ++ u32 0 ++ []) ∷ [])
    ∷ (Line.Accept 2 1 1 2 ∷
    Line.Send 17 2 0 SendKind.Part (3 ∷ 2 ∷ 0 ∷ u64 1 ++ u64 4 ++ u32 0 ++ u32 1 ++ 6 ∷ u64 1 ++ u64 1 ++ 2 ∷ u64 1 ++ 3 ∷ 0 ∷ 1 ∷ 2 ∷ u64 0 ++ u32 0 ++ []) ∷
    Line.Send 18 2 1 SendKind.Part (3 ∷ 2 ∷ 1 ∷ u64 1 ++ u64 5 ++ u32 0 ++ u32 1 ++ 6 ∷ u64 1 ++ u64 1 ++ 2 ∷ u64 1 ++ 3 ∷ 0 ∷ 1 ∷ 2 ∷ u64 0 ++ u32 0 ++ []) ∷ [])
    ∷ (Line.Accept 1 1 1 2 ∷
    Line.Send 19 1 2 SendKind.Part (3 ∷ 1 ∷ 2 ∷ u64 1 ++ u64 5 ++ u32 0 ++ u32 1 ++ 7 ∷ u64 1 ++ u64 1 ++ 2 ∷ []) ∷ [])
    ∷ (Line.Decide 2 1 (0 ∷ 1 ∷ 2 ∷ []) 0 0 ∷
    Line.Enter 2 1 ∷
    Line.Send 20 2 0 SendKind.Part (3 ∷ 2 ∷ 0 ∷ u64 1 ++ u64 6 ++ u32 0 ++ u32 1 ++ 8 ∷ u64 1 ++ 3 ∷ 0 ∷ 1 ∷ 2 ∷ u64 0 ++ u32 0 ++ []) ∷
    Line.Send 21 2 1 SendKind.Part (3 ∷ 2 ∷ 1 ∷ u64 1 ++ u64 7 ++ u32 0 ++ u32 1 ++ 8 ∷ u64 1 ++ 3 ∷ 0 ∷ 1 ∷ 2 ∷ u64 0 ++ u32 0 ++ []) ∷
    Line.ReplyDropped 2 9 1 0 (stamp 5 2) ∷ [])
    ∷ (Line.Decide 0 1 (0 ∷ 1 ∷ 2 ∷ []) 0 0 ∷
    Line.Enter 0 1 ∷
    Line.Send 22 0 1 SendKind.Part (3 ∷ 0 ∷ 1 ∷ u64 1 ++ u64 6 ++ u32 0 ++ u32 1 ++ 8 ∷ u64 1 ++ 3 ∷ 0 ∷ 1 ∷ 2 ∷ u64 0 ++ u32 0 ++ []) ∷
    Line.Send 23 0 2 SendKind.Part (3 ∷ 0 ∷ 2 ∷ u64 1 ++ u64 7 ++ u32 0 ++ u32 1 ++ 8 ∷ u64 1 ++ 3 ∷ 0 ∷ 1 ∷ 2 ∷ u64 0 ++ u32 0 ++ []) ∷ [])
    ∷ (Line.Decide 1 1 (0 ∷ 1 ∷ 2 ∷ []) 0 0 ∷
    Line.Enter 1 1 ∷ [])
    ∷ (Line.Send 24 0 2 SendKind.Part (3 ∷ 0 ∷ 2 ∷ u64 1 ++ u64 8 ++ u32 0 ++ u32 1 ++ 8 ∷ u64 1 ++ 3 ∷ 0 ∷ 1 ∷ 2 ∷ u64 0 ++ u32 0 ++ []) ∷ [])
    ∷ (Line.Final 0 State.Live 1 0 ∷
    Line.Final 1 State.Live 1 0 ∷
    Line.Final 2 State.Live 1 0 ∷ [])
    ∷ [])
unfolding the_model
transcript = refl
