-- A replica is replaced by one with a new number; the old one follows.
use Rattle.std.proofs.Common.{◌≡◌, List, [], ◌∷◌, ◌++◌, refl}
use Rattle.std.specs.Prelude.{Some}
use Rattle.crsm_spec.specs.Types.{Line, State, SendKind}
use Rattle.crsm_spec.specs.Acts.{Act, Single}
use Rattle.crsm_law_examples.specs.Words.{replay, u64, u32}
use Rattle.crsm_law_examples.proofs.Opened.{the_model}

abbrev schedule : List Act
schedule =
    Act.Crash 2
    ∷ Act.Start 3
    ∷ Act.One (Single.Suspect 0 20 (0 ∷ 1 ∷ 3 ∷ []))
    ∷ Act.Settle 21
    ∷ Act.Settle 22
    ∷ Act.Settle 23
    ∷ Act.Settle 24
    ∷ Act.Settle 25
    ∷ Act.Settle 26
    ∷ Act.Settle 27
    ∷ Act.Start 2
    ∷ Act.Settle 40
    ∷ []

transcript : replay 3 schedule ≡ Some (
    (Line.Boot 0 1 ∷
    Line.Enter 0 0 ∷
    Line.Boot 1 1 ∷
    Line.Enter 1 0 ∷
    Line.Boot 2 1 ∷
    Line.Enter 2 0 ∷ [])
    ∷ (Line.Down 2 ∷ [])
    ∷ (Line.Boot 3 1 ∷ [])
    ∷ (Line.Suspend 0 0 ∷
    Line.Send 0 0 1 SendKind.Part (3 ∷ 0 ∷ 1 ∷ u64 1 ++ u64 0 ++ u32 0 ++ u32 1 ++ 1 ∷ u64 0 ++ 0 ∷ []) ∷
    Line.Send 1 0 2 SendKind.Part (3 ∷ 0 ∷ 2 ∷ u64 1 ++ u64 1 ++ u32 0 ++ u32 1 ++ 1 ∷ u64 0 ++ 0 ∷ []) ∷ [])
    ∷ (Line.Suspend 1 0 ∷
    Line.Send 2 1 0 SendKind.Part (3 ∷ 1 ∷ 0 ∷ u64 1 ++ u64 0 ++ u32 0 ++ u32 1 ++ 2 ∷ u64 0 ++ u64 0 ++ 0 ∷ 0 ∷ 1 ∷ u32 0 ++ []) ∷ [])
    ∷ (Line.Promise 0 1 1 0 ∷
    Line.Send 3 0 1 SendKind.Part (3 ∷ 0 ∷ 1 ∷ u64 1 ++ u64 2 ++ u32 0 ++ u32 1 ++ 3 ∷ u64 1 ++ u64 1 ++ 0 ∷ []) ∷
    Line.Send 4 0 2 SendKind.Part (3 ∷ 0 ∷ 2 ∷ u64 1 ++ u64 3 ++ u32 0 ++ u32 1 ++ 3 ∷ u64 1 ++ u64 1 ++ 0 ∷ []) ∷ [])
    ∷ (Line.Promise 1 1 1 0 ∷
    Line.Send 5 1 0 SendKind.Part (3 ∷ 1 ∷ 0 ∷ u64 1 ++ u64 1 ++ u32 0 ++ u32 1 ++ 4 ∷ u64 1 ++ u64 1 ++ 0 ∷ 0 ∷ []) ∷ [])
    ∷ (Line.Accept 0 1 1 0 ∷
    Line.Send 6 0 1 SendKind.Part (3 ∷ 0 ∷ 1 ∷ u64 1 ++ u64 4 ++ u32 0 ++ u32 1 ++ 6 ∷ u64 1 ++ u64 1 ++ 0 ∷ u64 1 ++ 131 ∷ 0 ∷ 1 ∷ 3 ∷ 3 ∷ 0 ∷ 1 ∷ 3 ∷ u64 0 ++ u32 0 ++ []) ∷
    Line.Send 7 0 2 SendKind.Part (3 ∷ 0 ∷ 2 ∷ u64 1 ++ u64 5 ++ u32 0 ++ u32 1 ++ 6 ∷ u64 1 ++ u64 1 ++ 0 ∷ u64 1 ++ 131 ∷ 0 ∷ 1 ∷ 3 ∷ 3 ∷ 0 ∷ 1 ∷ 3 ∷ u64 0 ++ u32 0 ++ []) ∷ [])
    ∷ (Line.Accept 1 1 1 0 ∷
    Line.Send 8 1 0 SendKind.Part (3 ∷ 1 ∷ 0 ∷ u64 1 ++ u64 2 ++ u32 0 ++ u32 1 ++ 7 ∷ u64 1 ++ u64 1 ++ 0 ∷ []) ∷ [])
    ∷ (Line.Decide 0 1 (0 ∷ 1 ∷ 3 ∷ []) 0 0 ∷
    Line.Enter 0 1 ∷
    Line.Send 9 0 1 SendKind.Part (3 ∷ 0 ∷ 1 ∷ u64 1 ++ u64 6 ++ u32 0 ++ u32 1 ++ 8 ∷ u64 1 ++ 131 ∷ 0 ∷ 1 ∷ 3 ∷ 3 ∷ 0 ∷ 1 ∷ 3 ∷ u64 0 ++ u32 0 ++ []) ∷
    Line.Send 10 0 2 SendKind.Part (3 ∷ 0 ∷ 2 ∷ u64 1 ++ u64 7 ++ u32 0 ++ u32 1 ++ 8 ∷ u64 1 ++ 131 ∷ 0 ∷ 1 ∷ 3 ∷ 3 ∷ 0 ∷ 1 ∷ 3 ∷ u64 0 ++ u32 0 ++ []) ∷
    Line.Send 11 0 3 SendKind.Part (3 ∷ 0 ∷ 3 ∷ u64 1 ++ u64 8 ++ u32 0 ++ u32 1 ++ 8 ∷ u64 1 ++ 131 ∷ 0 ∷ 1 ∷ 3 ∷ 3 ∷ 0 ∷ 1 ∷ 3 ∷ u64 0 ++ u32 0 ++ []) ∷ [])
    ∷ (Line.Decide 1 1 (0 ∷ 1 ∷ 3 ∷ []) 0 0 ∷
    Line.Enter 1 1 ∷
    Line.Decide 3 1 (0 ∷ 1 ∷ 3 ∷ []) 0 0 ∷
    Line.Enter 3 1 ∷ [])
    ∷ (Line.Boot 2 2 ∷ [])
    ∷ (Line.Suspend 2 0 ∷
    Line.Send 12 2 0 SendKind.Part (3 ∷ 2 ∷ 0 ∷ u64 2 ++ u64 0 ++ u32 0 ++ u32 1 ++ 2 ∷ u64 0 ++ u64 0 ++ 0 ∷ 0 ∷ 1 ∷ u32 0 ++ []) ∷
    Line.Promise 2 1 1 0 ∷
    Line.Send 13 2 0 SendKind.Part (3 ∷ 2 ∷ 0 ∷ u64 2 ++ u64 1 ++ u32 0 ++ u32 1 ++ 4 ∷ u64 1 ++ u64 1 ++ 0 ∷ 0 ∷ []) ∷
    Line.Accept 2 1 1 0 ∷
    Line.Send 14 2 0 SendKind.Part (3 ∷ 2 ∷ 0 ∷ u64 2 ++ u64 2 ++ u32 0 ++ u32 1 ++ 7 ∷ u64 1 ++ u64 1 ++ 0 ∷ []) ∷
    Line.Decide 2 1 (0 ∷ 1 ∷ 3 ∷ []) 0 0 ∷ [])
    ∷ (Line.Final 0 State.Live 1 0 ∷
    Line.Final 1 State.Live 1 0 ∷
    Line.Final 2 State.Out 1 0 ∷
    Line.Final 3 State.Live 1 0 ∷ [])
    ∷ [])
unfolding the_model
transcript = refl
