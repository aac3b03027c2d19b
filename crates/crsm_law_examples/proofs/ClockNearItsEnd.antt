-- Times near 2^64.
use Rattle.std.proofs.Common.{◌≡◌, List, [], ◌∷◌, ◌++◌, refl}
use Rattle.std.specs.Prelude.{Some}
use Rattle.crsm_spec.specs.Types.{Op, Answer, Line, State, SendKind}
use Rattle.crsm_spec.specs.Acts.{Act, Single}
use Rattle.crsm_law_examples.specs.Words.{replay, request, stamp, u64}
use Rattle.crsm_law_examples.proofs.Opened.{the_model}

abbrev schedule : List Act
schedule =
    Act.One (request 0 18446744073709551614 7 1 (Op.Get (97 ∷ [])))
    ∷ Act.One (Single.Go 0 3)
    ∷ Act.One (request 1 3 8 1 (Op.Get (97 ∷ [])))
    ∷ Act.One (Single.Tick 1 18446744073709551615)
    ∷ Act.Settle 9
    ∷ Act.Settle 9
    ∷ Act.Settle 9
    ∷ Act.One (request 0 1 7 2 (Op.Get (97 ∷ [])))
    ∷ Act.One (request 1 1 7 2 (Op.Get (97 ∷ [])))
    ∷ Act.One (Single.Tick 0 18446744073709551615)
    ∷ Act.Settle 9
    ∷ []

transcript : replay 2 schedule ≡ Some (
    (Line.Boot 0 1 ∷
    Line.Enter 0 0 ∷
    Line.Boot 1 1 ∷
    Line.Enter 1 0 ∷ [])
    ∷ (Line.Submit 0 0 18446744073709551614 7 1 ∷
    Line.Send 0 0 1 SendKind.Frame (1 ∷ 0 ∷ 1 ∷ u64 0 ++ u64 0 ++ 1 ∷ u64 0 ++ 255 ∷ 255 ∷ 255 ∷ 255 ∷ 255 ∷ 255 ∷ 255 ∷ 254 ∷ 0 ∷ u64 7 ++ u64 1 ++ 1 ∷ 1 ∷ 97 ∷ []) ∷ [])
    ∷ (Line.Log 1 0 (stamp 18446744073709551614 0) ∷
    Line.Send 1 1 0 SendKind.Ack (2 ∷ 1 ∷ 0 ∷ u64 0 ++ u64 1 ++ []) ∷ [])
    ∷ (Line.Submit 1 0 3 8 1 ∷
    Line.Send 2 1 0 SendKind.Frame (1 ∷ 1 ∷ 0 ∷ u64 0 ++ u64 0 ++ 1 ∷ u64 0 ++ u64 3 ++ 1 ∷ u64 8 ++ u64 1 ++ 1 ∷ 1 ∷ 97 ∷ []) ∷ [])
    ∷ (Line.Send 3 1 0 SendKind.Frame (1 ∷ 1 ∷ 0 ∷ u64 0 ++ u64 0 ++ 1 ∷ u64 0 ++ u64 3 ++ 1 ∷ u64 8 ++ u64 1 ++ 1 ∷ 1 ∷ 97 ∷ []) ∷
    Line.Send 4 1 0 SendKind.Frame (1 ∷ 1 ∷ 0 ∷ u64 0 ++ u64 1 ++ 2 ∷ 255 ∷ 255 ∷ 255 ∷ 255 ∷ 255 ∷ 255 ∷ 255 ∷ 254 ∷ 0 ∷ 255 ∷ 255 ∷ 255 ∷ 255 ∷ 255 ∷ 255 ∷ 255 ∷ 255 ∷ []) ∷ [])
    ∷ (Line.Log 0 0 (stamp 3 1) ∷
    Line.Exec 0 0 0 (stamp 3 1) 8 1 Answer.Missing ∷
    Line.Send 5 0 1 SendKind.Ack (2 ∷ 0 ∷ 1 ∷ u64 0 ++ u64 1 ++ []) ∷
    Line.Send 6 0 1 SendKind.Frame (1 ∷ 0 ∷ 1 ∷ u64 0 ++ u64 1 ++ 2 ∷ u64 3 ++ 1 ∷ 255 ∷ 255 ∷ 255 ∷ 255 ∷ 255 ∷ 255 ∷ 255 ∷ 255 ∷ []) ∷
    Line.Send 7 0 1 SendKind.Ack (2 ∷ 0 ∷ 1 ∷ u64 0 ++ u64 1 ++ []) ∷
    Line.Exec 0 1 0 (stamp 18446744073709551614 0) 7 1 Answer.Missing ∷
    Line.Send 8 0 1 SendKind.Ack (2 ∷ 0 ∷ 1 ∷ u64 0 ++ u64 2 ++ []) ∷
    Line.ReplyOk 0 7 1 1 Answer.Missing ∷ [])
    ∷ (Line.Exec 1 0 0 (stamp 3 1) 8 1 Answer.Missing ∷
    Line.Exec 1 1 0 (stamp 18446744073709551614 0) 7 1 Answer.Missing ∷
    Line.Send 9 1 0 SendKind.Ack (2 ∷ 1 ∷ 0 ∷ u64 0 ++ u64 2 ++ []) ∷
    Line.ReplyOk 1 8 1 0 Answer.Missing ∷ [])
    ∷ []
    ∷ (Line.ReplyNo 0 7 2 5 ∷ [])
    ∷ (Line.ReplyNo 1 7 2 5 ∷ [])
    ∷ []
    ∷ []
    ∷ (Line.Final 0 State.Live 0 2 ∷
    Line.Final 1 State.Live 0 2 ∷ [])
    ∷ [])
unfolding the_model
transcript = refl
