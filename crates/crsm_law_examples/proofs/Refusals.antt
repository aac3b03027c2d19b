-- Refused requests: too many own entries unexecuted, not live, suspended.
use Rattle.std.proofs.Common.{◌≡◌, List, [], ◌∷◌, ◌++◌, refl}
use Rattle.std.specs.Prelude.{Some}
use Rattle.crsm_spec.specs.Types.{Op, Line, State, SendKind}
use Rattle.crsm_spec.specs.Acts.{Act, Single}
use Rattle.crsm_law_examples.specs.Words.{replay, request, u64, u32}
use Rattle.crsm_law_examples.proofs.Opened.{the_model}

abbrev schedule : List Act
schedule =
    Act.One (request 0 1 7 1 (Op.Get (97 ∷ [])))
    ∷ Act.One (request 0 2 7 2 (Op.Get (97 ∷ [])))
    ∷ Act.One (request 0 3 7 3 (Op.Get (97 ∷ [])))
    ∷ Act.One (request 0 4 7 4 (Op.Get (97 ∷ [])))
    ∷ Act.One (request 0 5 7 5 (Op.Get (97 ∷ [])))
    ∷ Act.One (request 0 6 7 6 (Op.Get (97 ∷ [])))
    ∷ Act.One (request 0 7 7 7 (Op.Get (97 ∷ [])))
    ∷ Act.One (request 0 8 7 8 (Op.Get (97 ∷ [])))
    ∷ Act.One (request 0 9 7 9 (Op.Get (97 ∷ [])))
    ∷ Act.One (request 0 10 7 10 (Op.Get (97 ∷ [])))
    ∷ Act.One (request 0 11 7 11 (Op.Get (97 ∷ [])))
    ∷ Act.One (request 0 12 7 12 (Op.Get (97 ∷ [])))
    ∷ Act.One (request 0 13 7 13 (Op.Get (97 ∷ [])))
    ∷ Act.One (request 0 14 7 14 (Op.Get (97 ∷ [])))
    ∷ Act.One (request 0 15 7 15 (Op.Get (97 ∷ [])))
    ∷ Act.One (request 0 16 7 16 (Op.Get (97 ∷ [])))
    ∷ Act.One (request 0 17 7 17 (Op.Get (97 ∷ [])))
    ∷ Act.One (request 0 18 7 18 (Op.Get (97 ∷ [])))
    ∷ Act.One (request 0 19 7 19 (Op.Get (97 ∷ [])))
    ∷ Act.One (request 0 20 7 20 (Op.Get (97 ∷ [])))
    ∷ Act.One (request 0 21 7 21 (Op.Get (97 ∷ [])))
    ∷ Act.One (request 0 22 7 22 (Op.Get (97 ∷ [])))
    ∷ Act.One (request 0 23 7 23 (Op.Get (97 ∷ [])))
    ∷ Act.One (request 0 24 7 24 (Op.Get (97 ∷ [])))
    ∷ Act.One (request 0 25 7 25 (Op.Get (97 ∷ [])))
    ∷ Act.One (request 0 26 7 26 (Op.Get (97 ∷ [])))
    ∷ Act.One (request 0 27 7 27 (Op.Get (97 ∷ [])))
    ∷ Act.One (request 0 28 7 28 (Op.Get (97 ∷ [])))
    ∷ Act.One (request 0 29 7 29 (Op.Get (97 ∷ [])))
    ∷ Act.One (request 0 30 7 30 (Op.Get (97 ∷ [])))
    ∷ Act.One (request 0 31 7 31 (Op.Get (97 ∷ [])))
    ∷ Act.One (request 0 32 7 32 (Op.Get (97 ∷ [])))
    ∷ Act.One (request 0 33 7 33 (Op.Get (97 ∷ [])))
    ∷ Act.One (request 0 34 7 34 (Op.Get (97 ∷ [])))
    ∷ Act.One (request 0 35 7 35 (Op.Get (97 ∷ [])))
    ∷ Act.One (request 0 36 7 36 (Op.Get (97 ∷ [])))
    ∷ Act.One (request 0 37 7 37 (Op.Get (97 ∷ [])))
    ∷ Act.One (request 0 38 7 38 (Op.Get (97 ∷ [])))
    ∷ Act.One (request 0 39 7 39 (Op.Get (97 ∷ [])))
    ∷ Act.One (request 0 40 7 40 (Op.Get (97 ∷ [])))
    ∷ Act.One (request 0 41 7 41 (Op.Get (97 ∷ [])))
    ∷ Act.One (request 0 42 7 42 (Op.Get (97 ∷ [])))
    ∷ Act.One (request 0 43 7 43 (Op.Get (97 ∷ [])))
    ∷ Act.One (request 0 44 7 44 (Op.Get (97 ∷ [])))
    ∷ Act.One (request 0 45 7 45 (Op.Get (97 ∷ [])))
    ∷ Act.One (request 0 46 7 46 (Op.Get (97 ∷ [])))
    ∷ Act.One (request 0 47 7 47 (Op.Get (97 ∷ [])))
    ∷ Act.One (request 0 48 7 48 (Op.Get (97 ∷ [])))
    ∷ Act.One (request 0 49 7 49 (Op.Get (97 ∷ [])))
    ∷ Act.One (request 0 50 7 50 (Op.Get (97 ∷ [])))
    ∷ Act.One (request 0 51 7 51 (Op.Get (97 ∷ [])))
    ∷ Act.One (request 0 52 7 52 (Op.Get (97 ∷ [])))
    ∷ Act.One (request 0 53 7 53 (Op.Get (97 ∷ [])))
    ∷ Act.One (request 0 54 7 54 (Op.Get (97 ∷ [])))
    ∷ Act.One (request 0 55 7 55 (Op.Get (97 ∷ [])))
    ∷ Act.One (request 0 56 7 56 (Op.Get (97 ∷ [])))
    ∷ Act.One (request 0 57 7 57 (Op.Get (97 ∷ [])))
    ∷ Act.One (request 0 58 7 58 (Op.Get (97 ∷ [])))
    ∷ Act.One (request 0 59 7 59 (Op.Get (97 ∷ [])))
    ∷ Act.One (request 0 60 7 60 (Op.Get (97 ∷ [])))
    ∷ Act.One (request 0 61 7 61 (Op.Get (97 ∷ [])))
    ∷ Act.One (request 0 62 7 62 (Op.Get (97 ∷ [])))
    ∷ Act.One (request 0 63 7 63 (Op.Get (97 ∷ [])))
    ∷ Act.One (request 0 64 7 64 (Op.Get (97 ∷ [])))
    ∷ Act.One (request 0 65 7 65 (Op.Get (97 ∷ [])))
    ∷ Act.Crash 1
    ∷ Act.Start 1
    ∷ Act.One (request 1 70 8 1 (Op.Get (97 ∷ [])))
    ∷ Act.One (Single.Suspect 0 71 (0 ∷ 1 ∷ []))
    ∷ Act.One (request 0 72 7 66 (Op.Get (97 ∷ [])))
    ∷ []

transcript : replay 2 schedule ≡ Some (
    (Line.Boot 0 1 ∷
    Line.Enter 0 0 ∷
    Line.Boot 1 1 ∷
    Line.Enter 1 0 ∷ [])
    ∷ (Line.Submit 0 0 1 7 1 ∷
    Line.Send 0 0 1 SendKind.Frame (1 ∷ 0 ∷ 1 ∷ u64 0 ++ u64 0 ++ 1 ∷ u64 0 ++ u64 1 ++ 0 ∷ u64 7 ++ u64 1 ++ 1 ∷ 1 ∷ 97 ∷ []) ∷ [])
    ∷ (Line.Submit 0 0 2 7 2 ∷
    Line.Send 1 0 1 SendKind.Frame (1 ∷ 0 ∷ 1 ∷ u64 0 ++ u64 1 ++ 1 ∷ u64 0 ++ u64 2 ++ 0 ∷ u64 7 ++ u64 2 ++ 1 ∷ 1 ∷ 97 ∷ []) ∷ [])
    ∷ (Line.Submit 0 0 3 7 3 ∷
    Line.Send 2 0 1 SendKind.Frame (1 ∷ 0 ∷ 1 ∷ u64 0 ++ u64 2 ++ 1 ∷ u64 0 ++ u64 3 ++ 0 ∷ u64 7 ++ u64 3 ++ 1 ∷ 1 ∷ 97 ∷ []) ∷ [])
    ∷ (Line.Submit 0 0 4 7 4 ∷
    Line.Send 3 0 1 SendKind.Frame (1 ∷ 0 ∷ 1 ∷ u64 0 ++ u64 3 ++ 1 ∷ u64 0 ++ u64 4 ++ 0 ∷ u64 7 ++ u64 4 ++ 1 ∷ 1 ∷ 97 ∷ []) ∷ [])
    ∷ (Line.Submit 0 0 5 7 5 ∷
    Line.Send 4 0 1 SendKind.Frame (1 ∷ 0 ∷ 1 ∷ u64 0 ++ u64 4 ++ 1 ∷ u64 0 ++ u64 5 ++ 0 ∷ u64 7 ++ u64 5 ++ 1 ∷ 1 ∷ 97 ∷ []) ∷ [])
    ∷ (Line.Submit 0 0 6 7 6 ∷
    Line.Send 5 0 1 SendKind.Frame (1 ∷ 0 ∷ 1 ∷ u64 0 ++ u64 5 ++ 1 ∷ u64 0 ++ u64 6 ++ 0 ∷ u64 7 ++ u64 6 ++ 1 ∷ 1 ∷ 97 ∷ []) ∷ [])
    ∷ (Line.Submit 0 0 7 7 7 ∷
    Line.Send 6 0 1 SendKind.Frame (1 ∷ 0 ∷ 1 ∷ u64 0 ++ u64 6 ++ 1 ∷ u64 0 ++ u64 7 ++ 0 ∷ u64 7 ++ u64 7 ++ 1 ∷ 1 ∷ 97 ∷ []) ∷ [])
    ∷ (Line.Submit 0 0 8 7 8 ∷
    Line.Send 7 0 1 SendKind.Frame (1 ∷ 0 ∷ 1 ∷ u64 0 ++ u64 7 ++ 1 ∷ u64 0 ++ u64 8 ++ 0 ∷ u64 7 ++ u64 8 ++ 1 ∷ 1 ∷ 97 ∷ []) ∷ [])
    ∷ (Line.Submit 0 0 9 7 9 ∷
    Line.Send 8 0 1 SendKind.Frame (1 ∷ 0 ∷ 1 ∷ u64 0 ++ u64 8 ++ 1 ∷ u64 0 ++ u64 9 ++ 0 ∷ u64 7 ++ u64 9 ++ 1 ∷ 1 ∷ 97 ∷ []) ∷ [])
    ∷ (Line.Submit 0 0 10 7 10 ∷
    Line.Send 9 0 1 SendKind.Frame (1 ∷ 0 ∷ 1 ∷ u64 0 ++ u64 9 ++ 1 ∷ u64 0 ++ u64 10 ++ 0 ∷ u64 7 ++ u64 10 ++ 1 ∷ 1 ∷ 97 ∷ []) ∷ [])
    ∷ (Line.Submit 0 0 11 7 11 ∷
    Line.Send 10 0 1 SendKind.Frame (1 ∷ 0 ∷ 1 ∷ u64 0 ++ u64 10 ++ 1 ∷ u64 0 ++ u64 11 ++ 0 ∷ u64 7 ++ u64 11 ++ 1 ∷ 1 ∷ 97 ∷ []) ∷ [])
    ∷ (Line.Submit 0 0 12 7 12 ∷
    Line.Send 11 0 1 SendKind.Frame (1 ∷ 0 ∷ 1 ∷ u64 0 ++ u64 11 ++ 1 ∷ u64 0 ++ u64 12 ++ 0 ∷ u64 7 ++ u64 12 ++ 1 ∷ 1 ∷ 97 ∷ []) ∷ [])
    ∷ (Line.Submit 0 0 13 7 13 ∷
    Line.Send 12 0 1 SendKind.Frame (1 ∷ 0 ∷ 1 ∷ u64 0 ++ u64 12 ++ 1 ∷ u64 0 ++ u64 13 ++ 0 ∷ u64 7 ++ u64 13 ++ 1 ∷ 1 ∷ 97 ∷ []) ∷ [])
    ∷ (Line.Submit 0 0 14 7 14 ∷
    Line.Send 13 0 1 SendKind.Frame (1 ∷ 0 ∷ 1 ∷ u64 0 ++ u64 13 ++ 1 ∷ u64 0 ++ u64 14 ++ 0 ∷ u64 7 ++ u64 14 ++ 1 ∷ 1 ∷ 97 ∷ []) ∷ [])
    ∷ (Line.Submit 0 0 15 7 15 ∷
    Line.Send 14 0 1 SendKind.Frame (1 ∷ 0 ∷ 1 ∷ u64 0 ++ u64 14 ++ 1 ∷ u64 0 ++ u64 15 ++ 0 ∷ u64 7 ++ u64 15 ++ 1 ∷ 1 ∷ 97 ∷ []) ∷ [])
    ∷ (Line.Submit 0 0 16 7 16 ∷
    Line.Send 15 0 1 SendKind.Frame (1 ∷ 0 ∷ 1 ∷ u64 0 ++ u64 15 ++ 1 ∷ u64 0 ++ u64 16 ++ 0 ∷ u64 7 ++ u64 16 ++ 1 ∷ 1 ∷ 97 ∷ []) ∷ [])
    ∷ (Line.Submit 0 0 17 7 17 ∷
    Line.Send 16 0 1 SendKind.Frame (1 ∷ 0 ∷ 1 ∷ u64 0 ++ u64 16 ++ 1 ∷ u64 0 ++ u64 17 ++ 0 ∷ u64 7 ++ u64 17 ++ 1 ∷ 1 ∷ 97 ∷ []) ∷ [])
    ∷ (Line.Submit 0 0 18 7 18 ∷
    Line.Send 17 0 1 SendKind.Frame (1 ∷ 0 ∷ 1 ∷ u64 0 ++ u64 17 ++ 1 ∷ u64 0 ++ u64 18 ++ 0 ∷ u64 7 ++ u64 18 ++ 1 ∷ 1 ∷ 97 ∷ []) ∷ [])
    ∷ (Line.Submit 0 0 19 7 19 ∷
    Line.Send 18 0 1 SendKind.Frame (1 ∷ 0 ∷ 1 ∷ u64 0 ++ u64 18 ++ 1 ∷ u64 0 ++ u64 19 ++ 0 ∷ u64 7 ++ u64 19 ++ 1 ∷ 1 ∷ 97 ∷ []) ∷ [])
    ∷ (Line.Submit 0 0 20 7 20 ∷
    Line.Send 19 0 1 SendKind.Frame (1 ∷ 0 ∷ 1 ∷ u64 0 ++ u64 19 ++ 1 ∷ u64 0 ++ u64 20 ++ 0 ∷ u64 7 ++ u64 20 ++ 1 ∷ 1 ∷ 97 ∷ []) ∷ [])
    ∷ (Line.Submit 0 0 21 7 21 ∷
    Line.Send 20 0 1 SendKind.Frame (1 ∷ 0 ∷ 1 ∷ u64 0 ++ u64 20 ++ 1 ∷ u64 0 ++ u64 21 ++ 0 ∷ u64 7 ++ u64 21 ++ 1 ∷ 1 ∷ 97 ∷ []) ∷ [])
    ∷ (Line.Submit 0 0 22 7 22 ∷
    Line.Send 21 0 1 SendKind.Frame (1 ∷ 0 ∷ 1 ∷ u64 0 ++ u64 21 ++ 1 ∷ u64 0 ++ u64 22 ++ 0 ∷ u64 7 ++ u64 22 ++ 1 ∷ 1 ∷ 97 ∷ []) ∷ [])
    ∷ (Line.Submit 0 0 23 7 23 ∷
    Line.Send 22 0 1 SendKind.Frame (1 ∷ 0 ∷ 1 ∷ u64 0 ++ u64 22 ++ 1 ∷ u64 0 ++ u64 23 ++ 0 ∷ u64 7 ++ u64 23 ++ 1 ∷ 1 ∷ 97 ∷ []) ∷ [])
    ∷ (Line.Submit 0 0 24 7 24 ∷
    Line.Send 23 0 1 SendKind.Frame (1 ∷ 0 ∷ 1 ∷ u64 0 ++ u64 23 ++ 1 ∷ u64 0 ++ u64 24 ++ 0 ∷ u64 7 ++ u64 24 ++ 1 ∷ 1 ∷ 97 ∷ []) ∷ [])
    ∷ (Line.Submit 0 0 25 7 25 ∷
    Line.Send 24 0 1 SendKind.Frame (1 ∷ 0 ∷ 1 ∷ u64 0 ++ u64 24 ++ 1 ∷ u64 0 ++ u64 25 ++ 0 ∷ u64 7 ++ u64 25 ++ 1 ∷ 1 ∷ 97 ∷ []) ∷ [])
    ∷ (Line.Submit 0 0 26 7 26 ∷
    Line.Send 25 0 1 SendKind.Frame (1 ∷ 0 ∷ 1 ∷ u64 0 ++ u64 25 ++ 1 ∷ u64 0 ++ u64 26 ++ 0 ∷ u64 7 ++ u64 26 ++ 1 ∷ 1 ∷ 97 ∷ []) ∷ [])
    ∷ (Line.Submit 0 0 27 7 27 ∷
    Line.Send 26 0 1 SendKind.Frame (1 ∷ 0 ∷ 1 ∷ u64 0 ++ u64 26 ++ 1 ∷ u64 0 ++ u64 27 ++ 0 ∷ u64 7 ++ u64 27 ++ 1 ∷ 1 ∷ 97 ∷ []) ∷ [])
    ∷ (Line.Submit 0 0 28 7 28 ∷
    Line.Send 27 0 1 SendKind.Frame (1 ∷ 0 ∷ 1 ∷ u64 0 ++ u64 27 ++ 1 ∷ u64 0 ++ u64 28 ++ 0 ∷ u64 7 ++ u64 28 ++ 1 ∷ 1 ∷ 97 ∷ []) ∷ [])
    ∷ (Line.Submit 0 0 29 7 29 ∷
    Line.Send 28 0 1 SendKind.Frame (1 ∷ 0 ∷ 1 ∷ u64 0 ++ u64 28 ++ 1 ∷ u64 0 ++ u64 29 ++ 0 ∷ u64 7 ++ u64 29 ++ 1 ∷ 1 ∷ 97 ∷ []) ∷ [])
    ∷ (Line.Submit 0 0 30 7 30 ∷
    Line.Send 29 0 1 SendKind.Frame (1 ∷ 0 ∷ 1 ∷ u64 0 ++ u64 29 ++ 1 ∷ u64 0 ++ u64 30 ++ 0 ∷ u64 7 ++ u64 30 ++ 1 ∷ 1 ∷ 97 ∷ []) ∷ [])
    ∷ (Line.Submit 0 0 31 7 31 ∷
    Line.Send 30 0 1 SendKind.Frame (1 ∷ 0 ∷ 1 ∷ u64 0 ++ u64 30 ++ 1 ∷ u64 0 ++ u64 31 ++ 0 ∷ u64 7 ++ u64 31 ++ 1 ∷ 1 ∷ 97 ∷ []) ∷ [])
    ∷ (Line.Submit 0 0 32 7 32 ∷
    Line.Send 31 0 1 SendKind.Frame (1 ∷ 0 ∷ 1 ∷ u64 0 ++ u64 31 ++ 1 ∷ u64 0 ++ u64 32 ++ 0 ∷ u64 7 ++ u64 32 ++ 1 ∷ 1 ∷ 97 ∷ []) ∷ [])
    ∷ (Line.Submit 0 0 33 7 33 ∷
    Line.Send 32 0 1 SendKind.Frame (1 ∷ 0 ∷ 1 ∷ u64 0 ++ u64 32 ++ 1 ∷ u64 0 ++ u64 33 ++ 0 ∷ u64 7 ++ u64 33 ++ 1 ∷ 1 ∷ 97 ∷ []) ∷ [])
    ∷ (Line.Submit 0 0 34 7 34 ∷
    Line.Send 33 0 1 SendKind.Frame (1 ∷ 0 ∷ 1 ∷ u64 0 ++ u64 33 ++ 1 ∷ u64 0 ++ u64 34 ++ 0 ∷ u64 7 ++ u64 34 ++ 1 ∷ 1 ∷ 97 ∷ []) ∷ [])
    ∷ (Line.Submit 0 0 35 7 35 ∷
    Line.Send 34 0 1 SendKind.Frame (1 ∷ 0 ∷ 1 ∷ u64 0 ++ u64 34 ++ 1 ∷ u64 0 ++ u64 35 ++ 0 ∷ u64 7 ++ u64 35 ++ 1 ∷ 1 ∷ 97 ∷ []) ∷ [])
    ∷ (Line.Submit 0 0 36 7 36 ∷
    Line.Send 35 0 1 SendKind.Frame (1 ∷ 0 ∷ 1 ∷ u64 0 ++ u64 35 ++ 1 ∷ u64 0 ++ u64 36 ++ 0 ∷ u64 7 ++ u64 36 ++ 1 ∷ 1 ∷ 97 ∷ []) ∷ [])
    ∷ (Line.Submit 0 0 37 7 37 ∷
    Line.Send 36 0 1 SendKind.Frame (1 ∷ 0 ∷ 1 ∷ u64 0 ++ u64 36 ++ 1 ∷ u64 0 ++ u64 37 ++ 0 ∷ u64 7 ++ u64 37 ++ 1 ∷ 1 ∷ 97 ∷ []) ∷ [])
    ∷ (Line.Submit 0 0 38 7 38 ∷
    Line.Send 37 0 1 SendKind.Frame (1 ∷ 0 ∷ 1 ∷ u64 0 ++ u64 37 ++ 1 ∷ u64 0 ++ u64 38 ++ 0 ∷ u64 7 ++ u64 38 ++ 1 ∷ 1 ∷ 97 ∷ []) ∷ [])
    ∷ (Line.Submit 0 0 39 7 39 ∷
    Line.Send 38 0 1 SendKind.Frame (1 ∷ 0 ∷ 1 ∷ u64 0 ++ u64 38 ++ 1 ∷ u64 0 ++ u64 39 ++ 0 ∷ u64 7 ++ u64 39 ++ 1 ∷ 1 ∷ 97 ∷ []) ∷ [])
    ∷ (Line.Submit 0 0 40 7 40 ∷
    Line.Send 39 0 1 SendKind.Frame (1 ∷ 0 ∷ 1 ∷ u64 0 ++ u64 39 ++ 1 ∷ u64 0 ++ u64 40 ++ 0 ∷ u64 7 ++ u64 40 ++ 1 ∷ 1 ∷ 97 ∷ []) ∷ [])
    ∷ (Line.Submit 0 0 41 7 41 ∷
    Line.Send 40 0 1 SendKind.Frame (1 ∷ 0 ∷ 1 ∷ u64 0 ++ u64 40 ++ 1 ∷ u64 0 ++ u64 41 ++ 0 ∷ u64 7 ++ u64 41 ++ 1 ∷ 1 ∷ 97 ∷ []) ∷ [])
    ∷ (Line.Submit 0 0 42 7 42 ∷
    Line.Send 41 0 1 SendKind.Frame (1 ∷ 0 ∷ 1 ∷ u64 0 ++ u64 41 ++ 1 ∷ u64 0 ++ u64 42 ++ 0 ∷ u64 7 ++ u64 42 ++ 1 ∷ 1 ∷ 97 ∷ []) ∷ [])
    ∷ (Line.Submit 0 0 43 7 43 ∷
    Line.Send 42 0 1 SendKind.Frame (1 ∷ 0 ∷ 1 ∷ u64 0 ++ u64 42 ++ 1 ∷ u64 0 ++ u64 43 ++ 0 ∷ u64 7 ++ u64 43 ++ 1 ∷ 1 ∷ 97 ∷ []) ∷ [])
    ∷ (Line.Submit 0 0 44 7 44 ∷
    Line.Send 43 0 1 SendKind.Frame (1 ∷ 0 ∷ 1 ∷ u64 0 ++ u64 43 ++ 1 ∷ u64 0 ++ u64 44 ++ 0 ∷ u64 7 ++ u64 44 ++ 1 ∷ 1 ∷ 97 ∷ []) ∷ [])
    ∷ (Line.Submit 0 0 45 7 45 ∷
    Line.Send 44 0 1 SendKind.Frame (1 ∷ 0 ∷ 1 ∷ u64 0 ++ u64 44 ++ 1 ∷ u64 0 ++ u64 45 ++ 0 ∷ u64 7 ++ u64 45 ++ 1 ∷ 1 ∷ 97 ∷ []) ∷ [])
    ∷ (Line.Submit 0 0 46 7 46 ∷
    Line.Send 45 0 1 SendKind.Frame (1 ∷ 0 ∷ 1 ∷ u64 0 ++ u64 45 ++ 1 ∷ u64 0 ++ u64 46 ++ 0 ∷ u64 7 ++ u64 46 ++ 1 ∷ 1 ∷ 97 ∷ []) ∷ [])
    ∷ (Line.Submit 0 0 47 7 47 ∷
    Line.Send 46 0 1 SendKind.Frame (1 ∷ 0 ∷ 1 ∷ u64 0 ++ u64 46 ++ 1 ∷ u64 0 ++ u64 47 ++ 0 ∷ u64 7 ++ u64 47 ++ 1 ∷ 1 ∷ 97 ∷ []) ∷ [])
    ∷ (Line.Submit 0 0 48 7 48 ∷
    Line.Send 47 0 1 SendKind.Frame (1 ∷ 0 ∷ 1 ∷ u64 0 ++ u64 47 ++ 1 ∷ u64 0 ++ u64 48 ++ 0 ∷ u64 7 ++ u64 48 ++ 1 ∷ 1 ∷ 97 ∷ []) ∷ [])
    ∷ (Line.Submit 0 0 49 7 49 ∷
    Line.Send 48 0 1 SendKind.Frame (1 ∷ 0 ∷ 1 ∷ u64 0 ++ u64 48 ++ 1 ∷ u64 0 ++ u64 49 ++ 0 ∷ u64 7 ++ u64 49 ++ 1 ∷ 1 ∷ 97 ∷ []) ∷ [])
    ∷ (Line.Submit 0 0 50 7 50 ∷
    Line.Send 49 0 1 SendKind.Frame (1 ∷ 0 ∷ 1 ∷ u64 0 ++ u64 49 ++ 1 ∷ u64 0 ++ u64 50 ++ 0 ∷ u64 7 ++ u64 50 ++ 1 ∷ 1 ∷ 97 ∷ []) ∷ [])
    ∷ (Line.Submit 0 0 51 7 51 ∷
    Line.Send 50 0 1 SendKind.Frame (1 ∷ 0 ∷ 1 ∷ u64 0 ++ u64 50 ++ 1 ∷ u64 0 ++ u64 51 ++ 0 ∷ u64 7 ++ u64 51 ++ 1 ∷ 1 ∷ 97 ∷ []) ∷ [])
    ∷ (Line.Submit 0 0 52 7 52 ∷
    Line.Send 51 0 1 SendKind.Frame (1 ∷ 0 ∷ 1 ∷ u64 0 ++ u64 51 ++ 1 ∷ u64 0 ++ u64 52 ++ 0 ∷ u64 7 ++ u64 52 ++ 1 ∷ 1 ∷ 97 ∷ []) ∷ [])
    ∷ (Line.Submit 0 0 53 7 53 ∷
    Line.Send 52 0 1 SendKind.Frame (1 ∷ 0 ∷ 1 ∷ u64 0 ++ u64 52 ++ 1 ∷ u64 0 ++ u64 53 ++ 0 ∷ u64 7 ++ u64 53 ++ 1 ∷ 1 ∷ 97 ∷ []) ∷ [])
    ∷ (Line.Submit 0 0 54 7 54 ∷
    Line.Send 53 0 1 SendKind.Frame (1 ∷ 0 ∷ 1 ∷ u64 0 ++ u64 53 ++ 1 ∷ u64 0 ++ u64 54 ++ 0 ∷ u64 7 ++ u64 54 ++ 1 ∷ 1 ∷ 97 ∷ []) ∷ [])
    ∷ (Line.Submit 0 0 55 7 55 ∷
    Line.Send 54 0 1 SendKind.Frame (1 ∷ 0 ∷ 1 ∷ u64 0 ++ u64 54 ++ 1 ∷ u64 0 ++ u64 55 ++ 0 ∷ u64 7 ++ u64 55 ++ 1 ∷ 1 ∷ 97 ∷ []) ∷ [])
    ∷ (Line.Submit 0 0 56 7 56 ∷
    Line.Send 55 0 1 SendKind.Frame (1 ∷ 0 ∷ 1 ∷ u64 0 ++ u64 55 ++ 1 ∷ u64 0 ++ u64 56 ++ 0 ∷ u64 7 ++ u64 56 ++ 1 ∷ 1 ∷ 97 ∷ []) ∷ [])
    ∷ (Line.Submit 0 0 57 7 57 ∷
    Line.Send 56 0 1 SendKind.Frame (1 ∷ 0 ∷ 1 ∷ u64 0 ++ u64 56 ++ 1 ∷ u64 0 ++ u64 57 ++ 0 ∷ u64 7 ++ u64 57 ++ 1 ∷ 1 ∷ 97 ∷ []) ∷ [])
    ∷ (Line.Submit 0 0 58 7 58 ∷
    Line.Send 57 0 1 SendKind.Frame (1 ∷ 0 ∷ 1 ∷ u64 0 ++ u64 57 ++ 1 ∷ u64 0 ++ u64 58 ++ 0 ∷ u64 7 ++ u64 58 ++ 1 ∷ 1 ∷ 97 ∷ []) ∷ [])
    ∷ (Line.Submit 0 0 59 7 59 ∷
    Line.Send 58 0 1 SendKind.Frame (1 ∷ 0 ∷ 1 ∷ u64 0 ++ u64 58 ++ 1 ∷ u64 0 ++ u64 59 ++ 0 ∷ u64 7 ++ u64 59 ++ 1 ∷ 1 ∷ 97 ∷ []) ∷ [])
    ∷ (Line.Submit 0 0 60 7 60 ∷
    Line.Send 59 0 1 SendKind.Frame (1 ∷ 0 ∷ 1 ∷ u64 0 ++ u64 59 ++ 1 ∷ u64 0 ++ u64 60 ++ 0 ∷ u64 7 ++ u64 60 ++ 1 ∷ 1 ∷ 97 ∷ []) ∷ [])
    ∷ (Line.Submit 0 0 61 7 61 ∷
    Line.Send 60 0 1 SendKind.Frame (1 ∷ 0 ∷ 1 ∷ u64 0 ++ u64 60 ++ 1 ∷ u64 0 ++ u64 61 ++ 0 ∷ u64 7 ++ u64 61 ++ 1 ∷ 1 ∷ 97 ∷ []) ∷ [])
    ∷ (Line.Submit 0 0 62 7 62 ∷
    Line.Send 61 0 1 SendKind.Frame (1 ∷ 0 ∷ 1 ∷ u64 0 ++ u64 61 ++ 1 ∷ u64 0 ++ u64 62 ++ 0 ∷ u64 7 ++ u64 62 ++ 1 ∷ 1 ∷ 97 ∷ []) ∷ [])
    ∷ (Line.Submit 0 0 63 7 63 ∷
    Line.Send 62 0 1 SendKind.Frame (1 ∷ 0 ∷ 1 ∷ u64 0 ++ u64 62 ++ 1 ∷ u64 0 ++ u64 63 ++ 0 ∷ u64 7 ++ u64 63 ++ 1 ∷ 1 ∷ 97 ∷ []) ∷ [])
    ∷ (Line.Submit 0 0 64 7 64 ∷
    Line.Send 63 0 1 SendKind.Frame (1 ∷ 0 ∷ 1 ∷ u64 0 ++ u64 63 ++ 1 ∷ u64 0 ++ u64 64 ++ 0 ∷ u64 7 ++ u64 64 ++ 1 ∷ 1 ∷ 97 ∷ []) ∷ [])
    ∷ (Line.ReplyNo 0 7 65 3 ∷ [])
    ∷ (Line.Down 1 ∷ [])
    ∷ (Line.Boot 1 2 ∷ [])
    ∷ (Line.ReplyNo 1 8 1 1 ∷ [])
    ∷ (Line.Suspend 0 0 ∷
    Line.Send 64 0 1 SendKind.Part (3 ∷ 0 ∷ 1 ∷ u64 1 ++ u64 0 ++ u32 0 ++ u32 1 ++ 1 ∷ u64 0 ++ 0 ∷ []) ∷ [])
    ∷ (Line.ReplyNo 0 7 66 2 ∷ [])
    ∷ (Line.Final 0 State.Held 0 0 ∷
    Line.Final 1 State.Out 0 0 ∷ [])
    ∷ [])
unfolding the_model
transcript = refl
