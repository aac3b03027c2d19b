-- A replica whose clock reads the time of the entry itself acknowledges it later.
use Rattle.std.proofs.Common.{◌≡◌, List, [], ◌∷◌, ◌++◌, refl}
use Rattle.std.specs.Prelude.{Some}
use Rattle.crsm_spec.specs.Types.{Op, Answer, Line, State, SendKind}
use Rattle.crsm_spec.specs.Acts.{Act, Single}
use Rattle.crsm_law_examples.specs.Words.{replay, request, stamp, u64}
use Rattle.crsm_law_examples.proofs.Opened.{the_model}

abbrev schedule : List Act
schedule =
    Act.One (request 0 5 7 1 (Op.Get (97 ∷ [])))
    ∷ Act.One (Single.Go 0 5)
    ∷ Act.One (Single.Tick 1 6)
    ∷ []

transcript : replay 2 schedule ≡ Some (
    (Line.Boot 0 1 ∷
    Line.Enter 0 0 ∷
    Line.Boot 1 1 ∷
    Line.Enter 1 0 ∷ [])
    ∷ (Line.Submit 0 0 5 7 1 ∷
    Line.Send 0 0 1 SendKind.Frame (1 ∷ 0 ∷ 1 ∷ u64 0 ++ u64 0 ++ 1 ∷ u64 0 ++ u64 5 ++ 0 ∷ u64 7 ++ u64 1 ++ 1 ∷ 1 ∷ 97 ∷ []) ∷ [])
    ∷ (Line.Log 1 0 (stamp 5 0) ∷
    Line.Send 1 1 0 SendKind.Ack (2 ∷ 1 ∷ 0 ∷ u64 0 ++ u64 1 ++ []) ∷ [])
    ∷ (Line.Exec 1 0 0 (stamp 5 0) 7 1 Answer.Missing ∷
    Line.Send 2 1 0 SendKind.Frame (1 ∷ 1 ∷ 0 ∷ u64 0 ++ u64 0 ++ 2 ∷ u64 5 ++ 0 ∷ u64 6 ++ []) ∷ [])
    ∷ (Line.Final 0 State.Live 0 0 ∷
    Line.Final 1 State.Live 0 1 ∷ [])
    ∷ [])
unfolding the_model
transcript = refl
