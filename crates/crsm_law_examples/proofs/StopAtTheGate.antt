-- A stop at the last device call of a log write: the batch is kept if its gate reads as open.
use Rattle.std.proofs.Common.{◌≡◌, List, [], ◌∷◌, ◌++◌, refl}
use Rattle.std.specs.Prelude.{Some}
use Rattle.crsm_spec.specs.Types.{Op, Answer, Line, State, SendKind}
use Rattle.crsm_spec.specs.Acts.{Act, Single}
use Rattle.crsm_law_examples.specs.Words.{replay, request, stamp, u64}
use Rattle.crsm_law_examples.proofs.Opened.{the_model}

abbrev schedule : List Act
schedule =
    Act.One (request 0 5 7 1 (Op.Put (97 ∷ []) (98 ∷ [])))
    ∷ Act.CutAt 3 1 (Single.Go 0 8)
    ∷ []

transcript : replay 2 schedule ≡ Some (
    (Line.Boot 0 1 ∷
    Line.Enter 0 0 ∷
    Line.Boot 1 1 ∷
    Line.Enter 1 0 ∷ [])
    ∷ (Line.Submit 0 0 5 7 1 ∷
    Line.Send 0 0 1 SendKind.Frame (1 ∷ 0 ∷ 1 ∷ u64 0 ++ u64 0 ++ 1 ∷ u64 0 ++ u64 5 ++ 0 ∷ u64 7 ++ u64 1 ++ 2 ∷ 1 ∷ 97 ∷ 0 ∷ 1 ∷ 98 ∷ []) ∷ [])
    ∷ (Line.Log 1 0 (stamp 5 0) ∷
    Line.Exec 1 0 0 (stamp 5 0) 7 1 Answer.Done ∷
    Line.Down 1 ∷ [])
    ∷ (Line.Final 0 State.Live 0 0 ∷
    Line.Final 1 State.Down 0 1 ∷ [])
    ∷ [])
unfolding the_model
transcript = refl
