-- A clock reading that goes back: stamps still rise.
use Rattle.std.proofs.Common.{◌≡◌, List, [], ◌∷◌, refl}
use Rattle.std.specs.Prelude.{Some}
use Rattle.crsm_spec.specs.Types.{Op, Answer, Line, State}
use Rattle.crsm_spec.specs.Acts.{Act}
use Rattle.crsm_law_examples.specs.Words.{replay, request, stamp}
use Rattle.crsm_law_examples.proofs.Opened.{the_model}

abbrev schedule : List Act
schedule =
    Act.One (request 0 100 7 1 (Op.Delete (97 ∷ [])))
    ∷ Act.One (request 0 3 7 2 (Op.Get (97 ∷ [])))
    ∷ []

transcript : replay 1 schedule ≡ Some (
    (Line.Boot 0 1 ∷
    Line.Enter 0 0 ∷ [])
    ∷ (Line.Submit 0 0 100 7 1 ∷
    Line.Exec 0 0 0 (stamp 100 0) 7 1 Answer.Missing ∷
    Line.ReplyOk 0 7 1 0 Answer.Missing ∷ [])
    ∷ (Line.Submit 0 0 101 7 2 ∷
    Line.Exec 0 1 0 (stamp 101 0) 7 2 Answer.Missing ∷
    Line.ReplyOk 0 7 2 1 Answer.Missing ∷ [])
    ∷ (Line.Final 0 State.Live 0 2 ∷ [])
    ∷ [])
unfolding the_model
transcript = refl
