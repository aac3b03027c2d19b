-- The last clock value is issued; a new epoch begins a new clock.
use Rattle.std.proofs.Common.{◌≡◌, List, [], ◌∷◌, refl}
use Rattle.std.specs.Prelude.{Some}
use Rattle.crsm_spec.specs.Types.{Op, Answer, Line, State}
use Rattle.crsm_spec.specs.Acts.{Act, Single}
use Rattle.crsm_law_examples.specs.Words.{replay, request, stamp}
use Rattle.crsm_law_examples.proofs.Opened.{the_model}

abbrev schedule : List Act
schedule =
    Act.One (request 0 18446744073709551615 7 1 (Op.Put (97 ∷ []) (1 ∷ [])))
    ∷ Act.One (request 0 1 7 2 (Op.Get (97 ∷ [])))
    ∷ Act.One (Single.Suspect 0 1 (0 ∷ []))
    ∷ Act.One (request 0 1 7 2 (Op.Get (97 ∷ [])))
    ∷ []

transcript : replay 1 schedule ≡ Some (
    (Line.Boot 0 1 ∷
    Line.Enter 0 0 ∷ [])
    ∷ (Line.Submit 0 0 18446744073709551615 7 1 ∷
    Line.Exec 0 0 0 (stamp 18446744073709551615 0) 7 1 Answer.Done ∷
    Line.ReplyOk 0 7 1 0 Answer.Done ∷ [])
    ∷ (Line.ReplyNo 0 7 2 5 ∷ [])
    ∷ (Line.Suspend 0 0 ∷
    Line.Promise 0 1 1 0 ∷
    Line.Accept 0 1 1 0 ∷
    Line.Decide 0 1 (0 ∷ []) 1 0 ∷
    Line.Enter 0 1 ∷ [])
    ∷ (Line.Submit 0 1 1 7 2 ∷
    Line.Exec 0 1 1 (stamp 1 0) 7 2 (Answer.Found (1 ∷ [])) ∷
    Line.ReplyOk 0 7 2 1 (Answer.Found (1 ∷ [])) ∷ [])
    ∷ (Line.Final 0 State.Live 1 2 ∷ [])
    ∷ [])
unfolding the_model
transcript = refl
