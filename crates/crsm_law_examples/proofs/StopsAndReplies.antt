-- Stops of steps that have a reply and no send.
use Rattle.std.proofs.Common.{◌≡◌, List, [], ◌∷◌, refl}
use Rattle.std.specs.Prelude.{Some}
use Rattle.crsm_spec.specs.Types.{Op, Answer, Line, State}
use Rattle.crsm_spec.specs.Acts.{Act, Single}
use Rattle.crsm_law_examples.specs.Words.{replay, request, stamp}
use Rattle.crsm_law_examples.proofs.Opened.{the_model}

abbrev schedule : List Act
schedule =
    Act.CutKept 0 (request 0 5 7 1 (Op.Put (97 ∷ []) (98 ∷ [])))
    ∷ Act.Start 0
    ∷ Act.One (Single.Suspect 0 6 (0 ∷ []))
    ∷ Act.CutKept 1 (request 0 7 7 1 (Op.Put (97 ∷ []) (98 ∷ [])))
    ∷ Act.Start 0
    ∷ []

transcript : replay 1 schedule ≡ Some (
    (Line.Boot 0 1 ∷
    Line.Enter 0 0 ∷ [])
    ∷ (Line.Submit 0 0 5 7 1 ∷
    Line.Exec 0 0 0 (stamp 5 0) 7 1 Answer.Done ∷
    Line.Down 0 ∷ [])
    ∷ (Line.Boot 0 2 ∷ [])
    ∷ (Line.Suspend 0 0 ∷
    Line.Promise 0 1 1 0 ∷
    Line.Accept 0 1 1 0 ∷
    Line.Decide 0 1 (0 ∷ []) 1 0 ∷
    Line.Enter 0 1 ∷ [])
    ∷ (Line.Submit 0 1 7 7 1 ∷
    Line.Exec 0 1 1 (stamp 7 0) 7 1 Answer.Done ∷
    Line.ReplyOk 0 7 1 1 Answer.Done ∷
    Line.Down 0 ∷ [])
    ∷ (Line.Boot 0 3 ∷ [])
    ∷ (Line.Final 0 State.Out 1 2 ∷ [])
    ∷ [])
unfolding the_model
transcript = refl
