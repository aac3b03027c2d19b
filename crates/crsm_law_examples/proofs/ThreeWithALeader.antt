-- A leader of three: promises and votes, and the others learn the chosen value.
use Rattle.std.proofs.Common.{◌≡◌, List, [], ◌∷◌, refl}
use Rattle.std.specs.Prelude.{true, Some}
use Rattle.crsm_spec.specs.Acts.{Act, Single}
use Rattle.crsm_mpspec.specs.declared.MpLine.{MpLine}
use Rattle.crsm_mpspec.specs.declared.MpKind.{MpKind}
use Rattle.crsm_mpspec.specs.Types.{Op, Answer}
use Rattle.crsm_law_examples.specs.LeaderWords.{replay, request}
use Rattle.crsm_law_examples.proofs.LeaderOpened.{the_model}

abbrev schedule : List Act
schedule =
    Act.One (Single.Suspect 0 5 (0 ∷ 1 ∷ 2 ∷ []))
    ∷ Act.Settle 6
    ∷ Act.Settle 7
    ∷ Act.One (request 0 8 7 1 (Op.Put (97 ∷ []) (98 ∷ [])))
    ∷ Act.Settle 9
    ∷ Act.Settle 10
    ∷ Act.Settle 11
    ∷ []

transcript : replay 3 schedule ≡ Some (
    (MpLine.Boot 0 1 ∷
    MpLine.Boot 1 1 ∷
    MpLine.Boot 2 1 ∷ [])
    ∷ (MpLine.Promise 0 1 0 ∷
    MpLine.Send 0 0 1 MpKind.Prep ∷
    MpLine.Send 1 0 2 MpKind.Prep ∷ [])
    ∷ (MpLine.Promise 1 1 0 ∷
    MpLine.Send 2 1 0 MpKind.Prom ∷
    MpLine.Promise 2 1 0 ∷
    MpLine.Send 3 2 0 MpKind.Prom ∷ [])
    ∷ []
    ∷ (MpLine.Submit 0 0 1 0 7 1 ∷
    MpLine.Send 4 0 1 MpKind.Acc ∷
    MpLine.Send 5 0 2 MpKind.Acc ∷ [])
    ∷ (MpLine.Accept 1 0 1 0 ∷
    MpLine.Send 6 1 0 MpKind.Accd ∷
    MpLine.Accept 2 0 1 0 ∷
    MpLine.Send 7 2 0 MpKind.Accd ∷ [])
    ∷ (MpLine.Choose 0 0 ∷
    MpLine.Exec 0 0 7 1 Answer.Done ∷
    MpLine.Send 8 0 1 MpKind.Learn ∷
    MpLine.Send 9 0 2 MpKind.Learn ∷
    MpLine.ReplyOk 0 7 1 0 Answer.Done ∷ [])
    ∷ (MpLine.Choose 1 0 ∷
    MpLine.Exec 1 0 7 1 Answer.Done ∷
    MpLine.Choose 2 0 ∷
    MpLine.Exec 2 0 7 1 Answer.Done ∷ [])
    ∷ (MpLine.Final 0 true 1 ∷
    MpLine.Final 1 true 1 ∷
    MpLine.Final 2 true 1 ∷ [])
    ∷ [])
unfolding the_model
transcript = refl
