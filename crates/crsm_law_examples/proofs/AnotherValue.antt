-- Another value was chosen at the slot of a client's command.
use Rattle.std.proofs.Common.{◌≡◌, List, [], ◌∷◌, refl}
use Rattle.std.specs.Prelude.{true, Some}
use Rattle.crsm_spec.specs.Acts.{Act, Single}
use Rattle.crsm_mpspec.specs.declared.MpLine.{MpLine}
use Rattle.crsm_mpspec.specs.declared.MpKind.{MpKind}
use Rattle.crsm_mpspec.specs.Types.{Op, Answer}
use Rattle.crsm_law_examples.specs.LeaderWords.{replay, request}
use Rattle.crsm_law_examples.proofs.LeaderOpened.{the_model}

abbrev pub schedule : List Act
schedule =
    Act.One (Single.Suspect 0 1 (0 ∷ 1 ∷ 2 ∷ []))
    ∷ Act.Settle 2
    ∷ Act.Settle 3
    ∷ Act.One (request 0 4 7 1 (Op.Put (97 ∷ []) (98 ∷ [])))
    ∷ Act.Lose 4
    ∷ Act.Lose 5
    ∷ Act.One (Single.Suspect 1 5 (0 ∷ 1 ∷ 2 ∷ []))
    ∷ Act.Lose 6
    ∷ Act.Settle 6
    ∷ Act.Settle 7
    ∷ Act.One (request 1 8 9 1 (Op.Put (97 ∷ []) (99 ∷ [])))
    ∷ Act.Lose 9
    ∷ Act.Settle 9
    ∷ Act.Settle 10
    ∷ Act.Settle 11
    ∷ Act.One (Single.Tick 0 12)
    ∷ Act.Settle 13
    ∷ Act.Settle 14
    ∷ []

transcript : replay 3 schedule ≡ Some (
    (MpLine.Boot 0 1 ∷
    MpLine.Boot 1 1 ∷
    MpLine.Boot 2 1 ∷ [])
    ∷ (MpLine.Promise 0 1 0 ∷
    MpLine.Send 0 0 1 MpKind.Prep ∷
    MpLine.Send 1 0 2 MpKind.Prep ∷ [])
    ∷ (MpLine.Promise 1 1 0 ∷
    MpLine.Send 2 1 0 MpKind.Prom ∷
    MpLine.Promise 2 1 0 ∷
    MpLine.Send 3 2 0 MpKind.Prom ∷ [])
    ∷ []
    ∷ (MpLine.Submit 0 0 1 0 7 1 ∷
    MpLine.Send 4 0 1 MpKind.Acc ∷
    MpLine.Send 5 0 2 MpKind.Acc ∷ [])
    ∷ []
    ∷ []
    ∷ (MpLine.Promise 1 2 1 ∷
    MpLine.Send 6 1 0 MpKind.Prep ∷
    MpLine.Send 7 1 2 MpKind.Prep ∷ [])
    ∷ []
    ∷ (MpLine.Promise 2 2 1 ∷
    MpLine.Send 8 2 1 MpKind.Prom ∷ [])
    ∷ []
    ∷ (MpLine.Submit 1 0 2 1 9 1 ∷
    MpLine.Send 9 1 0 MpKind.Acc ∷
    MpLine.Send 10 1 2 MpKind.Acc ∷ [])
    ∷ []
    ∷ (MpLine.Accept 2 0 2 1 ∷
    MpLine.Send 11 2 1 MpKind.Accd ∷ [])
    ∷ (MpLine.Choose 1 0 ∷
    MpLine.Exec 1 0 9 1 Answer.Done ∷
    MpLine.Send 12 1 0 MpKind.Learn ∷
    MpLine.Send 13 1 2 MpKind.Learn ∷
    MpLine.ReplyOk 1 9 1 0 Answer.Done ∷ [])
    ∷ (MpLine.Choose 0 0 ∷
    MpLine.Exec 0 0 9 1 Answer.Done ∷
    MpLine.ReplyDropped 0 7 1 0 ∷
    MpLine.Choose 2 0 ∷
    MpLine.Exec 2 0 9 1 Answer.Done ∷ [])
    ∷ (MpLine.Send 14 0 1 MpKind.Ask ∷
    MpLine.Send 15 0 2 MpKind.Ask ∷ [])
    ∷ []
    ∷ []
    ∷ (MpLine.Final 0 true 1 ∷
    MpLine.Final 1 true 1 ∷
    MpLine.Final 2 true 1 ∷ [])
    ∷ [])
unfolding the_model
transcript = refl
