-- Steps that stop before and after their records are kept.
use Rattle.std.proofs.Common.{◌≡◌, List, [], ◌∷◌, refl}
use Rattle.std.specs.Prelude.{true, Some}
use Rattle.crsm_spec.specs.Acts.{Act, Single}
use Rattle.crsm_mpspec.specs.declared.MpLine.{MpLine}
use Rattle.crsm_mpspec.specs.declared.MpKind.{MpKind}
use Rattle.crsm_mpspec.specs.Types.{Op, Answer}
use Rattle.crsm_law_examples.specs.LeaderWords.{replay, request}
use Rattle.crsm_law_examples.proofs.LeaderOpened.{the_model}

abbrev schedule : List Act
schedule =
    Act.One (Single.Suspect 0 1 (0 ∷ 1 ∷ 2 ∷ []))
    ∷ Act.Settle 2
    ∷ Act.Settle 3
    ∷ Act.CutKept 0 (request 0 4 7 1 (Op.Put (97 ∷ []) (98 ∷ [])))
    ∷ Act.Start 0
    ∷ Act.One (Single.Suspect 0 5 (0 ∷ 1 ∷ 2 ∷ []))
    ∷ Act.Settle 6
    ∷ Act.Settle 7
    ∷ Act.Settle 8
    ∷ Act.Settle 9
    ∷ Act.CutLost (Single.Tick 1 10)
    ∷ Act.Start 1
    ∷ Act.One (Single.Tick 1 11)
    ∷ Act.Settle 12
    ∷ Act.Settle 13
    ∷ []

transcript : replay 3 schedule ≡ Some (
    (MpLine.Boot 0 1 ∷
    MpLine.Boot 1 1 ∷
    MpLine.Boot 2 1 ∷ [])
    ∷ (MpLine.Promise 0 1 0 ∷
    MpLine.Send 0 0 1 MpKind.Prep ∷
    MpLine.Send 1 0 2 MpKind.Prep ∷ [])
    ∷ (MpLine.Promise 1 1 0 ∷
    MpLine.Send 2 1 0 MpKind.Prom ∷
    MpLine.Promise 2 1 0 ∷
    MpLine.Send 3 2 0 MpKind.Prom ∷ [])
    ∷ []
    ∷ (MpLine.Submit 0 0 1 0 7 1 ∷
    MpLine.Down 0 ∷ [])
    ∷ (MpLine.Boot 0 2 ∷ [])
    ∷ (MpLine.Promise 0 2 0 ∷
    MpLine.Send 4 0 1 MpKind.Prep ∷
    MpLine.Send 5 0 2 MpKind.Prep ∷ [])
    ∷ (MpLine.Promise 1 2 0 ∷
    MpLine.Send 6 1 0 MpKind.Prom ∷
    MpLine.Promise 2 2 0 ∷
    MpLine.Send 7 2 0 MpKind.Prom ∷ [])
    ∷ (MpLine.Accept 0 0 2 0 ∷
    MpLine.Send 8 0 1 MpKind.Acc ∷
    MpLine.Send 9 0 2 MpKind.Acc ∷ [])
    ∷ (MpLine.Accept 1 0 2 0 ∷
    MpLine.Send 10 1 0 MpKind.Accd ∷
    MpLine.Accept 2 0 2 0 ∷
    MpLine.Send 11 2 0 MpKind.Accd ∷ [])
    ∷ (MpLine.Choose 0 0 ∷
    MpLine.Exec 0 0 7 1 Answer.Done ∷
    MpLine.Send 12 0 1 MpKind.Learn ∷
    MpLine.Send 13 0 2 MpKind.Learn ∷ [])
    ∷ (MpLine.Down 1 ∷ [])
    ∷ (MpLine.Boot 1 2 ∷ [])
    ∷ (MpLine.Send 14 1 0 MpKind.Ask ∷
    MpLine.Send 15 1 2 MpKind.Ask ∷ [])
    ∷ (MpLine.Choose 1 0 ∷
    MpLine.Exec 1 0 7 1 Answer.Done ∷
    MpLine.Choose 2 0 ∷
    MpLine.Exec 2 0 7 1 Answer.Done ∷
    MpLine.Send 16 0 1 MpKind.Learn ∷
    MpLine.Send 17 2 1 MpKind.Learn ∷ [])
    ∷ []
    ∷ (MpLine.Final 0 true 1 ∷
    MpLine.Final 1 true 1 ∷
    MpLine.Final 2 true 1 ∷ [])
    ∷ [])
unfolding the_model
transcript = refl
