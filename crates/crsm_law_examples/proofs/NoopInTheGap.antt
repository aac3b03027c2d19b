-- A slot that no report names becomes a noop.
use Rattle.std.proofs.Common.{◌≡◌, List, [], ◌∷◌, refl}
use Rattle.std.specs.Prelude.{true, Some}
use Rattle.crsm_spec.specs.Acts.{Act, Single}
use Rattle.crsm_mpspec.specs.declared.MpLine.{MpLine}
use Rattle.crsm_mpspec.specs.declared.MpKind.{MpKind}
use Rattle.crsm_mpspec.specs.Types.{Op, Answer}
use Rattle.crsm_law_examples.specs.LeaderWords.{replay, request}
use Rattle.crsm_law_examples.proofs.LeaderOpened.{the_model}

abbrev schedule : List Act
schedule =
    Act.One (Single.Suspect 0 1 (0 ∷ 1 ∷ 2 ∷ []))
    ∷ Act.Settle 2
    ∷ Act.Settle 3
    ∷ Act.One (request 0 4 7 1 (Op.Put (97 ∷ []) (98 ∷ [])))
    ∷ Act.One (request 0 5 7 2 (Op.Put (97 ∷ []) (99 ∷ [])))
    ∷ Act.Lose 4
    ∷ Act.Lose 5
    ∷ Act.Lose 6
    ∷ Act.One (Single.Go 7 6)
    ∷ Act.Crash 0
    ∷ Act.One (Single.Suspect 2 7 (1 ∷ 2 ∷ []))
    ∷ Act.Settle 8
    ∷ Act.Settle 9
    ∷ Act.Settle 10
    ∷ Act.Settle 11
    ∷ Act.Start 0
    ∷ Act.One (Single.Tick 0 12)
    ∷ Act.Settle 13
    ∷ Act.Settle 14
    ∷ []

transcript : replay 3 schedule ≡ Some (
    (MpLine.Boot 0 1 ∷
    MpLine.Boot 1 1 ∷
    MpLine.Boot 2 1 ∷ [])
    ∷ (MpLine.Promise 0 1 0 ∷
    MpLine.Send 0 0 1 MpKind.Prep ∷
    MpLine.Send 1 0 2 MpKind.Prep ∷ [])
    ∷ (MpLine.Promise 1 1 0 ∷
    MpLine.Send 2 1 0 MpKind.Prom ∷
    MpLine.Promise 2 1 0 ∷
    MpLine.Send 3 2 0 MpKind.Prom ∷ [])
    ∷ []
    ∷ (MpLine.Submit 0 0 1 0 7 1 ∷
    MpLine.Send 4 0 1 MpKind.Acc ∷
    MpLine.Send 5 0 2 MpKind.Acc ∷ [])
    ∷ (MpLine.Submit 0 1 1 0 7 2 ∷
    MpLine.Send 6 0 1 MpKind.Acc ∷
    MpLine.Send 7 0 2 MpKind.Acc ∷ [])
    ∷ []
    ∷ []
    ∷ []
    ∷ (MpLine.Accept 2 1 1 0 ∷
    MpLine.Send 8 2 0 MpKind.Accd ∷ [])
    ∷ (MpLine.Down 0 ∷ [])
    ∷ (MpLine.Promise 2 2 2 ∷
    MpLine.Send 9 2 0 MpKind.Prep ∷
    MpLine.Send 10 2 1 MpKind.Prep ∷ [])
    ∷ (MpLine.Promise 1 2 2 ∷
    MpLine.Send 11 1 2 MpKind.Prom ∷ [])
    ∷ (MpLine.Accept 2 0 2 2 ∷
    MpLine.Accept 2 1 2 2 ∷
    MpLine.Send 12 2 0 MpKind.Acc ∷
    MpLine.Send 13 2 1 MpKind.Acc ∷
    MpLine.Send 14 2 0 MpKind.Acc ∷
    MpLine.Send 15 2 1 MpKind.Acc ∷ [])
    ∷ (MpLine.Accept 1 0 2 2 ∷
    MpLine.Send 16 1 2 MpKind.Accd ∷
    MpLine.Accept 1 1 2 2 ∷
    MpLine.Send 17 1 2 MpKind.Accd ∷ [])
    ∷ (MpLine.Choose 2 0 ∷
    MpLine.ExecNoop 2 0 ∷
    MpLine.Send 18 2 0 MpKind.Learn ∷
    MpLine.Send 19 2 1 MpKind.Learn ∷
    MpLine.Choose 2 1 ∷
    MpLine.Exec 2 1 7 2 Answer.Done ∷
    MpLine.Send 20 2 0 MpKind.Learn ∷
    MpLine.Send 21 2 1 MpKind.Learn ∷ [])
    ∷ (MpLine.Boot 0 2 ∷ [])
    ∷ (MpLine.Send 22 0 1 MpKind.Ask ∷
    MpLine.Send 23 0 2 MpKind.Ask ∷ [])
    ∷ (MpLine.Promise 0 2 2 ∷
    MpLine.Send 24 0 2 MpKind.Prom ∷
    MpLine.Accept 0 0 2 2 ∷
    MpLine.Send 25 0 2 MpKind.Accd ∷
    MpLine.Accept 0 1 2 2 ∷
    MpLine.Send 26 0 2 MpKind.Accd ∷
    MpLine.Choose 0 0 ∷
    MpLine.ExecNoop 0 0 ∷
    MpLine.Choose 1 0 ∷
    MpLine.ExecNoop 1 0 ∷
    MpLine.Choose 0 1 ∷
    MpLine.Exec 0 1 7 2 Answer.Done ∷
    MpLine.Choose 1 1 ∷
    MpLine.Exec 1 1 7 2 Answer.Done ∷
    MpLine.Send 27 1 0 MpKind.Learn ∷
    MpLine.Send 28 1 0 MpKind.Learn ∷
    MpLine.Send 29 2 0 MpKind.Learn ∷
    MpLine.Send 30 2 0 MpKind.Learn ∷ [])
    ∷ []
    ∷ (MpLine.Final 0 true 2 ∷
    MpLine.Final 1 true 2 ∷
    MpLine.Final 2 true 2 ∷ [])
    ∷ [])
unfolding the_model
transcript = refl
