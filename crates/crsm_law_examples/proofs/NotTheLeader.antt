-- A replica that does not lead takes no command.
use Rattle.std.proofs.Common.{◌≡◌, List, [], ◌∷◌, refl}
use Rattle.std.specs.Prelude.{true, Some}
use Rattle.crsm_spec.specs.Acts.{Act, Single}
use Rattle.crsm_mpspec.specs.declared.MpLine.{MpLine}
use Rattle.crsm_mpspec.specs.declared.MpKind.{MpKind}
use Rattle.crsm_mpspec.specs.Types.{Op}
use Rattle.crsm_law_examples.specs.LeaderWords.{replay, request}
use Rattle.crsm_law_examples.proofs.LeaderOpened.{the_model}

abbrev schedule : List Act
schedule =
    Act.One (Single.Suspect 0 5 (0 ∷ 1 ∷ 2 ∷ []))
    ∷ Act.Settle 6
    ∷ Act.Settle 7
    ∷ Act.One (request 1 8 7 1 (Op.Put (97 ∷ []) (98 ∷ [])))
    ∷ Act.Settle 9
    ∷ Act.Settle 10
    ∷ Act.Settle 11
    ∷ []

transcript : replay 3 schedule ≡ Some (
    (MpLine.Boot 0 1 ∷
    MpLine.Boot 1 1 ∷
    MpLine.Boot 2 1 ∷ [])
    ∷ (MpLine.Promise 0 1 0 ∷
    MpLine.Send 0 0 1 MpKind.Prep ∷
    MpLine.Send 1 0 2 MpKind.Prep ∷ [])
    ∷ (MpLine.Promise 1 1 0 ∷
    MpLine.Send 2 1 0 MpKind.Prom ∷
    MpLine.Promise 2 1 0 ∷
    MpLine.Send 3 2 0 MpKind.Prom ∷ [])
    ∷ []
    ∷ (MpLine.ReplyNo 1 7 1 1 ∷ [])
    ∷ []
    ∷ []
    ∷ []
    ∷ (MpLine.Final 0 true 0 ∷
    MpLine.Final 1 true 0 ∷
    MpLine.Final 2 true 0 ∷ [])
    ∷ [])
unfolding the_model
transcript = refl
