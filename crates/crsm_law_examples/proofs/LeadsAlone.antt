-- One replica leads at once, and executes a command in the step that submits it.
use Rattle.std.proofs.Common.{◌≡◌, List, [], ◌∷◌, refl}
use Rattle.std.specs.Prelude.{true, Some}
use Rattle.crsm_spec.specs.Acts.{Act, Single}
use Rattle.crsm_mpspec.specs.declared.MpLine.{MpLine}
use Rattle.crsm_mpspec.specs.Types.{Op, Answer}
use Rattle.crsm_law_examples.specs.LeaderWords.{replay, request}
use Rattle.crsm_law_examples.proofs.LeaderOpened.{the_model}

abbrev schedule : List Act
schedule =
    Act.One (Single.Suspect 0 5 (0 ∷ []))
    ∷ Act.One (request 0 6 7 1 (Op.Put (97 ∷ []) (98 ∷ [])))
    ∷ []

transcript : replay 1 schedule ≡ Some (
    (MpLine.Boot 0 1 ∷ [])
    ∷ (MpLine.Promise 0 1 0 ∷ [])
    ∷ (MpLine.Submit 0 0 1 0 7 1 ∷
    MpLine.Choose 0 0 ∷
    MpLine.Exec 0 0 7 1 Answer.Done ∷
    MpLine.ReplyOk 0 7 1 0 Answer.Done ∷ [])
    ∷ (MpLine.Final 0 true 1 ∷ [])
    ∷ [])
unfolding the_model
transcript = refl
