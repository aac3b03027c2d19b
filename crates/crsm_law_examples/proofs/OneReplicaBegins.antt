-- A cluster of one replica, before anything happens.
use Rattle.std.proofs.Common.{◌≡◌, List, [], ◌∷◌, refl}
use Rattle.std.specs.Prelude.{Some}
use Rattle.crsm_spec.specs.Types.{Line, State}
use Rattle.crsm_spec.specs.Acts.{Act}
use Rattle.crsm_law_examples.specs.Words.{replay}
use Rattle.crsm_law_examples.proofs.Opened.{the_model}

abbrev schedule : List Act
schedule = []

transcript : replay 1 schedule ≡ Some (
    (Line.Boot 0 1 ∷
    Line.Enter 0 0 ∷ [])
    ∷ (Line.Final 0 State.Live 0 0 ∷ [])
    ∷ [])
unfolding the_model
transcript = refl
