-- A stop in a step that has no records.
use Rattle.std.proofs.Common.{◌≡◌, List, [], ◌∷◌, refl}
use Rattle.std.specs.Prelude.{Some}
use Rattle.crsm_spec.specs.Types.{Line, State}
use Rattle.crsm_spec.specs.Acts.{Act, Single}
use Rattle.crsm_law_examples.specs.Words.{replay}
use Rattle.crsm_law_examples.proofs.Opened.{the_model}

abbrev schedule : List Act
schedule =
    Act.CutAt 4 0 (Single.Tick 0 5)
    ∷ Act.Start 0
    ∷ Act.CutAt 3 1 (Single.Junk 0 5 (255 ∷ []))
    ∷ Act.Start 0
    ∷ Act.CutLost (Single.Junk 0 5 (255 ∷ []))
    ∷ Act.Start 0
    ∷ Act.CutKept 3 (Single.Junk 0 5 (255 ∷ []))
    ∷ []

transcript : replay 1 schedule ≡ Some (
    (Line.Boot 0 1 ∷
    Line.Enter 0 0 ∷ [])
    ∷ (Line.Down 0 ∷ [])
    ∷ (Line.Boot 0 2 ∷ [])
    ∷ (Line.Down 0 ∷ [])
    ∷ (Line.Boot 0 3 ∷ [])
    ∷ (Line.Down 0 ∷ [])
    ∷ (Line.Boot 0 4 ∷ [])
    ∷ (Line.Down 0 ∷ [])
    ∷ (Line.Final 0 State.Down 0 0 ∷ [])
    ∷ [])
unfolding the_model
transcript = refl
