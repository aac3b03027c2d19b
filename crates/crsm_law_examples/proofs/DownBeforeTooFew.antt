-- That a replica is down is reported before that the members are too few.
use Rattle.std.proofs.Common.{◌≡◌, List, [], ◌∷◌, refl}
use Rattle.std.specs.Prelude.{Some}
use Rattle.crsm_spec.specs.Acts.{Act, Single, Bad}
use Rattle.crsm_law_examples.specs.Words.{refused}
use Rattle.crsm_law_examples.proofs.Opened.{the_model}

abbrev schedule : List Act
schedule =
    Act.Crash 1
    ∷ []

cause : refused 3 schedule (Act.One (Single.Suspect 1 5 (0 ∷ []))) ≡ Some Bad.IsDown
unfolding the_model
cause = refl
