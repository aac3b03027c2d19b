-- Members that are fewer than a majority are refused.
use Rattle.std.proofs.Common.{◌≡◌, List, [], ◌∷◌, refl}
use Rattle.std.specs.Prelude.{Some}
use Rattle.crsm_spec.specs.Acts.{Act, Single, Bad}
use Rattle.crsm_law_examples.specs.Words.{refused}
use Rattle.crsm_law_examples.proofs.Opened.{the_model}

abbrev schedule : List Act
schedule = []

cause : refused 3 schedule (Act.One (Single.Suspect 0 5 (0 ∷ []))) ≡ Some Bad.TooFew
unfolding the_model
cause = refl
