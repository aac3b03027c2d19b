-- That a member does not exist is reported before that a replica is down.
use Rattle.std.proofs.Common.{◌≡◌, List, [], ◌∷◌, refl}
use Rattle.std.specs.Prelude.{Some}
use Rattle.crsm_spec.specs.Acts.{Act, Single, Bad}
use Rattle.crsm_law_examples.specs.Words.{refused}
use Rattle.crsm_law_examples.proofs.Opened.{the_model}

abbrev schedule : List Act
schedule =
    Act.Crash 1
    ∷ []

cause : refused 2 schedule (Act.One (Single.Suspect 1 5 (0 ∷ 9 ∷ []))) ≡ Some Bad.NoSuchReplica
unfolding the_model
cause = refl
