-- A datagram cannot be delivered to a replica that is down.
use Rattle.std.proofs.Common.{◌≡◌, List, [], ◌∷◌, refl}
use Rattle.std.specs.Prelude.{Some}
use Rattle.crsm_spec.specs.Types.{Op}
use Rattle.crsm_spec.specs.Acts.{Act, Single, Bad}
use Rattle.crsm_law_examples.specs.Words.{refused, request}
use Rattle.crsm_law_examples.proofs.Opened.{the_model}

abbrev schedule : List Act
schedule =
    Act.One (request 0 5 7 1 (Op.Get (97 ∷ [])))
    ∷ Act.Crash 1
    ∷ []

cause : refused 2 schedule (Act.One (Single.Go 0 6)) ≡ Some Bad.IsDown
unfolding the_model
cause = refl
