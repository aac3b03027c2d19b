-- A datagram cannot be delivered once more before it was delivered.
use Rattle.std.proofs.Common.{◌≡◌, List, [], ◌∷◌, refl}
use Rattle.std.specs.Prelude.{Some}
use Rattle.crsm_spec.specs.Types.{Op}
use Rattle.crsm_spec.specs.Acts.{Act, Single, Bad}
use Rattle.crsm_law_examples.specs.Words.{refused, request}
use Rattle.crsm_law_examples.proofs.Opened.{the_model}

abbrev schedule : List Act
schedule =
    Act.One (request 0 5 7 1 (Op.Get (97 ∷ [])))
    ∷ []

cause : refused 2 schedule (Act.One (Single.Again 0 6)) ≡ Some Bad.Fresh
unfolding the_model
cause = refl
