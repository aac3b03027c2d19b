-- Datagrams to different receivers cannot be delivered together.
use Rattle.std.proofs.Common.{◌≡◌, List, [], ◌∷◌, refl}
use Rattle.std.specs.Prelude.{Some}
use Rattle.crsm_spec.specs.Types.{Op}
use Rattle.crsm_spec.specs.Acts.{Act, Bad}
use Rattle.crsm_law_examples.specs.Words.{refused, request}
use Rattle.crsm_law_examples.proofs.Opened.{the_model}

abbrev schedule : List Act
schedule =
    Act.One (request 0 5 7 1 (Op.Get (97 ∷ [])))
    ∷ []

cause : refused 3 schedule (Act.Batch 9 (0 ∷ 1 ∷ [])) ≡ Some Bad.Mixed
unfolding the_model
cause = refl
