-- A datagram that was lost together with another cannot be delivered.
use Rattle.std.proofs.Common.{◌≡◌, List, [], ◌∷◌, refl}
use Rattle.std.specs.Prelude.{Some}
use Rattle.crsm_spec.specs.Types.{Op}
use Rattle.crsm_spec.specs.Acts.{Act, Single, Bad}
use Rattle.crsm_law_examples.specs.Words.{refused, request}
use Rattle.crsm_law_examples.proofs.Opened.{the_model}

abbrev schedule : List Act
schedule =
    Act.One (request 0 5 7 1 (Op.Put (97 ∷ []) (98 ∷ [])))
    ∷ Act.One (request 0 6 7 2 (Op.Get (97 ∷ [])))
    ∷ Act.CutLostBatch 20 (0 ∷ 1 ∷ [])
    ∷ []

cause : refused 2 schedule (Act.One (Single.Go 1 21)) ≡ Some Bad.Used
unfolding the_model
cause = refl
