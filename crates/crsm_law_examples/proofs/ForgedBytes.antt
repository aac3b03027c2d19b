-- Bytes that are a datagram are refused as junk.
use Rattle.std.proofs.Common.{◌≡◌, List, [], ◌∷◌, refl}
use Rattle.std.specs.Prelude.{Some}
use Rattle.crsm_spec.specs.Acts.{Act, Single, Bad}
use Rattle.crsm_law_examples.specs.Words.{refused}
use Rattle.crsm_law_examples.proofs.Opened.{the_model}

abbrev schedule : List Act
schedule = []

cause : refused 1 schedule (Act.One (Single.Junk 0 5 (6 ∷ 2 ∷ 0 ∷ 1 ∷ []))) ≡ Some Bad.Forged
unfolding the_model
cause = refl
