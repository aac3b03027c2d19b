-- Datagrams that were not sent cannot be lost together.
use Rattle.std.proofs.Common.{◌≡◌, List, [], ◌∷◌, refl}
use Rattle.std.specs.Prelude.{Some}
use Rattle.crsm_spec.specs.Acts.{Act, Bad}
use Rattle.crsm_law_examples.specs.Words.{refused}
use Rattle.crsm_law_examples.proofs.Opened.{the_model}

abbrev schedule : List Act
schedule = []

cause : refused 2 schedule (Act.CutLostBatch 5 (7 ∷ 8 ∷ [])) ≡ Some Bad.NoSuchDatagram
unfolding the_model
cause = refl
