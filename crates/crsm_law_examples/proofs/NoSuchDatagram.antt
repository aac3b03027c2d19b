-- A datagram that was not sent cannot be delivered.
use Rattle.std.proofs.Common.{◌≡◌, List, [], refl}
use Rattle.std.specs.Prelude.{Some}
use Rattle.crsm_spec.specs.Acts.{Act, Single, Bad}
use Rattle.crsm_law_examples.specs.Words.{refused}
use Rattle.crsm_law_examples.proofs.Opened.{the_model}

abbrev schedule : List Act
schedule = []

cause : refused 2 schedule (Act.One (Single.Go 0 5)) ≡ Some Bad.NoSuchDatagram
unfolding the_model
cause = refl
