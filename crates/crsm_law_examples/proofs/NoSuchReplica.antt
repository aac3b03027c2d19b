-- A replica that does not exist cannot crash.
use Rattle.std.proofs.Common.{◌≡◌, List, [], refl}
use Rattle.std.specs.Prelude.{Some}
use Rattle.crsm_spec.specs.Acts.{Act, Bad}
use Rattle.crsm_law_examples.specs.Words.{refused}
use Rattle.crsm_law_examples.proofs.Opened.{the_model}

abbrev schedule : List Act
schedule = []

cause : refused 2 schedule (Act.Crash 2) ≡ Some Bad.NoSuchReplica
unfolding the_model
cause = refl
