-- A replica that is up cannot start.
use Rattle.std.proofs.Common.{◌≡◌, List, [], refl}
use Rattle.std.specs.Prelude.{Some}
use Rattle.crsm_spec.specs.Acts.{Act, Bad}
use Rattle.crsm_law_examples.specs.Words.{refused}
use Rattle.crsm_law_examples.proofs.Opened.{the_model}

abbrev schedule : List Act
schedule = []

cause : refused 2 schedule (Act.Start 1) ≡ Some Bad.IsUp
unfolding the_model
cause = refl
