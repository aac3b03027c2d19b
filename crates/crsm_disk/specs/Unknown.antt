-- A disk that specifies its fault counter and what it renewed, and nothing else.
use Rattle.std.specs.Prelude.{ℕ, [], false, Option, None}
use mathlib.Core.Bool.{false≢true}
use Rattle.crsm_disk.specs.Meaning.{Meaning}
use Rattle.crsm_port_image.proofs.Images.{not_told}

abbrev pub unknown : ℕ → Option ℕ → Meaning
unknown faults renewed = record {
  seen = [];
  honest = false;
  may_leave = λ c. ⊥;
  moment = 0;
  left_since = λ t c. ⊥;
  history = None;
  plan = None;
  fill = None;
  faults = faults;
  renewed = renewed;
  borrowed_as = None;
  as_read = false≢true;
  as_told = not_told;
  counts_now = λ t c le left. left;
  only_now = λ c left. left;
}
