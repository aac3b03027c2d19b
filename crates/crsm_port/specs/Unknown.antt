-- The model of a socket, which specifies its counters and nothing else.
use Rattle.std.specs.Prelude.{ℕ, None}
use Rattle.crsm_port.specs.Meaning.{Meaning, plain}

abbrev pub unknown : ℕ → ℕ → ℕ → Meaning
unknown faults losses empties = record {
  traffic = None;
  framing = plain;
  plan = None;
  faults = faults;
  losses = losses;
  empties = empties;
  too_long = 0;
  borrowed_as = None;
}
