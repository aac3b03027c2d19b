-- The times issued at a list of readings.
use Rattle.std.specs.Prelude.{ℕ, List, [], ◌∷◌}
use Rattle.std.specs.Option.{option_map_or}
use Rattle.crsm_spec.specs.Clock.{issue}

-- the times issued after `last` at these readings, up to the first reading at which none is
unfoldable pub issued_from : ℕ → List ℕ → List ℕ
issued_from last [] = []
issued_from last (reading ∷ readings) = option_map_or (λ time. time ∷ issued_from time readings) (issue last reading) []
