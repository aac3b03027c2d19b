-- The page of executed entries from an index on.
use Rattle.std.specs.Prelude.{ℕ, nat_lt, if◌then◌else◌, length, Option, Some, None}
use Rattle.crsm_spec.specs.Types.{Control}
use Rattle.crsm_spec.specs.Log.{Log, executed}
use Rattle.crsm_spec.specs.Controls.{page_from}

-- there is one where the place is executed
unfoldable pub page_at : Log → ℕ → Option Control
page_at log from = if nat_lt from (length (executed log)) then Some (page_from log from) else None
