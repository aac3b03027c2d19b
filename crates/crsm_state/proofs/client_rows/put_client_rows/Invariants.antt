use Rattle.std.proofs.Common.{◌≡◌, ◌++◌, take}
use Rattle.std.specs.List.{flat_map}
use Rattle.crsm_state.specs.Rows.{client_row_bytes}
use Rattle.crsm_state.proofs.client_rows.put_client_rows.Given as goal

abbrev pub invariant-loop-row : goal.invariant-loop-row
invariant-loop-row l = l.out ≡ l.initial.out ++ flat_map client_row_bytes (take l.row-index l.items)
