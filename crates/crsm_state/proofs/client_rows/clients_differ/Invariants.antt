use Rattle.std.proofs.Common.{◌≡◌, drop}
use Rattle.std.specs.HashSet.{contains}
use Rattle.std.specs.Prelude.{nat_eq}
use Rattle.crsm_state.specs.Rows.{clients_differ}
use Rattle.crsm_state.proofs.Differ.{differ_beside}
use Rattle.crsm_state.proofs.client_rows.clients_differ.Given as goal

abbrev pub invariant-loop-row : goal.invariant-loop-row
invariant-loop-row l = differ_beside (contains nat_eq l.seen) (drop l.row-index l.rows) ≡ clients_differ l.rows
