use Rattle.std.proofs.Common.{◌≡◌, false, arith}
use Rattle.crsm_state.specs.Rows.{clients_differ}
use Rattle.crsm_state.proofs.Fields.{client_rows_parse}
use Rattle.crsm_state.proofs.Faults.{begins, begins_with_no}
use Rattle.crsm_state.proofs.client_rows.decode_clients.Goals as goal

pub returns-in_default-taken-clause-fault : goal.returns-in_default-taken-clause-fault
returns-in_default-taken-clause-fault c = begins_with_no client_rows_parse c.args.bytes.now (rw c.in_default-taken.is at c.in-Ok.ensures)

pub returns-then-not-differ-clause-fault : goal.returns-then-not-differ-clause-fault
returns-then-not-differ-clause-fault c =
    begins client_rows_parse c.args.bytes.now c.in-Some.rows c.in-Some.rest.now (λ i. omega (arith, c.type_inv.bytes i)) (rw c.in-Some.is at c.in-Ok.ensures) (λ clients rest. clients_differ clients ≡ false) (grind (arith, c.in-Ok-clients_differ.ensures, c.as_slice.ensures, c.if-not-differ.true))
