use Rattle.std.proofs.Common.{◌≡◌, false, arith}
use Rattle.crsm_state.specs.Rows.{keys_rise}
use Rattle.crsm_state.proofs.Fields.{key_rows_parse}
use Rattle.crsm_state.proofs.Faults.{begins, begins_with_no}
use Rattle.crsm_state.proofs.key_rows.decode_keys.Goals as goal

pub returns-in_default-taken-clause-fault : goal.returns-in_default-taken-clause-fault
returns-in_default-taken-clause-fault c = begins_with_no key_rows_parse c.args.bytes.now (rw c.in_default-taken.is at c.in-Ok.ensures)

pub returns-then-not-keys_rise-clause-fault : goal.returns-then-not-keys_rise-clause-fault
returns-then-not-keys_rise-clause-fault c =
    begins key_rows_parse c.args.bytes.now c.in-Some.rows c.in-Some.rest.now (λ i. omega (arith, c.type_inv.bytes i)) (rw c.in-Some.is at c.in-Ok.ensures) (λ keys rest. keys_rise keys ≡ false) (grind (arith, c.keys_rise.ensures, c.as_slice.ensures, c.if-not-keys_rise.true))
