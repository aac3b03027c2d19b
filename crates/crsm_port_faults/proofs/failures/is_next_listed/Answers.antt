use Rattle.std.proofs.Common.{arith}
use Rattle.crsm_port_faults.proofs.Good.{saturated, on_no, on_yes}
use Rattle.crsm_port_faults.proofs.failures.is_next_listed.Goals as goal

pub returns-then-calls-eq18446744073709551615-clause-well : goal.returns-then-calls-eq18446744073709551615-clause-well
returns-then-calls-eq18446744073709551615-clause-well c = saturated c.args.listed.now c.args.calls.now (omega arith)

pub returns-clause-well : goal.returns-clause-well
returns-clause-well c = on_no c.args.listed.now c.args.calls.now c.contains.result c.contains.ensures.value

pub returns-clause-ill : goal.returns-clause-ill
returns-clause-ill c = on_yes c.args.listed.now c.args.calls.now c.contains.result (omega arith) c.contains.ensures.value
