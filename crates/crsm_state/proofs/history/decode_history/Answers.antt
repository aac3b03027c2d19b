use Rattle.std.proofs.Common.{sym, ◌∙◌, arith}
use Rattle.crsm_base.proofs.BodyLaws.{above_zero}
use Rattle.crsm_state.proofs.Fields.{head_parses}
use Rattle.crsm_state.proofs.Faults.{begins_with_no, keys_fault, clients_fault, misbegun, goes_on, is_whole}
use Rattle.crsm_state.proofs.history.decode_history.Goals as goal

pub returns-in_default-clause-fault : goal.returns-in_default-clause-fault
returns-in_default-clause-fault c = begins_with_no head_parses c.args.bytes.now (rw c.in_default.is at c.take_head.ensures)

pub returns-in-Err-clause-fault : goal.returns-in-Err-clause-fault
returns-in-Err-clause-fault c =
    keys_fault c.args.bytes.now c.in-Some.rest.now c.in-Some.head c.in-Err.why (λ i. omega (arith, c.type_inv.bytes i)) c.in-Some.ensures c.in-Err.ensures.fault

pub returns-in-Err-decode_clients-clause-fault : goal.returns-in-Err-decode_clients-clause-fault
returns-in-Err-decode_clients-clause-fault c =
    clients_fault c.args.bytes.now c.in-Some.rest.now c.in-Ok.read.1.now c.in-Some.head c.in-Ok.read.0 c.in-Err-decode_clients.why (λ i. omega (arith, c.type_inv.bytes i)) c.in-Some.ensures c.in-Ok.ensures.read c.in-Err-decode_clients.ensures.fault

pub returns-then-not-is_begun-clause-fault : goal.returns-then-not-is_begun-clause-fault
returns-then-not-is_begun-clause-fault c =
    misbegun c.args.bytes.now c.in-Ok-decode_clients.read.1.now c.in-Some.head c.in-Ok.read.0 c.in-Ok-decode_clients.read.0
    (record { behind_head = c.in-Some.rest.now; behind_keys = c.in-Ok.read.1.now; ok = λ i. omega (arith, c.type_inv.bytes i); head_is = c.in-Some.ensures; keys_are = c.in-Ok.ensures.read; clients_are = c.in-Ok-decode_clients.ensures.read })
    (sym c.is_begun.ensures ∙ c.if-not-is_begun.true)

pub returns-then-not-is_empty-clause-fault : goal.returns-then-not-is_empty-clause-fault
returns-then-not-is_empty-clause-fault c =
    goes_on c.args.bytes.now c.in-Ok-decode_clients.read.1.now c.in-Some.head c.in-Ok.read.0 c.in-Ok-decode_clients.read.0
    (record { behind_head = c.in-Some.rest.now; behind_keys = c.in-Ok.read.1.now; ok = λ i. omega (arith, c.type_inv.bytes i); head_is = c.in-Some.ensures; keys_are = c.in-Ok.ensures.read; clients_are = c.in-Ok-decode_clients.ensures.read })
    c.in-Ok.ensures.rise c.in-Ok-decode_clients.ensures.differ (sym c.is_begun.ensures ∙ c.if-not-is_begun.false) (above_zero _ (sym c.if-not-is_empty.true ∙ c.is_empty.ensures))

pub returns-clause-found : goal.returns-clause-found
returns-clause-found c =
    is_whole c.args.bytes.now c.in-Ok-decode_clients.read.1.now c.in-Some.head c.in-Ok.read.0 c.in-Ok-decode_clients.read.0
    (record { behind_head = c.in-Some.rest.now; behind_keys = c.in-Ok.read.1.now; ok = λ i. omega (arith, c.type_inv.bytes i); head_is = c.in-Some.ensures; keys_are = c.in-Ok.ensures.read; clients_are = c.in-Ok-decode_clients.ensures.read })
    c.in-Ok.ensures.rise c.in-Ok-decode_clients.ensures.differ (sym c.is_begun.ensures ∙ c.if-not-is_begun.false) (sym c.if-not-is_empty.false ∙ c.is_empty.ensures)
