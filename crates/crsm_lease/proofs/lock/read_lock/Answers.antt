use Rattle.std.proofs.Common.{arith, sym, ◌∙◌}
use Rattle.crsm_lease.proofs.Values.{read_found, read_only, read_none}
use Rattle.crsm_lease.proofs.lock.read_lock.Goals as goal

pub returns-in_err-state-clause-only : goal.returns-in_err-state-clause-only
returns-in_err-state-clause-only c = λ lock s. absurd (read_none c.args.value.now (sym c.in_err-state.was ∙ c.take_fields.ensures) lock s)

pub returns-clause-found : goal.returns-clause-found
returns-clause-found c =
    read_found c.args.value.now (c.in_ok-state.state, c.in_ok-state.fence, c.in_ok-state.owner) (λ i. omega (arith, c.type_inv.value i))
    (sym c.in_ok-state.was ∙ c.take_fields.ensures) c.lock_of_fields.result c.lock_of_fields.ensures

pub returns-clause-only : goal.returns-clause-only
returns-clause-only c = λ lock s.
    read_only c.args.value.now (c.in_ok-state.state, c.in_ok-state.fence, c.in_ok-state.owner)
    (sym c.in_ok-state.was ∙ c.take_fields.ensures) c.lock_of_fields.result c.lock_of_fields.ensures lock s
