use Rattle.std.proofs.Common.{inl, inr}
use Rattle.crsm_port_flow.proofs.Keepings.{no_clients}
use Rattle.crsm_port_flow.proofs.inbound.Inbound.new.Goals as goal

pub returns-clause-kept : goal.returns-clause-kept
returns-clause-kept c = λ a b has. elim has [
  | inl peers ↦ c.in_ok-new.ensures.nothing a b peers
  | inr clients ↦ no_clients c.in_ok-new-2.field-0 c.in_ok-new-2.ensures.0 c.in_ok-new-2.ensures.1 a b clients
]
