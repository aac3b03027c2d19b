use Rattle.std.proofs.Common.{ap, inl, inr, refl, sym}
use Rattle.crsm_port_flow.specs.declared.requests.Requests.{Requests}
use Rattle.crsm_port_flow.proofs.clients.Clients.hand_up_operate.Goals as goal

pub returns-then-operate-clause-goes : goal.returns-then-operate-clause-goes
returns-then-operate-clause-goes c =
    (c.in_ok-operate.operate.now, sym c.in_ok-operate.ensures.value, ap (λ (r : Requests). r.waiting.items) c.forget_operate.ensures.requests, c.hand_up-got.ensures, inl c.forget_operate.ensures.none)

pub returns-else-operate-clause-goes : goal.returns-else-operate-clause-goes
returns-else-operate-clause-goes c = (c.in_ok-operate.operate.now, sym c.in_ok-operate.ensures.value, refl, c.hand_up-got.ensures, inr (c.if-operate.false, refl))
