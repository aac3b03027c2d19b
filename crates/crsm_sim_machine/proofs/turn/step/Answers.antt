use Rattle.std.proofs.Math.Logic.{∥∥₁_map}
use Rattle.crsm_sim_machine.proofs.turn.step.Goals as goal

pub returns-clause-stands : goal.returns-clause-stands
returns-clause-stands c me n kept r steps h =
    let t = c.in_ok-step.ensures.stands me n kept r steps h in
    (t.0, c.in-Ok.ensures.stands me n kept _ _ t.2)

pub returns-clause-sent : goal.returns-clause-sent
returns-clause-sent c me n kept r steps h well =
    let t = c.in_ok-step.ensures.stands me n kept r steps h in
    c.in-Ok.ensures.sent me n kept _ _ t.2 well

-- ---- some replica is up

pub flush-requires : goal.flush-requires
flush-requires c =
    ∥∥₁_map
    c.requires
    (λ up.
    let h = up.2 in
    let t = c.in_ok-step.ensures.stands up.0 up.1 h.kept h.replica h.steps h.is in
    (up.0, up.1, record { kept = h.kept; replica = _; steps = _; is = t.2 }))
