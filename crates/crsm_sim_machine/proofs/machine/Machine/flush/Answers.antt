use Rattle.std.proofs.Common.{[], subst}
use Rattle.std.proofs.Math.Logic.{∥∥₁_map}
use Rattle.crsm_sim_machine.specs.Machine.{MachinePends, MachineStands}
use Rattle.crsm_sim_machine.specs.States.{IsStateOf, IsUpIn, IsUpOrSpent}
use Rattle.crsm_sim_machine.proofs.machine.Machine.flush.Goals as goal

pub returns-in-Ok-clause-stands : goal.returns-in-Ok-clause-stands
unfolding MachinePends MachineStands
returns-in-Ok-clause-stands c me n r steps h =
    let up = subst (λ p. IsUpIn me n p r steps) c.in-Up.is h.2 in
    (h.0, h.1, c.in-Ok.ensures.stands me n up.0 r steps up.1)

pub returns-in-Ok-clause-sent : goal.returns-in-Ok-clause-sent
unfolding MachinePends
returns-in-Ok-clause-sent c me n r steps h well =
    let up = subst (λ p. IsUpIn me n p r steps) c.in-Up.is h.2 in
    c.in-Ok.ensures.sent me n up.0 r steps up.1 well

-- ---- the state is one of the replica

pub flush-requires : goal.flush-requires
flush-requires c =
    let i = c.args.self.now.me in
    let j = c.args.self.now.n in ∥∥₁_map (subst (λ p. ∥ IsStateOf i j p ∥₁) c.in-Up.is c.args.self.now.stands) (λ h. (i, j, h))

pub invariant_of-self : goal.invariant_of-self
invariant_of-self c =
    let old = c.args.self.now in
    record {
      below = old.below;
      some = old.some;
      most = old.most;
      stands = ∥∥₁_map (subst (λ p. ∥ IsStateOf old.me old.n p ∥₁) c.in-Up.is old.stands)
          (λ h. record { kept = h.replica.log; replica = h.replica; steps = []; is = c.in-Ok.ensures.stands old.me old.n h.kept h.replica h.steps h.is });
    }

-- ---- what it is not asked for

pub unreachable-requires : goal.unreachable-requires
unreachable-requires c = subst (λ p. IsUpOrSpent p) c.in-Down.is c.requires
