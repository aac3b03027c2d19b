use Rattle.std.proofs.Common.{◌++◌, ◌∷◌, [], subst}
use Rattle.crsm_spec.specs.Replica.{Replica}
use Rattle.crsm_spec.specs.Node.{turn}
use Rattle.crsm_sim_machine.specs.Arriving.{turn_of}
use Rattle.crsm_sim_machine.specs.Outcomes.{Makes}
use Rattle.crsm_sim_machine.specs.Machine.{IsNotDown, MachinePends}
use Rattle.crsm_world.proofs.Sites.{machine_here, machine_replaced, take_set}
use Rattle.crsm_world.proofs.machines.Machines.take.Goals as goal

pub returns-clause-stands : goal.returns-clause-stands
returns-clause-stands c n places r steps h e =
    take_set c.args.self.now n places c.args.k r steps c.index_mut.result.now c.take.new.self c.in_ok-step.step (turn r (turn_of c.args.arrival, c.args.reading)) h c.requires.within c.index_mut.ensures.value e
    (λ me m q same p. subst (λ (a : Replica). Makes c.in_ok-step.step (turn a (turn_of c.args.arrival, c.args.reading)) × MachinePends c.take.new.self me m (turn a (turn_of c.args.arrival, c.args.reading)).replica (steps ++ turn a (turn_of c.args.arrival, c.args.reading) ∷ [])) same
    (c.in_ok-step.ensures.stands me m q steps p))

pub take-requires : goal.take-requires
take-requires c = c.requires.up c.index_mut.result.now (machine_here c.args.self.now.items.items c.args.k _ c.requires.within c.index_mut.ensures.value)

pub returns-clause-up : goal.returns-clause-up
returns-clause-up c m at = subst (λ x. IsNotDown x) (machine_replaced c.args.self.now.items.items c.args.k c.take.new.self m at) c.in_ok-step.ensures.up
