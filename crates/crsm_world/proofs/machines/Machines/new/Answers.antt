use Rattle.std.proofs.Common.{refl, subst, sym, arith, List, []}
use Rattle.crsm_sim_machine.specs.declared.Machine.{Machine}
use Rattle.crsm_sim_machine.specs.Outcomes.{IsWell}
use Rattle.crsm_port.specs.Memory.{Memory}
use Rattle.crsm_world.specs.Machines.{EachIs, IsSite}
use Rattle.crsm_world.proofs.machines.Machines.new.Goals as goal

pub returns : goal.returns
returns c = record {
  founders = c.new-2.ensures;
  few = omega arith;
  each = subst (λ (ss : List Machine). EachIs (IsSite c.args.n) 0 ss []) (sym c.new-3.ensures.items) tt;
  well = subst (λ (m : Memory). IsWell m) (sym c.in_ok-port.ensures) refl;
}
