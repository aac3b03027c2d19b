use Rattle.crsm_spec.specs.World.{final_line}
use Rattle.crsm_world.proofs.machines.Machines.final_line.Goals as goal

pub returns : goal.returns
unfolding final_line
returns c n p h = let s = c.state.ensures _ n p h in let k = c.known.ensures _ n p h in let e = c.executed_len.ensures _ n p h in cc
