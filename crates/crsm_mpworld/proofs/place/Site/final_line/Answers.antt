use Rattle.crsm_mpspec.specs.World.{final_line}
use Rattle.crsm_mpworld.proofs.place.Site.final_line.Goals as goal

pub returns : goal.returns
unfolding final_line
returns c i n p h = let s = c.is_up.ensures i n p h in let e = c.executed_len.ensures i n p h in cc
