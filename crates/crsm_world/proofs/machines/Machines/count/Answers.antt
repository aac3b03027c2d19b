use Rattle.std.proofs.Common.{◌∙◌}
use Rattle.crsm_world.proofs.Sites.{machines_length}
use Rattle.crsm_world.proofs.machines.Machines.count.Goals as goal

pub returns : goal.returns
returns c n places h = c.len.ensures ∙ (c.args.self.now.items.ok.0 ∙ machines_length c.args.self.now n places h)
