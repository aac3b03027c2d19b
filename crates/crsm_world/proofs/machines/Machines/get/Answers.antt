use Rattle.crsm_world.proofs.Sites.{machine_looked}
use Rattle.crsm_world.proofs.machines.Machines.get.Goals as goal

pub returns : goal.returns
returns c n places h = machine_looked c.args.self.now n places c.args.k c.get.result c.deref.result.now h c.deref.ensures.value c.get.ensures.lookup.0 c.get.ensures.lookup.1
