use Rattle.std.proofs.Common.{refl}
use Rattle.crsm_replica.specs.Replica.{AwaitsBoot}
use Rattle.crsm_replica.proofs.state.ReplicaState.new.Goals as goal

pub returns : goal.returns
unfolding AwaitsBoot
returns c me n log says each spelt below some = record {
  number = below;
  some = some;
  mine = c.me-me.ensures me n log says;
  ledger = says;
  each = each;
  spelt = spelt;
  gathered = c.in-Ok.ensures;
  coordinator = λ d. c.quiet.ensures me n d;
  made = refl;
  waiting = c.new-3.ensures.items;
  output = c.new-4.ensures;
}
