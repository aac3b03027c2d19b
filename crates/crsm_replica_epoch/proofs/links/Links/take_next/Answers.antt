use Rattle.std.proofs.Common.{◌∙◌, length-set}
use Rattle.crsm_replica_epoch.proofs.Linking.{taken_stand}
use Rattle.crsm_replica_epoch.proofs.links.Links.take_next.Goals as goal

pub returns : goal.returns
returns c r s above = record {
  count = length-set c.args.self.now.links c.args.k _ ∙ s.count;
  each = taken_stand c.args.self.now r c.args.k c.args.time _ _ s c.requires above c.take_next.ensures.next c.take_next.ensures.sender;
}
