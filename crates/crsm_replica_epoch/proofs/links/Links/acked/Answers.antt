use Rattle.std.proofs.Common.{◌∙◌, length-set}
use Rattle.crsm_replica_epoch.proofs.Linking.{acked_stand}
use Rattle.crsm_replica_epoch.proofs.links.Links.acked.Goals as goal

pub returns : goal.returns
returns c r s within = record {
  count = length-set c.args.self.now.links c.args.k _ ∙ s.count;
  each = acked_stand c.args.self.now r c.args.k c.args.next _ _ s c.requires within c.acked.ensures.sent c.acked.ensures.receiver;
}
