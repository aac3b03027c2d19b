use Rattle.crsm_suspend.proofs.SoundLemmas.{begun-sound}
use Rattle.crsm_suspend.proofs.collect.Collect.start.Goals as goal

pub invariant_of-result : goal.invariant_of-result
invariant_of-result c = begun-sound c.args.epoch c.args.start c.args.spec c.args.named c.args.members c.start-inner.result c.start-inner.ensures
