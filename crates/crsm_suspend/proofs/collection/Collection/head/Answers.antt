use Rattle.crsm_suspend.proofs.CollectLemmas.{head_at}
use Rattle.crsm_suspend.proofs.collection.Collection.head.Goals as goal

pub returns : goal.returns
returns c = λ log spec named members pages s. head_at c.args.self.now.reports pages c.args.k c.index-self-k.result s.reports c.requires c.index-self-k.is
