use Rattle.std.proofs.Common.{◌∙◌, ap, ℕ, List, length}
use Rattle.crsm_spec.specs.Paxos.{majority}
use Rattle.crsm_spec.specs.Collect.{whole_ones}
use Rattle.crsm_suspend.proofs.CollectLemmas.{majority_is}
use Rattle.crsm_suspend.proofs.collection.Collection.has_majority.Goals as goal

pub returns : goal.returns
returns c = λ log spec named members pages s.
    let many = c.count.ensures.value ∙ ap (λ (ks : List ℕ). length ks) s.spec_is in
    let count = c.whole_count.ensures pages s.reports ∙ ap (λ ks. length (whole_ones ks pages)) (c.as_slice.ensures.value ∙ s.spec_is) in
    majority_is spec pages c.majority-least.result c.whole_count.result (c.majority-least.ensures ∙ ap majority many) count
