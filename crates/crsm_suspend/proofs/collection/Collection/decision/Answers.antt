use Rattle.std.proofs.Common.{◌≡◌, ◌∙◌, ap}
use Rattle.crsm_spec.specs.Log.{start, above}
use Rattle.crsm_spec.specs.Collect.{whole_ones, first_pages, all_entries, base_of, floor_of, union}
use Rattle.crsm_suspend.proofs.CollectLemmas.{decision_is}
use Rattle.crsm_suspend.proofs.collection.Collection.decision.Goals as goal

pub returns-clause-value : goal.returns-clause-value
returns-clause-value c = λ log spec named members pages s.
    let these : c.as_slice-spec.result.now ≡ spec = c.as_slice-spec.ensures.value ∙ s.spec_is in
    let base = c.base_of-base_len.ensures pages s.reports ∙ ap (λ n. base_of n (first_pages (whole_ones c.as_slice-spec.result.now pages) pages)) s.begins ∙ ap (λ ks. base_of (start log) (first_pages (whole_ones ks pages) pages)) these in
    let floor = c.floor_of-floor.ensures pages s.reports ∙ ap (λ ks. floor_of c.base_of-base_len.result (first_pages (whole_ones ks pages) pages)) these in
    let tail = c.in_ok-tail.ensures pages s.reports ∙ ap (λ ks. union (above c.floor_of-floor.result (all_entries (whole_ones ks pages) pages))) these in
    decision_is log spec named members pages c.args.self.now.next c.in-Ok.named c.in-Ok-copy_of.members c.base_of-base_len.result c.floor_of-floor.result c.in_ok-tail.tail
    s.next (c.in-Ok.ensures.0 ∙ s.named_is) (c.in-Ok-copy_of.ensures.0 ∙ s.members_are) base floor tail
