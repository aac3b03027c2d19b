use Rattle.std.proofs.Common.{◌∙◌, ap, sym, subst, arith, [], length-set, Some}
use Rattle.std.proofs.lemmas.List.{get_or_default}
use Rattle.crsm_spec.specs.Frames.{with_stamp}
use Rattle.crsm_phase.specs.Owed.{IsAscending}
use Rattle.crsm_phase.proofs.Ordered.{ascending_with}
use Rattle.crsm_commit.specs.Least.{lesser_of}
use Rattle.crsm_commit.proofs.Filed.{filed_with, first_with, stamps_with}
use Rattle.crsm_commit.proofs.pending.Pending.add.Goals as goal

pub returns-clause-ok : goal.returns-clause-ok
returns-clause-ok c tracked waiting votes s = record {
  count = length-set c.args.self.now.queues c.queue_of-place.result _ ∙ s.count;
  ascending = subst IsAscending (sym (stamps_with c.args.entry.now waiting)) (ascending_with _ _ s.ascending);
  queues = filed_with c.args.self.now.queues c.args.entry.now waiting c.queue_of-place.result _ s.count c.queue_of-place.ensures
      (c.in_ok-add.ensures.ok
      ∙ ap (with_stamp c.args.entry.now.stamp) (get_or_default c.args.self.now.queues c.queue_of-place.result c.index-self-place.result [] (omega (arith, s.count, c.queue_of-place.ensures)))) s.ascending s.queues;
  first = c.lesser-self.ensures ∙ ap (λ f. lesser_of f (Some c.args.entry.now.stamp)) s.first ∙ first_with c.args.entry.now waiting;
  masks = s.masks;
}
