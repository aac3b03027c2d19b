use Rattle.std.proofs.Common.{◌≡◌, ◌∙◌, ap, sym, subst, arith, [], length-set, map}
use Rattle.std.specs.Prelude.{IfSome, IfNone}
use Rattle.std.proofs.lemmas.List.{get_or_default}
use Rattle.crsm_phase.specs.Owed.{IsAscending, without}
use Rattle.crsm_phase.proofs.Ordered.{ascending_without}
use Rattle.crsm_commit.specs.Places.{IsFirst}
use Rattle.crsm_commit.specs.Waiting.{stamp_of, without_entry}
use Rattle.crsm_commit.proofs.Filed.{filed_without, found_filed, stamps_without}
use Rattle.crsm_commit.proofs.LeastLemmas.{least_is_first}
use Rattle.crsm_commit.proofs.VotesLemmas.{counted_without}
use Rattle.crsm_commit.proofs.pending.Pending.take.Goals as goal

pub returns-clause-entry : goal.returns-clause-entry
returns-clause-entry c tracked waiting votes s =
    let queue = get_or_default c.args.self.now.queues c.queue_of-place.result c.index-self-place.result [] (omega (arith, s.count, c.queue_of-place.ensures)) in
    c.is_some-taken.ensures
    ∙ found_filed c.args.self.now.queues c.args.stamp waiting c.queue_of-place.result c.remove.result c.queue_of-place.ensures s.queues
    (subst (λ q. IfSome c.remove.result (IsFirst c.args.stamp q)) queue c.remove.ensures.place)
    (subst (λ q. IfNone c.remove.result (without c.args.stamp q ≡ q)) queue c.remove.ensures.none)

pub returns-clause-rest : goal.returns-clause-rest
returns-clause-rest c tracked waiting votes s =
    let queues = filed_without c.args.self.now.queues c.args.stamp waiting c.queue_of-place.result _ s.count c.queue_of-place.ensures
    (c.remove.ensures.rest
    ∙ ap (without c.args.stamp) (get_or_default c.args.self.now.queues c.queue_of-place.result c.index-self-place.result [] (omega (arith, s.count, c.queue_of-place.ensures))))
    s.queues in
    let ascending : IsAscending (map stamp_of (without_entry c.args.stamp waiting)) = subst IsAscending (sym (stamps_without c.args.stamp waiting)) (ascending_without _ _ s.ascending) in
    record {
      count = length-set c.args.self.now.queues c.queue_of-place.result _ ∙ s.count;
      ascending = ascending;
      queues = queues;
      first = least_is_first _ (without_entry c.args.stamp waiting) c.least_first-self.result ascending queues c.least_first-self.ensures;
      masks = counted_without tracked c.args.self.now.votes c.forget.new.self votes c.args.stamp s.masks c.forget.ensures;
    }
