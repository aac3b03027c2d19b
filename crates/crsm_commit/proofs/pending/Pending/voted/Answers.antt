use Rattle.std.proofs.Common.{◌∙◌, ◌^◌, ap, bit_or}
use Rattle.crsm_commit.proofs.VotesLemmas.{counted_more}
use Rattle.crsm_commit.proofs.pending.Pending.voted.Goals as goal

pub returns-clause-ok : goal.returns-clause-ok
returns-clause-ok c tracked waiting votes s = record {
  count = s.count;
  ascending = s.ascending;
  queues = s.queues;
  first = s.first;
  masks = counted_more tracked c.args.self.now.votes c.set.new.self votes c.args.stamp c.args.k c.with_vote-mask.result c.requires s.masks
      (c.with_vote-mask.ensures ∙ ap (λ m. bit_or m (2 ^ c.args.k)) c.of.ensures) c.in_ok-set.ensures.ok;
}
