-- The list of a cluster is right and in real time.
use Rattle.std.proofs.Common.{◌≡◌, ℕ, zero, suc, ◌<◌, List, [], ◌∷◌, take, sym, ◌∙◌, ap, inl, inr, arith}
use Rattle.std.specs.Prelude.{Some, slice_get}
use Rattle.std.proofs.lemmas.Bool.{cases_lt}
use Rattle.std.proofs.lemmas.Option.{none-some, same_Some}
use Rattle.crsm_base.specs.Store.{answer_after}
use Rattle.crsm_law_cluster.specs.Clusters.{Event}
use Rattle.crsm_law_cluster.specs.ClusterLaws.{IsHistory, AnswersAreRight}
use Rattle.crsm_law_cluster.specs.RequestLaws.{RealTimeIsKept}
use Rattle.crsm_law_shards.specs.Served.{AreRight, KeepsRealTime, Served, entries_of, shard_in}
use Rattle.crsm_law_shards.specs.Laws.{ShardsAreOneStore}
use Rattle.crsm_law_shards.specs.Clusters.{IsClock, IsSeen, ClustersAreOneStore}
use Rattle.crsm_law_shards.proofs.Timely.{all_got}

entry_at : (list : List Served) (p : ℕ) (x : Served) → slice_get list p ≡ Some x → slice_get (entries_of list) p ≡ Some x.entry
entry_at [] p x at = absurd (none-some x at)
entry_at (y ∷ ys) zero x at = ap (λ (z : Served). Some z.entry) (same_Some y x at)
entry_at (y ∷ ys) (suc p) x at = entry_at ys p x at

module _ (n : ℕ) (h : List Event) (q : IsHistory n h) (time : ℕ → ℕ) (clock : IsClock time) (list : List Served) (seen : IsSeen n h time list) where
  are_right : AnswersAreRight → AreRight list
  are_right right p x a at is =
      let w = seen.answered p x a at is in
      let r = (right n h q).answered w.event w.node w.by w.client w.number p a.answer w.reply w.sent w.line in
      let here = entry_at list p x at in
      let same : r.entry ≡ x.entry = same_Some r.entry x.entry (sym r.at.0 ∙ ap (λ es. slice_get es p) (sym seen.entries) ∙ here) in
      (here, r.at.1 ∙ ap (λ es. answer_after (take p es) r.entry) (sym seen.entries) ∙ ap (answer_after (take p (entries_of list))) same)

  earlier : (i j : ℕ) → time i < time j → i < j
  earlier i j lt = elim (cases_lt i j) [ inl l ↦ l | inr ge ↦ absurd (let le = clock j i ge in omega (arith, le, lt)) ]

  in_real_time : RealTimeIsKept → KeepsRealTime list
  in_real_time kept p r x y at there (a, is, lt) =
      let w = seen.answered p x a at is in
      let z = seen.asked r y there in
      let had = w.after in
      let asked = z.before in
      kept n h q w.event z.event w.node w.by w.client w.number p z.address r a.answer w.reply y.entry
      (earlier w.event z.event (omega (arith, had, asked, lt))) w.sent w.line z.submitted (ap (λ es. slice_get es r) (sym seen.entries) ∙ entry_at list r y there)

pub one_store : AnswersAreRight → RealTimeIsKept → ShardsAreOneStore → ClustersAreOneStore
one_store right kept law shard lists are = law shard lists (λ s list at.
    let c = are s list at in
    record {
      own = all_got (λ x. shard_in shard x.entry ≡ s) list (λ p x e. let z = c.seen.asked p x e in c.own z.event x.entry.stamp.origin z.address x.entry.command z.submitted.taken);
      right = are_right c.n c.h c.is c.time c.clock list c.seen right;
      real_time = in_real_time c.n c.h c.is c.time c.clock list c.seen kept;
    })
