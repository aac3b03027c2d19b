use Rattle.std.proofs.Common.{◌≡◌, ℕ, List, length, sym, subst}
use Rattle.std.specs.Prelude.{filter, nat_lt}
use Rattle.std.specs.List.Sorted.{IsNonDecreasing, IsPermutation}
use Rattle.std.proofs.lemmas.List.Sorted.{IsNonDecreasingBy-from_sort}
use Rattle.crsm_replica_journal.specs.Flushes.{slow_from}
use Rattle.crsm_replica_journal.proofs.flushes.Flushes.take.Goals as goal

pub returns-clause-told : goal.returns-clause-told
returns-clause-told c = λ times took.
    c.times_of-told.ensures.told times took.count
    (subst IsNonDecreasing (sym c.deref.ensures.value) (IsNonDecreasingBy-from_sort (λ (x : ℕ). x) _ c.sort_unstable.ensures.sorted))
    (subst (λ (a : List ℕ). IsPermutation a c.deref.result.now) took.slow (subst (IsPermutation c.args.self.now.slow.items) (sym c.deref.ensures.value) c.sort_unstable.ensures.permutation))
