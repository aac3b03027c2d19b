use Rattle.std.proofs.Common.{◌≡◌, ◌<◌, ◌+◌, ◌-◌, ◌∙◌, ℕ, arith, length, rules, subst, sym, true}
use Rattle.std.specs.Prelude.{nat_lt}
use Rattle.std.specs.List.{AllWithin}
use Rattle.std.proofs.lemmas.List.Sorted.{IsPartitionPoint-from_clause}
use Rattle.crsm_ledger.specs.declared.kept.LoggedItem.{LoggedItem}
use Rattle.crsm_ledger.proofs.LoggedLemmas.{all_before, partitioned_before}
use Rattle.crsm_ledger.proofs.logged.count_before.Goals as goal

pub returns-clause-point : goal.returns-clause-point
returns-clause-point c =
    IsPartitionPoint-from_clause (λ (e : LoggedItem). nat_lt e.stamp.time c.args.time) c.args.items.now c.partition_point.result
    c.partition_point.ensures.partitioned (partitioned_before c.args.time c.args.items.now c.requires.sorted) (λ a r q k. search rules)

pub returns-then-is_before_at-clause-point : goal.returns-then-is_before_at-clause-point
returns-then-is_before_at-clause-point c =
    let es = c.args.items.now in
    let count = length es in
    let some : 0 < count = c.if-count-gt0.true in
    let within : count - 1 < length es = omega (arith, some) in
    let back : (count - 1) + 1 ≡ count = omega (arith, some) in (
      subst (λ (k : ℕ). AllWithin (λ (e : LoggedItem). nat_lt e.stamp.time c.args.time ≡ true) es 0 k) back
          (all_before c.args.time es (count - 1) c.requires.sorted within (λ d. sym (c.is_before_at.ensures d) ∙ c.if-is_before_at.true)),
      λ j d low high. absurd (omega (arith, low, high)),
    )
