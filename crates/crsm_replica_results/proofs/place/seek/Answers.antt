use Rattle.std.proofs.Common.{◌≡◌, ◌<◌, ℕ, List, drop, length, subst, sym, ◌∙◌, arith}
use Rattle.std.specs.Prelude.{slice_get}
use Rattle.std.specs.List.{AllByRecursion}
use Rattle.std.proofs.lemmas.List.{drop_all}
use Rattle.crsm_ledger.specs.Ledger.{executed_count}
use Rattle.crsm_spec.specs.Types.{Entry}
use Rattle.crsm_spec.specs.Log.{executed}
use Rattle.crsm_replica_results.proofs.Order.{NotBelow, below_up_to, not_below_from, found, not_found, at_of, other_of, past_end}
use Rattle.crsm_replica_results.proofs.place.seek.Goals as goal

pub loop-low-init : goal.loop-low-init
loop-low-init c = (
  omega arith,
  omega arith,
  λ me n log s rises. (
    tt,
    subst (λ (es : List Entry). AllByRecursion (NotBelow c.args.entry.now) es)
        (sym (drop_all c.executed_len-end.result (executed log) (let e = c.executed_len-end.ensures.value me n log s in omega (arith, e)))) tt,
  ),
)

pub overflow_add-low : goal.overflow_add-low
overflow_add-low c = omega (arith, c.middle_of-middle.ensures.below, c.loop-low.invariant.1, c.executed_len-end.ensures.few)

pub is_before_at-requires : goal.is_before_at-requires
is_before_at-requires c = omega (arith, c.middle_of-middle.ensures.below, c.loop-low.invariant.1, c.executed_len-end.ensures.count)

pub loop-low-preserved-then-branch : goal.loop-low-preserved-then-branch
loop-low-preserved-then-branch c = (
  omega (arith, c.middle_of-middle.ensures.below),
  c.loop-low.invariant.1,
  λ me n log s rises.
      let found = c.in_ok-is_before_at.ensures me n log s in (
        below_up_to c.args.entry.now (executed log) _ found.entry rises found.there (sym found.is ∙ c.if-branch.true),
        (c.loop-low.invariant.2 me n log s rises).1,
      ),
)

pub loop-low-preserved : goal.loop-low-preserved
loop-low-preserved c = (
  omega (arith, c.middle_of-middle.ensures.above),
  omega (arith, c.middle_of-middle.ensures.below, c.loop-low.invariant.1),
  λ me n log s rises.
      let found = c.in_ok-is_before_at.ensures me n log s in (
        (c.loop-low.invariant.2 me n log s rises).0,
        not_below_from c.args.entry.now (executed log) _ found.entry rises found.there (sym found.is ∙ c.if-branch.false),
      ),
)

pub returns-then-end-low-clause-value : goal.returns-then-end-low-clause-value
returns-then-end-low-clause-value c me n log s rises =
    let less = c.loop-low.invariant.0 in
    let test = c.loop-low-test.false in
    let met : c.loop-low.high ≡ c.loop-low.low = omega (arith, less, test) in
    let all = c.loop-low.invariant.2 me n log s rises in
    let long = c.executed_len-end.ensures.value me n log s in
    let at_end = c.if-end-low.true in
    not_found c.args.entry.now c.loop-low.low (executed log) rises all.0
    (subst (λ (k : ℕ). AllByRecursion (NotBelow c.args.entry.now) (drop k (executed log))) met all.1)
    (past_end c.args.entry.now c.loop-low.low (executed log) (omega (arith, long, at_end)))

pub is_at-requires : goal.is_at-requires
is_at-requires c =
    let less = c.loop-low.invariant.0 in
    let within = c.loop-low.invariant.1 in
    let test = c.loop-low-test.false in
    let before_end = c.if-end-low.false in
    let count = c.executed_len-end.ensures.count in
    omega (arith, less, within, test, before_end, count)

pub returns-then-branch-2-clause-within : goal.returns-then-branch-2-clause-within
returns-then-branch-2-clause-within c =
    let less = c.loop-low.invariant.0 in
    let within = c.loop-low.invariant.1 in
    let test = c.loop-low-test.false in
    let before_end = c.if-end-low.false in
    let count = c.executed_len-end.ensures.count in
    omega (arith, less, within, test, before_end, count)

pub returns-then-branch-2-clause-value : goal.returns-then-branch-2-clause-value
returns-then-branch-2-clause-value c me n log s rises =
    let at = at_of c.args.entry.now (slice_get (executed log) c.loop-low.low) (sym (c.in_ok-is_at.ensures me n log s) ∙ c.if-branch-2.true) in
    found c.args.entry.now c.loop-low.low (executed log) at.0 (c.loop-low.invariant.2 me n log s rises).0 at.1 at.2

pub returns-else-branch-2-clause-value : goal.returns-else-branch-2-clause-value
returns-else-branch-2-clause-value c me n log s rises =
    let less = c.loop-low.invariant.0 in
    let end = c.loop-low-test.false in
    let met : c.loop-low.high ≡ c.loop-low.low = omega (arith, less, end) in
    let all = c.loop-low.invariant.2 me n log s rises in
    not_found c.args.entry.now c.loop-low.low (executed log) rises all.0
    (subst (λ (k : ℕ). AllByRecursion (NotBelow c.args.entry.now) (drop k (executed log))) met all.1)
    (other_of c.args.entry.now (slice_get (executed log) c.loop-low.low) (sym (c.in_ok-is_at.ensures me n log s) ∙ c.if-branch-2.false))
