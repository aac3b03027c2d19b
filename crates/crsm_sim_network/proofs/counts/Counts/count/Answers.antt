use Rattle.std.proofs.Common.{◌≡◌, ◌∙◌, ◌+◌, ◌-◌, ◌≤◌, ◌^◌, ap, arith, cond, sym}
use Rattle.std.specs.Prelude.{nat_eq}
use Rattle.std.specs.List.{count_by}
use Rattle.std.proofs.Math.Nat.{min-eq_left}
use Rattle.std.proofs.lemmas.List.Sums.{count_by-le-length}
use Rattle.crsm_sim_network.specs.Tally.{is_wanted}
use Rattle.crsm_sim_network.proofs.Counting.{all_classes, below, next_class, no_class}
use Rattle.crsm_sim_network.proofs.counts.Counts.count.Goals as goal

pub loop-class-init : goal.loop-class-init
loop-class-init c xs few small is = sym (no_class (is_wanted c.args.wanted.now) xs)

pub loop-class-preserved : goal.loop-class-preserved
loop-class-preserved c xs few small is =
    let w = is_wanted c.args.wanted.now in
    let k = c.loop-class.class in
    let was = c.loop-class.invariant xs few small is in
    let next = next_class w k xs in
    let one : c.of_class.result ≡ cond (w k) (count_by (nat_eq k) xs) 0 = c.of_class.ensures ∙ ap (λ n. cond (w k) n 0) (is.right k c.loop-class-test.true) in
    let most = count_by-le-length (below w (k + 1)) xs in
    let le : c.loop-class.sum + c.of_class.result ≤ 2 ^ 64 - 1 = omega (arith, was, next, one, most, few) in
    let sum = c.saturating_add-sum.ensures ∙ min-eq_left le in
    omega (arith, sum, was, next, one)

pub returns : goal.returns
returns c xs few small is = c.loop-class.invariant xs few small is ∙ all_classes (is_wanted c.args.wanted.now) c.loop-class.class xs c.loop-class-test.false small
