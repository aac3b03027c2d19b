use Rattle.std.proofs.Common.{arith, Some, None, ◌≡◌, ◌-◌, ℕ, List, length, get_or, sym, subst, ◌≤◌, ◌<◌}
use Rattle.std.specs.Prelude.{IfNone, IfSome, Option}
use Rattle.std.specs.List.{ItemBy}
use Rattle.std.specs.Option.{option_copied}
use Rattle.std.proofs.lemmas.Option.{get_or_from_slice_get}
use Rattle.crsm_replica_journal.specs.Flushes.{AreFast, IsGreatest, IsMedian, slow_from}
use Rattle.crsm_replica_journal.proofs.Median.{all_fast, fast, fewer, greatest, median}
use Rattle.crsm_replica_journal.proofs.flushes.times_of.Goals as goal
use denote.Ref.{Bor}

module _ (xs : List ℕ) (i : ℕ) (found : Option ℕ) where
  -- what is got holds of the element, and nothing is got past the end
  got : (P : ℕ → Type 0) (o : Option (Bor ℕ)) → found ≡ option_copied o → ItemBy (λ (x : Bor ℕ). x.now) xs i i o → (i < length xs → P (get_or xs i 0)) → IfSome found P
  got P None is item each = subst (λ q. IfSome q P) (sym is) tt
  got P (Some x) is item each = subst (λ q. IfSome q P) (sym is) (subst P (sym (item.4 (omega arith) 0)) (each item.3.0))

  missed : (Q : Type 0) (o : Option (Bor ℕ)) → found ≡ option_copied o → ItemBy (λ (x : Bor ℕ). x.now) xs i i o → (length xs ≤ i → Q) → IfNone found Q
  missed Q None is item past = subst (λ q. IfNone q Q) (sym is) (past item.3)
  missed Q (Some x) is item past = subst (λ q. IfNone q Q) (sym is) tt

pub returns-in_err-slowest-clause-fast : goal.returns-in_err-slowest-clause-fast
returns-in_err-slowest-clause-fast c = λ times same.
    let none = c.in_err-slowest.ensures.item.3 in
    subst (λ q. IfNone q (AreFast times)) (sym c.from_residual.ensures) (all_fast slow_from times c.args.slow.now same (omega (arith, none)))

pub returns-in-Some-clause-told : goal.returns-in-Some-clause-told
returns-in-Some-clause-told c = λ times counted up same.
    let slow : List ℕ = c.args.slow.now in
    let some = c.in_ok-slowest.ensures.item.3.0 in
    let less = fewer slow_from times slow same in
    let place = c.in-Some.ensures in
    record {
      slowest = subst (IsGreatest times) (get_or_from_slice_get slow (length slow - 1) _ 0 (sym c.in_ok-slowest.ensures.value))
          (greatest slow_from times slow same up (length slow - 1) (omega (arith, some)) (omega (arith, some)));
      median = got slow c.in-Some.place c.copied-median.result (IsMedian times) c.get.result c.copied-median.ensures c.get.ensures.lookup
          (λ lt. median slow_from times slow same up c.in-Some.place lt (omega (arith, counted, less, place, c.saturating_sub-fast.ensures, c.saturating_sub.ensures)));
      fast = missed slow c.in-Some.place c.copied-median.result _ c.get.result c.copied-median.ensures c.get.ensures.lookup
          (λ past. absurd (omega (arith, past, some, counted, less, place, c.saturating_sub-fast.ensures, c.saturating_sub.ensures)));
    }

pub returns-in-None-clause-told : goal.returns-in-None-clause-told
returns-in-None-clause-told c = λ times counted up same.
    let slow : List ℕ = c.args.slow.now in
    let some = c.in_ok-slowest.ensures.item.3.0 in
    let before = c.in-None.ensures in
    record {
      slowest = subst (IsGreatest times) (get_or_from_slice_get slow (length slow - 1) _ 0 (sym c.in_ok-slowest.ensures.value))
          (greatest slow_from times slow same up (length slow - 1) (omega (arith, some)) (omega (arith, some)));
      median = tt;
      fast = omega (arith, counted, before, c.saturating_sub-fast.ensures, c.saturating_sub.ensures, fast slow_from times slow same);
    }
