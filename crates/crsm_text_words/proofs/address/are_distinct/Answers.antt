use Rattle.std.proofs.Common.{◌≡◌, ◌+◌, ◌-◌, ℕ, List, length, get_or, take, drop, true, false, nat_eq, refl, sym, ap, arith, ◌∙◌}
use Rattle.std.specs.List.{list_any}
use Rattle.std.specs.List.{IsDistinct}
use Rattle.std.proofs.lemmas.List.{take_rest}
use Rattle.crsm_text_words.proofs.Distinct.{distinct_step, not_distinct, distinct_end}
use Rattle.crsm_text_words.proofs.address.are_distinct.Goals as goal

pub loop-i-preserved : goal.loop-i-preserved
loop-i-preserved c =
    let xs : List ℕ = c.args.numbers.now in
    let i : ℕ = c.loop-i.i in
    let tested : c.contains.result ≡ list_any (λ y. nat_eq y (get_or xs i 0)) (take (length xs - (i + 1)) (drop (i + 1) xs)) = c.contains.ensures.value in
    let none : list_any (λ y. nat_eq y (get_or xs i 0)) (drop (i + 1) xs) ≡ false =
    ap (list_any (λ (y : ℕ). nat_eq y (get_or xs i 0))) (sym (take_rest xs (i + 1))) ∙ sym tested ∙ c.if-contains.false in
    let step = distinct_step xs i (get_or xs i 0) (omega arith) refl none in
    record { down = λ d. step.0 (c.loop-i.invariant.down d); up = λ d. c.loop-i.invariant.up (step.1 d) }

pub returns-then-contains : goal.returns-then-contains
returns-then-contains c =
    let xs : List ℕ = c.args.numbers.now in
    let i : ℕ = c.loop-i.i in
    let tested : c.contains.result ≡ list_any (λ y. nat_eq y (get_or xs i 0)) (take (length xs - (i + 1)) (drop (i + 1) xs)) = c.contains.ensures.value in
    let some : list_any (λ y. nat_eq y (get_or xs i 0)) (drop (i + 1) xs) ≡ true =
    ap (list_any (λ (y : ℕ). nat_eq y (get_or xs i 0))) (sym (take_rest xs (i + 1))) ∙ sym tested ∙ c.if-contains.true in
    (λ t. cc, λ d. absurd (not_distinct xs i (get_or xs i 0) (omega arith) refl some (c.loop-i.invariant.down d)))

pub returns : goal.returns
returns c =
    let all : IsDistinct nat_eq c.args.numbers.now = c.loop-i.invariant.up (distinct_end c.args.numbers.now c.loop-i.i c.loop-i-test.false) in
    (λ t. all, λ d. refl)
