use Rattle.std.proofs.Common.{◌≡◌, ◌≤◌, ◌<◌, ◌^◌, ◌+◌, ◌++◌, ℕ, List, length, decimal, take, drop, arith, ap, subst, ◌∙◌}
use Rattle.std.proofs.lemmas.Fmt.{length-decimal-le}
use Rattle.crsm_text.proofs.Pages.{grown}
use Rattle.crsm_text.proofs.page.put_number.Goals as goal

most_digits : (n : ℕ) → n < 2 ^ 64 → length (decimal n) ≤ 20
most_digits n fits = length-decimal-le 20 n (omega arith) (omega (arith, fits)) fits

pub overflow_add-end : goal.overflow_add-end
overflow_add-end c =
    let most = most_digits c.args.value (omega arith) in
    omega (arith, most, c.digits_of.ensures, c.requires)

pub write_digits-requires : goal.write_digits-requires
write_digits-requires c =
    let most = most_digits c.args.value (omega arith) in
    (omega (arith, c.digits_of.ensures), omega (arith, most, c.digits_of.ensures, c.requires))

pub returns-clause-most : goal.returns-clause-most
returns-clause-most c =
    let most = most_digits c.args.value (omega arith) in
    omega (arith, most, c.digits_of.ensures)

pub returns-clause-written : goal.returns-clause-written
returns-clause-written c =
    let at : ℕ = c.args.at in
    let row : List ℕ = c.args.row.now in
    let new : List ℕ = c.write_digits.new.buf in
    let digits : List ℕ = decimal c.args.value in
    let start : c.write_digits.result ≡ at = omega (arith, c.write_digits.ensures.start, c.digits_of.ensures) in
    let before : take at new ≡ take at row = subst (λ n. take n new ≡ take n row) start c.write_digits.ensures.before in
    let behind : drop at new ≡ digits ++ drop (at + c.digits_of.result) row = subst (λ n. drop n new ≡ digits ++ drop (at + c.digits_of.result) row) start c.write_digits.ensures.written in
    ap (λ n. take (at + n) new) c.digits_of.ensures ∙ grown row new digits (drop (at + c.digits_of.result) row) at before behind
