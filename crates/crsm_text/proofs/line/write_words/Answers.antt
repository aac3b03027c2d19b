use Rattle.std.proofs.Common.{◌≡◌, ◌≤◌, ◌<◌, ◌-◌, ◌^◌, ◌++◌, ◌∷◌, ℕ, List, decimal, length, get_or, drop, arith, sym, ap, ◌∙◌, append_assoc, rules}
use Rattle.std.proofs.lemmas.Fmt.{length-decimal-le}
use Rattle.std.proofs.Math.Seq.{drop-length}
use Rattle.std.proofs.lemmas.List.{drop_all, append-nil}
use Rattle.crsm_text.specs.Words.{numbers}
use Rattle.crsm_text.proofs.Named.{named_numbers}
use Rattle.crsm_text.proofs.Rows.{Spaces, kept_space, space_before, numbers-before}
use Rattle.crsm_text.proofs.line.write_words.Goals as goal

pub loop-left-init : goal.loop-left-init
loop-left-init c =
    let start = c.write_text-at.ensures.start in
    let few = c.requires.values in
    let short = c.requires.end in
    let filled : length c.args.row.now ≡ 216 = search rules in
    let size : length c.write_text-at.new.row ≡ 216 = search rules in
    record {
      within = omega arith;
      length = size;
      end = omega (arith, start);
      room = omega (arith, few, short, start);
      spaces = kept_space _ c.write_text-at.new.row 216 c.write_text-at.result c.requires.spaces (omega (arith, start)) c.write_text-at.ensures.before;
      text =
          c.write_text-at.ensures.written ∙ ap (λ (s : List ℕ). c.args.end.now ++ s) (drop_all 216 c.args.row.now (omega (arith, filled))) ∙ append-nil c.args.end.now
          ∙ ap (λ (s : List ℕ). numbers s ++ c.args.end.now) (sym (drop-length c.args.values.now));
    }

digits_at : (values : List ℕ) (i : ℕ) → get_or values i 0 < 2 ^ 64 → length (decimal (get_or values i 0)) ≤ 20
digits_at values i fits = length-decimal-le 20 (get_or values i 0) (omega arith) (omega (arith, fits)) fits

pub write_number-at-requires : goal.write_number-at-requires
write_number-at-requires c =
    let short : length (decimal (get_or c.args.values.now (c.loop-left.left - 1) 0)) ≤ 20 = digits_at c.args.values.now (c.loop-left.left - 1) (omega (arith, c.type_inv.values (c.loop-left.left - 1))) in
    let room = c.loop-left.invariant.room in
    let end = c.loop-left.invariant.end in
    let size = c.loop-left.invariant.length in
    (omega (arith, short, room), omega (arith, end, size))

pub overflow_sub-at : goal.overflow_sub-at
overflow_sub-at c =
    let short : length (decimal (get_or c.args.values.now (c.loop-left.left - 1) 0)) ≤ 20 = digits_at c.args.values.now (c.loop-left.left - 1) (omega (arith, c.type_inv.values (c.loop-left.left - 1))) in
    let room = c.loop-left.invariant.room in
    let start = c.write_number-at.ensures.start in
    omega (arith, short, room, start)

pub loop-left-preserved : goal.loop-left-preserved
loop-left-preserved c =
    let kept = c.loop-left.invariant in
    let room = kept.room in
    let end = kept.end in
    let within = kept.within in
    let some = c.loop-left-test.true in
    let start = c.write_number-at.ensures.start in
    let size : length c.write_number-at.new.row ≡ 216 = search rules in
    let short : length (decimal (get_or c.args.values.now (c.loop-left.left - 1) 0)) ≤ 20 = digits_at c.args.values.now (c.loop-left.left - 1) (omega (arith, c.type_inv.values (c.loop-left.left - 1))) in
    let spaces : Spaces c.write_number-at.new.row c.write_number-at.result =
    kept_space c.loop-left.row c.write_number-at.new.row c.loop-left.at c.write_number-at.result kept.spaces (omega (arith, start)) c.write_number-at.ensures.before in
    record {
      within = omega (arith, within);
      length = size;
      end = omega (arith, start, end);
      room = omega (arith, short, room, start, some);
      spaces = λ i below. spaces i (omega (arith, below));
      text =
          space_before c.write_number-at.new.row _ c.write_number-at.result spaces (omega (arith, short, room, start, some)) (omega (arith, start, end, size)) c.write_number-at.ensures.written
          ∙ ap (λ (s : List ℕ). 32 ∷ decimal (get_or c.args.values.now (c.loop-left.left - 1) 0) ++ s) kept.text
          ∙ ap (λ (s : List ℕ). 32 ∷ s) (sym (append_assoc (decimal (get_or c.args.values.now (c.loop-left.left - 1) 0)) (numbers (drop c.loop-left.left c.args.values.now)) c.args.end.now))
          ∙ ap (λ (s : List ℕ). s ++ c.args.end.now) (sym (numbers-before c.args.values.now c.loop-left.left some within));
    }

pub returns-clause-written : goal.returns-clause-written
returns-clause-written c =
    let none = c.loop-left-test.false in
    let left : c.loop-left.left ≡ 0 = omega (arith, none) in
    c.write_text.ensures.written
    ∙ ap (λ (s : List ℕ). c.args.name.now ++ s) (c.loop-left.invariant.text ∙ ap (λ n. numbers (drop n c.args.values.now) ++ c.args.end.now) left)
    ∙ sym (append_assoc c.args.name.now (numbers c.args.values.now) c.args.end.now)
    ∙ ap (λ (s : List ℕ). s ++ c.args.end.now) (sym (named_numbers c.args.name.now c.args.values.now))

pub returns-clause-spaces : goal.returns-clause-spaces
returns-clause-spaces c = λ i below.
    let start = c.write_text.ensures.start in
    kept_space c.loop-left.row c.write_text.new.row c.loop-left.at c.write_text.result c.loop-left.invariant.spaces (omega (arith, start)) c.write_text.ensures.before i below
