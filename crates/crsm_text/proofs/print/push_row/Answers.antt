use Rattle.std.proofs.Common.{◌≡◌, ◌≤◌, ◌<◌, ◌-◌, ◌^◌, ◌++◌, ◌∷◌, ℕ, List, decimal, length, get_or, arith, sym, ap, ◌∙◌, rules}
use Rattle.std.proofs.lemmas.Fmt.{length-decimal-le}
use Rattle.std.proofs.Math.Seq.{drop-length}
use Rattle.std.proofs.lemmas.List.{get_or-replicate}
use Rattle.crsm_text.specs.Words.{numbers}
use Rattle.crsm_text.proofs.Rows.{Spaces, kept_space, space_before, numbers-before}
use Rattle.crsm_text.proofs.print.push_row.Goals as goal

pub loop-left-init : goal.loop-left-init
loop-left-init c = record {
  within = omega arith;
  length = search rules;
  end = omega arith;
  room = let few = c.requires in omega (arith, few);
  spaces = λ i below. get_or-replicate 168 i 32 32 below;
  text = sym (ap numbers (drop-length c.args.values.now));
}

digits_at : (values : List ℕ) (i : ℕ) → get_or values i 0 < 2 ^ 64 → length (decimal (get_or values i 0)) ≤ 20
digits_at values i fits = length-decimal-le 20 (get_or values i 0) (omega arith) (omega (arith, fits)) fits

pub write_digits-at-requires : goal.write_digits-at-requires
write_digits-at-requires c =
    let short : length (decimal (get_or c.args.values.now (c.loop-left.left - 1) 0)) ≤ 20 = digits_at c.args.values.now (c.loop-left.left - 1) (omega (arith, c.type_inv.values (c.loop-left.left - 1))) in
    let room = c.loop-left.invariant.room in
    let end = c.loop-left.invariant.end in
    let size = c.loop-left.invariant.length in
    (omega (arith, short, room), omega (arith, end, size))

pub overflow_sub-at : goal.overflow_sub-at
overflow_sub-at c =
    let short : length (decimal (get_or c.args.values.now (c.loop-left.left - 1) 0)) ≤ 20 = digits_at c.args.values.now (c.loop-left.left - 1) (omega (arith, c.type_inv.values (c.loop-left.left - 1))) in
    let room = c.loop-left.invariant.room in
    let start = c.write_digits-at.ensures.start in
    omega (arith, short, room, start)

pub loop-left-preserved : goal.loop-left-preserved
loop-left-preserved c =
    let kept = c.loop-left.invariant in
    let whole = kept.length in
    let room = kept.room in
    let end = kept.end in
    let within = kept.within in
    let some = c.loop-left-test.true in
    let start = c.write_digits-at.ensures.start in
    let size : length c.write_digits-at.new.buf ≡ 168 = search rules in
    let short : length (decimal (get_or c.args.values.now (c.loop-left.left - 1) 0)) ≤ 20 = digits_at c.args.values.now (c.loop-left.left - 1) (omega (arith, c.type_inv.values (c.loop-left.left - 1))) in
    let spaces : Spaces c.write_digits-at.new.buf c.write_digits-at.result =
    kept_space c.loop-left.row c.write_digits-at.new.buf c.loop-left.at c.write_digits-at.result kept.spaces (omega (arith, start)) c.write_digits-at.ensures.before in
    record {
      within = omega (arith, within);
      length = size;
      end = omega (arith, start, end);
      room = omega (arith, short, room, start, some);
      spaces = λ i below. spaces i (omega (arith, below));
      text =
          space_before c.write_digits-at.new.buf _ c.write_digits-at.result spaces (omega (arith, short, room, start, some)) (omega (arith, start, end, size)) c.write_digits-at.ensures.written
          ∙ ap (λ (s : List ℕ). 32 ∷ decimal (get_or c.args.values.now (c.loop-left.left - 1) 0) ++ s) kept.text
          ∙ sym (numbers-before c.args.values.now c.loop-left.left some within);
    }
