use Rattle.std.proofs.Common.{◌<◌, ◌++◌, ◌∷◌, [], ℕ, List, decimal, length, get_or, take, arith, ap, sym, ◌∙◌, append_assoc, rules}
use Rattle.std.proofs.lemmas.List.{take_more, take_more_set}
use Rattle.crsm_text.specs.Words.{named}
use Rattle.crsm_text.proofs.Named.{named_more}
use Rattle.crsm_text.proofs.page.put_words.Goals as goal

pub loop-value-preserved : goal.loop-value-preserved
loop-value-preserved c =
    let kept = c.loop-value.invariant in
    let i : ℕ = c.loop-value.value-index in
    let row : List ℕ = c.loop-value.row in
    let next : ℕ = c.loop-value.next in
    let values : List ℕ = c.args.values.now in
    let value : ℕ = get_or values i 0 in
    let old : List ℕ = take c.args.at c.args.row.now in
    let name : List ℕ = c.args.name.now in
    let some = c.loop-value-test.true in
    let within : next < length row = omega (arith, kept.long, kept.most, some, c.requires.values, c.requires.room) in
    record {
      long = search rules;
      most = omega (arith, c.put_digits-next.ensures.most, kept.most);
      text =
          c.put_digits-next.ensures.written
          ∙ ap (λ s. s ++ decimal value) (take_more_set row next 32 within)
          ∙ append_assoc (take next row) (32 ∷ []) (decimal value)
          ∙ ap (λ s. s ++ 32 ∷ decimal value) kept.text
          ∙ append_assoc old (named name (take i values)) (32 ∷ decimal value)
          ∙ ap (λ s. old ++ s) (sym (named_more name (take i values) value))
          ∙ ap (λ s. old ++ named name s) (sym (take_more values i 0 some));
    }
