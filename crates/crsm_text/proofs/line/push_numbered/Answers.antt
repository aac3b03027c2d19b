use Rattle.std.proofs.Common.{◌≡◌, ◌≤◌, ◌-◌, ◌++◌, ◌∷◌, ℕ, List, decimal, length, take, drop, arith, ap, ◌∙◌, rules}
use Rattle.std.proofs.lemmas.Fmt.{length-decimal-le}
use Rattle.std.proofs.lemmas.List.{get_or-replicate, length-drop, take_all}
use Rattle.crsm_text.specs.Words.{named}
use Rattle.crsm_text.proofs.Rows.{space_before}
use Rattle.crsm_text.proofs.line.push_numbered.Goals as goal

pub write_words-word-requires-clause-spaces : goal.write_words-word-requires-clause-spaces
write_words-word-requires-clause-spaces c = λ i below. get_or-replicate 216 i 32 32 below

pub write_number-begin-requires : goal.write_number-begin-requires
write_number-begin-requires c =
    let least = c.write_words-word.ensures.least in
    let most = c.write_words-word.ensures.most in
    let size : length c.write_words-word.new.row ≡ 216 = search rules in
    let digits : length (decimal c.args.number) ≤ 20 = length-decimal-le 20 c.args.number (omega arith) (omega arith) (omega arith) in
    (omega (arith, digits, least), omega (arith, most, size))

pub returns : goal.returns
returns c =
    let least = c.write_words-word.ensures.least in
    let most = c.write_words-word.ensures.most in
    let size : length c.write_words-word.new.row ≡ 216 = search rules in
    let text : List ℕ = named c.args.name.now c.args.values.now ++ c.args.end.now in
    let begin : ℕ = c.write_number-begin.result in
    let row : List ℕ = c.write_number-begin.new.row in
    let words : drop (c.write_words-word.result - 1) c.write_words-word.new.row ≡ 32 ∷ text =
    space_before c.write_words-word.new.row text c.write_words-word.result c.write_words-word.ensures.spaces (omega (arith, least)) (omega (arith, most, size)) c.write_words-word.ensures.written in
    let whole : drop begin row ≡ decimal c.args.number ++ 32 ∷ text =
    c.write_number-begin.ensures.written ∙ ap (λ (s : List ℕ). decimal c.args.number ++ s) words in
    let filled : length row ≡ 216 = search rules in
    let len : length (drop begin row) ≡ length row - begin = length-drop begin row in
    let all : take (216 - begin) (drop begin row) ≡ decimal c.args.number ++ 32 ∷ text = take_all (216 - begin) (drop begin row) (omega (arith, len, filled)) ∙ whole in
    rw all at c.append.ensures.ok
