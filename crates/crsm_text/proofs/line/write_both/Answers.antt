use Rattle.std.proofs.Common.{◌≡◌, ◌+◌, ◌-◌, ℕ, List, length, take, drop, arith, ◌∙◌}
use Rattle.std.proofs.lemmas.List.{take_rest}
use Rattle.crsm_text.proofs.Copies.{both_written}
use Rattle.crsm_text.proofs.line.write_both.Goals as goal

pub returns-clause-written : goal.returns-clause-written
returns-clause-written g c =
    let text : List ℕ = c.args.text.now in
    let size : ℕ = g.row.SIZE in
    let start : ℕ = c.args.start in
    let first : start + size - start ≡ size = omega arith in
    let last : start + length text - (start + (length text - size)) ≡ size = omega (arith, c.requires.least) in
    let one : c.copy_from_slice.new.self ≡ take size text = c.copy_from_slice.ensures.after in
    let two : c.copy_from_slice-2.new.self ≡ drop (length text - size) text = c.copy_from_slice-2.ensures.after ∙ take_rest text (length text - size) in
    rw (last, first, one, two)
    (both_written c.args.row.now text start size (length text - size) c.requires.least (omega (arith, c.requires.least)) (omega (arith, c.requires.most)) c.requires.room)
