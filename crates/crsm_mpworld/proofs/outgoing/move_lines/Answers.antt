use Rattle.std.proofs.Common.{◌≡◌, ◌∙◌, ◌++◌, length, ap, sym, append-nil, arith}
use Rattle.std.proofs.lemmas.Bool.Decides.{nat_tests}
use Rattle.crsm_mpworld.proofs.Letting.{nothing_left}
use Rattle.crsm_mpworld.proofs.outgoing.move_lines.Goals as goal

pub returns-then-is_empty : goal.returns-then-is_empty
returns-then-is_empty c =
    let none : 0 ≡ length c.args.from.now = grind (arith, nat_tests, c.as_slice.ensures, c.if-is_empty.ensures) in
    sym (append-nil c.args.lines.now) ∙ ap (λ ls. c.args.lines.now ++ ls) (sym (nothing_left c.args.from.now none))
