use Rattle.std.proofs.Common.{◌++◌, ap, sym}
use Rattle.crsm_test_text.proofs.input.SumHandler.line.Goals as goal

pub returns-in_default-push_line-clause-err : goal.returns-in_default-push_line-clause-err
returns-in_default-push_line-clause-err c first lines shown is any =
    let before = c.args.text.now in (before, ap (λ y. y ++ before) (sym c.clear.ensures))
