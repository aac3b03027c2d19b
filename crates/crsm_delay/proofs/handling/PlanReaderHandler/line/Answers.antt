use Rattle.std.proofs.Common.{refl}
use Rattle.crsm_delay.proofs.Handled.{line_ok, line_err}
use Rattle.crsm_delay.proofs.handling.PlanReaderHandler.line.Goals as goal

pub returns-clause-ok : goal.returns-clause-ok
returns-clause-ok c = λ first lines shown at has.
    line_ok c.advance.result first.wanted c.args.self.now c.advance.new.self lines shown c.args.line.now c.args._text.now c.advance.ensures.ok c.advance.ensures.wanted has

pub returns-clause-err : goal.returns-clause-err
returns-clause-err c = λ first lines shown at has. line_err c.advance.result first.wanted c.args.self.now lines shown c.args.line.now c.args._text.now _ refl c.advance.ensures.err has
