use Rattle.std.proofs.Common.{◌∷◌, [], ◌++◌}
use Rattle.std.proofs.lemmas.Result.{err_from_is_err_and}
use Rattle.crsm_port_lines.specs.Handling.{Handles, StopsAt}
use Rattle.crsm_audit.specs.Handled.{StandsBehind, StopsLine, audited}
use Rattle.crsm_audit.specs.Lines.{BeginAnAudit}
use Rattle.crsm_audit.proofs.Handled.{handles, if_err, number_is, stops, unread}
use Rattle.crsm_audit.proofs.Taking.{on_ok}
use Rattle.crsm_audit.proofs.handling.AuditHandler.line.Goals as goal

pub returns-in_err-line-clause-err : goal.returns-in_err-line-clause-err
returns-in_err-line-clause-err c = λ first texts shown at h.
    let r = err_from_is_err_and c.from_residual.result c.from_residual.ensures.1 in
    rw (r.1, r.2) (unread first.n texts shown _ c.args.line.now c.args._text.now c.in_err-line.ensures.err h.spells)

pub returns-clause-ok : goal.returns-clause-ok
returns-clause-ok c = λ first texts shown at h.
    let ls = h.spells.lines in
    let line = c.in_ok-line.line in
    let new = c.take-taken.new.self in
    on_ok c.take-taken.result (BeginAnAudit (ls ++ line ∷ []) × StandsBehind new (ls ++ line ∷ []))
    (Handles (audited first.n) new texts shown c.args.line.now c.args._text.now c.args._text.now)
    (λ t. handles first.n texts shown c.args.self.now new line c.args.line.now c.args._text.now h c.in_ok-line.ensures.found.0 c.in_ok-line.ensures.found.1 c.take-taken.ensures.n t.0 t.1)
    (c.take-taken.ensures.ok ls (number_is c.args.at texts h.spells at) h.stands)

pub returns-clause-err : goal.returns-clause-err
returns-clause-err c = λ first texts shown at h.
    let line = c.in_ok-line.line in
    if_err c.take-taken.result (λ stop. StopsLine h.spells.lines line stop) (λ stop. StopsAt (audited first.n) texts shown c.args.line.now c.args._text.now c.args._text.now stop)
    (λ stop. stops first.n texts shown stop line c.args.line.now c.args._text.now h.spells c.in_ok-line.ensures.found.1 (λ l fits is. c.in_ok-line.ensures.one l fits is))
    (c.take-taken.ensures.err h.spells.lines h.stands)
