use Rattle.crsm_port_lines.specs.Handling.{EndsWell, StopsAtEnd}
use Rattle.crsm_audit.specs.Handled.{StopsEnd, audited}
use Rattle.crsm_audit.specs.Taking.{EndsWith}
use Rattle.crsm_audit.proofs.Handled.{ends, if_err, no_end}
use Rattle.crsm_audit.proofs.Taking.{on_ok}
use Rattle.crsm_audit.proofs.handling.AuditHandler.end.Goals as goal

pub returns-clause-ok : goal.returns-clause-ok
returns-clause-ok c = λ first texts shown h.
    let audit = c.args.self.now in
    on_ok c.conclude.result (EndsWith audit.n h.spells.lines c.args.text.now c.conclude.new.text) (EndsWell (audited first.n) texts shown c.args.text.now c.conclude.new.text)
    (ends first.n texts shown audit c.args.text.now c.conclude.new.text h) (c.conclude.ensures.ok h.spells.lines h.stands)

pub returns-clause-err : goal.returns-clause-err
returns-clause-err c = λ first texts shown h.
    let audit = c.args.self.now in
    if_err c.conclude.result (λ stop. StopsEnd audit.n h.spells.lines stop) (λ stop. StopsAtEnd (audited first.n) texts shown stop)
    (λ stop. no_end first.n texts shown audit stop h) (c.conclude.ensures.err h.spells.lines h.stands)
