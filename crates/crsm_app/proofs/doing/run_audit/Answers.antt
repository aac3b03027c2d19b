use Rattle.crsm_app.proofs.Audits.{did_so, refuses}
use Rattle.crsm_app.proofs.Sheets.{completes, is_done, is_long, is_no_disk, is_no_port, is_read_fault, is_too_long, is_write_fault}
use Rattle.crsm_app.proofs.doing.run_audit.Goals as goal

pub returns-clause-did : goal.returns-clause-did
returns-clause-did g c = did_so c.audit.result c.sheet_status.result c.sheet_status.ensures c.args.n _ _ _ _ c.audit.ensures.ran

pub returns-clause-read_fault : goal.returns-clause-read_fault
returns-clause-read_fault g c = λ e. c.audit.ensures.read_fault (is_read_fault c.audit.result c.sheet_status.result c.sheet_status.ensures e)

pub returns-clause-write_fault : goal.returns-clause-write_fault
returns-clause-write_fault g c = λ e. c.audit.ensures.write_fault (is_write_fault c.audit.result c.sheet_status.result c.sheet_status.ensures e)

pub returns-clause-exact : goal.returns-clause-exact
returns-clause-exact g c = λ no_read no_write.
    let d = c.audits_are_exact.ensures c.args.n in
    let exactly = c.audit.ensures.exactly in
    record {
      decided = d.exact;
      unreadable = d.unreadable;
      complete = λ lines fit may are is short.
          completes c.audit.result c.sheet_status.result c.sheet_status.ensures (exactly.complete d.exact lines fit may are is short no_read no_write);
      refused = λ lines shown text more why fit are is bad short.
          refuses c.audit.result c.sheet_status.result c.sheet_status.ensures c.args.n d.exact d.unreadable _ _ (exactly.refused d.exact lines shown text more why fit are is bad short no_read no_write);
      too_long = λ lines rest more fit are part long some is.
          is_too_long c.audit.result c.sheet_status.result c.sheet_status.ensures (exactly.too_long d.exact lines rest more fit are part long some is no_read no_write);
    }

pub returns-clause-limit : goal.returns-clause-limit
returns-clause-limit g c = λ bytes is long e. c.audit.ensures.limit bytes is long (is_done c.audit.result c.sheet_status.result c.sheet_status.ensures e)

pub returns-clause-within : goal.returns-clause-within
returns-clause-within g c = λ bytes is short e. c.audit.ensures.within bytes is short (is_long c.audit.result c.sheet_status.result c.sheet_status.ensures e)

pub returns-clause-no_port : goal.returns-clause-no_port
returns-clause-no_port g c = is_no_port c.audit.result c.sheet_status.result c.sheet_status.ensures

pub returns-clause-no_disk : goal.returns-clause-no_disk
returns-clause-no_disk g c = is_no_disk c.audit.result c.sheet_status.result c.sheet_status.ensures
