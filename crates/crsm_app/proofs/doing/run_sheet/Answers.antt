use Rattle.crsm_app.proofs.Sheets.{completes, did_so, is_done, is_long, is_no_disk, is_no_port, is_read_fault, is_too_long, is_write_fault, refuses}
use Rattle.crsm_app.proofs.doing.run_sheet.Goals as goal

pub returns-clause-did : goal.returns-clause-did
returns-clause-did g c = did_so c.replay_node.result c.sheet_status.result c.sheet_status.ensures c.args.me c.args.n _ _ _ _ c.replay_node.ensures.ran

pub returns-clause-read_fault : goal.returns-clause-read_fault
returns-clause-read_fault g c = λ e. c.replay_node.ensures.read_fault (is_read_fault c.replay_node.result c.sheet_status.result c.sheet_status.ensures e)

pub returns-clause-write_fault : goal.returns-clause-write_fault
returns-clause-write_fault g c = λ e. c.replay_node.ensures.write_fault (is_write_fault c.replay_node.result c.sheet_status.result c.sheet_status.ensures e)

pub returns-clause-exact : goal.returns-clause-exact
returns-clause-exact g c = λ no_read no_write. record {
  complete = λ lines fit short sheet is within.
      completes c.replay_node.result c.sheet_status.result c.sheet_status.ensures (c.replay_node.ensures.complete lines fit short sheet is within no_read no_write);
  refused = λ lines shown text more cause is short left bad within.
      refuses c.replay_node.result c.sheet_status.result c.sheet_status.ensures _ cause (c.replay_node.ensures.refused lines shown text more cause is short left bad within no_read no_write);
  too_long = λ lines shown rest more is short part long some left.
      is_too_long c.replay_node.result c.sheet_status.result c.sheet_status.ensures (c.replay_node.ensures.too_long lines shown rest more is short part long some left no_read no_write);
}

pub returns-clause-limit : goal.returns-clause-limit
returns-clause-limit g c = λ bytes is long e. c.replay_node.ensures.limit bytes is long (is_done c.replay_node.result c.sheet_status.result c.sheet_status.ensures e)

pub returns-clause-within : goal.returns-clause-within
returns-clause-within g c = λ bytes is short e. c.replay_node.ensures.within bytes is short (is_long c.replay_node.result c.sheet_status.result c.sheet_status.ensures e)

pub returns-clause-no_port : goal.returns-clause-no_port
returns-clause-no_port g c = is_no_port c.replay_node.result c.sheet_status.result c.sheet_status.ensures

pub returns-clause-no_disk : goal.returns-clause-no_disk
returns-clause-no_disk g c = is_no_disk c.replay_node.result c.sheet_status.result c.sheet_status.ensures
