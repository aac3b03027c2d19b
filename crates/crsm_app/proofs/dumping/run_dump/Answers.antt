use Rattle.std.proofs.Common.{subst, sym, ◌∙◌, ap}
use Rattle.crsm_cmd_dump.specs.Dumps.{IsDump}
use Rattle.crsm_cmd_dump.specs.declared.ending.DumpEnd.{DumpEnd}
use Rattle.crsm_cmd_dump.specs.declared.part.Part.{Part}
use Rattle.crsm_app.proofs.Dumps.{completes, did_so, ends, is_done, is_long, is_read_fault, is_write_fault, no_disk, no_line, no_port}
use Rattle.crsm_app.proofs.dumping.run_dump.Goals as goal

pub returns-clause-did : goal.returns-clause-did
returns-clause-did g c = did_so c.dump.result c.dump_status.result c.dump_status.ensures c.args.me c.args.n c.args.part _ c.part_of.ensures _ _ _ _
    c.dump.ensures.ran

pub returns-clause-read_fault : goal.returns-clause-read_fault
returns-clause-read_fault g c = λ e. c.dump.ensures.read_fault (is_read_fault c.dump.result c.dump_status.result c.dump_status.ensures e)

pub returns-clause-write_fault : goal.returns-clause-write_fault
returns-clause-write_fault g c = λ e. c.dump.ensures.write_fault (is_write_fault c.dump.result c.dump_status.result c.dump_status.ensures e)

pub returns-clause-exact : goal.returns-clause-exact
returns-clause-exact g c = λ no_read no_write. record {
  complete = λ file text is short dump.
      completes c.dump.result c.dump_status.result c.dump_status.ensures _ _ text
      (c.dump.ensures.complete file text is short (subst (λ (p : Part). IsDump c.args.me c.args.n p file text) (sym c.part_of.ensures) dump) no_read no_write);
  refused = λ file entry why is short bad.
      ends c.dump.result c.dump_status.result c.dump_status.ensures (DumpEnd.BadLog entry why) (c.dump.ensures.refused file entry why is short bad no_read no_write);
  too_long = λ file is long.
      ends c.dump.result c.dump_status.result c.dump_status.ensures DumpEnd.LogTooLong (c.dump.ensures.too_long file is long no_read no_write);
}

pub returns-clause-limit : goal.returns-clause-limit
returns-clause-limit g c = λ bytes is long e. c.dump.ensures.limit bytes is long (is_done c.dump.result c.dump_status.result c.dump_status.ensures e)

pub returns-clause-within : goal.returns-clause-within
returns-clause-within g c = λ bytes is short e. c.dump.ensures.within bytes is short (is_long c.dump.result c.dump_status.result c.dump_status.ensures e)

pub returns-clause-no_line : goal.returns-clause-no_line
returns-clause-no_line g c = no_line c.dump.result c.dump_status.result c.dump_status.ensures

pub returns-clause-no_port : goal.returns-clause-no_port
returns-clause-no_port g c = no_port c.dump.result c.dump_status.result c.dump_status.ensures

pub returns-clause-no_disk : goal.returns-clause-no_disk
returns-clause-no_disk g c = no_disk c.dump.result c.dump_status.result c.dump_status.ensures
