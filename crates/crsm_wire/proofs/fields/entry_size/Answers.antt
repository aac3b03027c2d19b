use Rattle.std.proofs.Common.{arith}
use Rattle.crsm_wire.proofs.Lengths.{entry_sized}
use Rattle.crsm_wire.proofs.fields.entry_size.Goals as goal

pub returns : goal.returns
returns c = entry_sized c.args.entry.now c.in_ok-op_size.field-0 (omega arith) (omega arith) (omega arith) (c.is_stamp_spelt.ensures (cc)) c.in_ok-op_size.ensures
