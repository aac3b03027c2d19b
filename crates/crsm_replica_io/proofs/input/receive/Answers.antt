use Rattle.crsm_replica_io.proofs.Receiving.{fails, nothing, datagram}
use Rattle.crsm_replica_io.proofs.input.receive.Goals as goal

pub returns-in-Err-clause-taken : goal.returns-in-Err-clause-taken
returns-in-Err-clause-taken g c = fails _ _ c.args.buf.now c.recv.new.buf _ (rw c.in-Err.is at c.recv.ensures.receives)

pub returns-in-Ok-Nothing-clause-taken : goal.returns-in-Ok-Nothing-clause-taken
returns-in-Ok-Nothing-clause-taken g c = nothing _ _ c.args.buf.now c.recv.new.buf (rw (c.in-Ok-Nothing.is, c.in-Ok-Nothing.field-0-is) at c.recv.ensures.receives)

pub returns-in-Ok-Datagram-clause-taken : goal.returns-in-Ok-Datagram-clause-taken
returns-in-Ok-Datagram-clause-taken g c =
    datagram _ _ c.args.buf.now c.recv.new.buf c.in-Ok-Datagram.from c.in-Ok-Datagram.len (rw (c.in-Ok-Datagram.is, c.in-Ok-Datagram.field-0-is) at c.recv.ensures.receives)
