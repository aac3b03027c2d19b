use Rattle.std.proofs.Common.{◌≡◌, take, drop}
use Rattle.crsm_replica_io.specs.Outgoing.{SendsAll}
use Rattle.crsm_replica_io.specs.Headers.{packets_of, size_of}
use Rattle.crsm_replica_io.proofs.outbox.send_headers.Given as goal

abbrev pub invariant-loop-header : goal.invariant-loop-header
invariant-loop-header g l =
    (l.rest ≡ drop (size_of (take l.header-index l.headers)) l.text) × SendsAll (packets_of (take l.header-index l.headers) l.text) (g.P.Port.meaning l.initial.port) (g.P.Port.meaning l.port)
