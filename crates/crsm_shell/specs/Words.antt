-- The parts of a shell, for clauses of the crates above.
use Rattle.std.specs.Prelude.{Bool, ℕ, List}
use Rattle.crsm_log.specs.Words as logs
use Rattle.crsm_shell.specs.declared.shell.Shell.{Shell}

abbrev pub disk_of : {D : Type 0} {g : _} → Shell D g → D
disk_of shell = logs.disk_of shell.log

-- the place at which its next log entry begins
abbrev pub gate_of : {D : Type 0} {g : _} → Shell D g → ℕ
gate_of shell = logs.gate_of shell.log

-- the addresses of the replicas
abbrev pub peers_of : {D : Type 0} {g : _} → Shell D g → List ℕ
peers_of shell = shell.peers.items

-- where it receives a datagram
abbrev pub buffer_of : {D : Type 0} {g : _} → Shell D g → List ℕ
buffer_of shell = shell.buffer.items

-- how many steps are pending
abbrev pub pending_of : {D : Type 0} {g : _} → Shell D g → ℕ
pending_of shell = shell.pending

abbrev pub has_failed : {D : Type 0} {g : _} → Shell D g → Bool
has_failed shell = shell.failed
