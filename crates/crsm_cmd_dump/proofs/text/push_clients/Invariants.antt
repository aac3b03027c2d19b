use Rattle.std.proofs.Common.{◌≡◌, ◌++◌}
use Rattle.std.specs.List.{flat_map}
use Rattle.crsm_cmd_dump.specs.Catalogs.{clients_of}
use Rattle.crsm_cmd_dump.specs.Texts.{client_row}
use Rattle.crsm_cmd_dump.proofs.text.push_clients.Given as goal

-- with the lines of the clients to come it is the whole text
abbrev pub invariant-loop-client : goal.invariant-loop-client
invariant-loop-client l = l.out ++ flat_map client_row (clients_of l.client-iterator) ≡ l.initial.out ++ flat_map client_row (clients_of l.clients.entries)
