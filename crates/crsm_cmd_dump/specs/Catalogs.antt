-- The keys and the clients that executed commands leave in the store, as a catalog has them.
use Rattle.std.specs.Prelude.{◌≡◌, ℕ, nat_lt, Bool, true, false, List, length, map, Option, None, Some}
use Rattle.crsm_base.specs.declared.Answer.{Answer}
use Rattle.crsm_base.specs.declared.Command.{Command}
use Rattle.crsm_base.specs.declared.Op.{Op}
use Rattle.crsm_base.specs.Limits.{most_clients}
use Rattle.crsm_base.specs.Store.{Client, Rows, client_row, with_key, without_key}
use Rattle.crsm_cmd_dump.specs.declared.catalog.Catalog.{Catalog}
use Rattle.crsm_cmd_dump.specs.declared.catalog.Kept.{Kept}

abbrev pub Keys : Type 0
Keys = List (List ℕ × List ℕ)

abbrev pub client_of : ℕ × Kept → Client
client_of e = record { client = e.0; number = e.1.number; answer = e.1.answer }

-- the rows, in the map's order
unfoldable pub clients_of : List (ℕ × Kept) → List Client
clients_of es = map client_of es

-- the row of a client with this last command
abbrev pub row_of : ℕ → Option Kept → Option Client
row_of client None = None
row_of client (Some kept) = Some (client_of (client, kept))

-- a command is executed if it is the client's next, or its first in a store with room
abbrev pub is_next : Option Client → List Client → Command → Bool
is_next None clients c = nat_lt (length clients) most_clients
is_next (Some row) clients c = nat_lt row.number c.number

unfoldable pub is_executed : List Client → Command → Bool
is_executed clients c = is_next (client_row c.client clients) clients c

abbrev pub is_done : Answer → Bool
is_done Answer.Done = true
is_done _ = false

-- the keys with the value set, or without the key
abbrev pub with_value : List ℕ → Option (List ℕ) → Keys → Keys
with_value key (Some value) keys = with_key key value keys
with_value key None keys = without_key key keys

-- the keys after an operation that was answered by `Done`, or otherwise
unfoldable pub changed : Op → Bool → Keys → Keys
changed (Op.Get key) done keys = keys
changed (Op.Put key value) true keys = with_key key value keys
changed (Op.Put key value) false keys = keys
changed (Op.Delete key) done keys = without_key key keys
changed (Op.Cas key expected new) true keys = with_value key new keys
changed (Op.Cas key expected new) false keys = keys

-- the catalog lists these keys and clients
pub record Lists (catalog : Catalog) (rows : Rows) : Type 0 where
  pub store : catalog.store ≡ rows
  pub keys : catalog.keys.entries ≡ rows.keys
  pub clients : clients_of catalog.clients.entries ≡ rows.clients
