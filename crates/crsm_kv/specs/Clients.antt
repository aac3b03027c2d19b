-- The clients of a map, as rows.
use Rattle.std.specs.Prelude.{◌≡◌, ◌<◌, ◌==◌, ℕ, suc, List, [], ◌∷◌, map, length, if◌then◌else◌, Option, None, Some}
use Rattle.crsm_base.specs.Store.{Client}
use Rattle.crsm_kv.specs.declared.clients.Kept.{Kept}

abbrev pub client_of : ℕ × Kept → Client
client_of e = record { client = e.0; number = e.1.number; answer = e.1.answer }

-- the rows, in the map's order
unfoldable pub clients_of : List (ℕ × Kept) → List Client
clients_of es = map client_of es

-- the row of a client with this last command
abbrev pub row_of : ℕ → Option Kept → Option Client
row_of client None = None
row_of client (Some kept) = Some (client_of (client, kept))

-- how many rows stand before the client's
unfoldable pub rows_before : ℕ → List Client → ℕ
rows_before client [] = 0
rows_before client (row ∷ rows) = if row.client == client then 0 else suc (rows_before client rows)

-- the client has a row, and it stands at this place
abbrev pub IsPlaceOf : ℕ → List Client → ℕ → Type 0
IsPlaceOf client rows place = (place ≡ rows_before client rows) × (place < length rows)
