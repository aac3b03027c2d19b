-- The encodings of the rows of a store: keys with their values, and clients with their last commands.
use Rattle.std.specs.Prelude.{ℕ, ◌<◌, ◌≤◌, ◌^◌, Bool, true, ◌&&◌, nat_le, List, [], ◌∷◌, ◌++◌, length, is_none}
use Rattle.std.specs.List.{flat_map, AllByRecursion}
use Rattle.crsm_base.specs.Limits.{most_keys, most_clients}
use Rattle.crsm_base.specs.Parser.{◌>>=◌, Parser, passing, both, made, many_at}
use Rattle.crsm_base.specs.Reading.{u32_at, u64_at, key_at, val_at, answer_at}
use Rattle.crsm_base.specs.Spelling.{u32_bytes, u64_bytes, key_bytes, FitsKey, val_bytes, FitsVal, answer_bytes, FitsAnswer}
use Rattle.crsm_base.specs.Store.{Client, bytes_lt, client_row}

-- ---- lists

-- a list: how many items it has, in four bytes, then each of them
unfoldable pub list_bytes : {X : Type 0} → (X → List ℕ) → List X → List ℕ
list_bytes spell xs = u32_bytes (length xs) ++ flat_map spell xs

-- a list of at most so many items, each of which fits
pub record FitsList {X : Type 0} (Fits : X → Type 0) (limit : ℕ) (xs : List X) : Type 0 where
  pub most : length xs ≤ limit
  pub fit : AllByRecursion Fits xs

-- ---- keys

unfoldable pub key_row_bytes : List ℕ × List ℕ → List ℕ
key_row_bytes row = key_bytes row.0 ++ val_bytes row.1

abbrev pub FitsKeyRow : List ℕ × List ℕ → Type 0
FitsKeyRow row = FitsKey row.0 × FitsVal row.1

unfoldable pub key_rows_bytes : List (List ℕ × List ℕ) → List ℕ
key_rows_bytes rows = list_bytes key_row_bytes rows

abbrev pub FitsKeyRows : List (List ℕ × List ℕ) → Type 0
FitsKeyRows = FitsList FitsKeyRow most_keys

-- whether the keys rise strictly, and the first is above this one
abbrev pub rise_above : List ℕ → List (List ℕ × List ℕ) → Bool
rise_above key [] = true
rise_above key (row ∷ rows) = bytes_lt key row.0 && rise_above row.0 rows

-- whether the keys rise strictly
unfoldable pub keys_rise : List (List ℕ × List ℕ) → Bool
keys_rise [] = true
keys_rise (row ∷ rows) = rise_above row.0 rows

-- ---- clients

unfoldable pub client_row_bytes : Client → List ℕ
client_row_bytes row = u64_bytes row.client ++ (u64_bytes row.number ++ answer_bytes row.answer)

pub record FitsClientRow (row : Client) : Type 0 where
  pub client : row.client < 2 ^ 64
  pub number : row.number < 2 ^ 64
  pub answer : FitsAnswer row.answer

unfoldable pub client_rows_bytes : List Client → List ℕ
client_rows_bytes rows = list_bytes client_row_bytes rows

abbrev pub FitsClientRows : List Client → Type 0
FitsClientRows = FitsList FitsClientRow most_clients

-- whether no client has two rows
unfoldable pub clients_differ : List Client → Bool
clients_differ [] = true
clients_differ (row ∷ rows) = is_none (client_row row.client rows) && clients_differ rows

-- ---- how they are read

-- at most so many items behind their count
unfoldable pub list_at : {X : Type 0} → Parser X → ℕ → Parser (List X)
list_at at limit bytes = passing (λ n. nat_le n limit) u32_at bytes >>= λ count. many_at at count.0 count.1

unfoldable pub key_row_at : Parser (List ℕ × List ℕ)
key_row_at bytes = both key_at val_at bytes

unfoldable pub key_rows_at : Parser (List (List ℕ × List ℕ))
key_rows_at bytes = list_at key_row_at most_keys bytes

unfoldable pub client_row_at : Parser Client
client_row_at bytes =
    made (λ p. record { client = p.0; number = p.1.0; answer = p.1.1 }) (both u64_at (both u64_at answer_at)) bytes

unfoldable pub client_rows_at : Parser (List Client)
client_rows_at bytes = list_at client_row_at most_clients bytes
