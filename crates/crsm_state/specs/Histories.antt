-- What an executed list leads to, and its encoding.
use Rattle.std.specs.Prelude.{◌≡◌, ℕ, ◌<◌, ◌^◌, Bool, true, ◌==◌, ◌&&◌, if◌then◌else◌, List, ◌++◌, length, Option, is_none, is_some}
use Rattle.std.specs.Option.{option_map}
use Rattle.crsm_base.specs.declared.command.Entry.{Entry}
use Rattle.crsm_base.specs.Parser.{Parser, both, made, option_at}
use Rattle.crsm_base.specs.Reading.{u64_at, stamp_at}
use Rattle.crsm_base.specs.Spelling.{Spelt, u64_bytes, stamp_bytes, FitsStamp, option_bytes, FitsOption}
use Rattle.crsm_base.specs.Store.{after}
use Rattle.crsm_spec.specs.Lists.{last_of}
use Rattle.crsm_state.specs.declared.position.Position.{Position}
use Rattle.crsm_state.specs.declared.history.History.{History}
use Rattle.crsm_state.specs.Rows.{key_rows_bytes, FitsKeyRows, keys_rise, client_rows_bytes, FitsClientRows, clients_differ}

-- what these entries lead to, executed in order
unfoldable pub history_of : List Entry → History
history_of es = record {
  executed = length es;
  last = option_map (λ e. record { epoch = e.epoch; stamp = e.stamp }) (last_of es);
  keys = (after es).keys;
  clients = (after es).clients;
}

-- ---- the position of the last entry

unfoldable pub position_bytes : Position → List ℕ
position_bytes p = u64_bytes p.epoch ++ stamp_bytes p.stamp

pub record FitsPosition (p : Position) : Type 0 where
  pub epoch : p.epoch < 2 ^ 64
  pub stamp : FitsStamp p.stamp

-- ---- a history's head: how many entries were executed, and where the last of them stands

unfoldable pub head_bytes : ℕ × Option Position → List ℕ
head_bytes head = u64_bytes head.0 ++ option_bytes position_bytes head.1

abbrev pub FitsHead : ℕ × Option Position → Type 0
FitsHead head = (head.0 < 2 ^ 64) × FitsOption FitsPosition head.1

-- ---- histories

unfoldable pub history_bytes : History → List ℕ
history_bytes h = head_bytes (h.executed, h.last) ++ (key_rows_bytes h.keys ++ client_rows_bytes h.clients)

-- where no entry was executed there is no last one, no key and no client; otherwise there is a last one
unfoldable pub is_begun : History → Bool
is_begun h =
    if h.executed == 0
    then is_none h.last && (length h.keys == 0 && length h.clients == 0)
    else is_some h.last

-- the history has an encoding
pub record FitsHistory (h : History) : Type 0 where
  pub head : FitsHead (h.executed, h.last)
  pub keys : FitsKeyRows h.keys
  pub rise : keys_rise h.keys ≡ true
  pub clients : FitsClientRows h.clients
  pub differ : clients_differ h.clients ≡ true
  pub begun : is_begun h ≡ true

abbrev pub SpeltHistory : History → List ℕ → Type 0
SpeltHistory = Spelt history_bytes FitsHistory

-- two histories are one where their encodings are
abbrev pub HistoriesHaveOneEncoding : Type 0
HistoriesHaveOneEncoding = (a b : History) → FitsHistory a → FitsHistory b → history_bytes a ≡ history_bytes b → a ≡ b

-- ---- how they are read

unfoldable pub position_at : Parser Position
position_at bytes = made (λ p. record { epoch = p.0; stamp = p.1 }) (both u64_at stamp_at) bytes

unfoldable pub option_position_at : Parser (Option Position)
option_position_at bytes = option_at position_at bytes

unfoldable pub head_at : Parser (ℕ × Option Position)
head_at bytes = both u64_at option_position_at bytes
