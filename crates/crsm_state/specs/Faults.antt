-- Why bytes are the encoding of no history.
use Rattle.std.specs.Prelude.{◌≡◌, ℕ, ◌<◌, ◌^◌, false, List, ◌++◌, length, Option}
use Rattle.crsm_base.specs.Limits.{most_keys, most_clients}
use Rattle.crsm_base.specs.Spelling.{u32_bytes}
use Rattle.crsm_base.specs.Store.{Client}
use Rattle.crsm_state.specs.declared.error.HistoryError.{HistoryError}
use Rattle.crsm_state.specs.declared.history.History.{History}
use Rattle.crsm_state.specs.declared.position.Position.{Position}
use Rattle.crsm_state.specs.Rows.{key_rows_bytes, FitsKeyRows, keys_rise, client_rows_bytes, FitsClientRows, clients_differ}
use Rattle.crsm_state.specs.Histories.{head_bytes, FitsHead, history_bytes, FitsHistory, is_begun, SpeltHistory}

-- the bytes begin with the encoding of a value of this kind, of which and of the bytes behind it something holds
pub record Begins {X : Type 0} (spell : X → List ℕ) (Fits : X → Type 0) (bytes : List ℕ) (So : X → List ℕ → Type 0) : Type 0 where
  pub value : X
  pub rest : List ℕ
  pub fits : Fits value
  pub is : bytes ≡ spell value ++ rest
  pub so : So value rest

-- the bytes begin with the encoding of no value of this kind
abbrev pub BeginsWithNo : {X : Type 0} → (X → List ℕ) → (X → Type 0) → List ℕ → Type 0
BeginsWithNo {X = X} spell Fits bytes = (x : X) (rest : List ℕ) → Fits x → bytes ≡ spell x ++ rest → ⊥

-- a count of more than this many
abbrev pub CountsMore : ℕ → List ℕ → Type 0
CountsMore limit bytes = Begins u32_bytes (λ n. n < 2 ^ 32) bytes (λ n rest. limit < n)

-- behind the head something holds of the bytes
abbrev pub BehindHead : List ℕ → (ℕ × Option Position → List ℕ → Type 0) → Type 0
BehindHead bytes So = Begins head_bytes FitsHead bytes So

-- what is wrong with bytes that are to begin with the rows of keys
abbrev pub IsKeysFault : List ℕ → HistoryError → Type 0
IsKeysFault bytes HistoryError.TooManyKeys = CountsMore most_keys bytes
IsKeysFault bytes HistoryError.Keys = BeginsWithNo key_rows_bytes FitsKeyRows bytes
IsKeysFault bytes HistoryError.KeyOrder = Begins key_rows_bytes FitsKeyRows bytes (λ keys rest. keys_rise keys ≡ false)
IsKeysFault bytes HistoryError.NoMemory = Unit {0}
IsKeysFault bytes HistoryError.Head = ⊥
IsKeysFault bytes HistoryError.TooManyClients = ⊥
IsKeysFault bytes HistoryError.Clients = ⊥
IsKeysFault bytes HistoryError.ClientTwice = ⊥
IsKeysFault bytes HistoryError.Begun = ⊥
IsKeysFault bytes HistoryError.GoesOn = ⊥

-- what is wrong with bytes that are to begin with the rows of clients
abbrev pub IsClientsFault : List ℕ → HistoryError → Type 0
IsClientsFault bytes HistoryError.TooManyClients = CountsMore most_clients bytes
IsClientsFault bytes HistoryError.Clients = BeginsWithNo client_rows_bytes FitsClientRows bytes
IsClientsFault bytes HistoryError.ClientTwice =
    Begins client_rows_bytes FitsClientRows bytes (λ clients rest. clients_differ clients ≡ false)
IsClientsFault bytes HistoryError.NoMemory = Unit {0}
IsClientsFault bytes HistoryError.Head = ⊥
IsClientsFault bytes HistoryError.TooManyKeys = ⊥
IsClientsFault bytes HistoryError.Keys = ⊥
IsClientsFault bytes HistoryError.KeyOrder = ⊥
IsClientsFault bytes HistoryError.Begun = ⊥
IsClientsFault bytes HistoryError.GoesOn = ⊥

-- behind the head and the keys something holds of the bytes
abbrev pub BehindKeys : List ℕ → (ℕ × Option Position → List (List ℕ × List ℕ) → List ℕ → Type 0) → Type 0
BehindKeys bytes So = BehindHead bytes (λ head rest. Begins key_rows_bytes FitsKeyRows rest (So head))

-- the history of these parts
abbrev pub history_with : ℕ × Option Position → List (List ℕ × List ℕ) → List Client → History
history_with head keys clients = record { executed = head.0; last = head.1; keys = keys; clients = clients }

-- the bytes begin with the parts of a history whose number of entries is not that of what they lead to
abbrev pub IsMisbegun : List ℕ → Type 0
IsMisbegun bytes =
    BehindKeys bytes (λ head keys rest. Begins client_rows_bytes FitsClientRows rest
    (λ clients rest. is_begun (history_with head keys clients) ≡ false))

-- the bytes are not the encoding of a history, for this reason; of memory that ran out they say nothing
abbrev pub IsHistoryFault : List ℕ → HistoryError → Type 0
IsHistoryFault bytes HistoryError.Head = BeginsWithNo head_bytes FitsHead bytes
IsHistoryFault bytes HistoryError.TooManyKeys = BehindHead bytes (λ head rest. IsKeysFault rest HistoryError.TooManyKeys)
IsHistoryFault bytes HistoryError.Keys = BehindHead bytes (λ head rest. IsKeysFault rest HistoryError.Keys)
IsHistoryFault bytes HistoryError.KeyOrder = BehindHead bytes (λ head rest. IsKeysFault rest HistoryError.KeyOrder)
IsHistoryFault bytes HistoryError.TooManyClients =
    BehindKeys bytes (λ head keys rest. IsClientsFault rest HistoryError.TooManyClients)
IsHistoryFault bytes HistoryError.Clients =
    BehindKeys bytes (λ head keys rest. IsClientsFault rest HistoryError.Clients)
IsHistoryFault bytes HistoryError.ClientTwice =
    BehindKeys bytes (λ head keys rest. IsClientsFault rest HistoryError.ClientTwice)
IsHistoryFault bytes HistoryError.Begun = IsMisbegun bytes
IsHistoryFault bytes HistoryError.GoesOn = Begins history_bytes FitsHistory bytes (λ h rest. 0 < length rest)
IsHistoryFault bytes HistoryError.NoMemory = Unit {0}

-- no bytes that are the encoding of a history have a fault
abbrev pub EncodingsHaveNoFault : Type 0
EncodingsHaveNoFault =
    (h : History) (bytes : List ℕ) (why : HistoryError) → SpeltHistory h bytes → IsHistoryFault bytes why → why ≡ HistoryError.NoMemory
