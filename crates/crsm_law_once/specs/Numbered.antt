-- Commands in a list of entries, by the clients and numbers under which they are asked for: what each is answered, and
-- what it changes.
use Rattle.std.specs.Prelude.{◌≡◌, ◌≢◌, ℕ, ◌+◌, ◌<◌, ◌≤◌, List, length, take, None, slice_get, Some}
use Rattle.crsm_base.specs.Limits.{most_clients}
use Rattle.crsm_base.specs.Store.{Rows, after, client_row, operate}
use Rattle.crsm_spec.specs.Types.{Answer, Entry}
use Rattle.crsm_spec.specs.Safe.{AnswersAt}

-- The entry at this place is a command of this client under this number, and the store answers this to it.
pub record IsAnswered (es : List Entry) (place client number : ℕ) (a : Answer) : Type 0 where
  pub entry : Entry
  pub at : AnswersAt es place entry a
  pub asked_by : entry.command.client ≡ client
  pub numbered : entry.command.number ≡ number

-- the store before the entry at this place: its keys with their values, and what it keeps of each client
abbrev pub store_at : List Entry → ℕ → Rows
store_at es place = after (take place es)

-- the entry at this place changes a key or a value
abbrev pub ChangesKeys : List Entry → ℕ → Type 0
ChangesKeys es place = (store_at es (place + 1)).keys ≢ (store_at es place).keys

-- the entry at this place leaves the store as it is, keys and clients
abbrev pub ChangesNothing : List Entry → ℕ → Type 0
ChangesNothing es place = store_at es (place + 1) ≡ store_at es place

-- the entry at this place does what its operation says: to the keys, and as its answer
pub record IsExecuted (es : List Entry) (place : ℕ) (e : Entry) (a : Answer) : Type 0 where
  pub keys : (store_at es (place + 1)).keys ≡ (operate (store_at es place).keys e.command.op).0
  pub answer : a ≡ (operate (store_at es place).keys e.command.op).1

-- The store keeps nothing of the client at this place, and has the maximum number of clients.
pub record HasNoRoomFor (es : List Entry) (place client : ℕ) : Type 0 where
  pub unknown : client_row client (store_at es place).clients ≡ None
  pub full : most_clients ≤ length (store_at es place).clients

-- every number of the client at a place between two others is at most this one
abbrev pub NoneHigherBetween : List Entry → ℕ → ℕ → ℕ → ℕ → Type 0
NoneHigherBetween es p q client number =
    (r : ℕ) (e : Entry) → p < r → r < q → slice_get es r ≡ Some e → e.command.client ≡ client →
    e.command.number ≤ number

-- every number of the client before a place is below this one
abbrev pub AllLowerBefore : List Entry → ℕ → ℕ → ℕ → Type 0
AllLowerBefore es p client number =
    (r : ℕ) (e : Entry) → r < p → slice_get es r ≡ Some e → e.command.client ≡ client → e.command.number < number

-- The answer says that the number is stale: an entry before this place has the client's higher number that it names.
pub record IsStaleAt (es : List Entry) (place client number : ℕ) (a : Answer) : Type 0 where
  pub higher : ℕ
  pub above : number < higher
  pub says : a ≡ Answer.Stale higher
  pub earlier : ℕ
  pub before : earlier < place
  pub entry : Entry
  pub at : slice_get es earlier ≡ Some entry
  pub asked_by : entry.command.client ≡ client
  pub numbered : entry.command.number ≡ higher
