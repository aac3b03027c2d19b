-- Memory and room for datagrams that are kept, and what the room counts.
use Rattle.std.proofs.Common.{Global, Vec}
use Rattle.std.specs.Prelude.{◌≡◌, ◌⊎◌, ◌+◌, ◌≤◌, ◌<◌, ◌++◌, ℕ, List, [], ◌∷◌, length, Option, Some, None, vec_capacity}
use Rattle.std.specs.List.{sum_by}
use Rattle.crsm_port_flow.specs.declared.clients.Operate.{Operate}
use Rattle.crsm_port_flow.specs.declared.datagram.Buffers.{Buffers}
use Rattle.crsm_port_flow.specs.declared.datagram.Datagram.{Datagram}
use Rattle.crsm_port_flow.specs.declared.requests.Waiting.{Waiting}
use Rattle.crsm_port_flow.specs.declared.room.Room.{Room}

-- no memory that is at hand is long enough for so many bytes: none is spare, or what would be used is shorter
abbrev pub IsShortOf : ℕ → Buffers → Type 0
IsShortOf size b = (before : List (Vec ℕ Global)) (last : Vec ℕ Global) → b.spare.items ≡ before ++ last ∷ [] → vec_capacity last < size

-- there is no room for one more datagram of this many bytes: as many are kept as may be, or with it they would be too long
abbrev pub IsFull : (most most_bytes size : ℕ) → Room → Type 0
IsFull most most_bytes size room = (most ≤ room.count) ⊎ (most_bytes < room.size + size)

-- the room has one more datagram, of this many bytes
abbrev pub HasOneMore : ℕ → Room → Room → Type 0
HasOneMore size old new = (new.count ≡ old.count + 1) × (new.size ≡ old.size + size)

-- the room has as many datagrams as before, and as many bytes
abbrev pub HasAsMany : Room → Room → Type 0
HasAsMany old new = (new.count ≡ old.count) × (new.size ≡ old.size)

abbrev pub size_of : Datagram → ℕ
size_of d = length d.bytes.items

-- ---- what others ask for

abbrev pub size_of_request : Waiting → ℕ
size_of_request r = size_of r.datagram

-- the number of requests for a membership change, none or one, and of their bytes
abbrev pub operates_in : Option Operate → ℕ
operates_in None = 0
operates_in (Some o) = 1

abbrev pub bytes_in : Option Operate → ℕ
bytes_in None = 0
bytes_in (Some o) = size_of o.datagram

-- the room counts the requests that wait, and the request for a membership change
abbrev pub CountsAsked : Room → List Waiting → Option Operate → Type 0
CountsAsked room waiting operate = (room.count ≡ length waiting + operates_in operate) × (room.size ≡ sum_by size_of_request waiting + bytes_in operate)
