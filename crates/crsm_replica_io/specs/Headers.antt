-- The datagrams of an outbox, by their headers and their joined bytes.
use Rattle.std.specs.Prelude.{◌≡◌, ◌≤◌, ℕ, ◌+◌, List, [], ◌∷◌, length, take, drop}
use Rattle.std.specs.List.{AllByRecursion}
use Rattle.crsm_port.specs.Meaning.{Packet}
use Rattle.crsm_replica_io.specs.declared.outbox.Header.{Header}

-- how many bytes they have together
abbrev pub size_of : List Header → ℕ
size_of [] = 0
size_of (l ∷ headers) = l.len + size_of headers

-- the datagrams that have these bytes
abbrev pub packets_of : List Header → List ℕ → List Packet
packets_of [] text = []
packets_of (l ∷ headers) text = (record { address = l.to; bytes = take l.len text }) ∷ packets_of headers (drop l.len text)

-- each is short enough for each port
abbrev pub AreShort : List Header → Type 0
AreShort headers = AllByRecursion (λ l. l.len ≤ 8183) headers

-- these bytes are those of the datagrams, each of which is short
pub record IsKept (headers : List Header) (text : List ℕ) : Type 0 where
  pub size : size_of headers ≡ length text
  pub short : AreShort headers
