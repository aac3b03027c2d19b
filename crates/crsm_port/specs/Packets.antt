-- Lists of sent datagrams whose bytes are in one buffer.
use Rattle.std.specs.Prelude.{ℕ, ◌+◌, List, [], ◌∷◌, Bool, true, nat_le, ◌&&◌, take, drop}
use Rattle.crsm_port.specs.Meaning.{Packet}
use Rattle.crsm_port.specs.declared.sent_packets.Label.{Label}

-- whether each range is within this many bytes
abbrev pub is_within : List Label → ℕ → Bool
is_within [] size = true
is_within (l ∷ labels) size = nat_le (l.start + l.len) size && is_within labels size

-- the datagrams with these addresses and ranges
abbrev pub packets : List Label → List ℕ → List Packet
packets [] bytes = []
packets (l ∷ labels) bytes = (record { address = l.address; bytes = take l.len (drop l.start bytes) }) ∷ packets labels bytes
