-- The datagrams that packets carry from an address.
use Rattle.std.specs.Prelude.{◌≡◌, ◌<◌, ℕ, List, [], ◌∷◌, length, false, slice_index_or}
use Rattle.std.specs.List.{concat}
use Rattle.crsm_port.specs.Passing.{Datagrams, either}
use Rattle.crsm_port_packets.specs.Format.{FragmentFields, IsFragment, StandsIn, is_packed}

-- fragments, each with the address that it came from
abbrev pub Fragments : Type 1
Fragments = ℕ → FragmentFields → Type 0

-- the fragments among these packets
abbrev pub fragments_in : Datagrams → Fragments
fragments_in packets address f = (packet : List ℕ) × packets address packet × IsFragment packet f

-- all fragments of one datagram, in order, are among these
abbrev pub put_together : Fragments → Datagrams
put_together fragments address d = (name : List ℕ) × (pieces : List (List ℕ)) × (0 < length pieces) × (d ≡ concat pieces)
    × ((i : ℕ) → i < length pieces → fragments address (record { name = name; index = i; count = length pieces; bytes = slice_index_or pieces i [] }))

-- one of these packets is the datagram as it is
abbrev pub alone_in : Datagrams → Datagrams
alone_in packets address d = (is_packed d ≡ false) × packets address d

-- it stands whole in one of these packets
abbrev pub bundled_in : Datagrams → Datagrams
bundled_in packets address d = (entries : List ℕ) × packets address (20 ∷ 0 ∷ entries) × StandsIn d entries

-- the datagrams that these packets carry whole
abbrev pub carried : Datagrams → Datagrams
carried packets = either (alone_in packets) (bundled_in packets)
