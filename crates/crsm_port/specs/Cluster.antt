-- The port of one cluster over a port that clusters share. On the wire a datagram is preceded by its cluster's number.
use Rattle.std.specs.Prelude.{◌≡◌, ◌⊎◌, ℕ, zero, suc, ◌+◌, ◌-◌, ◌^◌, min, List, [], ◌++◌, take, drop, None, eqb, if◌then◌else◌}
use Rattle.std.specs.List.{starts_with}
use Rattle.crsm_wire.specs.Marks.{mark_of}
use Rattle.crsm_port.specs.Meaning.{Framing, IsShort, Meaning}
use Rattle.crsm_port.specs.Passing.{Cut, Datagrams}

-- a datagram on the wire; those of cluster 0 have no mark
abbrev pub wrapped : ℕ → List ℕ → List ℕ
wrapped zero bytes = bytes
wrapped (suc c) bytes = mark_of (suc c) ++ bytes

-- the datagram can be sent: any of cluster 0, and one that fits with a mark
abbrev pub IsShortIn : ℕ → List ℕ → Type 0
IsShortIn c bytes = (c ≡ 0) ⊎ IsShort bytes

-- the datagram that arrived on the wire; without bytes if it is of another cluster
abbrev pub unwrapped : ℕ → List ℕ → List ℕ
unwrapped zero bytes = bytes
unwrapped (suc c) bytes = if starts_with eqb bytes (mark_of (suc c)) then drop 9 bytes else []

-- maximum number of bytes received from the wire
abbrev pub most_on_the_wire : ℕ
most_on_the_wire = 8201

-- the received datagram, cut to that maximum; those of cluster 0 are cut by the caller alone
abbrev pub unwrapped_first : ℕ → List ℕ → List ℕ
unwrapped_first zero bytes = bytes
unwrapped_first (suc c) bytes = unwrapped (suc c) (take most_on_the_wire bytes)

-- the framing of a cluster over that of the inner port
abbrev pub over : ℕ → Framing → Framing
over c framing = record {
  wrap = λ d. framing.wrap (record d { bytes = wrapped c d.bytes });
  unwrap = λ d. record (framing.unwrap d) { bytes = unwrapped_first c (framing.unwrap d).bytes };
}

-- the model of the port after this many sends that were too long; it tells no plan
abbrev pub clustered : ℕ → ℕ → Meaning → Meaning
clustered c too_long m = record m { framing = over c m.framing; plan = None; losses = min (m.losses + too_long) (2 ^ 64 - 1); too_long = too_long }

-- the datagrams that a cluster gives, where these come from the wire: its own without their marks, and no bytes of others
abbrev pub given_to : ℕ → Datagrams → Datagrams
given_to zero D address bytes = D address bytes
given_to (suc c) D address bytes = (bytes ≡ []) ⊎ Cut D address (mark_of (suc c) ++ bytes)

-- the datagrams that a cluster sends, where these go to the wire
abbrev pub sent_by : ℕ → Datagrams → Datagrams
sent_by c D address bytes = D address (wrapped c bytes)
