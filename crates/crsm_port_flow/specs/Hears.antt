-- Which peers hear a node, by what they say, and what it says of those that it hears.
use Rattle.std.specs.Prelude.{◌≡◌, ◌⊎◌, ◌↔◌, ◌+◌, ◌-◌, ◌^◌, ◌<◌, ℕ, List, [], ◌∷◌, Some, None, min, slice_get, slice_set, All, Contains}
use Rattle.std.specs.Int.{IsBitSet, from_be_bytes, w16}
use Rattle.crsm_port.specs.Meaning.{Packet}
use Rattle.crsm_port_flow.specs.Taken.{IsSaid, IsStranger}
use Rattle.crsm_port_flow.specs.Went.{IsRecent}
use Rattle.crsm_port_flow.specs.declared.hearing.Hearing.{Hearing}
use Rattle.crsm_port_flow.specs.declared.hearing.Peer.{Peer}

-- the datagram says that its sender hears this replica: its bit is set, that of replica 0 is the lowest
abbrev pub SaysHears : ℕ → List ℕ → Type 0
SaysHears me bytes = (high low : ℕ) × (rest : List ℕ) × (bytes ≡ 18 ∷ high ∷ low ∷ rest) × (me < 16) × IsBitSet (from_be_bytes w16 (high ∷ low ∷ [])) me

-- how often in a row a peer said that it does not hear this replica, before and after this came
abbrev pub IsDeafBy : ℕ → List ℕ → ℕ → ℕ → Type 0
IsDeafBy me bytes old new =
    (SaysHears me bytes × (new ≡ 0)) ⊎ ((IsSaid bytes × (SaysHears me bytes → ⊥) × (new ≡ min (old + 1) (2 ^ 32 - 1))) ⊎ ((IsSaid bytes → ⊥) × (new ≡ old)))

-- a peer, once this came from it: it was heard now
pub record IsKnownBy (me : ℕ) (bytes : List ℕ) (now : ℕ) (old new : Peer) : Type 0 where
  pub address : new.address ≡ old.address
  pub heard : new.heard_at ≡ Some now
  pub deaf : IsDeafBy me bytes old.deaf new.deaf

-- of the peer with this address it is known so, and of the others nothing more
abbrev pub AreKnownBy : ℕ → ℕ → List ℕ → ℕ → List Peer → List Peer → Type 0
AreKnownBy me from bytes now old new =
    (IsStranger from old × (new ≡ old)) ⊎ ((k : ℕ) × (p q : Peer) × (slice_get old k ≡ Some p) × (p.address ≡ from) × IsKnownBy me bytes now p q × (new ≡ slice_set old k q))

-- ---- what a node says

-- a datagram of the peer came less than two seconds ago
abbrev pub IsHeard : ℕ → Peer → Type 0
IsHeard now p = (at : ℕ) × (p.heard_at ≡ Some at) × IsRecent at now 2_000_000

-- the bytes say which of the first 16 peers are heard
abbrev pub SaysHeard : ℕ → List Peer → List ℕ → Type 0
SaysHeard now peers bytes =
    (high low : ℕ) × (bytes ≡ 18 ∷ high ∷ low ∷ []) × ((k : ℕ) (p : Peer) → k < 16 → slice_get peers k ≡ Some p → IsBitSet (from_be_bytes w16 (high ∷ low ∷ [])) k ↔ IsHeard now p)

-- these datagrams say so, to each peer but this node itself
pub record TellsAll (me : ℕ) (now : ℕ) (peers : List Peer) (said : List Packet) : Type 0 where
  pub bytes : List ℕ
  pub says : SaysHeard now peers bytes
  pub each : All (λ (p : Packet). p.bytes ≡ bytes) said
  pub all : (k : ℕ) (p : Peer) → slice_get peers k ≡ Some p → (k ≡ me → ⊥) → Contains said (record { address = p.address; bytes = bytes })

-- each second the peers are told whom this node hears
abbrev pub Tells : ℕ → Hearing → Hearing → List Packet → Type 0
Tells now old new said =
    (((at : ℕ) × (old.said_at ≡ Some at) × IsRecent at now 1_000_000) × (new.said_at ≡ old.said_at) × (said ≡ [])) ⊎ ((new.said_at ≡ Some now) × TellsAll old.me now old.peers.items said)

-- a peer of which nothing came
abbrev pub unheard : ℕ → Peer
unheard address = record { address = address; heard_at = None; deaf = 0 }
