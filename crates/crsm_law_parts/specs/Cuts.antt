-- The datagrams that a node's port cuts into fragments, and their names.
use Rattle.std.specs.Prelude.{◌≡◌, ℕ, ◌<◌, List, length, take, Some, slice_get}
use Rattle.crsm_law_cluster.specs.Clusters.{Event, Outgoing}
use Rattle.crsm_law_parts.specs.Handed.{IsHanded, bytes_in}

-- maximum length in bytes of a datagram that is sent as one packet; longer ones are cut
abbrev pub most_whole : ℕ
most_whole = 1232

-- number of the first bytes of a datagram that name it in its fragments
abbrev pub name_size : ℕ
name_size = 36

-- A datagram that a node of a history hands to its port, from this address, in the cluster of this number, where the
-- k-th address is that of replica k: its bytes, of which there are more than a packet has.
pub record IsCut (n : ℕ) (h : List Event) (cluster : ℕ) (peers : List ℕ) (address : ℕ) (bytes : List ℕ) : Type 0 where
  pub node : ℕ
  pub from : slice_get peers node ≡ Some address
  pub item : Outgoing
  pub handed : IsHanded n h node item
  pub is : bytes ≡ bytes_in cluster item
  pub long : most_whole < length bytes

-- all of them, by address and bytes
abbrev pub cuts_of : ℕ → List Event → ℕ → List ℕ → ℕ → List ℕ → Type 0
cuts_of n h cluster peers address bytes = IsCut n h cluster peers address bytes

-- Of one address, two datagrams that are cut and have one name are equal: so the fragments of a name make up one
-- datagram.
abbrev pub AreApart : (ℕ → List ℕ → Type 0) → Type 0
AreApart cuts =
    (address : ℕ) (d e : List ℕ) → cuts address d → cuts address e → take name_size d ≡ take name_size e → d ≡ e
