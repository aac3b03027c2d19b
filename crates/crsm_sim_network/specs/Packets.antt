-- The datagrams of a world, and their representation in memory.
use Rattle.std.specs.Prelude.{◌≡◌, ◌<◌, ◌≤◌, ◌+◌, ℕ, Bool, true, false, ◌&&◌, not, min, if◌then◌else◌, List, [], ◌∷◌, ◌++◌, length, map, filter, Option, Some, option_map, slice_get, slice_set, slice_range}
use Rattle.std.specs.List.{AllByRecursion, flat_map, range_with_len}
use Rattle.std.specs.Option.{option_map_or}
use Rattle.crsm_base.specs.Messages.{datagram_bytes, FitsDatagram}
use Rattle.crsm_base.specs.declared.send.Send.{Send}
use Rattle.crsm_base.specs.declared.send.To.{To}
use Rattle.crsm_base.specs.declared.send.To.TheVariants as to_whom
use Rattle.crsm_port.specs.Meaning.{Packet as Sent}
use Rattle.crsm_spec.specs.Types.{Datagram}
use Rattle.crsm_spec.specs.World.{Packet, packet_of, packets_size}
use Rattle.crsm_sim_network.specs.declared.packets.PacketEntry.{PacketEntry}
use Rattle.crsm_sim_network.specs.declared.packets.PacketView.{PacketView}
use Rattle.crsm_sim_network.specs.declared.network.Network.{Network}
use Rattle.crsm_sim_network.specs.declared.receivers.Receivers.{Receivers}
use Rattle.crsm_sim_network.specs.Tally.{TallyStands, is_wanted}

-- The datagram in memory is this one of the definitions, which has an encoding: it is its range of the bytes of all.
pub record IsPacket (spelling : List ℕ) (m : PacketEntry) (p : Packet) : Type 0 where
  pub from : m.from ≡ p.from
  pub to : m.to ≡ p.to
  pub order : m.start ≤ m.end
  pub within : m.end ≤ length spelling
  pub bytes : slice_range spelling m.start m.end ≡ datagram_bytes p.datagram
  pub fits : FitsDatagram p.datagram
  pub used : m.is_used ≡ p.used

-- one by one
abbrev pub HoldsPackets : List ℕ → List PacketEntry → List Packet → Type 0
HoldsPackets spelling [] [] = Unit {0}
HoldsPackets spelling (m ∷ ms) (p ∷ ps) = IsPacket spelling m p × HoldsPackets spelling ms ps
HoldsPackets spelling [] (p ∷ ps) = ⊥
HoldsPackets spelling (m ∷ ms) [] = ⊥

-- the view is of this packet, which has an encoding
pub record IsPacketView (l : PacketView) (p : Packet) : Type 0 where
  pub from : l.from ≡ p.from
  pub to : l.to ≡ p.to
  pub bytes : l.bytes.now ≡ datagram_bytes p.datagram
  pub fits : FitsDatagram p.datagram

-- ---- single datagrams

-- datagram i was delivered or lost
unfoldable pub is_used_at : List Packet → ℕ → Bool
is_used_at packets i = option_map_or (λ m. m.used) (slice_get packets i) false

-- datagram i is fresh, and its receiver passes the test
unfoldable pub is_fresh_for : (ℕ → Bool) → List Packet → ℕ → Bool
is_fresh_for test packets i = option_map_or (λ m. not m.used && test m.to) (slice_get packets i) false

-- the receiver of datagram i
unfoldable pub receiver_of : List Packet → ℕ → Option ℕ
receiver_of packets i = option_map (λ m. m.to) (slice_get packets i)

-- the receiver of datagram i, 0 where there is none
unfoldable pub receiver_or : List Packet → ℕ → ℕ
receiver_or packets i = option_map_or (λ m. m.to) (slice_get packets i) 0

-- datagram i is used from now on
unfoldable pub used_up : ℕ → List Packet → List Packet
used_up i packets = option_map_or (λ m. slice_set packets i (record m { used = true })) (slice_get packets i) packets

-- the numbers of all datagrams, ascending
abbrev pub numbers_of : List Packet → List ℕ
numbers_of packets = range_with_len 0 (length packets)

-- replica k is up, where the list says it of each
unfoldable pub is_up_among : List Bool → ℕ → Bool
is_up_among ups k = option_map_or (λ up. up) (slice_get ups k) false

-- ---- classes

-- the class of a datagram for this receiver; those of 15 and above are one
unfoldable pub class_of : (to : ℕ) → (used : Bool) → ℕ
class_of to used = if used then min to 15 + 16 else min to 15

unfoldable pub class_of_packet : Packet → ℕ
class_of_packet p = class_of p.to p.used

-- the datagram is used, or fresh, and its receiver passes the test
unfoldable pub is_of : (used : Bool) → (ℕ → Bool) → Packet → Bool
is_of used test p = (if used then p.used else not p.used) && test p.to

-- the classes of used or of fresh datagrams for the receivers
abbrev pub wanted : Receivers → (used : Bool) → List Bool
wanted r true = r.used
wanted r false = r.fresh

-- these are the receivers that pass the test
pub record Receives (r : Receivers) (test : ℕ → Bool) : Type 0 where
  pub whole : (used : Bool) → length (wanted r used) ≡ 32
  pub right : (used : Bool) (p : Packet) → is_wanted (wanted r used) (class_of_packet p) ≡ is_of used test p

-- ---- what leaves

-- the datagram has an encoding
abbrev pub FitsPacket : Send → Type 0
FitsPacket s = FitsDatagram s.datagram

-- a datagram for a replica, behind its receiver; a reply is none
unfoldable pub to_packets : To → Datagram → List (ℕ × Datagram)
to_packets (to_whom.Replica k) d = (k, d) ∷ []
to_packets (to_whom.Address a) d = []

unfoldable pub sent_to : Send → List (ℕ × Datagram)
sent_to s = to_packets s.to s.datagram

-- the datagrams to replicas among the output
unfoldable pub sent_of : List Send → List (ℕ × Datagram)
sent_of sends = flat_map sent_to sends

-- Each of these was sent over a port, as the bytes of its datagram: the first of them as datagram `first` of the port.
abbrev pub AreSpelt : List Send → List Sent → ℕ → Type 0
AreSpelt sends sent first =
    (i : ℕ) (s : Send) → slice_get sends i ≡ Some s → option_map {T = Sent} (λ d. d.bytes) (slice_get sent (first + i)) ≡ Some (datagram_bytes s.datagram)

-- ---- all of them

-- The numbers are those of datagrams, with all fresh ones whose receivers pass the test, ascending.
pub record HasFresh (test : ℕ → Bool) (packets : List Packet) (numbers : List ℕ) : Type 0 where
  pub sent : AllByRecursion (λ i. i < length packets) numbers
  pub all : filter (is_fresh_for test packets) numbers ≡ filter (is_fresh_for test packets) (numbers_of packets)

-- The network holds these packets, and this number of bytes is counted.
pub record NetworkStands (network : Network) (packets : List Packet) (bytes : ℕ) : Type 0 where
  pub held : HoldsPackets network.spelling network.packets.items packets
  pub fresh : HasFresh (λ k. true) packets network.fresh.items
  pub near : HasFresh (is_up_among network.ups.items) packets network.near.items
  pub tallied : TallyStands network.tally (map class_of_packet packets)
  pub counted : network.bytes ≡ bytes

-- behind these packets and bytes, the network holds what replica k has sent
abbrev pub HasSent : Network → List Packet → (bytes k : ℕ) → List (ℕ × Datagram) → Type 0
HasSent network packets bytes k sends = NetworkStands network (packets ++ map (packet_of k) sends) (bytes + packets_size sends)

-- for the packets and the count of bytes that the network has
abbrev pub WhereStands : Network → (List Packet → ℕ → Type 0) → Type 0
WhereStands network P = (packets : List Packet) (bytes : ℕ) → NetworkStands network packets bytes → P packets bytes

-- the same where these are the bytes of the datagram
abbrev pub WhereSpelt : Network → Datagram → List ℕ → (List Packet → ℕ → Type 0) → Type 0
WhereSpelt network d text P = (packets : List Packet) (bytes : ℕ) → NetworkStands network packets bytes → text ≡ datagram_bytes d → P packets bytes
