-- The messages of a world, in memory.
use Rattle.std.specs.Prelude.{◌≡◌, ◌<◌, ◌≤◌, ◌+◌, ◌-◌, ◌^◌, ◌++◌, ℕ, Bool, ◌&&◌, not, true, false, List, map, filter, length, Option, Some, IsSome, option_map, slice_get, slice_set}
use Rattle.std.specs.List.{AllByRecursion, range_with_len}
use Rattle.std.specs.Option.{option_map_or}
use Rattle.crsm_base.specs.Limits.{most_world}
use Rattle.crsm_mpspec.specs.declared.input.MpInput.{MpInput}
use Rattle.crsm_mpspec.specs.declared.message.MpMessage.{MpMessage}
use Rattle.crsm_mpspec.specs.declared.line.MpKind.{MpKind}
use Rattle.crsm_mpspec.specs.World.{Packet as PacketOnPaper, kind_of}
use Rattle.crsm_mpreplica.specs.Fitting.{FitsMessage}
use Rattle.crsm_mpworld.specs.declared.network.MpNetwork.{MpNetwork}
use Rattle.crsm_mpworld.specs.declared.sent.PacketView.{PacketView}
use Rattle.crsm_mpworld.specs.Sent.{PacketInMemory, message_from}

-- ---- single messages

-- the packet in memory for one of the definitions
unfoldable pub in_memory : PacketOnPaper → PacketInMemory
in_memory p = record { to = p.to; is_used = p.used; message = Some (message_from p.from p.message) }

-- the view is of this packet, whose message fits
pub record IsPacket (m : PacketView) (p : PacketOnPaper) : Type 0 where
  pub from : m.from ≡ p.from
  pub to : m.to ≡ p.to
  pub input : m.input.now ≡ MpInput.Message p.message
  pub used : m.is_used ≡ p.used
  pub fits : FitsMessage p.message

-- the view is of the packet with this number
abbrev pub IsPacketAt : List PacketOnPaper → ℕ → PacketView → Type 0
IsPacketAt packets i m = (p : PacketOnPaper) × (slice_get packets i ≡ Some p) × IsPacket m p

-- message i was delivered or lost
unfoldable pub is_used_at : List PacketOnPaper → ℕ → Bool
is_used_at packets i = option_map_or (λ p. p.used) (slice_get packets i) false

-- the receiver of message i
unfoldable pub receiver_of : List PacketOnPaper → ℕ → Option ℕ
receiver_of packets i = option_map (λ p. p.to) (slice_get packets i)

-- message i is used from now on
unfoldable pub used_up : ℕ → List PacketOnPaper → List PacketOnPaper
used_up i packets = option_map_or (λ p. slice_set packets i (record p { used = true })) (slice_get packets i) packets

-- ---- fresh ones

-- message i is fresh, and its receiver passes the test
unfoldable pub is_fresh_for : (ℕ → Bool) → List PacketOnPaper → ℕ → Bool
is_fresh_for test packets i = option_map_or (λ p. not p.used && test p.to) (slice_get packets i) false

-- replica k is up, where the list says it of each
unfoldable pub is_up_among : List Bool → ℕ → Bool
is_up_among ups k = option_map_or (λ up. up) (slice_get ups k) false

-- the numbers of all messages, ascending
abbrev pub numbers_of : List PacketOnPaper → List ℕ
numbers_of packets = range_with_len 0 (length packets)

-- these numbers, and then those of the messages from number `from` on
abbrev pub with_later : List ℕ → ℕ → List PacketOnPaper → List ℕ
with_later numbers from packets = numbers ++ range_with_len from (length packets - from)

-- The numbers are those of messages, with all fresh ones whose receivers pass the test, ascending.
pub record HasFresh (test : ℕ → Bool) (packets : List PacketOnPaper) (numbers : List ℕ) : Type 0 where
  pub sent : AllByRecursion (λ i. i < length packets) numbers
  pub all : filter (is_fresh_for test packets) numbers ≡ filter (is_fresh_for test packets) (numbers_of packets)

-- ---- all of them

-- The network holds these packets, each of whose messages fits, and this number of bytes is counted.
pub record MpNetworkStands (network : MpNetwork) (packets : List PacketOnPaper) (bytes : ℕ) : Type 0 where
  pub held : network.sent.packets ≡ map in_memory packets
  pub fit : AllByRecursion (λ p. FitsMessage p.message) packets
  pub fresh : HasFresh (λ k. true) packets (with_later network.fresh.items network.fresh_end packets)
  pub near : HasFresh (is_up_among network.ups.items) packets (with_later network.near.items network.near_end packets)
  pub fresh_end : network.fresh_end ≤ length packets
  pub near_end : network.near_end ≤ length packets
  pub counted : network.bytes ≡ bytes

-- the message kept last is this one of replica k, and it fits
pub record IsLast (network : MpNetwork) (k : ℕ) (message : MpMessage) : Type 0 where
  pub is : network.sent.last ≡ Some (message_from k message)
  pub fits : FitsMessage message

-- a message was kept
abbrev pub HasLast : MpNetwork → Type 0
HasLast network = IsSome network.sent.last

-- the message kept last is the same
abbrev pub HasSameLast : (old new : MpNetwork) → Type 0
HasSameLast old new = new.sent.last ≡ old.sent.last

-- for the message that was kept last, and its sender
abbrev pub WhereLast : MpNetwork → (ℕ → MpMessage → Type 0) → Type 0
WhereLast network P = (k : ℕ) (message : MpMessage) → IsLast network k message → P k message

-- for the message that replica k kept last, where it is of this kind
abbrev pub WhereKept : MpNetwork → ℕ → MpKind → (MpMessage → Type 0) → Type 0
WhereKept network k kind P = (message : MpMessage) → IsLast network k message → kind ≡ kind_of message → P message

-- the world's size is below its limit
abbrev pub IsOpen : MpNetwork → Type 0
IsOpen network = network.bytes < most_world

-- this many bytes more can be counted
abbrev pub HasRoom : MpNetwork → ℕ → Type 0
HasRoom network size = network.bytes + size < 2 ^ 64

-- for the packets and the count of bytes that the network has
abbrev pub WhereNetwork : MpNetwork → (List PacketOnPaper → ℕ → Type 0) → Type 0
WhereNetwork network P = (packets : List PacketOnPaper) (bytes : ℕ) → MpNetworkStands network packets bytes → P packets bytes
