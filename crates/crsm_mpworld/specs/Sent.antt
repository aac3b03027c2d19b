-- The messages of a world in memory, each kept once.
use Rattle.std.specs.Prelude.{◌<◌, ◌-◌, ℕ, Bool, true, List, [], map, length, Option, None, slice_get, slice_set}
use Rattle.std.specs.List.{AllByRecursion}
use Rattle.std.specs.Option.{option_map_or}
use Rattle.crsm_mpspec.specs.declared.input.MpInput.{MpInput}
use Rattle.crsm_mpspec.specs.declared.message.MpMessage.{MpMessage}
use Rattle.crsm_mpreplica.specs.Fitting.{FitsInput}
use Rattle.crsm_mpworld.specs.declared.sent.Message.{Message}
use Rattle.crsm_mpworld.specs.declared.sent.Packet.{Packet}

-- a packet with its message
pub record PacketInMemory : Type 0 where
  pub to : ℕ
  pub is_used : Bool
  pub message : Option Message

-- the packets by number, and the message that was kept last
pub record Sent : Type 0 where
  pub packets : List PacketInMemory
  pub last : Option Message

abbrev pub nothing_sent : Sent
nothing_sent = record { packets = []; last = None }

-- this message from replica k
abbrev pub message_from : ℕ → MpMessage → Message
message_from k m = record { from = k; input = MpInput.Message m }

-- packet i is used from now on
unfoldable pub marked : ℕ → List PacketInMemory → List PacketInMemory
marked i packets = option_map_or (λ p. slice_set packets i (record p { is_used = true })) (slice_get packets i) packets

-- ---- where each message is kept once

-- the packet, with its message among these
abbrev pub whole : List Message → Packet → PacketInMemory
whole messages p = record { to = p.to; is_used = p.is_used; message = slice_get messages p.message }

abbrev pub sent_of : List Message → List Packet → Sent
sent_of messages packets = record { packets = map (whole messages) packets; last = slice_get messages (length messages - 1) }

-- The message of each packet is among these, each of which fits.
pub record AreKept (messages : List Message) (packets : List Packet) : Type 0 where
  pub within : AllByRecursion (λ p. p.message < length messages) packets
  pub fit : AllByRecursion (λ m. FitsInput m.input) messages
