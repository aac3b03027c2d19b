-- The relation between the bytes that name a sender and datagrams.
use Rattle.std.specs.Prelude.{◌≡◌, ℕ, List, Option, Some, None}
use Rattle.crsm_base.specs.MessageReading.{datagram_of}
use Rattle.crsm_base.specs.declared.datagram.Datagram.{Datagram}
use Rattle.crsm_base.specs.declared.datagram.Datagram.TheVariants as datagram
use Rattle.crsm_wire.specs.Inverse.{AreBytes}
use Rattle.crsm_wire.specs.Marks.{named_sender}

-- the replica that a datagram names as its sender
abbrev pub sender_of : Datagram → Option ℕ
sender_of (datagram.Frame from to epoch seq payload) = Some from
sender_of (datagram.Ack from to epoch next) = Some from
sender_of (datagram.Part from to boot number index count bytes) = Some from
sender_of (datagram.Request command) = None
sender_of (datagram.Reply client number outcome) = None
sender_of (datagram.Operate members) = None

-- the bytes of a datagram that names a replica as its sender name that replica
abbrev pub SendersAreNamed : Type 0
SendersAreNamed = (bytes : List ℕ) (d : Datagram) (k : ℕ) → AreBytes bytes → datagram_of bytes ≡ Some d → sender_of d ≡ Some k → named_sender bytes ≡ Some k
