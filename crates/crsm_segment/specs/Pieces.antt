-- The datagrams of a control message that was cut.
use Rattle.std.specs.Prelude.{ℕ, List, length, map}
use Rattle.std.specs.List.{enumerate_from}
use Rattle.crsm_base.specs.declared.send.Send.{Send}
use Rattle.crsm_base.specs.declared.send.To.TheVariants as to_whom
use Rattle.crsm_base.specs.declared.datagram.Datagram.TheVariants as datagram
use Rattle.crsm_spec.specs.Parts.{Piece, cut}

-- the datagram that carries a part to a replica
unfoldable pub send_of : ℕ → Piece → Send
send_of to p =
    record { to = to_whom.Replica to; datagram = datagram.Part p.from to p.boot p.number p.index p.count p.bytes }

-- the part of a message at an index
abbrev pub piece_of : ℕ → ℕ → ℕ → List ℕ → ℕ → List ℕ → Piece
piece_of from boot number message index bytes =
    record { from = from; boot = boot; number = number; index = index; count = length (cut message); bytes = bytes }

-- the datagrams that carry a message to a replica, in the order of its parts
unfoldable pub sends_of : ℕ → ℕ → ℕ → ℕ → List ℕ → List Send
sends_of from to boot number message =
    map (λ p. send_of to (piece_of from boot number message p.0 p.1)) (enumerate_from 0 (cut message))
