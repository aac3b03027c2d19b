-- The lines of a replica's outgoing datagrams.
use Rattle.std.specs.Prelude.{ℕ, Bool, true, false, List}
use Rattle.crsm_base.specs.declared.Line.{Line}
use Rattle.crsm_base.specs.declared.send.Send.{Send}
use Rattle.crsm_base.specs.declared.send.To.{To}
use Rattle.crsm_base.specs.declared.send.To.TheVariants as to_whom
use Rattle.crsm_base.specs.Messages.{datagram_bytes}

-- the line of bytes that go out
abbrev pub line_to : To → List ℕ → Line
line_to (to_whom.Replica k) bytes = Line.Out k bytes
line_to (to_whom.Address a) bytes = Line.Back a bytes

-- the line of an outgoing datagram
abbrev pub send_line : Send → Line
send_line s = line_to s.to (datagram_bytes s.datagram)

-- whether a datagram is a reply
abbrev pub is_reply_to : To → Bool
is_reply_to (to_whom.Replica k) = false
is_reply_to (to_whom.Address a) = true

abbrev pub goes_to_client : Send → Bool
goes_to_client s = is_reply_to s.to
