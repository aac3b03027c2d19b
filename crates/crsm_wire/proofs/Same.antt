-- The encoding of a message is that of no other message.
use Rattle.std.proofs.Common.{◌≡◌, List, ℕ, Some, Result, Ok, Err, IfOk, sym, ap, ◌∙◌}
use Rattle.crsm_base.specs.declared.Control.{Control}
use Rattle.crsm_base.specs.declared.Datagram.{Datagram}
use Rattle.crsm_base.specs.Messages.{control_bytes, FitsControl, datagram_bytes, FitsDatagram, SpeltDatagram}
use Rattle.crsm_base.specs.Parser.{whole}
use Rattle.crsm_base.specs.MessageReading.{control_of, datagram_at, datagram_of}
use Rattle.crsm_base.proofs.Parsers.{IsBytes, some_is}
use Rattle.crsm_base.proofs.Wholes.{all_found}
use Rattle.crsm_base.proofs.ControlLaws.{control_of-bytes}
use Rattle.crsm_base.proofs.DatagramLaws.{datagram_of-bytes, datagram_whole}
use Rattle.crsm_wire.specs.declared.fault.WireError.{WireError}

pub same_control : (bytes : List ℕ) (a b : Control) → control_of bytes ≡ Some a → FitsControl b → bytes ≡ control_bytes b → a ≡ b
same_control bytes a b read fits is = some_is a b (sym read ∙ ap control_of is ∙ control_of-bytes b fits)

pub same_datagram : (bytes : List ℕ) (a b : Datagram) → datagram_of bytes ≡ Some a → FitsDatagram b → bytes ≡ datagram_bytes b → a ≡ b
same_datagram bytes a b read fits is = some_is a b (sym read ∙ ap datagram_of is ∙ datagram_of-bytes b fits)

-- the datagram that was read, if one was: the bytes spell it, and no other
pub read_is_spelt : (bytes : List ℕ) (read : Result Datagram WireError) → IsBytes bytes → IfOk read (λ d. whole (datagram_at bytes) ≡ Some d) → IfOk read (λ d. SpeltDatagram d bytes)
read_is_spelt bytes (Ok d) ok is = all_found datagram_whole bytes d ok (sym is)
read_is_spelt bytes (Err e) ok is = is

pub read_is_that : (bytes : List ℕ) (read : Result Datagram WireError) → IfOk read (λ d. whole (datagram_at bytes) ≡ Some d) → (d : Datagram) → FitsDatagram d → bytes ≡ datagram_bytes d → IfOk read (λ r. r ≡ d)
unfolding datagram_of
read_is_that bytes (Ok r) is d fits spelt = same_datagram bytes r d is fits spelt
read_is_that bytes (Err e) is d fits spelt = is
