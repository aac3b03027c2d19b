-- Reading records from the prefix of the bytes.
use Rattle.std.specs.Prelude.{ℕ}
use Rattle.crsm_base.specs.Parser.{Parser, both, made, option_at, nothing_at, or_tag, no_tag, tagged}
use Rattle.crsm_base.specs.Reading.{u64_at, ballot_at, command_at}
use Rattle.crsm_mpspec.specs.declared.rec.MpRec.{MpRec}
use Rattle.crsm_mpspec.specs.Types.{Value}

-- the value of a slot
unfoldable pub value_at : Parser Value
value_at bytes = option_at command_at bytes

unfoldable pub boot_at : Parser MpRec
boot_at bytes = made (λ _. MpRec.Boot) nothing_at bytes

unfoldable pub promise_at : Parser MpRec
promise_at bytes = made (λ b. MpRec.Promise b) ballot_at bytes

unfoldable pub accept_at : Parser MpRec
accept_at bytes = made (λ p. MpRec.Accept p.0 p.1.0 p.1.1) (both u64_at (both ballot_at value_at)) bytes

unfoldable pub choose_at : Parser MpRec
choose_at bytes = made (λ p. MpRec.Choose p.0 p.1) (both u64_at value_at) bytes

abbrev pub rec_tagged : ℕ → Parser MpRec
rec_tagged = or_tag 1 boot_at (or_tag 2 promise_at (or_tag 3 accept_at (or_tag 4 choose_at no_tag)))

unfoldable pub rec_at : Parser MpRec
rec_at bytes = tagged rec_tagged bytes
