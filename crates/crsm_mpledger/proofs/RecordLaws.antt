-- The reader of records reads their encodings.
use Rattle.std.proofs.Common.{◌≡◌, ℕ, ◌≤◌, List, ◌++◌, length, Some, refl, arith}
use Rattle.crsm_base.specs.Spelling.{option_bytes, FitsOption, command_bytes, FitsCommand}
use Rattle.crsm_base.specs.Parser.{u8_at}
use Rattle.crsm_base.proofs.Parsers.{IsParser, both_parse, option_parses, variant_again}
use Rattle.crsm_base.proofs.Numbers.{u64_parses}
use Rattle.crsm_base.proofs.Fields.{ballot_parses, command_parses}
use Rattle.crsm_base.proofs.Tags.{IsTagged, or_takes, no_takes, tagged_takes, nothing_parses}
use Rattle.crsm_mpspec.specs.declared.rec.MpRec.{MpRec}
use Rattle.crsm_mpspec.specs.Records.{rec_bytes, FitsRec}
use Rattle.crsm_mpledger.specs.Reading.{value_at, boot_at, promise_at, accept_at, choose_at, rec_tagged, rec_at}

value_parses : IsParser value_at (option_bytes command_bytes) (FitsOption FitsCommand)
unfolding value_at
value_parses = option_parses command_parses

rec_cases : IsTagged rec_tagged rec_bytes FitsRec
unfolding rec_bytes boot_at promise_at accept_at choose_at
rec_cases =
    or_takes 1 (λ _. MpRec.Boot) nothing_parses (λ p f. tt) (λ p. refl)
    (or_takes 2 (λ b. MpRec.Promise b) ballot_parses (λ b f. f) (λ b. refl)
    (or_takes 3 (λ p. MpRec.Accept p.0 p.1.0 p.1.1) (both_parse u64_parses (both_parse ballot_parses value_parses)) (λ p f. (f.0, f.1.0, f.1.1)) (λ p. refl)
    (or_takes 4 (λ p. MpRec.Choose p.0 p.1) (both_parse u64_parses value_parses) (λ p f. (f.0, f.1)) (λ p. refl)
    no_takes)))

rec_again : (x : MpRec) (rest : List ℕ) → FitsRec x → rec_at (rec_bytes x ++ rest) ≡ Some (x, rest)
unfolding rec_at rec_bytes u8_at boot_at promise_at accept_at choose_at
rec_again MpRec.Boot rest fits = refl
rec_again (MpRec.Promise b) rest fits = variant_again ballot_parses (λ p. MpRec.Promise p) b rest fits
rec_again (MpRec.Accept slot b v) rest fits =
    variant_again (both_parse u64_parses (both_parse ballot_parses value_parses)) (λ p. MpRec.Accept p.0 p.1.0 p.1.1) (slot, (b, v)) rest (fits.0, (fits.1, fits.2))
rec_again (MpRec.Choose slot v) rest fits =
    variant_again (both_parse u64_parses value_parses) (λ p. MpRec.Choose p.0 p.1) (slot, v) rest (fits.0, fits.1)

pub rec_parses : IsParser rec_at rec_bytes FitsRec
unfolding rec_at
rec_parses = record { takes = tagged_takes rec_cases; again = rec_again }

pub rec_long : (x : MpRec) → 1 ≤ length (rec_bytes x)
unfolding rec_bytes
rec_long MpRec.Boot = omega arith
rec_long (MpRec.Promise b) = omega arith
rec_long (MpRec.Accept slot b v) = omega arith
rec_long (MpRec.Choose slot v) = omega arith
