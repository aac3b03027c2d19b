-- Records read from a body one after another.
use Rattle.std.proofs.Common.{◌≡◌, ℕ, ◌<◌, ◌≤◌, List, [], ◌∷◌, ◌++◌, length, None, Some, refl, ap, sym, subst, ◌∙◌, arith}
use Rattle.std.specs.List.{flat_map, AllByRecursion}
use Rattle.std.proofs.lemmas.List.{length-append}
use Rattle.std.proofs.lemmas.List.Concat.{flat_map-cons}
use Rattle.std.proofs.lemmas.Option.{none-some}
use Rattle.crsm_base.specs.Spelling.{option_bytes, FitsOption, command_bytes, FitsCommand}
use Rattle.crsm_base.specs.Parser.{u8_at}
use Rattle.crsm_base.proofs.Parsers.{IsParser, both_parse, option_parses, variant_again, some_is}
use Rattle.crsm_base.proofs.Numbers.{u64_parses}
use Rattle.crsm_base.proofs.Fields.{ballot_parses, command_parses}
use Rattle.crsm_mpspec.specs.declared.rec.MpRec.{MpRec}
use Rattle.crsm_spec.specs.Clock.{u64_max}
use Rattle.crsm_mpspec.specs.Log.{Log, boots}
use Rattle.crsm_mpspec.specs.Records.{rec_bytes, FitsRec, body_bytes, SpeltBody}
use Rattle.crsm_mpledger.specs.Reading.{value_at, boot_at, promise_at, accept_at, choose_at, rec_at}
use Rattle.crsm_mpledger.specs.declared.ledger.MpLedger.{MpLedger}
use Rattle.crsm_mpledger.specs.MpLedger.{CanFollow, MpLedgerStands}
use Rattle.crsm_mpledger.specs.Sound.{IsSound, MayFollow, with_records}
use Rattle.crsm_mpledger.proofs.BootLemmas.{can_follow, sound_before}

-- ---- single records

value_parses : IsParser value_at (option_bytes command_bytes) (FitsOption FitsCommand)
unfolding value_at
value_parses = option_parses command_parses

-- a record is read from its encoding
rec_again : (x : MpRec) (rest : List ℕ) → FitsRec x → rec_at (rec_bytes x ++ rest) ≡ Some (x, rest)
unfolding rec_at rec_bytes u8_at boot_at promise_at accept_at choose_at
rec_again MpRec.Boot rest fits = refl
rec_again (MpRec.Promise b) rest fits = variant_again ballot_parses (λ p. MpRec.Promise p) b rest fits
rec_again (MpRec.Accept slot b v) rest fits =
    variant_again (both_parse u64_parses (both_parse ballot_parses value_parses)) (λ p. MpRec.Accept p.0 p.1.0 p.1.1) (slot, (b, v)) rest (fits.0, (fits.1, fits.2))
rec_again (MpRec.Choose slot v) rest fits =
    variant_again (both_parse u64_parses value_parses) (λ p. MpRec.Choose p.0 p.1) (slot, v) rest (fits.0, fits.1)

rec_long : (x : MpRec) → 1 ≤ length (rec_bytes x)
unfolding rec_bytes
rec_long MpRec.Boot = omega arith
rec_long (MpRec.Promise b) = omega arith
rec_long (MpRec.Accept slot b v) = omega arith
rec_long (MpRec.Choose slot v) = omega arith

-- ---- what is left of a body

-- after this log the rest is the encoding of the missing records of the whole
pub record IsLeft (part : Log) (more : List MpRec) (rest : List ℕ) (whole : Log) : Type 0 where
  pub fit : AllByRecursion FitsRec more
  pub is : rest ≡ flat_map rec_bytes more
  pub same : with_records part more ≡ whole

-- at the beginning all of it
pub left_first : (log : Log) (recs : List MpRec) (body : List ℕ) → SpeltBody recs body → IsLeft log recs body (with_records log recs)
unfolding body_bytes
left_first log recs body s = record { fit = s.fits.fit; is = s.is; same = refl }

-- at the end nothing
pub left_last : (part : Log) (more : List MpRec) (rest : List ℕ) (whole : Log) → IsLeft part more rest whole → length rest ≡ 0 → part ≡ whole
left_last part [] rest whole left none = left.same
left_last part (x ∷ xs) rest whole left none =
    let some = rec_long x in
    let len = ap length (left.is ∙ flat_map-cons rec_bytes x xs) in
    absurd (omega (arith, none, some, len, length-append (rec_bytes x) (flat_map rec_bytes xs)))

-- what one record more leaves
pub record Next (part : Log) (rec : MpRec) (rest after : List ℕ) (whole : Log) : Type 0 where
  pub may : MayFollow part rec
  pub more : List MpRec
  pub left : IsLeft (rec ∷ part) more after whole
  pub shorter : length after < length rest

pub left_next : (part : Log) (more : List MpRec) (rest : List ℕ) (whole : Log) (rec : MpRec) (after : List ℕ) → IsLeft part more rest whole → IsSound whole
    → 0 < length rest → Some (rec, after) ≡ rec_at rest → Next part rec rest after whole
left_next part [] rest whole rec after left sound some read = absurd (omega (arith, some, ap length left.is))
left_next part (x ∷ xs) rest whole rec after left sound some read =
    let is : rest ≡ rec_bytes x ++ flat_map rec_bytes xs = left.is ∙ flat_map-cons rec_bytes x xs in
    let both = some_is (x, flat_map rec_bytes xs) (rec, after) (sym (rec_again x (flat_map rec_bytes xs) left.fit.0) ∙ ap rec_at (sym is) ∙ sym read) in
    let first : x ≡ rec = ap (λ (z : MpRec × List ℕ). z.0) both in
    let others : flat_map rec_bytes xs ≡ after = ap (λ (z : MpRec × List ℕ). z.1) both in
    let long = rec_long x in
    let len = ap length is in
    record {
      may = subst (MayFollow part) first (sound_before (x ∷ part) xs (subst IsSound (sym left.same) sound)).0;
      more = xs;
      left = record { fit = left.fit.1; is = sym others; same = ap (λ (y : MpRec). with_records (y ∷ part) xs) (sym first) ∙ left.same };
      shorter = omega (arith, long, len, ap length others, length-append (rec_bytes x) (flat_map rec_bytes xs));
    }

-- what is left begins with a record
pub left_some : (part : Log) (more : List MpRec) (rest : List ℕ) (whole : Log) → IsLeft part more rest whole → 0 < length rest → None ≡ rec_at rest → ⊥
left_some part [] rest whole left some none = absurd (omega (arith, some, ap length left.is))
left_some part (x ∷ xs) rest whole left some none =
    let is : rest ≡ rec_bytes x ++ flat_map rec_bytes xs = left.is ∙ flat_map-cons rec_bytes x xs in
    none-some (x, flat_map rec_bytes xs) (none ∙ ap rec_at is ∙ rec_again x (flat_map rec_bytes xs) left.fit.0)

-- and that record can be applied
pub left_follows : (ledger : MpLedger) (part : Log) (more : List MpRec) (rest : List ℕ) (whole : Log) (rec : MpRec) (after : List ℕ) → MpLedgerStands ledger part
    → IsLeft part more rest whole → IsSound whole → boots whole < u64_max → 0 < length rest → Some (rec, after) ≡ rec_at rest → CanFollow ledger rec
left_follows ledger part more rest whole rec after s left sound few some read =
    let next = left_next part more rest whole rec after left sound some read in
    can_follow ledger part rec next.more s (subst (λ l. boots l < u64_max) (sym next.left.same) few)
