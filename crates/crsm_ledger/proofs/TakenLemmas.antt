-- Records read one by one from the prefix of a body.
use Rattle.std.proofs.Common.{◌≡◌, ℕ, false, List, [], ◌∷◌, ◌++◌, refl, ap, sym, ◌∙◌, subst, arith, append_assoc, Some, inr}
use Rattle.std.specs.List.{flat_map, AllByRecursion}
use Rattle.std.proofs.lemmas.Grind.{flat_map-append}
use Rattle.std.proofs.lemmas.List.{length-append}
use Rattle.crsm_base.specs.Records.{rec_bytes, FitsRec, body_bytes, SpeltBody}
use Rattle.crsm_base.specs.RecordReading.{rec_at}
use Rattle.crsm_base.proofs.RecordLaws.{rec_parses, rec_long}
use Rattle.crsm_base.proofs.Parsers.{IsBytes, IsBytes-back}
use Rattle.crsm_base.proofs.BodyLaws.{HasRead, reads_on, goes_on_as}
use Rattle.crsm_spec.specs.Types.{Rec}
use Rattle.crsm_spec.specs.Log.{Log}
use Rattle.crsm_spec.specs.Fits.{fits}
use Rattle.crsm_ledger.specs.Ledger.{kind}
use Rattle.crsm_ledger.specs.Recovered.{with_records, FitInTurn, IsBad}
use Rattle.crsm_fact_log.proofs.Lists.{all-append}

-- what was read of a body fits
pub taken_fits : (body : List ℕ) (recs : List Rec) (rest : List ℕ) (rec : Rec) (after : List ℕ) → IsBytes body → HasRead rec_bytes FitsRec body recs rest → Some (rec, after) ≡ rec_at rest → FitsRec rec
taken_fits body recs rest rec after ok h e =
    (rec_parses.takes rest rec after (IsBytes-back (flat_map rec_bytes recs) rest body h.is ok) (sym e)).0

-- a body with a record that was read and does not fit
pub bad_behind : (me n : ℕ) (log : Log) (body : List ℕ) (recs : List Rec) (rest : List ℕ) (rec : Rec) (after : List ℕ) (all : List Rec) (entry at why : ℕ) → IsBytes body → HasRead rec_bytes FitsRec body recs rest → Some (rec, after) ≡ rec_at rest
    → SpeltBody all body → FitInTurn me n log recs → (at ≡ entry) × (fits me n (with_records log recs) rec ≡ false) × (why ≡ kind rec) → (at ≡ entry) × IsBad me n log body why
unfolding body_bytes
bad_behind me n log body recs rest rec after all entry at why ok h e spelt fit bad =
    let read = reads_on rec_parses body recs rest rec after ok h e in
    let more = goes_on_as rec_parses rec_long (recs ++ rec ∷ []) after all read.fit spelt.fits.fit (sym read.is ∙ spelt.is) in
    let whole : (recs ++ rec ∷ []) ++ more.0 ≡ recs ++ rec ∷ more.0 = append_assoc recs (rec ∷ []) more.0 in (
      bad.0,
      inr (
        recs ++ rec ∷ more.0,
        record {
          fits = record {
            some = omega (arith, length-append recs (rec ∷ more.0));
            fit = subst (λ (rs : List Rec). AllByRecursion FitsRec rs) whole (all-append FitsRec (recs ++ rec ∷ []) more.0 read.fit more.1);
          };
          is = read.is ∙ ap (λ (s : List ℕ). flat_map rec_bytes (recs ++ rec ∷ []) ++ s) more.2 ∙ sym (flat_map-append rec_bytes (recs ++ rec ∷ []) more.0) ∙ ap (flat_map rec_bytes) whole;
        },
        record { before = recs; rec = rec; after = more.0; among = refl; fit = fit; misfit = bad.1; why_is = bad.2 },
      ),
    )
