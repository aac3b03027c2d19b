-- Bodies that are not a log have one first bad body and one reason.
use Rattle.std.proofs.Common.{◌≡◌, ℕ, zero, suc, List, [], ◌∷◌, ◌++◌, true, false, take, refl, sym, ◌∙◌, ap, subst, inl, inr}
use Rattle.std.specs.Prelude.{Some, slice_get}
use Rattle.crsm_base.specs.Records.{SpeltBody}
use Rattle.crsm_spec.specs.Types.{Rec}
use Rattle.crsm_spec.specs.Log.{Log}
use Rattle.crsm_spec.specs.Fits.{fits}
use Rattle.crsm_ledger.specs.Ledger.{kind}
use Rattle.crsm_ledger.specs.Recovered.{AreKept, FitInTurn, IsBad, with_records}

-- a body is the encoding of one list of records
abbrev pub BodiesHaveOne : Type 0
BodiesHaveOne = (a b : List Rec) (s : List ℕ) → SpeltBody a s → SpeltBody b s → a ≡ b

-- ---- records

-- records that fit have no misfit among them
no_misfit : (me n : ℕ) (log : Log) (before after : List Rec) (rec : Rec) → FitInTurn me n log (before ++ rec ∷ after) → fits me n (with_records log before) rec ≡ false → ⊥
no_misfit me n log [] after rec fit misfit = let e : true ≡ false = sym fit.0 ∙ misfit in cc
no_misfit me n log (r ∷ before) after rec fit misfit = no_misfit me n (r ∷ log) before after rec fit.1 misfit

-- the first misfit is one record
first_misfit : (me n : ℕ) (log : Log) (before later after more : List Rec) (rec other : Rec) → before ++ rec ∷ after ≡ later ++ other ∷ more
    → FitInTurn me n log before → FitInTurn me n log later → fits me n (with_records log before) rec ≡ false → fits me n (with_records log later) other ≡ false → rec ≡ other
first_misfit me n log [] [] after more rec other same p q bad worse = cc
first_misfit me n log [] (r ∷ later) after more rec other same p q bad worse =
    let one : rec ≡ r = cc in
    let e : true ≡ false = sym q.0 ∙ ap (λ (x : Rec). fits me n log x) (sym one) ∙ bad in absurd (cc)
first_misfit me n log (r ∷ before) [] after more rec other same p q bad worse =
    let one : r ≡ other = cc in
    let e : true ≡ false = sym p.0 ∙ ap (λ (x : Rec). fits me n log x) one ∙ worse in absurd (cc)
first_misfit me n log (r ∷ before) (s ∷ later) after more rec other same p q bad worse =
    let heads : r ≡ s = cc in
    let tails : before ++ rec ∷ after ≡ later ++ other ∷ more = cc in
    first_misfit me n (r ∷ log) before later after more rec other tails p.1 (subst (λ (x : Rec). FitInTurn me n (x ∷ log) later) (sym heads) q.1) bad
    (subst (λ (x : Rec). fits me n (with_records (x ∷ log) later) other ≡ false) (sym heads) worse)

-- ---- one body

module _ (one : BodiesHaveOne) (me n : ℕ) where
  -- a body that fits is not bad
  fits_not_bad : (log : Log) (body : List ℕ) (why : ℕ) (recs : List Rec) → SpeltBody recs body → FitInTurn me n log recs → IsBad me n log body why → ⊥
  fits_not_bad log body why recs spelt fit (inl none) = none.1 recs spelt
  fits_not_bad log body why recs spelt fit (inr some) =
      let same : recs ≡ some.0 = one recs some.0 body spelt some.1 in
      let m = some.2 in
      no_misfit me n log m.before m.after m.rec (subst (FitInTurn me n log) (same ∙ m.among) fit) m.misfit

  one_reason : (log : Log) (body : List ℕ) (w v : ℕ) → IsBad me n log body w → IsBad me n log body v → w ≡ v
  one_reason log body w v (inl p) (inl q) = p.0 ∙ sym q.0
  one_reason log body w v (inl p) (inr q) = absurd (p.1 q.0 q.1)
  one_reason log body w v (inr p) (inl q) = absurd (q.1 p.0 p.1)
  one_reason log body w v (inr p) (inr q) =
      let same : p.0 ≡ q.0 = one p.0 q.0 body p.1 q.1 in
      let a = p.2 in
      let b = q.2 in
      let rec : a.rec ≡ b.rec = first_misfit me n log a.before b.before a.after b.after a.rec b.rec (sym a.among ∙ same ∙ b.among) a.fit b.fit a.misfit b.misfit in
      a.why_is ∙ ap kind rec ∙ sym b.why_is

  -- ---- many

  pub kept_not_bad : (start : Log) (bodies : List (List ℕ)) (entry : ℕ) (body : List ℕ) (log end : Log) (why : ℕ) → slice_get bodies entry ≡ Some body
      → AreKept me n start (take entry bodies) log → IsBad me n log body why → AreKept me n start bodies end → ⊥
  kept_not_bad start [] entry body log end why there before bad kept = cc
  kept_not_bad start (b ∷ bodies) zero body log end why there before bad kept =
      let same : b ≡ body = cc in
      fits_not_bad start b why kept.0 kept.1 kept.2 (subst (λ (l : Log). IsBad me n l b why) before (subst (λ (x : List ℕ). IsBad me n log x why) (sym same) bad))
  kept_not_bad start (b ∷ bodies) (suc entry) body log end why there before bad kept =
      let same : kept.0 ≡ before.0 = one kept.0 before.0 b kept.1 before.1 in
      kept_not_bad (with_records start before.0) bodies entry body log end why there before.3 bad
      (subst (λ (recs : List Rec). AreKept me n (with_records start recs) bodies end) same kept.3)

  pub first_bad : (start : Log) (bodies : List (List ℕ)) (e f : ℕ) (body other : List ℕ) (log end : Log) (w v : ℕ)
      → slice_get bodies e ≡ Some body → AreKept me n start (take e bodies) log → IsBad me n log body w
      → slice_get bodies f ≡ Some other → AreKept me n start (take f bodies) end → IsBad me n end other v → (e ≡ f) × (w ≡ v)
  first_bad start [] e f body other log end w v there before bad here ahead worse = absurd (cc)
  first_bad start (b ∷ bodies) zero zero body other log end w v there before bad here ahead worse =
      let same : b ≡ body = cc in
      let too : b ≡ other = cc in (
        refl,
        one_reason start b w v (subst (λ (l : Log). IsBad me n l b w) before (subst (λ (x : List ℕ). IsBad me n log x w) (sym same) bad))
            (subst (λ (l : Log). IsBad me n l b v) ahead (subst (λ (x : List ℕ). IsBad me n end x v) (sym too) worse)),
      )
  first_bad start (b ∷ bodies) zero (suc f) body other log end w v there before bad here ahead worse =
      let same : b ≡ body = cc in
      absurd (fits_not_bad start b w ahead.0 ahead.1 ahead.2 (subst (λ (l : Log). IsBad me n l b w) before (subst (λ (x : List ℕ). IsBad me n log x w) (sym same) bad)))
  first_bad start (b ∷ bodies) (suc e) zero body other log end w v there before bad here ahead worse =
      let too : b ≡ other = cc in
      absurd (fits_not_bad start b v before.0 before.1 before.2 (subst (λ (l : Log). IsBad me n l b v) ahead (subst (λ (x : List ℕ). IsBad me n end x v) (sym too) worse)))
  first_bad start (b ∷ bodies) (suc e) (suc f) body other log end w v there before bad here ahead worse =
      let same : ahead.0 ≡ before.0 = one ahead.0 before.0 b ahead.1 before.1 in
      let rest = first_bad (with_records start before.0) bodies e f body other log end w v there before.3 bad here
      (subst (λ (recs : List Rec). AreKept me n (with_records start recs) (take f bodies) end) same ahead.3) worse in
      (ap suc rest.0, rest.1)
