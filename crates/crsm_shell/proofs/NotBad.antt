-- Bodies of a log are not bad.
use Rattle.std.proofs.Common.{◌≡◌, ℕ, zero, suc, List, [], ◌∷◌, ◌++◌, take, sym, ◌∙◌, subst, inl, inr, Bool, true, false}
use Rattle.std.specs.Prelude.{Some, slice_get}
use Rattle.std.proofs.lemmas.Option.{none-some, same_Some}
use Rattle.crsm_base.specs.declared.rec.Rec.{Rec}
use Rattle.crsm_base.specs.Records.{SpeltBody}
use Rattle.crsm_spec.specs.Fits.{fits}
use Rattle.crsm_spec.specs.Log.{Log}
use Rattle.crsm_ledger.specs.Recovered.{AreKept, FitInTurn, IsBad, Misfit, with_records}
use Rattle.crsm_log.specs.Format.{bad, bodies_of, found}
use Rattle.crsm_shell.specs.Booting.{IsBadLog}
use Rattle.crsm_shell.specs.Shell.{HasLog}

both : (b : Bool) → b ≡ true → b ≡ false → ⊥
both b is other = cc

not_both : (bodies : List (List ℕ)) (entry : ℕ) → found bodies ≡ bad entry → ⊥
not_both bodies entry is = cc

fits_there : (me n : ℕ) (log : Log) (before : List Rec) (rec : Rec) (after : List Rec) → FitInTurn me n log (before ++ rec ∷ after) → fits me n (with_records log before) rec ≡ true
fits_there me n log [] rec after h = h.0
fits_there me n log (r ∷ before) rec after h = fits_there me n (r ∷ log) before rec after h.1

no_misfit : (me n : ℕ) (log : Log) (recs : List Rec) (why : ℕ) → FitInTurn me n log recs → Misfit me n log recs why → ⊥
no_misfit me n log recs why fit m = both (fits me n (with_records log m.before) m.rec) (fits_there me n log m.before m.rec m.after (subst (FitInTurn me n log) m.among fit)) m.misfit

module _ (one : (a b : List Rec) (s : List ℕ) → SpeltBody a s → SpeltBody b s → a ≡ b) (me n why : ℕ) where
  not_bad : (log : Log) (body : List ℕ) (recs : List Rec) → SpeltBody recs body → FitInTurn me n log recs → IsBad me n log body why → ⊥
  not_bad log body recs spelt fit (inl h) = h.1 recs spelt
  not_bad log body recs spelt fit (inr h) = no_misfit me n log h.0 why (subst (FitInTurn me n log) (one recs h.0 body spelt h.1) fit) h.2

  kept_not_bad : (log : Log) (bodies : List (List ℕ)) (end : Log) (entry : ℕ) (body : List ℕ) (before : Log) → AreKept me n log bodies end → slice_get bodies entry ≡ Some body →
      AreKept me n log (take entry bodies) before → IsBad me n before body why → ⊥
  kept_not_bad log [] end entry body before kept there first worse = none-some body there
  kept_not_bad log (b ∷ bodies) end zero body before kept there first worse =
      let is : b ≡ body = same_Some b body there in
      not_bad log body kept.0 (subst (SpeltBody kept.0) is kept.1) kept.2 (subst (λ (l : Log). IsBad me n l body why) first worse)
  kept_not_bad log (b ∷ bodies) end (suc entry) body before kept there first worse =
      let same : first.0 ≡ kept.0 = one first.0 kept.0 b first.1 kept.1 in
      kept_not_bad (with_records log kept.0) bodies end entry body before kept.3 there
      (subst (λ (recs : List Rec). AreKept me n (with_records log recs) (take entry bodies) before) same first.3) worse

  pub log_not_bad : (file : List ℕ) (entry : ℕ) (log : Log) → HasLog me n file log → IsBadLog me n file entry why → ⊥
  unfolding HasLog
  log_not_bad file entry log has (inl h) = not_both (bodies_of file) entry (sym has.whole ∙ h.1)
  log_not_bad file entry log has (inr h) = kept_not_bad [] (bodies_of file) log entry h.1.body h.1.log has.kept h.1.there h.1.before h.1.bad
