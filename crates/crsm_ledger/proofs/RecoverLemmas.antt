-- One record more, and one body more.
use Rattle.std.proofs.Common.{◌≡◌, ℕ, true, false, ◌<◌, ◌+◌, List, [], ◌∷◌, ◌++◌, ap, sym, ◌∙◌, subst, length, take, drop, append_assoc}
use Rattle.std.specs.Prelude.{slice_get, Result, Ok, Err, MatchResult}
use Rattle.crsm_base.specs.Records.{SpeltBody}
use Rattle.crsm_spec.specs.Types.{Rec}
use Rattle.crsm_spec.specs.Log.{Log}
use Rattle.crsm_spec.specs.Fits.{fits}
use Rattle.crsm_ledger.specs.declared.error.LedgerError.{LedgerError}
use Rattle.crsm_ledger.specs.declared.error.LedgerError.TheVariants.{BadLog, NotFit, NoMemory}
use Rattle.crsm_ledger.specs.Recovered.{with_records, FitInTurn, AreKept, Misfit, IsBad, IsBadAt, IfBadLog}
use Rattle.crsm_ledger.specs.Ledger.{kind}
use Rattle.crsm_fact_log.proofs.Lists.{halves, item_at}

pub fit-push : (me n : ℕ) (log : Log) (recs : List Rec) (rec : Rec) → FitInTurn me n log recs → fits me n (with_records log recs) rec ≡ true → FitInTurn me n log (recs ++ rec ∷ [])
fit-push me n log [] rec fit here = (here, tt)
fit-push me n log (r ∷ recs) rec fit here = (fit.0, fit-push me n (r ∷ log) recs rec fit.1 here)

pub kept-push : (me n : ℕ) (log mid : Log) (bodies : List (List ℕ)) (body : List ℕ) (recs : List Rec) → AreKept me n log bodies mid → SpeltBody recs body → FitInTurn me n mid recs → AreKept me n log (bodies ++ body ∷ []) (with_records mid recs)
kept-push me n log mid [] body recs kept spelt fit =
    (recs, spelt, subst (λ (l : Log). FitInTurn me n l recs) kept fit, ap (λ l. with_records l recs) kept)
kept-push me n log mid (b ∷ bodies) body recs kept spelt fit =
    (kept.0, kept.1, kept.2, kept-push me n (with_records log kept.0) mid bodies body recs kept.3 spelt fit)

-- what is said of a bad body, by what is said of another
pub bad_more : (e : LedgerError) (P Q : ℕ → ℕ → Type 0) → ((at why : ℕ) → P at why → Q at why) → IfBadLog e P → IfBadLog e Q
bad_more (BadLog at why) P Q more bad = more at why bad
bad_more (NotFit why) P Q more bad = bad
bad_more NoMemory P Q more bad = bad

-- the same of a whole answer
pub taken_more : (r : Result (Unit {0}) LedgerError) (P Q : Type 0) (A B : ℕ → ℕ → Type 0) → (P → Q) → ((at why : ℕ) → A at why → B at why) → MatchResult r (λ _. P) (λ e. IfBadLog e A) → MatchResult r (λ _. Q) (λ e. IfBadLog e B)
taken_more (Ok u) P Q A B ok bad h = ok h
taken_more (Err e) P Q A B ok bad h = bad_more e A B bad h

-- records with one that does not fit
pub misfit-at : (me n : ℕ) (log : Log) (recs : List Rec) (i : ℕ) (rec : Rec) (entry at why : ℕ) → take (i + 1) recs ≡ take i recs ++ rec ∷ [] → FitInTurn me n log (take i recs) → (at ≡ entry) × (fits me n (with_records log (take i recs)) rec ≡ false) × (why ≡ kind rec) → (at ≡ entry) × Misfit me n log recs why
misfit-at me n log recs i rec entry at why more fit bad = (
  bad.0,
  record {
    before = take i recs;
    rec = rec;
    after = drop (i + 1) recs;
    among = halves recs (i + 1) ∙ ap (λ (prefix : List Rec). prefix ++ drop (i + 1) recs) more ∙ append_assoc (take i recs) (rec ∷ []) (drop (i + 1) recs);
    fit = fit;
    misfit = bad.1;
    why_is = bad.2;
  },
)

-- bodies with one that is bad
pub bad-at : (me n : ℕ) (bodies items : List (List ℕ)) (i : ℕ) (item body : List ℕ) (log : Log) (entry at why : ℕ) → items ≡ bodies → i < length items → take (i + 1) items ≡ take i items ++ item ∷ [] → body ≡ item → entry ≡ i → AreKept me n [] (take i items) log → (at ≡ entry) × IsBad me n log body why → IsBadAt me n bodies at why
bad-at me n bodies items i item body log entry at why all within more same number kept bad =
    let place : at ≡ i = bad.0 ∙ number in
    record {
      body = item;
      there = ap (λ (k : ℕ). slice_get bodies k) place ∙ ap (λ (bs : List (List ℕ)). slice_get bs i) (sym all) ∙ item_at items i item within more;
      log = log;
      before = subst (λ (k : ℕ). AreKept me n [] (take k bodies) log) (sym place) (subst (λ (bs : List (List ℕ)). AreKept me n [] (take i bs) log) all kept);
      bad = subst (λ (b : List ℕ). IsBad me n log b why) same bad.1;
    }

-- the bodies with one more
pub kept-more : (me n : ℕ) (items : List (List ℕ)) (i : ℕ) (item body : List ℕ) (log : Log) (recs : List Rec) → take (i + 1) items ≡ take i items ++ item ∷ [] → body ≡ item → AreKept me n [] (take i items) log → SpeltBody recs body → FitInTurn me n log recs → AreKept me n [] (take (i + 1) items) (with_records log recs)
kept-more me n items i item body log recs more same kept spelt fit =
    subst (λ (prefix : List (List ℕ)). AreKept me n [] prefix (with_records log recs)) (sym more)
    (kept-push me n [] log (take i items) item recs kept (subst (λ (b : List ℕ). SpeltBody recs b) same spelt) fit)

-- what is said of an answer that is this error
pub refused_as : (r : Result (Unit {0}) LedgerError) (e : LedgerError) (P : Type 0) (B : ℕ → ℕ → Type 0) → r ≡ Err e → IfBadLog e B → MatchResult r (λ _. P) (λ e. IfBadLog e B)
refused_as r e P B is bad = subst (λ (a : Result (Unit {0}) LedgerError). MatchResult a (λ _. P) (λ e. IfBadLog e B)) (sym is) bad
