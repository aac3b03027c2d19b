-- Records of steps, and the logs of bodies.
use Rattle.std.proofs.Common.{◌≡◌, ℕ, List, [], ◌∷◌, ◌++◌, refl, sym, ◌∙◌, ap, subst, append-nil}
use Rattle.std.specs.List.{AllByRecursion}
use Rattle.std.proofs.lemmas.List.Concat.{flat_map-append}
use Rattle.crsm_base.specs.declared.send.Send.{Send}
use Rattle.crsm_base.specs.Records.{FitsRec, SpeltBody, body_bytes, rec_bytes}
use Rattle.crsm_spec.specs.Types.{Rec}
use Rattle.crsm_spec.specs.Log.{Log}
use Rattle.crsm_spec.specs.Draft.{Draft}
use Rattle.crsm_replica_epoch.specs.EpochState.{EachFits}
use Rattle.crsm_ledger.specs.Recovered.{AreKept, FitInTurn, with_records}
use Rattle.crsm_replica_io.specs.Outgoing.{packets_for, packet_for}
use Rattle.crsm_shell.specs.Shell.{records_of, sends_in, sends_of}

-- ---- one step more

pub records_push : (steps : List Draft) (x : Draft) → records_of (steps ++ x ∷ []) ≡ records_of steps ++ x.batch
unfolding records_of
records_push steps x = flat_map-append (λ (y : Draft). y.batch) steps (x ∷ []) ∙ ap (λ rs. records_of steps ++ rs) (append-nil x.batch)

pub sends_push : (steps : List Draft) (x : Draft) → sends_of (steps ++ x ∷ []) ≡ sends_of steps ++ sends_in x
unfolding sends_of
sends_push steps x = flat_map-append sends_in steps (x ∷ []) ∙ ap (λ ss. sends_of steps ++ ss) (append-nil (sends_in x))

pub packets_more : (peers : List ℕ) (a b : List Send) → packets_for peers (a ++ b) ≡ packets_for peers a ++ packets_for peers b
unfolding packets_for
packets_more peers a b = flat_map-append (packet_for peers) a b

pub body_more : (a b : List Rec) → body_bytes (a ++ b) ≡ body_bytes a ++ body_bytes b
unfolding body_bytes
body_more a b = flat_map-append rec_bytes a b

pub with_more : (log : Log) (a b : List Rec) → with_records log (a ++ b) ≡ with_records (with_records log a) b
with_more log [] b = refl
with_more log (rec ∷ a) b = with_more (rec ∷ log) a b

pub all_more : {X : Type 0} (P : X → Type 0) (a b : List X) → AllByRecursion P a → AllByRecursion P b → AllByRecursion P (a ++ b)
all_more P [] b p q = q
all_more P (x ∷ a) b p q = (p.0, all_more P a b p.1 q)

-- ---- records that fit

pub fits_in_turn : (me n : ℕ) (log : Log) (recs : List Rec) → EachFits me n (with_records log recs) → FitInTurn me n log recs × EachFits me n log
fits_in_turn me n log [] e = (tt, e)
fits_in_turn me n log (rec ∷ recs) e =
    let t = fits_in_turn me n (rec ∷ log) recs e in ((t.1.0, t.0), t.1.1)

pub fit_behind : (me n : ℕ) (log : Log) (recs : List Rec) → EachFits me n log → FitInTurn me n log recs → EachFits me n (with_records log recs)
fit_behind me n log [] e f = e
fit_behind me n log (rec ∷ recs) e f = fit_behind me n (rec ∷ log) recs (f.0, e) f.1

pub spelt_behind : (log : Log) (recs : List Rec) → AllByRecursion FitsRec log → AllByRecursion FitsRec recs → AllByRecursion FitsRec (with_records log recs)
spelt_behind log [] a b = a
spelt_behind log (rec ∷ recs) a b = spelt_behind (rec ∷ log) recs (b.0, a) b.1

-- the records in bodies fit and have encodings
pub kept_fit : (me n : ℕ) (log end : Log) (bodies : List (List ℕ)) → AreKept me n log bodies end → EachFits me n log → EachFits me n end
kept_fit me n log end [] k e = subst (EachFits me n) (sym k) e
kept_fit me n log end (body ∷ bodies) k e = kept_fit me n (with_records log k.0) end bodies k.3 (fit_behind me n log k.0 e k.2)

pub kept_spelt : (me n : ℕ) (log end : Log) (bodies : List (List ℕ)) → AreKept me n log bodies end → AllByRecursion FitsRec log → AllByRecursion FitsRec end
kept_spelt me n log end [] k e = subst (AllByRecursion FitsRec) (sym k) e
kept_spelt me n log end (body ∷ bodies) k e = kept_spelt me n (with_records log k.0) end bodies k.3 (spelt_behind log k.0 e k.1.fits.fit)

-- bodies hold one log
pub kept_once : ((a b : List Rec) (s : List ℕ) → SpeltBody a s → SpeltBody b s → a ≡ b) → (me n : ℕ) (log : Log) (bodies : List (List ℕ)) (a b : Log) → AreKept me n log bodies a → AreKept me n log bodies b → a ≡ b
kept_once one me n log [] a b p q = p ∙ sym q
kept_once one me n log (body ∷ bodies) a b p q =
    let same = one p.0 q.0 body p.1 q.1 in
    kept_once one me n (with_records log p.0) bodies a b p.3 (subst (λ (recs : List Rec). AreKept me n (with_records log recs) bodies b) (sym same) q.3)
