-- The logs in bodies that were put behind others.
use Rattle.std.proofs.Common.{◌≡◌, ℕ, suc, ◌+◌, ◌<◌, ◌≤◌, List, [], ◌∷◌, ◌++◌, length, refl, sym, ◌∙◌, ap, subst, Bool, true, false, cond, arith}
use Rattle.std.specs.Prelude.{◌^◌, Option, Some, None, IsTrue, nat_lt}
use Rattle.std.specs.List.{AllByRecursion}
use Rattle.std.specs.Option.{option_map_or}
use Rattle.std.proofs.lemmas.Bool.{eq-eqb, lt-ltb, ltb-true}
use Rattle.std.proofs.lemmas.List.Sums.{sum_by-cons}
use Rattle.crsm_base.proofs.MembersTests.{true_both}
use Rattle.crsm_base.specs.Records.{FitsRec, SpeltBody, body_bytes, rec_bytes}
use Rattle.crsm_spec.specs.Choice.{when◌then◌otherwise◌}
use Rattle.crsm_spec.specs.Clock.{u64_max}
use Rattle.crsm_spec.specs.Types.{Rec}
use Rattle.crsm_spec.specs.Log.{Log, boots, is_boot}
use Rattle.crsm_spec.specs.Fits.{fits}
use Rattle.crsm_spec.specs.Replica.{Replica, fresh}
use Rattle.crsm_spec.specs.Draft.{begun, keep}
use Rattle.crsm_spec.specs.Step.{Input, boot, boot_again, first_boot, founding_boot, step}
use Rattle.crsm_spec.specs.Node.{Turn, input_of, outputs_from, turn}
use Rattle.crsm_spec_process.specs.Turns.{replica_after}
use Rattle.crsm_fact_log.specs.Logs.{AllFit, with_records}
use Rattle.crsm_fact_step.specs.Steps.{Grown}
use Rattle.crsm_fact_step.proofs.Batches.{turn_grown}
use Rattle.crsm_fact_step.proofs.Logs.{steps_fit}
use Rattle.crsm_law_epoch.proofs.LogBoots.{founding_booted}
use Rattle.crsm_ledger.specs.Recovered.{AreKept, FitInTurn}
use Rattle.crsm_shell.specs.Booting.{boot_body}
use Rattle.crsm_shell.specs.Shell.{records_of}

-- ---- records that fit

fit_behind : (me n : ℕ) (log : Log) (recs : List Rec) → AllFit me n log → FitInTurn me n log recs → AllFit me n (with_records log recs)
fit_behind me n log [] all fit = all
fit_behind me n log (rec ∷ recs) all fit = fit_behind me n (rec ∷ log) recs (fit.0, all) fit.1

fit_in_turn : (me n : ℕ) (log : Log) (recs : List Rec) → AllFit me n (with_records log recs) → FitInTurn me n log recs × AllFit me n log
fit_in_turn me n log [] all = (tt, all)
fit_in_turn me n log (rec ∷ recs) all = let t = fit_in_turn me n (rec ∷ log) recs all in ((t.1.0, t.0), t.1.1)

-- the records of bodies
pub kept_fit : (me n : ℕ) (log end : Log) (bodies : List (List ℕ)) → AreKept me n log bodies end → AllFit me n log → AllFit me n end
kept_fit me n log end [] kept all = subst (AllFit me n) (sym kept) all
kept_fit me n log end (body ∷ bodies) kept all = kept_fit me n (with_records log kept.0) end bodies kept.3 (fit_behind me n log kept.0 all kept.2)

kept_push : (me n : ℕ) (log mid : Log) (bodies : List (List ℕ)) (body : List ℕ) (recs : List Rec) → AreKept me n log bodies mid → SpeltBody recs body → FitInTurn me n mid recs →
    AreKept me n log (bodies ++ body ∷ []) (with_records mid recs)
kept_push me n log mid [] body recs kept spelt fit =
    (recs, spelt, subst (λ (l : Log). FitInTurn me n l recs) kept fit, ap (λ (l : Log). with_records l recs) kept)
kept_push me n log mid (b ∷ bodies) body recs kept spelt fit = (kept.0, kept.1, kept.2, kept_push me n (with_records log kept.0) mid bodies body recs kept.3 spelt fit)

some_records : (recs : List Rec) → 0 < length (body_bytes recs) → 1 ≤ length recs
unfolding body_bytes
some_records [] some = absurd (omega (arith, some))
some_records (rec ∷ recs) some = omega arith

spelt_body : (recs : List Rec) → AllByRecursion FitsRec recs → 0 < length (body_bytes recs) → SpeltBody recs (body_bytes recs)
spelt_body recs spelt some = record { fits = record { some = some_records recs some; fit = spelt }; is = refl }

-- one more body, of records that have an encoding and lead to a log that fits
pub kept_more : (me n : ℕ) (bodies : List (List ℕ)) (log end : Log) (recs : List Rec) → AreKept me n [] bodies log → AllByRecursion FitsRec recs → end ≡ with_records log recs → AllFit me n end →
    0 < length (body_bytes recs) → AreKept me n [] (bodies ++ body_bytes recs ∷ []) end
kept_more me n bodies log end recs kept spelt is all some =
    subst (AreKept me n [] (bodies ++ body_bytes recs ∷ [])) (sym is)
    (kept_push me n [] log bodies (body_bytes recs) recs kept (spelt_body recs spelt some)
    (fit_in_turn me n log recs (subst (AllFit me n) is all)).0)

-- ---- turns

with_both : (log : Log) (a b : List Rec) → with_records log (a ++ b) ≡ with_records (with_records log a) b
with_both log [] b = refl
with_both log (rec ∷ a) b = with_both (rec ∷ log) a b

-- the log behind turns
pub log_after : (r : Replica) (ts : List (Turn × ℕ)) → (replica_after r ts).log ≡ with_records r.log (records_of (outputs_from r ts))
unfolding replica_after outputs_from records_of
log_after r [] = refl
log_after r (t ∷ ts) =
    log_after (turn r t).replica ts ∙ ap (λ (l : Log). with_records l (records_of (outputs_from (turn r t).replica ts))) (turn_grown r t).log
    ∙ sym (with_both r.log (turn r t).batch (records_of (outputs_from (turn r t).replica ts)))

-- a replica of this number, of so many, whose log fits
pub record IsFitting (me n : ℕ) (r : Replica) : Type 0 where
  pub me_is : r.me ≡ me
  pub n_is : r.n ≡ n
  pub fit : AllFit me n r.log

turn_fits : (me n : ℕ) (r : Replica) (t : Turn × ℕ) → IsFitting me n r → AllFit me n (turn r t).replica.log
unfolding turn begun
turn_fits me n r t f = go (input_of t.0)
  where
    go : (i : Option Input) → AllFit me n (option_map_or (λ i. step r i t.1) i (begun r)).replica.log
    go None = f.fit
    go (Some i) =
        subst (λ (k : ℕ). AllFit k n (step r i t.1).replica.log) f.me_is
        (subst (λ (k : ℕ). AllFit r.me k (step r i t.1).replica.log) f.n_is
        (steps_fit r i t.1 (subst (λ (k : ℕ). AllFit k r.n r.log) (sym f.me_is) (subst (λ (k : ℕ). AllFit me k r.log) (sym f.n_is) f.fit))))

pub turns_fit : (me n : ℕ) (r : Replica) (ts : List (Turn × ℕ)) → IsFitting me n r → IsFitting me n (replica_after r ts)
unfolding replica_after
turns_fit me n r [] f = f
turns_fit me n r (t ∷ ts) f =
    let grown = turn_grown r t in
    turns_fit me n (turn r t).replica ts (record { me_is = grown.me ∙ f.me_is; n_is = grown.n ∙ f.n_is; fit = turn_fits me n r t f })

-- ---- a boot

pub boot_grown : (me n : ℕ) (log : Log) → Grown (fresh me n log) (boot me n log)
unfolding boot first_boot founding_boot boot_again keep begun fresh when◌then◌otherwise◌
boot_grown me n [] = go (nat_lt me n)
  where
    go : (b : Bool) → Grown (fresh me n []) (when b then founding_boot me n otherwise boot_again me n [])
    go true = record { me = refl; n = refl; log = refl }
    go false = record { me = refl; n = refl; log = refl }
boot_grown me n (rec ∷ log) = record { me = refl; n = refl; log = refl }

pub boot_mine : (me n : ℕ) (log : Log) → (boot me n log).replica.me ≡ me
unfolding fresh
boot_mine me n log = (boot_grown me n log).me

pub boot_count : (me n : ℕ) (log : Log) → (boot me n log).replica.n ≡ n
unfolding fresh
boot_count me n log = (boot_grown me n log).n

boot_log : (me n : ℕ) (log : Log) → (boot me n log).replica.log ≡ with_records log (boot me n log).batch
unfolding fresh
boot_log me n log = (boot_grown me n log).log

boot_some : (me n : ℕ) (log : Log) → 0 < length (boot_body me n log)
unfolding boot first_boot founding_boot boot_again keep begun fresh when◌then◌otherwise◌ body_bytes rec_bytes
boot_some me n [] = go (nat_lt me n)
  where
    go : (b : Bool) → 0 < length (body_bytes (when b then founding_boot me n otherwise boot_again me n []).batch)
    go true = omega arith
    go false = omega arith
boot_some me n (rec ∷ log) = omega arith

boot_spelt : (me n : ℕ) (log : Log) → me < 15 → n ≤ 15 → AllByRecursion FitsRec (boot me n log).batch
unfolding boot first_boot founding_boot boot_again keep begun fresh when◌then◌otherwise◌
boot_spelt me n [] small most = go (nat_lt me n)
  where
    go : (b : Bool) → AllByRecursion FitsRec (when b then founding_boot me n otherwise boot_again me n []).batch
    go true = ((small, omega (arith, most)), (omega arith, tt))
    go false = ((small, omega (arith, most)), tt)
boot_spelt me n (rec ∷ log) small most = ((small, omega (arith, most)), tt)

boots_short : (log : Log) → boots log ≤ length log
unfolding boots
boots_short [] = omega arith
boots_short (rec ∷ log) = go (is_boot rec) (sum_by-cons (λ (r : Rec). cond (is_boot r) 1 0) rec log) (boots_short log)
  where
    go : (b : Bool) → boots (rec ∷ log) ≡ cond b 1 0 + boots log → boots log ≤ length log → boots (rec ∷ log) ≤ suc (length log)
    go true e le = omega (arith, e, le)
    go false e le = omega (arith, e, le)

record_fits : (me n : ℕ) (log : Log) → boots log < u64_max → IsTrue (fits me n log (Rec.Boot me n))
unfolding fits
record_fits me n log lt = true_both _ _ (true_both _ _ (eq-eqb me me refl) (eq-eqb n n refl)) (lt-ltb (boots log) u64_max lt)

again_fits : (me n : ℕ) (log : Log) → boots log < u64_max → AllFit me n log → AllFit me n (boot_again me n log).replica.log
unfolding boot_again keep begun fresh
again_fits me n log lt all = (record_fits me n log lt, all)

few_boots : (me n : ℕ) → boots (founding_boot me n).replica.log ≤ u64_max
unfolding founding_boot boot_again keep begun fresh
few_boots me n = let t = boots_short (Rec.Enter 0 ∷ Rec.Boot me n ∷ []) in omega (arith, t)

boot_fits : (me n : ℕ) (log : Log) → length log ≤ 2 ^ 50 → AllFit me n log → AllFit me n (boot me n log).replica.log
unfolding boot first_boot when◌then◌otherwise◌
boot_fits me n (rec ∷ log) short all = let t = boots_short (rec ∷ log) in again_fits me n (rec ∷ log) (omega (arith, t, short)) all
boot_fits me n [] short all = go (nat_lt me n) refl
  where
    go : (c : Bool) → nat_lt me n ≡ c → AllFit me n (when c then founding_boot me n otherwise boot_again me n []).replica.log
    go true e = (founding_booted me n (ltb-true me n e)).fit (few_boots me n)
    go false e = let t = boots_short [] in again_fits me n [] (omega (arith, t)) tt

pub boot_fitting : (me n : ℕ) (log : Log) → length log ≤ 2 ^ 50 → AllFit me n log → IsFitting me n (boot me n log).replica
boot_fitting me n log short all = record { me_is = boot_mine me n log; n_is = boot_count me n log; fit = boot_fits me n log short all }

-- the record of a boot behind the bodies of its log
pub boot_kept : (me n : ℕ) (bodies : List (List ℕ)) (log : Log) → me < 15 → n ≤ 15 → length log ≤ 2 ^ 50 → AreKept me n [] bodies log →
    AreKept me n [] (bodies ++ boot_body me n log ∷ []) (boot me n log).replica.log
boot_kept me n bodies log small most short kept =
    kept_more me n bodies log (boot me n log).replica.log (boot me n log).batch kept (boot_spelt me n log small most) (boot_log me n log)
    (boot_fits me n log short (kept_fit me n [] log bodies kept tt)) (boot_some me n log)
