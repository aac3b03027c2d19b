-- The logs that the steps of a sheet leave, one after another.
use Rattle.std.proofs.Common.{◌≡◌, ◌≢◌, ℕ, suc, ◌+◌, List, [], ◌∷◌, ◌++◌, map, length, refl, sym, ◌∙◌, ap, append_assoc, Bool, true, false, arith}
use Rattle.std.specs.Prelude.{nat_lt}
use Rattle.std.proofs.lemmas.List.{append-nil, length-map, length-append}
use Rattle.crsm_spec.specs.Choice.{when◌then◌otherwise◌}
use Rattle.crsm_spec.specs.Types.{Rec}
use Rattle.crsm_spec.specs.Log.{Log}
use Rattle.crsm_spec.specs.Replica.{Replica, fresh}
use Rattle.crsm_spec.specs.Draft.{Draft, begun, keep}
use Rattle.crsm_spec.specs.Node.{Turn, turn, outputs, outputs_from}
use Rattle.crsm_spec.specs.Step.{boot, boot_again, first_boot, founding_boot}
use Rattle.crsm_law_sheets.specs.Sheets.{log_after}
use Rattle.crsm_law_sheets.specs.Verdicts.{lines_told}
use Rattle.crsm_ledger.specs.Recovered.{AreKept}
use Rattle.crsm_base.specs.Records.{SpeltBody}
use Rattle.crsm_fact_log.specs.Logs.{with_records}
use Rattle.crsm_replica_rerun.specs.Sheets.{replica_after}
use Rattle.crsm_text_sheet.specs.Sheets.{entry_line, sheet_of, turn_line}
use Rattle.crsm_text_sheet.specs.declared.line.SheetLine.TheVariants.{Open}
use Rattle.crsm_fact_step.specs.Steps.{BatchesAreLogged, Grown}
use Rattle.crsm_audit.specs.Accounts.{dropped_from, dropped_in, own_in, own_logged, own_of}
use Rattle.crsm_audit.specs.declared.place.Dropped.{Dropped}

-- ---- steps

-- each step is one of replica me, in a cluster that began with n, and its records stand behind the log before it
pub AreLogged : (me n : ℕ) → Log → List Draft → Type 0
AreLogged me n log [] = Unit {0}
AreLogged me n log (x ∷ xs) = (x.replica.me ≡ me) × (x.replica.n ≡ n) × (x.replica.log ≡ with_records log x.batch) × AreLogged me n x.replica.log xs

boot_again_logged : (me n : ℕ) (log : Log) → Grown (fresh me n log) (boot_again me n log)
unfolding boot_again keep begun fresh
boot_again_logged me n log = record { me = refl; n = refl; log = refl }

founding_logged : (me n : ℕ) → Grown (fresh me n []) (founding_boot me n)
unfolding founding_boot boot_again keep begun fresh
founding_logged me n = record { me = refl; n = refl; log = refl }

boot_logged : (me n : ℕ) (log : Log) → Grown (fresh me n log) (boot me n log)
unfolding boot first_boot when◌then◌otherwise◌
boot_logged me n (rec ∷ log) = boot_again_logged me n (rec ∷ log)
boot_logged me n [] = go (nat_lt me n)
  where
    go : (c : Bool) → Grown (fresh me n []) (when c then founding_boot me n otherwise boot_again me n [])
    go true = founding_logged me n
    go false = boot_again_logged me n []

booted : (me n : ℕ) (log : Log) → ((boot me n log).replica.me ≡ me) × ((boot me n log).replica.n ≡ n) × ((boot me n log).replica.log ≡ with_records log (boot me n log).batch)
unfolding fresh
booted me n log = let g = boot_logged me n log in (g.me, g.n, g.log)

module _ (law : BatchesAreLogged) where
  turns_logged : (me n : ℕ) (r : Replica) (ts : List (Turn × ℕ)) → r.me ≡ me → r.n ≡ n → AreLogged me n r.log (outputs_from r ts)
  unfolding outputs_from AreLogged
  turns_logged me n r [] a b = tt
  turns_logged me n r (t ∷ ts) a b =
      let g = law.of_turn r t in
      (g.me ∙ a, g.n ∙ b, g.log, turns_logged me n (turn r t).replica ts (g.me ∙ a) (g.n ∙ b))

  pub sheet_logged : (me n : ℕ) (found : Log) (ts : List (Turn × ℕ)) → AreLogged me n found (outputs me n found ts)
  unfolding outputs AreLogged
  sheet_logged me n found ts = let b = booted me n found in (b.0, b.1, b.2, turns_logged me n (boot me n found).replica ts b.0 b.1)

  after_me : (me n : ℕ) (r : Replica) (ts : List (Turn × ℕ)) → r.me ≡ me → r.n ≡ n → ((replica_after r ts).me ≡ me) × ((replica_after r ts).n ≡ n)
  unfolding replica_after
  after_me me n r [] a b = (a, b)
  after_me me n r (t ∷ ts) a b = let g = law.of_turn r t in after_me me n (turn r t).replica ts (g.me ∙ a) (g.n ∙ b)

  pub last_me : (me n : ℕ) (found : Log) (ts : List (Turn × ℕ)) → ((replica_after (boot me n found).replica ts).me ≡ me) × ((replica_after (boot me n found).replica ts).n ≡ n)
  last_me me n found ts = let b = booted me n found in after_me me n (boot me n found).replica ts b.0 b.1

turns_leave : (r : Replica) (ts : List (Turn × ℕ)) → (replica_after r ts).log ≡ log_after r.log (outputs_from r ts)
unfolding replica_after outputs_from log_after
turns_leave r [] = refl
turns_leave r (t ∷ ts) = turns_leave (turn r t).replica ts

-- the log of the replica that a sheet leaves
pub sheet_leaves : (me n : ℕ) (found start : Log) (ts : List (Turn × ℕ)) → (replica_after (boot me n found).replica ts).log ≡ log_after start (outputs me n found ts)
unfolding outputs log_after
sheet_leaves me n found start ts = turns_leave (boot me n found).replica ts

-- where there are steps, the log before them is not what they leave
pub any_start : (a b : Log) (x : Draft) (xs : List Draft) → log_after a (x ∷ xs) ≡ log_after b (x ∷ xs)
unfolding log_after
any_start a b x xs = refl

pub none_after : (log : Log) → log_after log [] ≡ log
unfolding log_after
none_after log = refl

pub none_dropped : (at : ℕ) → [] ≡ dropped_from at []
unfolding dropped_from
none_dropped at = refl

-- ---- one step more

pub log_more : (log : Log) (xs : List Draft) (x : Draft) → log_after log (xs ++ x ∷ []) ≡ x.replica.log
unfolding log_after
log_more log [] x = refl
log_more log (y ∷ xs) x = log_more y.replica.log xs x

pub logged_more : (me n : ℕ) (log : Log) (xs : List Draft) (x : Draft) → AreLogged me n log (xs ++ x ∷ []) → x.replica.log ≡ with_records (log_after log xs) x.batch
unfolding log_after AreLogged
logged_more me n log [] x h = h.2
logged_more me n log (y ∷ xs) x h = logged_more me n y.replica.log xs x h.3

pub own_more : (me : ℕ) (log : Log) (recs : List Rec) → own_logged me (with_records log recs) ≡ own_logged me log ++ own_in me recs
unfolding own_logged
own_more me log [] = sym (append-nil (own_logged me log))
own_more me log (rec ∷ recs) = own_more me (rec ∷ log) recs ∙ append_assoc (own_logged me log) (own_of me rec) (own_in me recs)

pub dropped_more : (at : ℕ) (xs : List Draft) (x : Draft) → dropped_from at (xs ++ x ∷ []) ≡ dropped_from at xs ++ dropped_in (at + length xs) (lines_told x)
unfolding dropped_from
dropped_more at [] x =
    let same : at ≡ at + 0 = omega arith in
    append-nil (dropped_in at (lines_told x)) ∙ ap (λ (k : ℕ). dropped_in k (lines_told x)) same
dropped_more at (y ∷ xs) x =
    let same : at + 1 + length xs ≡ at + length (y ∷ xs) = omega arith in
    ap (λ (ds : List Dropped). dropped_in at (lines_told y) ++ ds) (dropped_more (at + 1) xs x ∙ ap (λ (k : ℕ). dropped_from (at + 1) xs ++ dropped_in k (lines_told x)) same)
    ∙ sym (append_assoc (dropped_in at (lines_told y)) (dropped_from (at + 1) xs) (dropped_in (at + length (y ∷ xs)) (lines_told x)))

-- ---- how many

turns_count : (r : Replica) (ts : List (Turn × ℕ)) → length (outputs_from r ts) ≡ length ts
unfolding outputs_from
turns_count r [] = refl
turns_count r (t ∷ ts) = ap suc (turns_count (turn r t).replica ts)

pub steps_count : (me n : ℕ) (found : Log) (ts : List (Turn × ℕ)) → length (outputs me n found ts) ≡ length ts + 1
unfolding outputs
steps_count me n found ts = let e = turns_count (boot me n found).replica ts in omega (arith, e)

pub lines_count : (bodies : List (List ℕ)) (turns : List (Turn × ℕ)) → length (sheet_of bodies turns) ≡ length bodies + (length turns + 1)
unfolding sheet_of
lines_count bodies turns =
    let a = length-append (map entry_line bodies) (Open ∷ map turn_line turns) in
    let b = length-map bodies entry_line in
    let c = length-map turns turn_line in
    omega (arith, a, b, c)

pub some_steps : (me n : ℕ) (found : Log) (ts : List (Turn × ℕ)) → outputs me n found ts ≢ []
unfolding outputs
some_steps me n found ts e = cc

-- ---- one body more

pub record KeptTo (me n : ℕ) (start : Log) (bodies : List (List ℕ)) (body : List ℕ) (end : Log) : Type 0 where
  pub log : Log
  pub before : AreKept me n start bodies log
  pub recs : List Rec
  pub spelt : SpeltBody recs body
  pub is : end ≡ with_records log recs

pub kept_more : (me n : ℕ) (start : Log) (bodies : List (List ℕ)) (body : List ℕ) (end : Log) → AreKept me n start (bodies ++ body ∷ []) end → KeptTo me n start bodies body end
kept_more me n start [] body end h = record { log = start; before = refl; recs = h.0; spelt = h.1; is = h.3 }
kept_more me n start (b ∷ bodies) body end h =
    let k = kept_more me n (with_records start h.0) bodies body end h.3 in
    record { log = k.log; before = (h.0, h.1, h.2, k.before); recs = k.recs; spelt = k.spelt; is = k.is }
