-- A boot on a durable log: the facts of the log, and the state once the boot is recorded.
use Rattle.std.proofs.Common.{◌≡◌, ◌∙◌, ℕ, ◌+◌, ◌<◌, ◌≤◌, refl, ap, sym, subst, List, [], ◌∷◌, ◌++◌, map, Bool, true, false, arith, cond, count_by, lit<}
use Rattle.std.specs.Prelude.{◌&&◌, nat_lt, nat_le, Some, option_to_list}
use Rattle.std.specs.List.{AllByRecursion, list_all}
use Rattle.std.proofs.lemmas.Bool.Decides.{nat_tests}
use Rattle.std.proofs.lemmas.List.Sums.{sum_by-cons}
use Rattle.crsm_base.specs.Records.{FitsRec}
use Rattle.crsm_spec.specs.Types.{Stamp, Entry, Decision, Rec}
use Rattle.crsm_spec.specs.Clock.{u64_max}
use Rattle.crsm_spec.specs.Log.{Log, known, decision, executed, entry_of, boots, is_boot, active, live}
use Rattle.crsm_spec.specs.Fits.{fits, booted}
use Rattle.crsm_spec.specs.Replica.{Replica, fresh}
use Rattle.crsm_spec.specs.Draft.{begun, keep}
use Rattle.crsm_spec.specs.Step.{boot_again}
use Rattle.crsm_replica_results.specs.Rising.{RisesStrictly}
use Rattle.crsm_replica_results.proofs.Kept.{rises_kept, Executes, The, executes, next_is}
use Rattle.crsm_replica_results.proofs.Kept.{sent_kept}
use Rattle.crsm_ledger.specs.declared.ledger.Ledger.{Ledger}
use Rattle.crsm_replica_output.specs.declared.output.Output.{Output}
use Rattle.crsm_replica_output.specs.Made.{nothing}
use Rattle.crsm_replica_epoch.specs.declared.state.EpochState.{EpochState}
use Rattle.crsm_replica_epoch.specs.EpochState.{EachFits, EpochStands, forgotten}
use Rattle.crsm_replica.specs.declared.state.ReplicaState.{ReplicaState}
use Rattle.crsm_replica.specs.Recorded.{InBoth}
use Rattle.crsm_replica.specs.Replica.{StandsInside, AwaitsInside, on_paper}

all_both : (P : Entry → Type 0) (xs ys : List Entry) → AllByRecursion P xs → AllByRecursion P ys → AllByRecursion P (xs ++ ys)
all_both P [] ys h k = k
all_both P (x ∷ xs) ys h k = (h.0, all_both P xs ys h.1 k)

all_up : (a b : ℕ) (es : List Entry) → a ≤ b → AllByRecursion (λ e. e.epoch ≤ a) es → AllByRecursion (λ e. e.epoch ≤ b) es
all_up a b [] l h = tt
all_up a b (e ∷ es) l h = (let k = h.0 in omega (arith, k, l), all_up a b es l h.1)

halves : (a b : Bool) → (a && b) ≡ true → (a ≡ true) × (b ≡ true)
halves true b h = (refl, h)
halves false b h = cc

le_of : (a b : ℕ) → nat_le a b ≡ true → a ≤ b
le_of a b h = grind (arith, nat_tests, h)

lt_of : (a b : ℕ) → nat_lt a b ≡ true → a < b
lt_of a b h = grind (arith, nat_tests, h)

all_of_test : (x : ℕ) (es : List Entry) → list_all (λ e. nat_le e.epoch x) es ≡ true → AllByRecursion (λ e. e.epoch ≤ x) es
all_of_test x [] h = tt
all_of_test x (e ∷ es) h = let p = halves (nat_le e.epoch x) _ h in (le_of e.epoch x p.0, all_of_test x es p.1)

adopts : (me n : ℕ) (log : Log) (place : ℕ) (es : List Entry) → fits me n log (Rec.Adopt place es) ≡ true → AllByRecursion (λ e. e.epoch ≤ known log) es
unfolding fits
adopts me n log place es fit = all_of_test (known log) es (halves _ _ (halves _ _ (halves _ _ fit).0).0).1

decides : (me n : ℕ) (log : Log) (d : Decision) → fits me n log (Rec.Decide d) ≡ true → known log < d.epoch
unfolding fits
decides me n log d fit = lt_of (known log) d.epoch (halves _ _ (halves _ _ fit).0).1

commit_most : (log : Log) (s : Stamp) → AllByRecursion FitsRec log → Executes log s → AllByRecursion (λ e. e.epoch ≤ known log) (executed log) →
    AllByRecursion (λ e. e.epoch ≤ known log) (executed log ++ option_to_list (entry_of log s))
commit_most log s spelt (The e next is) most =
    let at = (next_is log e spelt next).1.0 in
    subst (λ o. AllByRecursion (λ f. f.epoch ≤ known log) (executed log ++ option_to_list o)) (sym is)
    (all_both (λ f. f.epoch ≤ known log) (executed log) (e ∷ []) most (omega (arith, at), tt))

-- no executed entry is of a later epoch
pub most_known : (me n : ℕ) (log : Log) → EachFits me n log → AllByRecursion FitsRec log → AllByRecursion (λ e. e.epoch ≤ known log) (executed log)
unfolding executed known decision
most_known me n [] each spelt = tt
most_known me n (Rec.Boot m k ∷ log) each spelt = most_known me n log each.1 spelt.1
most_known me n (Rec.Prepare e ∷ log) each spelt = most_known me n log each.1 spelt.1
most_known me n (Rec.Commit s ∷ log) each spelt = commit_most log s spelt.1 (executes me n log s each.0) (most_known me n log each.1 spelt.1)
most_known me n (Rec.Adopt place es ∷ log) each spelt =
    all_both (λ e. e.epoch ≤ known log) (executed log) es (most_known me n log each.1 spelt.1) (adopts me n log place es each.0)
most_known me n (Rec.Suspend x ∷ log) each spelt = most_known me n log each.1 spelt.1
most_known me n (Rec.Promise i b ∷ log) each spelt = most_known me n log each.1 spelt.1
most_known me n (Rec.Accept i b d ∷ log) each spelt = most_known me n log each.1 spelt.1
most_known me n (Rec.Decide d ∷ log) each spelt =
    let after = decides me n log d each.0 in all_up (known log) d.epoch (executed log) (omega (arith, after)) (most_known me n log each.1 spelt.1)
most_known me n (Rec.Enter x ∷ log) each spelt = most_known me n log each.1 spelt.1

-- executed entries rise
pub all_rise : (me n : ℕ) (log : Log) → EachFits me n log → AllByRecursion FitsRec log → RisesStrictly (executed log)
unfolding executed
all_rise me n [] each spelt = tt
all_rise me n (rec ∷ log) each spelt = rises_kept me n log rec each.0 spelt.0 spelt.1 (most_known me n log each.1 spelt.1) (all_rise me n log each.1 spelt.1)

-- a decision on record is of a later epoch than the first
pub all_later : (log : Log) → AllByRecursion FitsRec log → (d : Decision) → decision log ≡ Some d → 1 ≤ d.epoch
unfolding decision
all_later [] spelt d is = absurd (cc)
all_later (Rec.Boot m k ∷ log) spelt d is = all_later log spelt.1 d is
all_later (Rec.Prepare e ∷ log) spelt d is = all_later log spelt.1 d is
all_later (Rec.Commit s ∷ log) spelt d is = all_later log spelt.1 d is
all_later (Rec.Adopt place es ∷ log) spelt d is = all_later log spelt.1 d is
all_later (Rec.Suspend x ∷ log) spelt d is = all_later log spelt.1 d is
all_later (Rec.Promise i b ∷ log) spelt d is = all_later log spelt.1 d is
all_later (Rec.Accept i b a ∷ log) spelt d is = all_later log spelt.1 d is
all_later (Rec.Decide a ∷ log) spelt d is = let same : a ≡ d = cc in subst (λ (b : Decision). 1 ≤ b.epoch) same spelt.0.first
all_later (Rec.Enter x ∷ log) spelt d is = all_later log spelt.1 d is

-- the record of a boot fits
pub boot_fits : (me n : ℕ) (log : Log) → boots log < u64_max → fits me n log (Rec.Boot me n) ≡ true
unfolding fits
boot_fits me n log l = grind (arith, nat_tests)

pub boot_sleeps : (me n m k : ℕ) (log : Log) → active (Rec.Boot m k ∷ log) ≡ false
unfolding active live
boot_sleeps me n m k log = refl

first_on_record : (me n : ℕ) (log : Log) → booted (Rec.Boot me n ∷ log) ≡ true
unfolding booted boots is_boot
first_on_record me n log =
    let more : count_by is_boot (Rec.Boot me n ∷ log) ≡ 1 + count_by is_boot log = sum_by-cons (λ r. cond (is_boot r) 1 0) (Rec.Boot me n) log in
    grind (arith, nat_tests, more)

boot_spelt : (me n : ℕ) → me < 15 → n ≤ 15 → FitsRec (Rec.Boot me n)
boot_spelt me n a b = (a, omega (arith, b))

-- once the boot is on record, the state stands
pub stands_booted : (state : ReplicaState) (me n : ℕ) (log : Log) (ledger : Ledger) (output : Output) (epoch_state : EpochState) → AwaitsInside state me n log → boots log < u64_max →
    InBoth me n log (Rec.Boot me n) nothing ledger output →
    ((r : Replica) → EachFits r.me r.n r.log → active r.log ≡ false → EpochStands epoch_state (forgotten r)) →
    StandsInside (record state { ledger = ledger; output = output; epoch_state = epoch_state }) (boot_again me n log)
unfolding boot_again keep begun fresh
stands_booted state me n log ledger output epoch_state s l both_kept inactive =
    let rec : Rec = Rec.Boot me n in
    let fit : fits me n log rec ≡ true = boot_fits me n log l in
    let few : n ≤ 15 = s.ledger.says.few in
    let spelt : FitsRec rec = boot_spelt me n s.number few in
    record {
      me = s.mine;
      ledger = both_kept.says;
      epoch_state = inactive (record (fresh me n log) { log = rec ∷ log }) (fit, s.each) (boot_sleeps me n me n log);
      gathered = s.gathered;
      coordinator = s.coordinator (decision (rec ∷ log));
      made = s.made;
      waiting = ap (λ ws. map on_paper ws) s.waiting;
      output = both_kept.holds;
      told = sent_kept me log rec [] tt;
      sound = record {
        number = s.number;
        some = s.some;
        few = few;
        spelt = (spelt, s.spelt);
        batch = (spelt, tt);
        sends = tt;
        replies = tt;
        waiting = tt;
        owed = tt;
        pushed = tt;
        made = lit< tt;
        rises = all_rise me n (rec ∷ log) (fit, s.each) (spelt, s.spelt);
        later = all_later (rec ∷ log) (spelt, s.spelt);
        kept = (fit, s.each);
        on_record = first_on_record me n log;
        fitting = fit;
      };
    }

-- the numbers that the boot has are those of the log
pub same_boot : (a b me n : ℕ) → a ≡ me → b ≡ n → Rec.Boot a b ≡ Rec.Boot me n
same_boot a b me n p q = ap (λ m. Rec.Boot m b) p ∙ ap (λ k. Rec.Boot me k) q
