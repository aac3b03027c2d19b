-- The records of a boot fit.
use Rattle.std.proofs.Common.{◌≡◌, ℕ, ◌+◌, ◌<◌, ◌≤◌, List, [], ◌∷◌, refl, sym, ◌∙◌, ap, subst, inl, inr, Bool, true, false, cond, arith}
use Rattle.std.specs.Prelude.{IsTrue, nat_lt, ◌==◌, ◌||◌, ◌&&◌}
use Rattle.std.specs.List.{list_any, range_with_len}
use Rattle.std.proofs.lemmas.Bool.{eq-eqb, lt-ltb, ltb-true}
use Rattle.std.proofs.lemmas.List.Sums.{sum_by-cons}
use Rattle.crsm_base.proofs.MembersTests.{true_both}
use Rattle.crsm_spec.specs.Choice.{when◌then◌otherwise◌}
use Rattle.crsm_spec.specs.Clock.{u64_max}
use Rattle.crsm_spec.specs.Types.{Rec}
use Rattle.crsm_spec.specs.Lists.{Among, has, numbers_below}
use Rattle.crsm_spec.specs.Log.{Log, boots, is_boot, known, decision, members, start, executed, has_entered, is_enter}
use Rattle.crsm_spec.specs.Fits.{fits, booted}
use Rattle.crsm_spec.specs.Replica.{fresh}
use Rattle.crsm_spec.specs.Draft.{Draft, begun, keep}
use Rattle.crsm_spec.specs.Step.{boot, boot_again, founding_boot, first_boot}
use Rattle.crsm_fact_log.specs.Logs.{AllFit, Extends, same, more}
use Rattle.crsm_law_epoch.proofs.Words.{is_range}
use Rattle.crsm_law_epoch.specs.Ordered.{AreOrdered}
use Rattle.crsm_law_epoch.proofs.LogSteps.{IsOrderedCoordinator, AreBetween}
use Rattle.crsm_fact_log.proofs.Lists.{has_in}

-- ---- how many boots

boots_more : (rec : Rec) (log : Log) → boots log ≤ boots (rec ∷ log)
unfolding boots
boots_more rec log = let e = sum_by-cons (λ r. cond (is_boot r) 1 0) rec log in omega (arith, e)

pub boots_grow : (a b : Log) → Extends a b → boots a ≤ boots b
boots_grow a b same = omega arith
boots_grow a b (more {new = c} rec p) = let t = boots_grow a c p in let u = boots_more rec c in omega (arith, t, u)

boots_again : (me n : ℕ) (log : Log) → boots (Rec.Boot me n ∷ log) ≡ boots log + 1
unfolding boots is_boot
boots_again me n log = let e = sum_by-cons (λ r. cond (is_boot r) 1 0) (Rec.Boot me n) log in e ∙ omega arith

-- ---- what a boot leaves

-- of a replica with this number, whose log fits where it has booted not too often
pub record HasBooted (me n : ℕ) (x : Draft) : Type 0 where
  pub number : x.replica.me ≡ me
  pub size : x.replica.n ≡ n
  pub coordinator : IsOrderedCoordinator x.replica.coordinator
  pub sends : AreBetween x.sends
  pub ordered : AreOrdered x.replica.log
  pub fit : boots x.replica.log ≤ u64_max → AllFit me n x.replica.log

boot_fits : (me n : ℕ) (log : Log) → boots log < u64_max → IsTrue (fits me n log (Rec.Boot me n))
unfolding fits
boot_fits me n log lt = true_both _ _ (true_both _ _ (eq-eqb me me refl) (eq-eqb n n refl)) (lt-ltb (boots log) u64_max lt)

again_booted : (me n : ℕ) (log : Log) → AreOrdered log → (boots log ≤ u64_max → AllFit me n log) → HasBooted me n (boot_again me n log)
unfolding boot_again keep begun fresh
again_booted me n log ordered fit = record {
  number = refl;
  size = refl;
  coordinator = tt;
  sends = tt;
  ordered = (tt, ordered);
  fit = λ few. let e = boots_again me n log in (boot_fits me n log (omega (arith, few, e)), fit (omega (arith, few, e)));
}

member : (me n : ℕ) → me < n → has (numbers_below n) me ≡ true
unfolding numbers_below
member me n lt = has_in (range_with_len 0 n) me (is_range 0 n me (omega arith) (omega (arith, lt)))

enter_fits : (me n : ℕ) → me < n → IsTrue (fits me n (Rec.Boot me n ∷ []) (Rec.Enter 0))
unfolding fits booted boots is_boot known decision members start executed has_entered is_enter
enter_fits me n lt = subst (λ b. (((true && true) && b) && true) && true ≡ true) (sym (member me n lt)) refl

enters : (me n : ℕ) → me < n → IsTrue (fits me n (boot_again me n []).replica.log (Rec.Enter 0))
unfolding boot_again keep begun fresh
enters me n lt = enter_fits me n lt

pub founding_booted : (me n : ℕ) → me < n → HasBooted me n (founding_boot me n)
unfolding founding_boot keep
founding_booted me n lt =
    let b = again_booted me n [] tt (λ few. tt) in
    record {
      number = b.number;
      size = b.size;
      coordinator = b.coordinator;
      sends = b.sends;
      ordered = (tt, b.ordered);
      fit = λ few. (enter_here, b.fit (few_before few));
    }
  where
    enter_here : IsTrue (fits me n (boot_again me n []).replica.log (Rec.Enter 0))
    enter_here = enters me n lt

    few_before : boots (Rec.Enter 0 ∷ (boot_again me n []).replica.log) ≤ u64_max → boots (boot_again me n []).replica.log ≤ u64_max
    few_before few = let t = boots_more (Rec.Enter 0) (boot_again me n []).replica.log in omega (arith, few, t)

pub has_booted : (me n : ℕ) (log : Log) → AreOrdered log → (boots log ≤ u64_max → AllFit me n log) → HasBooted me n (boot me n log)
unfolding boot first_boot when◌then◌otherwise◌
has_booted me n (rec ∷ log) ordered fit = again_booted me n (rec ∷ log) ordered fit
has_booted me n [] ordered fit = go (nat_lt me n) refl
  where
    go : (c : Bool) → nat_lt me n ≡ c → HasBooted me n (when c then founding_boot me n otherwise boot_again me n [])
    go true e = founding_booted me n (ltb-true me n e)
    go false e = again_booted me n [] tt (λ few. tt)
