-- The first boot of a replica that began the cluster, and later boots.
use Rattle.std.proofs.Common.{◌≡◌, ◌∙◌, ℕ, ◌<◌, ◌≤◌, refl, sym, [], ◌∷◌, Bool, true, false, arith}
use Rattle.std.specs.Prelude.{◌≢◌, ◌==◌, nat_lt}
use Rattle.std.proofs.lemmas.Bool.Decides.{nat_tests}
use Rattle.crsm_spec.specs.Types.{Rec}
use Rattle.crsm_spec.specs.Choice.{when◌then◌otherwise◌}
use Rattle.crsm_spec.specs.Lists.{has, numbers_below}
use Rattle.crsm_spec.specs.Log.{Log, known, start, decision, members, executed, boots, is_boot, has_entered, is_enter, active, live}
use Rattle.crsm_spec.specs.Fits.{fits, booted}
use Rattle.crsm_spec.specs.Replica.{fresh}
use Rattle.crsm_spec.specs.Draft.{Draft, begun, keep}
use Rattle.crsm_spec.specs.Coordinate.{enter, forget_epoch}
use Rattle.crsm_spec.specs.Step.{boot, boot_again, first_boot, founding_boot}
use Rattle.crsm_replica_epoch.specs.EpochState.{EachFits}
use Rattle.crsm_replica.proofs.Excepting.{has_below}
use Rattle.crsm_replica.proofs.Rebuilt.{still_booted}

nothing_first : (me n : ℕ) (rec : Rec) → fits me n [] rec ≡ true → booted (rec ∷ []) ≡ true
unfolding fits booted boots is_boot active live
nothing_first me n (Rec.Boot m k) h = refl
nothing_first me n (Rec.Prepare e) h = cc
nothing_first me n (Rec.Commit s) h = cc
nothing_first me n (Rec.Adopt place es) h = cc
nothing_first me n (Rec.Suspend x) h = cc
nothing_first me n (Rec.Promise i b) h = cc
nothing_first me n (Rec.Accept i b d) h = cc
nothing_first me n (Rec.Decide d) h = cc
nothing_first me n (Rec.Enter x) h = cc

-- a log that was kept begins with a boot
pub begins_booted : (me n : ℕ) (rec : Rec) (log : Log) → EachFits me n (rec ∷ log) → booted (rec ∷ log) ≡ true
begins_booted me n rec [] each = nothing_first me n rec each.0
begins_booted me n rec (r ∷ log) each = still_booted (r ∷ log) rec (begins_booted me n r log each.1)

some_boots : (log : Log) → booted log ≡ true → boots log ≢ 0
unfolding booted
some_boots log h e = let f = h in absurd (none (boots log) f e)
  where
    none : (b : ℕ) → nat_lt 0 b ≡ true → b ≡ 0 → ⊥
    none b h e = grind (arith, nat_tests, h, e)

founders_fit : (me n : ℕ) → me < n → fits me n (Rec.Boot me n ∷ []) (Rec.Enter (known (Rec.Boot me n ∷ []))) ≡ true
unfolding fits booted boots is_boot known start decision members executed has_entered is_enter
founders_fit me n l =
    let member : has (numbers_below n) me ≡ true = sym (has_below n me) ∙ below me n l in
    rw member refl
  where
    below : (a b : ℕ) → a < b → nat_lt a b ≡ true
    below a b h = grind (arith, nat_tests)

enters : (b : Bool) (x y : Draft) → b ≡ true → (when b then y otherwise x) ≡ y
unfolding when◌then◌otherwise◌
enters true x y e = refl
enters false x y e = cc

same_draft : (me n : ℕ) → keep (Rec.Enter (known (boot_again me n []).replica.log)) (forget_epoch (boot_again me n [])) ≡ keep (Rec.Enter 0) (boot_again me n [])
unfolding boot_again keep begun fresh forget_epoch known decision
same_draft me n = refl

entered : (me n : ℕ) → me < n → enter (boot_again me n []) ≡ keep (Rec.Enter 0) (boot_again me n [])
unfolding enter boot_again keep begun fresh
entered me n l = enters (fits me n (Rec.Boot me n ∷ []) (Rec.Enter (known (Rec.Boot me n ∷ [])))) _ _ (founders_fit me n l) ∙ same_draft me n

-- the first boot of a replica that began the cluster
pub founds : (me n : ℕ) (log : Log) → EachFits me n log → boots log ≡ 0 → me < n → enter (boot_again me n log) ≡ boot me n log
unfolding boot first_boot founding_boot
founds me n [] each none l = entered me n l ∙ sym (enters (nat_lt me n) _ _ (below me n l))
  where
    below : (a b : ℕ) → a < b → nat_lt a b ≡ true
    below a b h = grind (arith, nat_tests)
founds me n (rec ∷ log) each none l = absurd (some_boots (rec ∷ log) (begins_booted me n rec log each) none)

-- any other boot
pub later_boot : (me n : ℕ) (log : Log) → EachFits me n log → boots log ≢ 0 → boot_again me n log ≡ boot me n log
unfolding boot boots
later_boot me n [] each some = absurd (some refl)
later_boot me n (rec ∷ log) each some = refl

pub no_founder : (me n : ℕ) (log : Log) → n ≤ me → boot_again me n log ≡ boot me n log
unfolding boot first_boot when◌then◌otherwise◌
no_founder me n [] l = rw (above me n l) refl
  where
    above : (a b : ℕ) → b ≤ a → nat_lt a b ≡ false
    above a b h = grind (arith, nat_tests)
no_founder me n (rec ∷ log) l = refl

pub is_below : (a b me n : ℕ) → nat_lt a b ≡ true → a ≡ me → b ≡ n → me < n
is_below a b me n h p q = grind (arith, nat_tests, h, p, q)

pub is_not_below : (a b me n : ℕ) → nat_lt a b ≡ false → a ≡ me → b ≡ n → n ≤ me
is_not_below a b me n h p q = grind (arith, nat_tests, h, p, q)

pub not_both : (b : Bool) → b ≡ false → b ≡ true → ⊥
not_both true h k = cc
not_both false h k = cc

pub not_zero : (a : ℕ) → a ≢ 0 → (a == 0) ≡ false
not_zero a h = grind (arith, nat_tests)
