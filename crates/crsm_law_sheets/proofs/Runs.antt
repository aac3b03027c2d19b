-- The steps of a sheet, one after another.
use Rattle.std.proofs.Common.{◌≡◌, ℕ, zero, suc, ◌<◌, List, [], ◌∷◌, refl, sym, subst, Bool, true, false, arith}
use Rattle.std.specs.Prelude.{Option, Some, None, slice_get, nat_lt}
use Rattle.std.specs.Option.{option_map_or}
use Rattle.std.proofs.lemmas.Option.{none-some, same_Some}
use Rattle.crsm_spec.specs.Choice.{when◌then◌otherwise◌}
use Rattle.crsm_spec.specs.Types.{Rec}
use Rattle.crsm_spec.specs.Log.{Log}
use Rattle.crsm_spec.specs.Replica.{Replica, fresh}
use Rattle.crsm_spec.specs.Draft.{Draft, begun, keep}
use Rattle.crsm_spec.specs.Step.{Input, step, boot, boot_again, first_boot, founding_boot}
use Rattle.crsm_spec.specs.Node.{Turn, turn, input_of, outputs, outputs_from}
use Rattle.crsm_fact_log.specs.Logs.{Extends, same}
use Rattle.crsm_fact_log.proofs.Logged.{extends_trans}
use Rattle.crsm_fact_step.specs.Changes.{StepsAreChanges}
use Rattle.crsm_law_sheets.specs.Sheets.{log_after}
use Rattle.crsm_law_sheets.proofs.Drafts.{Good, WaitForOwn, begun_good, kept_good, step_good}

-- each step goes on from the log that those before it left
abbrev pub Along : ℕ → Log → List Draft → Type 0
Along me log [] = Unit {0}
Along me log (x ∷ xs) = Good me log x × Along me x.replica.log xs

module _ (law : StepsAreChanges) where
  turn_good : (r : Replica) (t : Turn × ℕ) → WaitForOwn r.me r.log r.waiting → Good r.me r.log (turn r t)
  unfolding turn
  turn_good r t w = go (input_of t.0)
    where
      go : (i : Option Input) → Good r.me r.log (option_map_or (λ i. step r i t.1) i (begun r))
      go None = begun_good r w
      go (Some i) = step_good law r i t.1 w

  turns_along : (me : ℕ) (r : Replica) (ts : List (Turn × ℕ)) → r.me ≡ me → WaitForOwn me r.log r.waiting → Along me r.log (outputs_from r ts)
  unfolding outputs_from
  turns_along me r [] e w = tt
  turns_along me r (t ∷ ts) e w =
      let g : Good me r.log (turn r t) = subst (λ k. Good k r.log (turn r t)) e (turn_good r t (subst (λ k. WaitForOwn k r.log r.waiting) (sym e) w)) in
      (g, turns_along me (turn r t).replica ts g.me_is g.waits)

  again_good : (me n : ℕ) (log : Log) → Good me log (boot_again me n log)
  unfolding boot_again keep begun fresh
  again_good me n log =
      kept_good me log (Rec.Boot me n) (begun (fresh me n log)) (boot_again me n log) refl refl refl refl (λ w m. absurd m) (begun_good (fresh me n log) (λ w m. absurd m))

  founding_good : (me n : ℕ) → Good me [] (founding_boot me n)
  unfolding founding_boot boot_again keep begun fresh
  founding_good me n = kept_good me [] (Rec.Enter 0) (boot_again me n []) (founding_boot me n) refl refl refl refl (λ w m. absurd m) (again_good me n [])

  boot_good : (me n : ℕ) (log : Log) → Good me log (boot me n log)
  unfolding boot first_boot when◌then◌otherwise◌
  boot_good me n (rec ∷ log) = again_good me n (rec ∷ log)
  boot_good me n [] = go (nat_lt me n)
    where
      go : (c : Bool) → Good me [] (when c then founding_boot me n otherwise boot_again me n [])
      go true = founding_good me n
      go false = again_good me n []

  pub sheet_along : (me n : ℕ) (found : Log) (ts : List (Turn × ℕ)) → Along me found (outputs me n found ts)
  unfolding outputs
  sheet_along me n found ts = let g = boot_good me n found in (g, turns_along me (boot me n found).replica ts g.me_is g.waits)

-- ---- places among the steps

pub after_grows : (me : ℕ) (log : Log) (xs : List Draft) → Along me log xs → Extends log (log_after log xs)
unfolding log_after
after_grows me log [] h = same
after_grows me log (x ∷ xs) h = extends_trans h.0.grows (after_grows me x.replica.log xs h.1)

-- a step, with the log before it, which goes on from all that earlier steps left
pub record StepAt (me : ℕ) (log end : Log) (x : Draft) : Type 0 where
  pub before : Log
  pub grows : Extends log before
  pub good : Good me before x
  pub ends : Extends x.replica.log end

pub step_at : (me : ℕ) (log : Log) (xs : List Draft) (i : ℕ) (x : Draft) → Along me log xs → slice_get xs i ≡ Some x → StepAt me log (log_after log xs) x
unfolding log_after
step_at me log [] i x h e = absurd (none-some x e)
step_at me log (y ∷ xs) zero x h e =
    let is : y ≡ x = same_Some y x e in
    subst (StepAt me log (log_after y.replica.log xs)) is (record { before = log; grows = same; good = h.0; ends = after_grows me y.replica.log xs h.1 })
step_at me log (y ∷ xs) (suc i) x h e =
    let s = step_at me y.replica.log xs i x h.1 e in
    record { before = s.before; grows = extends_trans h.0.grows s.grows; good = s.good; ends = s.ends }

-- two steps, the later one on what the earlier one left
pub record TwoSteps (me : ℕ) (end : Log) (x y : Draft) : Type 0 where
  pub first : Log
  pub earlier : Good me first x
  pub before : Log
  pub grows : Extends x.replica.log before
  pub later : Good me before y
  pub ends : Extends y.replica.log end

pub two_steps : (me : ℕ) (log : Log) (xs : List Draft) (i j : ℕ) (x y : Draft) → i < j → Along me log xs → slice_get xs i ≡ Some x → slice_get xs j ≡ Some y → TwoSteps me (log_after log xs) x y
unfolding log_after
two_steps me log [] i j x y lt h e f = absurd (none-some x e)
two_steps me log (z ∷ xs) i zero x y lt h e f = absurd (omega (arith, lt))
two_steps me log (z ∷ xs) zero (suc j) x y lt h e f =
    let is : z ≡ x = same_Some z x e in
    let s = step_at me z.replica.log xs j y h.1 f in
    subst (λ w. TwoSteps me (log_after z.replica.log xs) w y) is (record { first = log; earlier = h.0; before = s.before; grows = s.grows; later = s.good; ends = s.ends })
two_steps me log (z ∷ xs) (suc i) (suc j) x y lt h e f = two_steps me z.replica.log xs i j x y (omega (arith, lt)) h.1 e f
