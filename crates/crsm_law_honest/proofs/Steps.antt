-- The steps of a sheet are steps that its process kept, and the last of them leaves the sheet's last log.
use Rattle.std.proofs.Common.{◌≡◌, ℕ, List, [], ◌∷◌, ◌++◌, refl, subst, inl, inr}
use Rattle.crsm_spec.specs.Lists.{Among, IsPrefixOf}
use Rattle.crsm_spec.specs.Log.{Log, executed}
use Rattle.crsm_spec.specs.Draft.{Draft}
use Rattle.crsm_spec.specs.Replica.{Replica}
use Rattle.crsm_spec.specs.Step.{boot}
use Rattle.crsm_spec.specs.Node.{Turn, turn, outputs, outputs_from}
use Rattle.crsm_spec.specs.World.{World}
use Rattle.crsm_spec_process.specs.Lives.{Life, kept_steps, kept_turns}
use Rattle.crsm_law_lives.proofs.Lines.{boot_right, turn_right}
use Rattle.crsm_law_runs.proofs.Effects.{ArePlain}
use Rattle.crsm_law_runs.proofs.Words.{IsRight}
use Rattle.crsm_law_sheets.specs.Sheets.{Sheet, last_log, log_after, steps_of}
use Rattle.crsm_spec.specs.Types.{Entry, Line}
use Rattle.crsm_law_honest.specs.Honest.{IsWrittenBy}
use Rattle.crsm_law_honest.proofs.Telling.{boot_plain, turn_plain}

-- ---- of a process

-- the steps of the first turns are the first steps
first_among : (r : Replica) (ts us : List (Turn × ℕ)) (x : Draft) → Among (outputs_from r ts) x → Among (outputs_from r (ts ++ us)) x
unfolding outputs_from
first_among r [] us x a = absurd a
first_among r (t ∷ ts) us x (inl e) = inl e
first_among r (t ∷ ts) us x (inr a) = inr (first_among (turn r t).replica ts us x a)

first_steps : (n : ℕ) (l : Life) (ts : List (Turn × ℕ)) → IsPrefixOf ts (kept_turns l.groups) → (x : Draft) → Among (outputs l.me n l.found ts) x → Among (kept_steps n l) x
unfolding outputs kept_steps
first_steps n l ts p x (inl e) = inl e
first_steps n l ts p x (inr a) =
    let from = (boot l.me n l.found).replica in
    inr (subst (λ us. Among (outputs_from from us) x) p.1 (first_among from ts p.0 x a))

pub are_kept : (n : ℕ) (l : Life) (s : Sheet) → IsWrittenBy l s → (x : Draft) → Among (steps_of n s) x → Among (kept_steps n l) x
are_kept n l s w x a =
    first_steps n l s.turns w.turns x
    (subst (λ k. Among (outputs k n l.found s.turns) x) w.me (subst (λ log. Among (outputs s.me n log s.turns) x) w.found a))

-- ---- what a step tells

-- the lines of its records are right for each list that its executed list begins, and those of refused collections are
-- plain
pub record Tells (x : Draft) : Type 0 where
  pub right : (end : World) (list : List Entry) → IsPrefixOf (executed x.replica.log) list → (l : Line) → Among x.lines l → IsRight end list l
  pub plain : ArePlain x.excess

turns_tell : (r : Replica) (ts : List (Turn × ℕ)) (x : Draft) → Among (outputs_from r ts) x → Tells x
unfolding outputs_from
turns_tell r [] x a = absurd a
turns_tell r (t ∷ ts) x (inl e) = subst Tells e (record { right = λ end list p. turn_right end list r t p; plain = turn_plain r t })
turns_tell r (t ∷ ts) x (inr a) = turns_tell (turn r t).replica ts x a

pub steps_tell : (n : ℕ) (s : Sheet) (x : Draft) → Among (steps_of n s) x → Tells x
unfolding outputs
steps_tell n s x (inl e) = subst Tells e (record { right = λ end list p. boot_right end list s.me n s.found; plain = boot_plain s.me n s.found })
steps_tell n s x (inr a) = turns_tell (boot s.me n s.found).replica s.turns x a

-- ---- the last step

ends_at : (x : Draft) (xs : List Draft) (log : Log) → (y : Draft) × Among (x ∷ xs) y × (log_after log (x ∷ xs) ≡ y.replica.log)
unfolding log_after
ends_at x [] log = (x, inl refl, refl)
ends_at x (z ∷ xs) log = let t = ends_at z xs x.replica.log in (t.0, inr t.1, t.2)

-- the step that leaves the sheet's last log
pub last_step : (n : ℕ) (s : Sheet) → (x : Draft) × Among (steps_of n s) x × (last_log n s ≡ x.replica.log)
unfolding outputs
last_step n s = ends_at (boot s.me n s.found) (outputs_from (boot s.me n s.found).replica s.turns) s.found
