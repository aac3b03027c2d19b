-- The effect of putting a body, or none, on the disk.
use Rattle.std.proofs.Common.{◌≡◌, IsTrue, ℕ, ◌<◌, List, [], ◌∷◌, ◌++◌, length, refl, inl, inr, arith}
use Rattle.std.specs.Prelude.{Some}
use Rattle.crsm_port_faults.specs.Plan.{Plan}
use Rattle.crsm_disk.specs.Meaning.{LeavesOnly, Meaning}
use Rattle.crsm_disk.proofs.Moments.{weaker}
use Rattle.crsm_log.specs.Format.{bodies_of, found, reading}
use Rattle.crsm_log.specs.Log.{Goes, IsBeforeOrAfter, Used, put_calls, recorded}
use Rattle.crsm_log.specs.declared.errors.PutError.{PutError}
use Rattle.crsm_log.specs.declared.errors.PutError.TheVariants as put
use Rattle.crsm_shell.specs.declared.errors.TurnError.TheVariants as errors
use Rattle.crsm_shell.specs.Errors.{put_failure}
use Rattle.crsm_shell.specs.Flushing.{IsLeft, IsOfPut, IsPast, KeptWell}

module _ (gate : ℕ) (old new : Meaning) where
  left_some : (body : List ℕ) → 0 < length body → LeavesOnly old new (IsBeforeOrAfter (bodies_of old.seen) body) → LeavesOnly old new (IsLeft (bodies_of old.seen) body)
  left_some body some left = weaker old new (IsBeforeOrAfter (bodies_of old.seen) body) (IsLeft (bodies_of old.seen) body) left (λ c. elim [ inl is ↦ inl is | inr is ↦ inr (some, is) ])

  pub kept_some : (body : List ℕ) → 0 < length body → Goes old new → (IsTrue old.honest → reading new.seen ≡ found (bodies_of old.seen ++ body ∷ [])) →
      new.history ≡ recorded (put_calls gate body) old.history → ((p : Plan) → IsTrue old.honest → old.plan ≡ Some p → Used 4 p new.plan) →
      (IsPast gate body → ⊥) → (IsTrue old.honest → LeavesOnly old new (IsBeforeOrAfter (bodies_of old.seen) body)) → KeptWell gate body old new
  kept_some [] some goes added history plan fits any = absurd (omega (arith, some))
  kept_some (b ∷ body) some goes added history plan fits any = record {
    goes = goes;
    added = added;
    history = history;
    plan = plan;
    fits = fits;
    any_moment = λ honest. left_some (b ∷ body) some (any honest);
  }

  pub left_by : (body : List ℕ) → 0 < length body → (IsTrue old.honest → LeavesOnly old new (IsBeforeOrAfter (bodies_of old.seen) body)) → IsTrue old.honest → LeavesOnly old new (IsLeft (bodies_of old.seen) body)
  left_by body some any honest = left_some body some (any honest)

-- ---- which error it is

pub fault_of : (why : PutError) → put_failure why ≡ errors.DiskFault → why ≡ put.DiskFault
fault_of put.DiskFault is = refl
fault_of put.Failed is = absurd (cc)
fault_of (put.Full end) is = absurd (cc)
fault_of put.NoMemory is = absurd (cc)

pub full_of : (why : PutError) → put_failure why ≡ errors.LogFull → (end : ℕ) × (why ≡ put.Full end)
full_of put.DiskFault is = absurd (cc)
full_of put.Failed is = absurd (cc)
full_of (put.Full end) is = (end, refl)
full_of put.NoMemory is = absurd (cc)

pub kind_of : (why : PutError) → (why ≡ put.Failed → ⊥) → IsOfPut (put_failure why)
kind_of put.DiskFault other = tt
kind_of put.Failed other = other refl
kind_of (put.Full end) other = tt
kind_of put.NoMemory other = tt
