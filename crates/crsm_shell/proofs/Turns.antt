-- The effect of a turn, by those of its take and its flush.
use Rattle.std.proofs.Common.{◌≡◌, IsTrue, ℕ, List, [], ◌∷◌, ◌++◌, refl, sym, subst, inl}
use Rattle.std.specs.Prelude.{Option, Result, Err, IfErr, Some}
use Rattle.crsm_port_faults.specs.Plan.{Plan}
use Rattle.crsm_spec.specs.Draft.{Draft}
use Rattle.crsm_spec.specs.Log.{Log}
use Rattle.crsm_spec.specs.Node.{turn}
use Rattle.crsm_spec.specs.Replica.{Replica}
use Rattle.crsm_clock.specs.Readings.{Gives, Readings}
use Rattle.crsm_disk.specs.Meaning.{LeavesOnly, Meaning, Same}
use Rattle.crsm_disk.proofs.Moments.{started, weaker}
use Rattle.crsm_log.specs.Format.{bodies_of}
use Rattle.crsm_log.specs.Log.{IsSettled, Used, recorded}
use Rattle.crsm_port.specs.Meaning.{Meaning as PortMeaning}
use Rattle.crsm_replica_io.specs.declared.input.WantedInput.{WantedInput}
use Rattle.crsm_shell.specs.declared.errors.TurnError.{TurnError}
use Rattle.crsm_shell.specs.declared.errors.TurnError.TheVariants as errors
use Rattle.crsm_shell.specs.declared.shell.Shell.{Shell}
use Rattle.crsm_shell.specs.declared.turned.TurnResult.{TurnResult}
use Rattle.crsm_shell.specs.Flushing.{Adds, IsFull, IsLeft, IsOfPut, IsOneOf, SendsNone, StopsFlush, keep_calls, keep_count}
use Rattle.crsm_shell.specs.Shell.{HasLog, ShellStands, group_body, records_of}
use Rattle.crsm_shell.specs.Taking.{Reads, Takes, step_of, turn_of}
use Rattle.crsm_shell.specs.Turning.{FailsOnPort, FailsToFlush, KeepsGroup, LosesStep, TakesOnly}
use Rattle.crsm_shell.specs.Words.{buffer_of, disk_of, gate_of}
use Rattle.crsm_shell.proofs.Groups.{inside, left_bodies}
use Rattle.crsm_fact_step.proofs.Batches.{turn_grown}

-- what is known of an error is known of the result that carries it
pub if_err : {A : Type 0} (P : TurnError → Type 0) (result : Result A TurnError) (e why : TurnError) → result ≡ Err e → e ≡ why → P why → IfErr result P
if_err {A = A} P result e why is same h = subst (λ (x : Result A TurnError). IfErr x P) (sym is) (subst P (sym same) h)

-- ---- the port and the clock

no_send : (m : PortMeaning) → SendsNone m m
no_send m = record { same = refl; good = λ p told. (p, told, refl) }

-- a take that failed
take_fails : (what : WantedInput) (buffer : List ℕ) (old new : PortMeaning) (why : TurnError) → Takes what buffer old new (Err why) → FailsOnPort what buffer old new why
take_fails what buffer old new errors.PortFault h = h
take_fails what buffer old new errors.Failed h = h
take_fails what buffer old new errors.NoMemory h = record { input = h.0; between = new; taken = h.1; unsent = no_send new }
take_fails what buffer old new errors.DiskFault h = absurd h
take_fails what buffer old new errors.LogFull h = absurd h

pub take_unsent : {A : Type 0} (what : WantedInput) (buffer : List ℕ) (old new : PortMeaning) (result : Result A TurnError) (e why : TurnError) → result ≡ Err e → e ≡ why → Takes what buffer old new (Err why) → IfErr result (FailsOnPort what buffer old new)
take_unsent what buffer old new result e why is same h = if_err (FailsOnPort what buffer old new) result e why is same (take_fails what buffer old new why h)

-- a flush that failed
flush_fails : (what : WantedInput) (buffer : List ℕ) (old new : PortMeaning) (why : TurnError) → (why ≡ errors.PortFault → ⊥) → (why ≡ errors.Failed → ⊥) → TakesOnly what buffer old new → FailsOnPort what buffer old new why
flush_fails what buffer old new errors.PortFault port failed h = absurd (port refl)
flush_fails what buffer old new errors.Failed port failed h = absurd (failed refl)
flush_fails what buffer old new errors.NoMemory port failed h = h
flush_fails what buffer old new errors.DiskFault port failed h = h
flush_fails what buffer old new errors.LogFull port failed h = h

pub flush_unsent : {A : Type 0} (what : WantedInput) (buffer : List ℕ) (old new : PortMeaning) (result : Result A TurnError) (e why : TurnError) → result ≡ Err e → e ≡ why →
    (why ≡ errors.PortFault → ⊥) → (why ≡ errors.Failed → ⊥) → TakesOnly what buffer old new → IfErr result (FailsOnPort what buffer old new)
flush_unsent what buffer old new result e why is same port failed h = if_err (FailsOnPort what buffer old new) result e why is same (flush_fails what buffer old new why port failed h)

flush_reads : (old new : Option Readings) (t : TurnResult) (why : TurnError) → (why ≡ errors.PortFault → ⊥) → (why ≡ errors.Failed → ⊥) → Gives old new t.reading → Reads old new (Err why)
flush_reads old new t errors.PortFault port failed h = absurd (port refl)
flush_reads old new t errors.Failed port failed h = absurd (failed refl)
flush_reads old new t errors.NoMemory port failed h = (t.reading, h)
flush_reads old new t errors.DiskFault port failed h = (t.reading, h)
flush_reads old new t errors.LogFull port failed h = (t.reading, h)

pub flush_read : (old new : Option Readings) (t : TurnResult) (result : Result TurnResult TurnError) (e why : TurnError) → result ≡ Err e → e ≡ why →
    (why ≡ errors.PortFault → ⊥) → (why ≡ errors.Failed → ⊥) → Gives old new t.reading → Reads old new result
flush_read old new t result e why is same port failed h =
    subst (λ (x : Result TurnResult TurnError). Reads old new x) (sym is) (subst (λ (w : TurnError). Reads old new (Err w)) (sym same) (flush_reads old new t why port failed h))

-- ---- a flush that went well

-- what it did to the disk, for these steps of a replica that is now this one
pub record Kept {D : Type 0} (meaning : D → Meaning) (gate : ℕ) (d d' : D) (kept : Log) (r : Replica) (steps : List Draft) : Type 0 where
  pub calls : (meaning d').history ≡ recorded (keep_calls gate (group_body steps)) (meaning d).history
  pub quiet : records_of steps ≡ [] → d' ≡ d
  pub plan : IsTrue (meaning d).honest → (p : Plan) → (meaning d).plan ≡ Some p → Used (keep_count (group_body steps)) p (meaning d').plan
  pub fits : IsTrue (meaning d).honest → IsFull (meaning d).seen (group_body steps) → ⊥
  pub added : IsTrue (meaning d).honest → Adds (group_body steps) (meaning d).seen (meaning d').seen
  pub left : IsTrue (meaning d).honest → LeavesOnly (meaning d) (meaning d') (IsLeft (bodies_of (meaning d).seen) (group_body steps))
  pub any_moment : IsTrue (meaning d).honest → LeavesOnly (meaning d) (meaning d') (IsOneOf r.me r.n kept r.log)

-- the same of a flush that failed
pub record NotFlushed {D : Type 0} (meaning : D → Meaning) (gate : ℕ) (d d' : D) (why : TurnError) (kept : Log) (r : Replica) (steps : List Draft) : Type 0 where
  pub stopped : why ≡ errors.DiskFault → StopsFlush gate (group_body steps) kept r (meaning d) (meaning d')
  pub unwritten : (why ≡ errors.DiskFault → ⊥) → Same (meaning d) (meaning d')
  pub full : IsTrue (meaning d).honest → why ≡ errors.LogFull → IsFull (meaning d).seen (group_body steps)
  pub fits : IsTrue (meaning d).honest → why ≡ errors.DiskFault → IsFull (meaning d).seen (group_body steps) → ⊥
  pub left : IsTrue (meaning d).honest → LeavesOnly (meaning d) (meaning d') (IsLeft (bodies_of (meaning d).seen) (group_body steps))
  pub any_moment : IsTrue (meaning d).honest → LeavesOnly (meaning d) (meaning d') (IsOneOf r.me r.n kept r.log)

-- the take before it left the gate and the disk, and it left the buffer
module _ {D : Type 0} {g : _} (meaning : D → Meaning) (before mid after : Shell D g) (gate : gate_of mid ≡ gate_of before) (disk : disk_of mid ≡ disk_of before) (buffer : buffer_of after ≡ buffer_of mid)
    (kept : Log) (r : Replica) (steps : List Draft) (t : TurnResult) where
  abbrev step_in : List ℕ → Draft
  step_in b = turn r (turn_of b t.taken, t.reading)

  abbrev steps_in : List ℕ → List Draft
  steps_in b = steps ++ step_in b ∷ []

  -- a fact of the gate, the disk and the buffer at the flush is one of the turn
  of_turn : (P : ℕ → D → List ℕ → Type 0) → P (gate_of mid) (disk_of mid) (buffer_of mid) → P (gate_of before) (disk_of before) (buffer_of after)
  of_turn P h =
      subst (P (gate_of before) (disk_of before)) (sym buffer)
      (subst (λ (d : D). P (gate_of before) d (buffer_of mid)) disk (subst (λ (k : ℕ). P k (disk_of mid) (buffer_of mid)) gate h))

  pub keeps_group : Kept meaning (gate_of mid) (disk_of mid) (disk_of after) kept (step_of (buffer_of mid) r t).replica (steps ++ step_of (buffer_of mid) r t ∷ []) → KeepsGroup meaning before after kept r steps t
  keeps_group h =
      let k = of_turn (λ place d b. Kept meaning place d (disk_of after) kept (step_in b).replica (steps_in b)) h in
      record { calls = k.calls; quiet = k.quiet; plan = k.plan; fits = k.fits; added = k.added; left = k.left; any_moment = k.any_moment }

  pub fails_to_flush : (why : TurnError) → NotFlushed meaning (gate_of mid) (disk_of mid) (disk_of after) why kept (step_of (buffer_of mid) r t).replica (steps ++ step_of (buffer_of mid) r t ∷ []) →
      FailsToFlush meaning before after kept (step_in (buffer_of after)).replica (steps_in (buffer_of after)) why
  fails_to_flush why h =
      let k = of_turn (λ place d b. NotFlushed meaning place d (disk_of after) why kept (step_in b).replica (steps_in b)) h in
      record { stopped = k.stopped; unwritten = k.unwritten; full = k.full; fits = k.fits; left = k.left; any_moment = k.any_moment }

-- ---- where the disk is not called

same_disk : (m : Meaning) → Same m m
same_disk m = record { seen = refl; images = λ c. (λ h. h, λ h. h); moment = refl; left = λ t c. (λ h. h, λ h. h); history = refl; honest = refl; borrowed_as = refl }

pub untouched : {D : Type 0} {g : _} (meaning : D → Meaning) (before after : Shell D g) → disk_of after ≡ disk_of before → Same (meaning (disk_of before)) (meaning (disk_of after))
untouched meaning before after disk = subst (λ d. Same (meaning (disk_of before)) (meaning d)) (sym disk) (same_disk (meaning (disk_of before)))

module _ {D : Type 0} {g : _} (meaning : D → Meaning) (before after : Shell D g) (disk : disk_of after ≡ disk_of before) (kept : Log) (r : Replica) (steps : List Draft)
    (stands : ShellStands before (meaning (disk_of before)) kept r steps) (settled : IsTrue (meaning (disk_of before)).honest → IsSettled (meaning (disk_of before)) (gate_of before)) where
  abbrev m : Meaning
  m = meaning (disk_of before)

  abbrev HasKept : List ℕ → Type 0
  HasKept file = HasLog r.me r.n file kept

  to_after : (P : Meaning → Type 0) → P m → P (meaning (disk_of after))
  to_after P h = subst (λ (d : D). P (meaning d)) (sym disk) h

  leaves_kept : IsTrue m.honest → LeavesOnly m m HasKept
  leaves_kept honest = started m HasKept (λ c left. subst HasKept (sym ((settled honest).durable c left)) ((inside before m kept r steps stands).file honest))

  pub spared : IsTrue m.honest → LeavesOnly m (meaning (disk_of after)) HasKept
  spared honest = to_after (λ new. LeavesOnly m new HasKept) (leaves_kept honest)

  -- memory ran out in the step
  pub take_loses : (what : WantedInput) (ahead later : Option Readings) (old new : PortMeaning) (why : TurnError) → Takes what (buffer_of after) old new (Err why) → Reads ahead later (Err why) → IsOfPut why →
      LosesStep meaning before after what ahead later old new why kept r steps
  take_loses what ahead later old new errors.DiskFault h reads kind = absurd h
  take_loses what ahead later old new errors.LogFull h reads kind = absurd h
  take_loses what ahead later old new errors.PortFault h reads kind = absurd kind
  take_loses what ahead later old new errors.Failed h reads kind = absurd kind
  take_loses what ahead later old new errors.NoMemory h reads kind =
      let x = turn r (turn_of (buffer_of after) h.0, reads.0) in
      let grown = turn_grown r (turn_of (buffer_of after) h.0, reads.0) in
      let P = IsOneOf x.replica.me x.replica.n kept x.replica.log in
      record {
        reading = reads.0;
        gives = reads.1;
        took = record { input = h.0; between = new; taken = h.1; unsent = no_send new };
        fails = record {
          stopped = λ is. absurd (cc);
          unwritten = λ other. to_after (Same m) (same_disk m);
          full = λ honest is. absurd (cc);
          fits = λ honest is full. cc;
          left = λ honest. to_after (λ m'. LeavesOnly m m' (IsLeft (bodies_of m.seen) (group_body (steps ++ x ∷ [])))) (left_bodies m (group_body (steps ++ x ∷ [])) (gate_of before) (settled honest));
          any_moment = λ honest. to_after (λ m'. LeavesOnly m m' P) (weaker m m HasKept P (leaves_kept honest) (λ c has.
              inl (subst (λ (k : ℕ). HasLog k x.replica.n c kept) (sym grown.me) (subst (λ (k : ℕ). HasLog r.me k c kept) (sym grown.n) has))));
        };
      }
