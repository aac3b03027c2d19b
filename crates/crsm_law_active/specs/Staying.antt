-- The replica that a calm step leaves, and what the step adds to it.
use Rattle.std.specs.Prelude.{◌≡◌, ◌≢◌, ℕ, ◌+◌, ◌≤◌, IsTrue, List, [], ◌∷◌, ◌++◌, length, Some}
use Rattle.crsm_base.specs.MessageReading.{control_of}
use Rattle.crsm_spec.specs.Types.{Stamp, Entry, Rec, Datagram, Control}
use Rattle.crsm_spec.specs.Log.{Log, known, active}
use Rattle.crsm_spec.specs.Parts.{whole_with}
use Rattle.crsm_spec.specs.Replica.{Replica}
use Rattle.crsm_spec.specs.Draft.{Draft}
use Rattle.crsm_spec.specs.Step.{Input, step}

-- New is old with commits and entries of replicas other than me appended; the entries are these, the newest first.
pub data GrowsBy (me : ℕ) (old : Log) : List Entry → Log → Type 0 where
  same : GrowsBy me old [] old
  entry : {entries : List Entry} {new : Log} (f : Entry) → f.stamp.origin ≢ me → GrowsBy me old entries new →
      GrowsBy me old (f ∷ entries) (Rec.Prepare f ∷ new)
  commit : {entries : List Entry} {new : Log} (s : Stamp) → GrowsBy me old entries new → GrowsBy me old entries (Rec.Commit s ∷ new)

-- xs is an end of the list
abbrev pub IsEndOf : {A : Type 0} → List A → List A → Type 0
IsEndOf {A} xs ys = (prefix : List A) × (ys ≡ prefix ++ xs)

-- the message changes nothing at a replica that knows epoch e
abbrev pub IsMild : ℕ → Control → Type 0
IsMild e (Control.Decide d) = d.epoch ≤ e
IsMild e (Control.Retrieve known from) = Unit {0}
IsMild e _ = ⊥

-- The input is a tick of an active replica, a frame, an acknowledgement, or a part that completes at most such a
-- message.
abbrev pub IsCalmInput : Replica → Input → Type 0
IsCalmInput r Input.Ticked = IsTrue (active r.log)
IsCalmInput r (Input.Came a (Datagram.Frame from to e seq p)) = Unit {0}
IsCalmInput r (Input.Came a (Datagram.Ack from to e next)) = Unit {0}
IsCalmInput r (Input.Came a (Datagram.Part from to boot number index count bytes)) =
    (message : List ℕ) (c : Control) →
    whole_with (record { from = from; boot = boot; number = number; index = index; count = count; bytes = bytes }) r.parts ≡ Some message →
    control_of message ≡ Some c → IsMild (known r.log) c
IsCalmInput r _ = ⊥

-- the maximum number of clock times that a step on this input sends
abbrev pub ticks_in : Input → ℕ
ticks_in Input.Ticked = 1
ticks_in (Input.Came a d) = 0
ticks_in (Input.Suspected ms) = 0

-- The draft's replica is r in the same epoch: its log has grown by commits and others' entries, its links have only
-- advanced, and each time that it has issued, or will issue for a pending stamp, belongs to such an entry or is a clock
-- time.
pub record Stays (r : Replica) (ticks : ℕ) (x : Draft) : Type 0 where
  pub me : x.replica.me ≡ r.me
  pub n : x.replica.n ≡ r.n
  pub entries : List Entry
  pub log : GrowsBy r.me r.log entries x.replica.log
  pub taken : IsEndOf r.taken x.replica.taken
  pub acked : IsEndOf r.acked x.replica.acked
  pub issued : IsEndOf r.issued x.replica.issued
  pub times : length x.replica.issued + length x.replica.owed ≤ length r.issued + length r.owed + length entries + ticks

-- A calm step leaves a replica in its epoch.
abbrev pub StepsStay : Type 0
StepsStay = (r : Replica) (input : Input) (reading : ℕ) → IsCalmInput r input → Stays r (ticks_in input) (step r input reading)
