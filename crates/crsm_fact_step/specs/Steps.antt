-- The laws of a single step of a replica.
use Rattle.std.specs.Prelude.{◌≡◌, ◌⊎◌, ℕ, ◌<◌, false, List, [], ◌∷◌}
use Rattle.crsm_spec.specs.Replica.{Replica}
use Rattle.crsm_spec.specs.Draft.{Draft, begun}
use Rattle.crsm_spec.specs.Clients.{commits, replies}
use Rattle.crsm_spec.specs.Frames.{owed_oks}
use Rattle.crsm_spec.specs.Step.{Input, on_input, idle_at, step}
use Rattle.crsm_spec.specs.Node.{Turn, turn}
use Rattle.crsm_fact_log.specs.Logs.{with_records, AllFit}

-- Each record that a step writes may follow those before it, whatever the input.
abbrev pub StepsFit : Type 0
StepsFit = (r : Replica) (input : Input) (reading : ℕ) → AllFit r.me r.n r.log → AllFit r.me r.n (step r input reading).replica.log

-- ---- batches

-- The draft's log is that of r with the records of its batch appended, and its numbers are those of r.
pub record Grown (r : Replica) (x : Draft) : Type 0 where
  pub me : x.replica.me ≡ r.me
  pub n : x.replica.n ≡ r.n
  pub log : x.replica.log ≡ with_records r.log x.batch

-- The log after a step is the log before it with the step's batch appended; so it is for a turn.
pub record BatchesAreLogged : Type 0 where
  pub of_step : (r : Replica) (input : Input) (reading : ℕ) → Grown r (step r input reading)
  pub of_turn : (r : Replica) (t : Turn × ℕ) → Grown r (turn r t)

-- ---- times

-- the newest time is the greatest, and so on
abbrev pub RisesTo : List ℕ → Type 0
RisesTo [] = Unit {0}
RisesTo (t ∷ []) = Unit {0}
RisesTo (t ∷ (u ∷ us)) = (u < t) × RisesTo (u ∷ us)

-- The times that a replica issues in an epoch strictly rise, at any readings of its clock.
abbrev pub TimesRise : Type 0
TimesRise = (r : Replica) (input : Input) (reading : ℕ) → RisesTo r.issued → RisesTo (step r input reading).replica.issued

-- ---- inputs that are ignored

-- An input that does nothing, or whose records would not fit, still has the rest of its step: pending acknowledgements,
-- clock time, commits and replies.
abbrev pub IgnoredInputsEnd : Type 0
IgnoredInputsEnd =
    (r : Replica) (input : Input) (reading : ℕ) →
    ((on_input input reading (begun r) ≡ begun r) ⊎ ((on_input input reading (begun r)).fitting ≡ false)) →
    step r input reading ≡ replies (commits (idle_at input reading (owed_oks reading (begun r))))
