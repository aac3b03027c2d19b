-- The log after a step is the log before it with its batch appended.
use Rattle.std.proofs.Common.{ℕ, ◌∷◌, refl, sym, ◌∙◌, ap}
use Rattle.std.specs.Prelude.{Option, Some, None}
use Rattle.std.specs.Option.{option_map_or}
use Rattle.crsm_spec.specs.Replica.{Replica}
use Rattle.crsm_spec.specs.Draft.{Draft, begun}
use Rattle.crsm_spec.specs.Node.{Turn, turn, input_of}
use Rattle.crsm_spec.specs.Step.{Input, step}
use Rattle.crsm_fact_log.specs.Logs.{with_records}
use Rattle.crsm_fact_log.proofs.Logged.{with_records-push}
use Rattle.crsm_fact_step.specs.Changes.{Changes, stay, and_then}
use Rattle.crsm_fact_step.specs.Steps.{Grown, BatchesAreLogged}
use Rattle.crsm_fact_step.proofs.Fitted.{step_changes}
use Rattle.crsm_fact_step.proofs.Logs.{RecordChange, NothingKept, OneKept, record_change}

module _ (r : Replica) where
  grown_more : (x y : Draft) → RecordChange x y → Grown r x → Grown r y
  grown_more x y (NothingKept me n log batch) g = record {
    me = me ∙ g.me;
    n = n ∙ g.n;
    log = log ∙ g.log ∙ ap (with_records r.log) (sym batch);
  }
  grown_more x y (OneKept rec me n log batch fit) g = record {
    me = me ∙ g.me;
    n = n ∙ g.n;
    log = log ∙ ap (λ l. rec ∷ l) g.log ∙ sym (with_records-push r.log x.batch rec) ∙ ap (with_records r.log) (sym batch);
  }

  grown : {input : Input} {reading : ℕ} {x y : Draft} → Changes r input reading x y → Grown r x → Grown r y
  grown stay g = g
  grown {input} {reading} (and_then {y = y} {z = z} p c f) g = grown_more y z (record_change r input reading y z c) (grown p g)

  nothing_grown : Grown r (begun r)
  unfolding begun
  nothing_grown = record { me = refl; n = refl; log = refl }

  pub step_grown : (input : Input) (reading : ℕ) → Grown r (step r input reading)
  step_grown input reading = grown (step_changes r input reading) nothing_grown

  -- so with what a turn takes
  pub turn_grown : (t : Turn × ℕ) → Grown r (turn r t)
  unfolding turn
  turn_grown t = go (input_of t.0)
    where
      go : (i : Option Input) → Grown r (option_map_or (λ i. step r i t.1) i (begun r))
      go None = nothing_grown
      go (Some i) = step_grown i t.1

pub batches_are_logged : BatchesAreLogged
batches_are_logged = record { of_step = step_grown; of_turn = turn_grown }
