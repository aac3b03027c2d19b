-- What a simulation makes of schedules.
use Rattle.std.specs.Prelude.{◌≡◌, ℕ, List, ◌∷◌, ◌++◌}
use Rattle.crsm_schedule.specs.declared.Event.{Event}
use Rattle.crsm_port_lines.specs.declared.Stop.{Stop}
use Rattle.crsm_sim_schedule.specs.Schedules.{Schedule, FitsSchedule, no_events, with_event}
use Rattle.crsm_sim_schedule.specs.declared.cause.Cause.{Cause}

pub record Rules : Type 1 where
  -- each event is possible after those before it
  pub can_run : Schedule → Type 0
  -- the event is not possible after the schedule, for this cause
  pub refuses : Schedule → Event → Cause → Type 0
  -- the text of all lines of a run but the final ones, and the text of those
  pub transcript : Schedule → List ℕ
  pub finals : Schedule → List ℕ

module _ (rules : Rules) where
  -- Lines spell what can be run; none of its events is refused after those before it, and no event for two causes.
  pub record AreExact : Type 0 where
    pub fits : (s : Schedule) → rules.can_run s → FitsSchedule s
    pub none_refused : (s next : Schedule) (e : Event) (more : List Event) (cause : Cause) → rules.can_run next → next.replicas ≡ s.replicas
        → next.events ≡ s.events ++ e ∷ more → rules.refuses s e cause → ⊥
    pub one_cause : (s : Schedule) (e : Event) (c d : Cause) → rules.refuses s e c → rules.refuses s e d → c ≡ d

  -- In these a text was `before` and is `after`, and `now` says which schedules lead to the state of the simulation.

  -- the simulation began with n replicas
  pub record Begins (now : Schedule → Type 0) (n : ℕ) (before after : List ℕ) : Type 0 where
    pub can_run : rules.can_run (no_events n)
    pub stands : now (no_events n)
    pub added : after ≡ before ++ rules.transcript (no_events n)

  -- the event happened after the schedule
  pub record Happens (now : Schedule → Type 0) (s : Schedule) (e : Event) (before after : List ℕ) : Type 0 where
    pub can_run : rules.can_run (with_event s e)
    pub stands : now (with_event s e)
    pub more : List ℕ
    pub shown : rules.transcript (with_event s e) ≡ rules.transcript s ++ more
    pub added : after ≡ before ++ more

  -- the event was refused after the schedule, or memory ran out
  abbrev pub StopsAt : Schedule → Event → (before after : List ℕ) → Stop Cause → Type 0
  StopsAt s e before after (Stop.Refused cause) = rules.refuses s e cause × (after ≡ before)
  StopsAt s e before after Stop.NoMemory = Unit {0}
