use Rattle.std.proofs.Common.{take}
use Rattle.std.specs.List.{AllByRecursion}
use Rattle.crsm_spec_plan.specs.Timelines.{Precedes}
use Rattle.crsm_delay.specs.Upcoming.{timed_of}
use Rattle.crsm_delay.proofs.agenda.place_of.Given as goal

-- none of those before happens after it
abbrev pub invariant-loop-i : goal.invariant-loop-i
invariant-loop-i l = AllByRecursion (λ g. Precedes (timed_of l.event) (timed_of g) → ⊥) (take l.i l.events)
