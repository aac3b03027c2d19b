-- The drafts of plans: which line can follow, and what it adds.
use Rattle.std.specs.Prelude.{ℕ, Bool, true, false, ◌==◌, ◌&&◌, ◌||◌, not, nat_lt, nat_le, [], ◌∷◌, ◌++◌}
use Rattle.std.specs.List.{list_any}
use Rattle.crsm_spec_plan.specs.declared.Plan.{Plan}
use Rattle.crsm_spec_plan.specs.Plans.{most_delay, most_moment, offset_of}
use Rattle.crsm_delay.specs.declared.line.PlanLine.{PlanLine}
use Rattle.crsm_delay.specs.declared.line.PlanLine.TheVariants.{Offset, Delay, Command}
use Rattle.crsm_delay.specs.declared.draft.Draft.{Draft}

-- a number of replicas, and no further line
abbrev pub empty : ℕ → Draft
empty n = record { plan = record { n = n; offsets = []; delays = []; origin = 0; at = 0 }; is_whole = false }

-- the plan names the offset of this replica
abbrev pub has_offset : Plan → ℕ → Bool
has_offset plan replica = list_any (λ o. o.replica == replica) plan.offsets

-- the plan names the delay between these two
abbrev pub has_delay : Plan → ℕ → ℕ → Bool
has_delay plan from to = list_any (λ d. d.from == from && d.to == to) plan.delays

-- the numbers of the line are within their bounds, and it names nothing that is named
abbrev pub is_allowed : Plan → PlanLine → Bool
is_allowed plan (Offset replica by) = (nat_lt replica plan.n && nat_le by most_moment) && not (has_offset plan replica)
is_allowed plan (Delay from to by) =
    ((nat_lt from plan.n && nat_lt to plan.n) && not (from == to)) && (nat_le by most_delay && not (has_delay plan from to))
is_allowed plan (Command replica at) =
    (nat_lt replica plan.n && nat_le at most_moment) && (nat_lt 0 at || nat_lt 0 (offset_of plan replica))

-- the line can follow; nothing follows the command
abbrev pub can_follow : Draft → PlanLine → Bool
can_follow d line = not d.is_whole && is_allowed d.plan line

-- the draft with one line more
abbrev pub with_line : Draft → PlanLine → Draft
with_line d (Offset replica by) = record d { plan = record d.plan { offsets = d.plan.offsets ++ record { replica = replica; by = by } ∷ [] } }
with_line d (Delay from to by) = record d { plan = record d.plan { delays = d.plan.delays ++ record { from = from; to = to; by = by } ∷ [] } }
with_line d (Command replica at) = record d { plan = record d.plan { origin = replica; at = at }; is_whole = true }
