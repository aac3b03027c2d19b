-- Runs drawn from a seed.
use Rattle.std.specs.Prelude.{ℕ, zero, suc, if◌then◌else◌, List, [], ◌∷◌}
use Rattle.crsm_sim_generator.specs.Drawing.{begun, drawn_next}
use Rattle.crsm_sim_generator.specs.declared.drawing.Drawing.{Drawing}
use Rattle.crsm_schedule.specs.declared.Event.{Event}
use Rattle.crsm_spec.specs.Moments.{act}
use Rattle.crsm_spec.specs.World.{World, begin, is_full}
use Rattle.crsm_world.specs.Doing.{act_of}
use Rattle.crsm_world.specs.Schedule.{Schedule}
use Rattle.crsm_world.specs.Seen.{view_of}

-- The events drawn for n replicas from this world and generator state on, at most this many: they end when the world is
-- full.
unfoldable pub drawn_from : (steps n : ℕ) → World → Drawing → List Event
drawn_from zero n w s = []
drawn_from (suc steps) n w s =
    let next = drawn_next n (view_of w) s in
    let more = next.0 ∷ drawn_from steps n (act w (act_of next.0)).after next.1 in
    if is_full w then [] else more

-- the schedule drawn from a seed for n replicas
unfoldable pub drawn : (number n steps : ℕ) → Schedule
drawn number n steps = record { replicas = n; events = drawn_from steps n (begin n) (begun number) }
