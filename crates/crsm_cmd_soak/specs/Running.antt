-- The state of a run in memory.
use Rattle.std.specs.Prelude.{◌≡◌, ℕ, List, [], ◌∷◌, ◌++◌, length, None}
use Rattle.crsm_sim_generator.specs.Drawing.{begun, drawn_next}
use Rattle.crsm_spec.specs.Acts.{Act}
use Rattle.crsm_spec.specs.Moments.{act}
use Rattle.crsm_spec.specs.Possible.{possible}
use Rattle.crsm_spec.specs.World.{World, begin, first_lines}
use Rattle.crsm_world.specs.Doing.{act_of}
use Rattle.crsm_world.specs.Laws.{HasDone}
use Rattle.crsm_world.specs.Schedule.{acts_of}
use Rattle.crsm_world.specs.Seen.{view_of}
use Rattle.crsm_world.specs.World.{WorldStands}
use Rattle.crsm_cmd_soak.specs.Soak.{drawn, lines_of, more, nothing}
use Rattle.crsm_cmd_soak.specs.declared.running.SoakRun.{SoakRun}

-- the replicas have booted, and nothing is drawn yet
pub record Begins (run : SoakRun) (number n : ℕ) : Type 0 where
  pub stands : WorldStands run.world (begin n)
  pub done : HasDone run.world n []
  pub replicas : run.generator.replicas ≡ n
  pub drawing : run.generator.drawing ≡ begun number
  pub told : run.summary ≡ more nothing 0 (first_lines n)

-- The next event is drawn, and it is possible in a world that this one stands for.
pub record CanGoOn (run : SoakRun) : Type 0 where
  pub cluster : World
  pub stands : WorldStands run.world cluster
  pub can : possible cluster (act_of (drawn_next run.generator.replicas (view_of cluster) run.generator.drawing).0) ≡ None

-- where the world was v and had done these acts, the next event was drawn and done
pub record StepsOn (v : World) (n : ℕ) (acts : List Act) (old new : SoakRun) : Type 0 where
  pub stands : let next = drawn_next old.generator.replicas (view_of v) old.generator.drawing in WorldStands new.world (act v (act_of next.0)).after
  pub done : let next = drawn_next old.generator.replicas (view_of v) old.generator.drawing in HasDone new.world n (acts ++ act_of next.0 ∷ [])
  pub replicas : new.generator.replicas ≡ old.generator.replicas
  pub drawing : new.generator.drawing ≡ (drawn_next old.generator.replicas (view_of v) old.generator.drawing).1
  pub told : let next = drawn_next old.generator.replicas (view_of v) old.generator.drawing in new.summary ≡ more old.summary 1 (act v (act_of next.0)).lines

-- the run has done all that was drawn, and its lines are counted
pub record HasRun (run : SoakRun) (number n steps : ℕ) : Type 0 where
  pub done : HasDone run.world n (acts_of (drawn number n steps))
  pub told : run.summary ≡ more nothing (length (drawn number n steps).events) (lines_of (drawn number n steps))
