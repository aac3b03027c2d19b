-- The effect of an act: the moments that it adds to a world. Clocks have no part in it, so readings mean nothing here.
use Rattle.std.specs.Prelude.{ℕ, true, ◌&&◌, not, if◌then◌else◌, List, [], ◌∷◌, map, filter, flat_map, Option, None, Some, slice_get, slice_set}
use Rattle.std.specs.List.{enumerate_from}
use Rattle.std.specs.Option.{option_map_or}
use Rattle.crsm_spec.specs.Acts.{Single, Act}
use Rattle.crsm_mpspec.specs.declared.input.MpInput.{MpInput}
use Rattle.crsm_mpspec.specs.declared.line.MpLine.{MpLine}
use Rattle.crsm_mpspec.specs.Step.{step, boot}
use Rattle.crsm_mpspec.specs.World.{Site, Packet, World, Moment, Ending, log_at, is_up_at, is_full, whole_step, cut_step, lost_step, down}

-- ---- one step

-- message i is used from now on
unfoldable pub use_up : ℕ → World → World
use_up i w =
    record w { packets = option_map_or (λ m. slice_set w.packets i (record m { used = true })) (slice_get w.packets i) w.packets }

-- a change without a line
unfoldable pub silent : World → World → Moment
silent w v = record { before = w; after = v; lines = [] }

-- the same moment, of a change that began earlier
unfoldable pub begun_at : World → Moment → Moment
begun_at w m = record m { before = w }

-- A step at a site, which ends whole or is stopped. Only a replica that is up steps.
unfoldable pub step_at_site : Ending → World → ℕ → MpInput → ℕ → Option Site → Moment
step_at_site ends w k input from (Some (Site.Up r)) = ends w k (step r input from)
step_at_site ends w k input from _ = silent w w

-- a step of replica k
unfoldable pub step_at : Ending → World → ℕ → MpInput → ℕ → Moment
step_at ends w k input from = step_at_site ends w k input from (slice_get w.sites k)

-- the delivery of a message to its receiver
unfoldable pub come : Ending → World → Option Packet → Moment
come ends w None = silent w w
come ends w (Some m) = step_at ends w m.to (MpInput.Message m.message) m.from

-- The effect of an act of one step, which ends whole or is stopped. A suspicion makes its replica try to lead. Bytes
-- from no replica are not possible.
unfoldable pub single : Ending → World → Single → Moment
single ends w (Single.Request k t c) = step_at ends w k (MpInput.Request c) 0
single ends w (Single.Go i t) = begun_at w (come ends (use_up i w) (slice_get w.packets i))
single ends w (Single.Again i t) = come ends w (slice_get w.packets i)
single ends w (Single.Tick k t) = step_at ends w k MpInput.Tick 0
single ends w (Single.Suspect k t ms) = step_at ends w k MpInput.Lead 0
single ends w (Single.Junk k t bytes) = silent w w

-- ---- several steps

-- the messages that are fresh and whose receiver is up
unfoldable pub deliverable : World → List ℕ
deliverable w =
    map (λ p. p.0) (filter (λ p. not p.1.used && is_up_at w p.1.to) (enumerate_from 0 w.packets))

-- Delivers these, each as one moment, up to where the world is full.
unfoldable pub go_each : ℕ → List ℕ → World → List Moment
go_each t [] w = []
go_each t (i ∷ is) w =
    let m = single whole_step w (Single.Go i t) in
    let more = m ∷ go_each t is m.after in
    if is_full w then [] else more

-- ---- starts

-- A replica boots on its disk.
unfoldable pub start_at : World → ℕ → Moment
start_at w k = whole_step w k (boot k w.n (log_at w k))

-- ---- acts

-- The moments of an act: one, or with `Settle` one for each delivery. The last three acts are not possible.
unfoldable pub moments_of : World → Act → List Moment
moments_of w (Act.One s) = single whole_step w s ∷ []
moments_of w (Act.Lose i) = silent w (use_up i w) ∷ []
moments_of w (Act.Crash k) = down w k ∷ []
moments_of w (Act.Start k) = start_at w k ∷ []
moments_of w (Act.Settle t) = go_each t (deliverable w) w
moments_of w (Act.CutLost s) = single lost_step w s ∷ []
moments_of w (Act.CutKept count s) = single (cut_step count) w s ∷ []
moments_of w (Act.Batch t is) = []
moments_of w (Act.CutLostBatch t is) = []
moments_of w (Act.CutAt calls fill s) = []

-- the world after these moments
unfoldable pub world_after : World → List Moment → World
world_after w [] = w
world_after w (m ∷ ms) = world_after m.after ms

-- the lines of these moments, in order
unfoldable pub lines_of : List Moment → List MpLine
lines_of ms = flat_map (λ m. m.lines) ms

-- An act as one change.
unfoldable pub act : World → Act → Moment
act w a =
    let ms = moments_of w a in record { before = w; after = world_after w ms; lines = lines_of ms }
