-- The effect of an act: the changes that it makes to a world, one after another.
use Rattle.std.specs.Prelude.{ℕ, Bool, true, ◌==◌, ◌&&◌, ◌||◌, not, nat_lt, if◌then◌else◌, List, [], ◌∷◌, ◌++◌, length, map, filter, fold, flat_map, Option, None, Some, slice_get, slice_set}
use Rattle.std.specs.List.{enumerate_from}
use Rattle.std.specs.Option.{option_map_or}
use Rattle.crsm_spec.specs.Types.{Datagram, Line}
use Rattle.crsm_spec.specs.Draft.{begun}
use Rattle.crsm_spec.specs.Step.{Input, step, boot}
use Rattle.crsm_spec.specs.World.{Site, Packet, World, Moment, Ending, log_at, is_up_at, is_full, whole_step, cut_step, lost_step, down}
use Rattle.crsm_spec.specs.Acts.{Single, Act}

-- ---- one step

-- the world with datagram i used
unfoldable pub use_up : ℕ → World → World
use_up i w =
    record w { packets = option_map_or (λ m. slice_set w.packets i (record m { used = true })) (slice_get w.packets i) w.packets }

-- a change without a transcript line
unfoldable pub silent : World → World → Moment
silent w v = record { before = w; after = v; lines = [] }

-- the same change, of a moment that began in an earlier world
unfoldable pub begun_at : World → Moment → Moment
begun_at w m = record m { before = w }

-- A step at a site, which ends as `ending` says. Only a replica that is up makes steps.
unfoldable pub step_at_site : Ending → World → ℕ → Input → ℕ → Option Site → Moment
step_at_site ends w k input reading (Some (Site.Up r)) = ends w k (step r input reading)
step_at_site ends w k input reading _ = silent w w

-- a step of replica k
unfoldable pub step_at : Ending → World → ℕ → Input → ℕ → Moment
step_at ends w k input reading = step_at_site ends w k input reading (slice_get w.sites k)

-- a datagram is received
unfoldable pub come : Ending → World → ℕ → Option Packet → Moment
come ends w reading None = silent w w
come ends w reading (Some m) = step_at ends w m.to (Input.Came m.from m.datagram) reading

-- bytes that are no datagram change nothing at a replica
unfoldable pub junk_at : Ending → World → ℕ → Option Site → Moment
junk_at ends w k (Some (Site.Up r)) = ends w k (begun r)
junk_at ends w k _ = silent w w

-- The effect of an act of one step. The address of a client is its number, that of a replica is its number too.
unfoldable pub single : Ending → World → Single → Moment
single ends w (Single.Request k t c) = step_at ends w k (Input.Came c.client (Datagram.Request c)) t
single ends w (Single.Go i t) = begun_at w (come ends (use_up i w) t (slice_get w.packets i))
single ends w (Single.Again i t) = come ends w t (slice_get w.packets i)
single ends w (Single.Tick k t) = step_at ends w k Input.Ticked t
single ends w (Single.Suspect k t ms) = step_at ends w k (Input.Suspected ms) t
single ends w (Single.Junk k t bytes) = junk_at ends w k (slice_get w.sites k)

-- ---- several steps

-- the datagrams that are fresh and whose receiver is up
unfoldable pub deliverable : World → List ℕ
deliverable w =
    map (λ p. p.0) (filter (λ p. not p.1.used && is_up_at w p.1.to) (enumerate_from 0 w.packets))

-- Delivers these, each as one moment, up to where the world is full.
unfoldable pub go_each : ℕ → List ℕ → World → List Moment
go_each t [] w = []
go_each t (i ∷ is) w =
    let m = single whole_step w (Single.Go i t) in
    let more = m ∷ go_each t is m.after in
    if is_full w then [] else more

-- Delivers these datagrams as one batch, each as one moment.
unfoldable pub go_all : ℕ → List ℕ → World → List Moment
go_all t [] w = []
go_all t (i ∷ is) w = let m = single whole_step w (Single.Go i t) in m ∷ go_all t is m.after

-- A batch that stops before it is kept: the first delivery is lost with its step, and the other datagrams are used up.
unfoldable pub lose_batch : ℕ → List ℕ → World → Moment
lose_batch t [] w = silent w w
lose_batch t (i ∷ is) w = begun_at w (single lost_step (fold (λ v j. use_up j v) w is) (Single.Go i t))

-- ---- stops and starts

-- whether a log write that stopped after this many device calls is kept: all four were made, or its gate byte reads as
-- open
unfoldable pub is_kept : ℕ → ℕ → Bool
is_kept calls fill = calls == 4 || (calls == 3 && fill == 1)

-- The ending of a step that stops during its log write. A step without records is lost with its sends.
unfoldable pub cut_at : ℕ → ℕ → Ending
cut_at calls fill w k x = if is_kept calls fill && nat_lt 0 (length x.batch) then cut_step 0 w k x else lost_step w k x

-- the world with one site more, where k is the next new number
unfoldable pub with_room : World → ℕ → World
with_room w k = if k == length w.sites then record w { sites = w.sites ++ Site.Down [] ∷ [] } else w

-- A replica boots on its disk; a new one has an empty disk.
unfoldable pub start_at : World → ℕ → Moment
start_at w k = let v = with_room w k in begun_at w (whole_step v k (boot k v.n (log_at v k)))

-- ---- acts

-- The moments of an act: one, or with `Settle` and `Batch` one for each delivery.
unfoldable pub moments_of : World → Act → List Moment
moments_of w (Act.One s) = single whole_step w s ∷ []
moments_of w (Act.Lose i) = silent w (use_up i w) ∷ []
moments_of w (Act.Crash k) = down w k ∷ []
moments_of w (Act.Start k) = start_at w k ∷ []
moments_of w (Act.Settle t) = go_each t (deliverable w) w
moments_of w (Act.CutLost s) = single lost_step w s ∷ []
moments_of w (Act.CutKept count s) = single (cut_step count) w s ∷ []
moments_of w (Act.Batch t is) = go_all t is w
moments_of w (Act.CutLostBatch t is) = lose_batch t is w ∷ []
moments_of w (Act.CutAt calls fill s) = single (cut_at calls fill) w s ∷ []

-- the world after these moments
unfoldable pub world_after : World → List Moment → World
world_after w [] = w
world_after w (m ∷ ms) = world_after m.after ms

-- the lines of these moments, in order
unfoldable pub lines_of : List Moment → List Line
lines_of ms = flat_map (λ m. m.lines) ms

-- The effect of an act as one change.
unfoldable pub act : World → Act → Moment
act w a =
    let ms = moments_of w a in record { before = w; after = world_after w ms; lines = lines_of ms }
