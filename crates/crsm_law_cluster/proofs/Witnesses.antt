-- Worlds reached, with the lines on the way to them.
use Rattle.std.proofs.Common.{ℕ, List, ◌++◌, refl, map}
use Rattle.std.specs.Prelude.{Some}
use Rattle.crsm_spec.specs.Lists.{Among}
use Rattle.crsm_spec.specs.Replica.{Replica}
use Rattle.crsm_spec.specs.Draft.{Reply}
use Rattle.crsm_spec.specs.Step.{Input, step}
use Rattle.crsm_spec.specs.World.{World, Moment, begin}
use Rattle.crsm_spec.specs.Acts.{Act, Single}
use Rattle.crsm_spec.specs.Run.{TraceLine, traced}
use Rattle.crsm_spec.specs.Safe.{command_of, command_of_single}
use Rattle.crsm_fact_log.specs.Logs.{same}
use Rattle.crsm_fact_log.proofs.Lists.{among_right}
use Rattle.crsm_law_steps.specs.Laws.{LogsGoOn}
use Rattle.crsm_law_steps.specs.Happenings.{CanCome, Happens, Brings, IsLedBy, IsReached}
use Rattle.crsm_law_steps.specs.Happenings.CanCome.{IsPacket, IsCommand, IsReply, IsTick, IsSuspicion}
use Rattle.crsm_law_steps.proofs.Moments.{on_then}
use Rattle.crsm_law_epoch.proofs.Words.{among_map}
use Rattle.crsm_law_runs.specs.Seen.{IsSeen, boots, then_on}
use Rattle.crsm_law_runs.proofs.Moments.{seen_reached}
use Rattle.crsm_law_cluster.specs.Told.{IsTold}
use Rattle.crsm_law_cluster.proofs.Replies.{step_says}

-- the world is reached, and these lines were told on the way
pub record IsWitnessed (n : ℕ) (w : World) : Type 0 where
  pub lines : List TraceLine
  pub seen : IsSeen n w lines

pub first_witnessed : (n : ℕ) → IsWitnessed n (begin n)
first_witnessed n = record { lines = _; seen = boots }

pub then_by : {n : ℕ} {w : World} {m : Moment} → IsWitnessed n w → (a : Act) (h : Happens w m) → IsLedBy a h → IsWitnessed n m.after
then_by {m = m} g a h led = record { lines = g.lines ++ map (traced (Some a)) m.lines; seen = then_on g.seen a h led }

pub reached_by : (n : ℕ) (w : World) → IsWitnessed n w → IsReached n w
reached_by n w g = seen_reached n w g.lines g.seen

-- an act that brings no command
pub quietly : Act
quietly = Act.One (Single.Tick 0 0)

-- the act that brings an input
pub act_of : (k t : ℕ) {w : World} {i : Input} → CanCome w k i → Act
act_of k t (IsPacket from d s) = Act.One (Single.Tick k t)
act_of k t (IsCommand a c f) = Act.One (Single.Request k t c)
act_of k t (IsReply a c m told) = Act.One (Single.Tick k t)
act_of k t IsTick = Act.One (Single.Tick k t)
act_of k t (IsSuspicion ms f) = Act.One (Single.Tick k t)

pub brings : (k t : ℕ) {w : World} {i : Input} (c : CanCome w k i) → Brings (act_of k t c) c
unfolding command_of command_of_single act_of
brings k t (IsPacket from d s) = tt
brings k t (IsCommand a c f) = refl
brings k t (IsReply a c m told) = tt
brings k t IsTick = tt
brings k t (IsSuspicion ms f) = tt

pub told_later : (n : ℕ) (w u : World) (a : Reply) → LogsGoOn w u → IsTold n w a → IsTold n u a
told_later n w u a on h = record { world = h.world; lines = h.lines; seen = h.seen; goes_on = on_then h.world w u h.goes_on on; told = h.told; among = h.among; is = h.is; says = h.says }

-- a reply of a step is told by its moment
pub tells_of_step : (n : ℕ) (w : World) (m : Moment) (k : ℕ) (r : Replica) (i : Input) (t : ℕ) (a : Reply) → IsWitnessed n w → (act : Act) (h : Happens w m) → IsLedBy act h →
    Among m.lines a.line → Among (step r i t).replies a → IsTold n m.after a
unfolding traced then_by
tells_of_step n w m k r i t a g act h led line there = record {
  world = m.after;
  lines = (then_by g act h led).lines;
  seen = (then_by g act h led).seen;
  goes_on = λ j. same;
  told = traced (Some act) a.line;
  among = among_right g.lines (map (traced (Some act)) m.lines) (traced (Some act) a.line) (among_map (traced (Some act)) m.lines a.line line);
  is = refl;
  says = step_says r i t a there;
}
