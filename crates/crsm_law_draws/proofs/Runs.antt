-- In a run that starts no replica but the first ones, there are no others and majorities are counted over all of them.
use Rattle.std.proofs.Common.{◌≡◌, ◌≤◌, ◌<◌, ℕ, List, [], ◌∷◌, length, ◌∙◌, ap, arith}
use Rattle.std.specs.List.{AllByRecursion, range_with_len}
use Rattle.std.proofs.lemmas.List.{length-map}
use Rattle.std.proofs.lemmas.List.FromFn.{length-range_with_len}
use Rattle.crsm_spec.specs.Acts.{Act}
use Rattle.crsm_spec.specs.Draft.{Draft}
use Rattle.crsm_spec.specs.Lists.{numbers_below}
use Rattle.crsm_spec.specs.Log.{spec}
use Rattle.crsm_spec.specs.Moments.{silent, begun_at, with_room, start_at, moments_of, world_after, act}
use Rattle.crsm_spec.specs.Run.{ArePossible, after_acts, last_world}
use Rattle.crsm_spec.specs.Step.{boot, founding_boot}
use Rattle.crsm_spec.specs.World.{Site, World, Moment, begin, log_at, with_site, whole_step, cut_step, lost_step, down, after_step, then_down}
use Rattle.crsm_law_steps.specs.Happenings.{Ends, Happens, IsReached}
use Rattle.crsm_law_steps.specs.Happenings.Ends.{IsWhole, IsCut, IsLost}
use Rattle.crsm_law_steps.specs.Happenings.Happens.{Nothing, Steps, Junk, Stops, Joins, Starts}
use Rattle.crsm_law_steps.specs.Happenings.IsReached.{first, next}
use Rattle.crsm_law_epoch.proofs.LogWorlds as logs
use Rattle.crsm_law_messages.specs.Counted.{AllSpelt}
use Rattle.crsm_law_messages.proofs.Worlds.{marked_sites}
use Rattle.crsm_law_draws.specs.Founders.{HasFoundersAlone, StartsAFounder}
use Rattle.crsm_law_draws.proofs.Decisions.{spec_stays}
use Rattle.crsm_law_draws.proofs.Happenings.{HasHistory, IsOfFounders, GoOn, act_goes_on}
use Rattle.crsm_law_draws.proofs.Worlds.{all_held, log_keeps, no_room, set_length}

-- ---- how many replicas there are

ended_count : (v : World) (k : ℕ) (x : Draft) (m : Moment) → Ends v k x m → length m.after.sites ≡ length v.sites
unfolding whole_step cut_step lost_step then_down after_step down with_site
ended_count v k x m IsWhole = set_length v.sites k (Site.Up x.replica)
ended_count v k x m (IsCut count) = set_length v.sites k (Site.Down x.replica.log)
ended_count v k x m IsLost = set_length v.sites k (Site.Down (log_at v k))

started_count : (w : World) (k : ℕ) → k < length w.sites → length (start_at w k).after.sites ≡ length w.sites
unfolding start_at begun_at
started_count w k lt =
    let v = with_room w k in
    ended_count v k (boot k v.n (log_at v k)) (whole_step v k (boot k v.n (log_at v k))) IsWhole ∙ ap (λ (u : World). length u.sites) (no_room w k lt)

happened_count : (n : ℕ) (w : World) (m : Moment) (h : Happens w m) → IsOfFounders n h → length w.sites ≡ n → length m.after.sites ≡ n
unfolding silent begun_at down with_site
happened_count n w m (Nothing v p) b e = ap length (marked_sites p) ∙ e
happened_count n w m (Steps v p k r up input reading lt c z ends) b e = ended_count v k _ z ends ∙ ap length (marked_sites p) ∙ e
happened_count n w m (Junk k r up z ends) b e = ended_count w k _ z ends ∙ e
happened_count n w m (Stops k) b e = set_length w.sites k (Site.Down (log_at w k)) ∙ e
happened_count n w m (Joins f) b e = absurd b
happened_count n w m (Starts k d f) b e = started_count w k (omega (arith, b, e)) ∙ e

gone_count : (n : ℕ) (w : World) (ms : List Moment) → GoOn n w ms → length w.sites ≡ n → length (world_after w ms).sites ≡ n
unfolding world_after
gone_count n w [] g e = e
gone_count n w (m ∷ ms) g e = gone_count n m.after ms g.1 (happened_count n w m g.0.0 g.0.1 e)

pub first_count : (n : ℕ) → length (begin n).sites ≡ n
unfolding begin numbers_below
first_count n = length-map (range_with_len 0 n) (λ k. Site.Up (founding_boot k n).replica) ∙ length-range_with_len 0 n

-- ---- histories

-- the world is reached among the first replicas
abbrev pub IsReachedAlone : ℕ → World → Type 0
IsReachedAlone n w = (q : IsReached n w) × HasHistory q

carried : (n : ℕ) (w : World) (ms : List Moment) (q : IsReached n w) → HasHistory q → GoOn n w ms → IsReachedAlone n (world_after w ms)
unfolding world_after
carried n w [] q b g = (q, b)
carried n w (m ∷ ms) q b g = carried n m.after ms (next q g.0.0) (b, g.0.1) g.1

pub run_on : (n : ℕ) (w : World) (acts : List Act) → IsReachedAlone n w → length w.sites ≡ n → ArePossible w acts → AllByRecursion (StartsAFounder n) acts → IsReachedAlone n (after_acts w acts)
unfolding after_acts act
run_on n w [] r e p s = r
run_on n w (a ∷ acts) r e p s =
    let g = act_goes_on n w a p.0 p.1 s.0 e in
    run_on n (act w a).after acts (carried n w (moments_of w a) r.0 r.1 g) (gone_count n w (moments_of w a) g e) p.2 s.1

pub founders_stay : (n : ℕ) (acts : List Act) → 1 ≤ n → AllSpelt n (last_world n acts) → ArePossible (begin n) acts → AllByRecursion (StartsAFounder n) acts → HasFoundersAlone n (last_world n acts)
unfolding last_world
founders_stay n acts some spelt p s =
    let w = after_acts (begin n) acts in
    let t = run_on n (begin n) acts (first, tt) (first_count n) p s in
    let h = all_held n w t.0 t.1 spelt in
    record {
      some = some;
      replicas = h.keep.count;
      specs = λ k. ap (λ i. spec i (log_at w k)) (logs.all_held n w t.0).size ∙ spec_stays n (log_at w k) (log_keeps n w k h.keep.sites);
    }
