-- A drawn run is possible, event by event.
use Rattle.std.proofs.Common.{◌≡◌, ◌≤◌, ℕ, zero, suc, Bool, true, false, List, [], ◌∷◌, ◌++◌, length, map, None, refl, subst, arith}
use Rattle.std.proofs.lemmas.Bool.{leb-false}
use Rattle.std.proofs.lemmas.List.{length-map}
use Rattle.std.specs.List.{AllByRecursion}
use Rattle.crsm_base.specs.Limits.{most_world}
use Rattle.crsm_sim_generator.specs.Drawing.{begun, drawn_next}
use Rattle.crsm_sim_generator.specs.declared.drawing.Drawing.{Drawing}
use Rattle.crsm_schedule.specs.declared.Event.{Event}
use Rattle.crsm_schedule.specs.declared.Single.{Single}
use Rattle.crsm_law_draws.specs.Drawn.{drawn, drawn_from}
use Rattle.crsm_spec.specs.Acts.{Act, FitsAct, FitsSingle}
use Rattle.crsm_spec.specs.Moments.{act}
use Rattle.crsm_spec.specs.Possible.{possible}
use Rattle.crsm_spec.specs.Run.{ArePossible, after_acts, last_world}
use Rattle.crsm_spec.specs.World.{World, begin, is_full, is_up}
use Rattle.crsm_law_steps.specs.Happenings.IsReached.{first}
use Rattle.crsm_world.specs.Doing.{act_of, single_of}
use Rattle.crsm_world.specs.Schedule.{acts_of}
use Rattle.crsm_world.specs.Seen.{mark_of, view_of}
use Rattle.crsm_law_draws.specs.Founders.{HasFoundersAlone, StartsAFounder}
use Rattle.crsm_law_draws.specs.Laws.{DrawnFitLines, DrawnRunsGoOn, HasSmallNumbers}
use Rattle.crsm_law_draws.proofs.Fitting.{IsSmallView, IsSpelt, IsSpeltSingle, begun_small, drawn_keeps, drawn_spelt}
use Rattle.crsm_law_draws.proofs.Packets.{IsCounted, reached_counted}
use Rattle.crsm_law_draws.proofs.Runs.{first_count, run_on}

-- ---- one event

fits_single : (single : Single) → IsSpeltSingle single → FitsSingle (single_of single)
unfolding single_of
fits_single (Single.Request r reading command) spelt = spelt
fits_single (Single.Go i reading) spelt = spelt
fits_single (Single.Again i reading) spelt = spelt
fits_single (Single.Tick r reading) spelt = spelt
fits_single (Single.Suspect r reading members) spelt = spelt
fits_single (Single.Junk r reading bytes) spelt = absurd spelt

fits_act : (e : Event) → IsSpelt e → FitsAct (act_of e)
unfolding act_of
fits_act (Event.One single) spelt = fits_single single spelt
fits_act (Event.Lose i) spelt = spelt
fits_act (Event.Crash r) spelt = spelt
fits_act (Event.Start k) spelt = spelt
fits_act (Event.Settle reading) spelt = spelt
fits_act (Event.CutLost single) spelt = absurd spelt
fits_act (Event.CutKept sends single) spelt = (spelt.0, fits_single single spelt.1)
fits_act (Event.Batch reading numbers) spelt = absurd spelt
fits_act (Event.CutLostBatch reading numbers) spelt = absurd spelt
fits_act (Event.CutAt calls fill single) spelt = absurd spelt

small_view : (n : ℕ) (w : World) → n ≤ 15 → length w.sites ≡ n → IsCounted w → is_full w ≡ false → IsSmallView (view_of w)
unfolding view_of is_full
small_view n w most count counted room = record {
  ups = let size = length-map w.sites is_up in omega (arith, size, count, most);
  marks = let size = length-map w.packets mark_of in let few = leb-false most_world w.bytes room in omega (arith, size, counted, few);
}

module _ (n : ℕ) (acts : List Act) (s : Drawing) (some : 1 ≤ n) (most : n ≤ 15) (founders : HasFoundersAlone n (last_world n acts)) (p : ArePossible (begin n) acts) (starts : AllByRecursion (StartsAFounder n) acts)
    (room : is_full (last_world n acts) ≡ false) (few : HasSmallNumbers s) where
  counted : IsCounted (last_world n acts)
  unfolding last_world
  counted = reached_counted n (after_acts (begin n) acts) (run_on n (begin n) acts (first, tt) (first_count n) p starts).0

  small : IsSmallView (view_of (last_world n acts))
  small = small_view n (last_world n acts) most founders.replicas counted room

  pub fits_next : FitsAct (act_of (drawn_next n (view_of (last_world n acts)) s).0) × HasSmallNumbers (drawn_next n (view_of (last_world n acts)) s).1
  fits_next = (fits_act _ (drawn_spelt n some most (view_of (last_world n acts)) small s few), drawn_keeps n some most (view_of (last_world n acts)) small s few)

-- ---- one event after another

after_more : (w : World) (acts : List Act) (a : Act) → after_acts w (acts ++ a ∷ []) ≡ (act (after_acts w acts) a).after
unfolding after_acts
after_more w [] a = refl
after_more w (b ∷ acts) a = after_more (act w b).after acts a

possible_more : (w : World) (acts : List Act) (a : Act) → ArePossible w acts → FitsAct a → possible (after_acts w acts) a ≡ None → ArePossible w (acts ++ a ∷ [])
unfolding after_acts
possible_more w [] a p fits can = (fits, can, tt)
possible_more w (b ∷ acts) a p fits can = (p.0, p.1, possible_more (act w b).after acts a p.2 fits can)

starts_more : (n : ℕ) (acts : List Act) (a : Act) → AllByRecursion (StartsAFounder n) acts → StartsAFounder n a → AllByRecursion (StartsAFounder n) (acts ++ a ∷ [])
starts_more n [] a all one = (one, tt)
starts_more n (b ∷ acts) a all one = (all.0, starts_more n acts a all.1 one)

last_more : (n : ℕ) (acts : List Act) (a : Act) → last_world n (acts ++ a ∷ []) ≡ (act (last_world n acts) a).after
unfolding last_world
last_more n acts a = after_more (begin n) acts a

module _ (n : ℕ) (some : 1 ≤ n) (most : n ≤ 15) (go_on : DrawnRunsGoOn) (fit : DrawnFitLines) where
  -- what is drawn behind a run that is possible
  abbrev Rest : ℕ → List Act → Drawing → Type 0
  Rest steps acts s = ArePossible (last_world n acts) (map act_of (drawn_from steps n (last_world n acts) s))

  module _ (acts : List Act) (s : Drawing) where
    -- the next act, and the state behind it
    abbrev next : Act
    next = act_of (drawn_next n (view_of (last_world n acts)) s).0

    abbrev behind : Drawing
    behind = (drawn_next n (view_of (last_world n acts)) s).1

    module _ (p : ArePossible (begin n) acts) (starts : AllByRecursion (StartsAFounder n) acts) (few : HasSmallNumbers s) (room : is_full (last_world n acts) ≡ false) where
      possible_next : ArePossible (begin n) (acts ++ next ∷ [])
      unfolding last_world
      possible_next = possible_more (begin n) acts next p (fit n acts s some most p starts room few).0 (go_on n acts s some most p starts room).possible_here

      starts_next : AllByRecursion (StartsAFounder n) (acts ++ next ∷ [])
      starts_next = starts_more n acts next starts (go_on n acts s some most p starts room).founder

      goes_on : (steps : ℕ) → Rest steps (acts ++ next ∷ []) behind → Rest (suc steps) acts s
      unfolding drawn_from
      goes_on steps more = rw (room) (
        (fit n acts s some most p starts room few).0,
        (go_on n acts s some most p starts room).possible_here,
        subst (λ (v : World). ArePossible v (map act_of (drawn_from steps n v behind))) (last_more n acts next) more,
      )

    ends : (steps : ℕ) → is_full (last_world n acts) ≡ true → Rest (suc steps) acts s
    unfolding drawn_from
    ends steps full = rw (full) tt

    -- the world is full, or it goes on
    either : (steps : ℕ) → ((room : is_full (last_world n acts) ≡ false) → Rest (suc steps) acts s) → (b : Bool) → is_full (last_world n acts) ≡ b → Rest (suc steps) acts s
    either steps more true full = ends steps full
    either steps more false room = more room

  rest : (steps : ℕ) (acts : List Act) (s : Drawing) → ArePossible (begin n) acts → AllByRecursion (StartsAFounder n) acts → HasSmallNumbers s → Rest steps acts s
  unfolding drawn_from
  rest zero acts s p starts few = tt
  rest (suc steps) acts s p starts few =
      either acts s steps
      (λ room. goes_on acts s p starts few room steps
      (rest steps (acts ++ next acts s ∷ []) (behind acts s) (possible_next acts s p starts few room) (starts_next acts s p starts few room) (fit n acts s some most p starts room few).1))
      (is_full (last_world n acts)) refl

  pub all_possible : (number steps : ℕ) → ArePossible (begin n) (acts_of (drawn number n steps))
  unfolding acts_of drawn last_world after_acts
  all_possible number steps = rest steps [] (begun number) tt tt (begun_small number)
