-- A run, event by event: the events generated and executed, and those still to come.
use Rattle.std.proofs.Common.{◌≡◌, ◌+◌, ℕ, zero, suc, true, false, List, [], ◌∷◌, ◌++◌, length, map, refl, ap, sym, ◌∙◌, subst, arith, append_assoc, append-nil, Option, None, Some}
use Rattle.std.proofs.lemmas.List.{map-append}
use Rattle.crsm_sim_generator.specs.Drawing.{begun, drawn_next}
use Rattle.crsm_sim_generator.specs.declared.drawing.Drawing.{Drawing}
use Rattle.crsm_schedule.specs.declared.Event.{Event}
use Rattle.crsm_spec.specs.Acts.{Act}
use Rattle.crsm_spec.specs.Moments.{act}
use Rattle.crsm_spec.specs.Possible.{possible}
use Rattle.crsm_spec.specs.Run.{ArePossible, TraceLine, after_acts, traced, told, seen}
use Rattle.crsm_spec.specs.Types.{Line}
use Rattle.crsm_spec.specs.World.{World, begin, first_lines, is_full}
use Rattle.crsm_world.specs.Doing.{act_of}
use Rattle.crsm_world.specs.Laws.{HasDone}
use Rattle.crsm_world.specs.Schedule.{acts_of}
use Rattle.crsm_world.specs.Seen.{view_of}
use Rattle.crsm_world.specs.World.{WorldStands}
use Rattle.crsm_cmd_soak.specs.Running.{Begins, CanGoOn, HasRun, StepsOn}
use Rattle.crsm_cmd_soak.specs.Soak.{drawn, drawn_from, lines_of, more, nothing}
use Rattle.crsm_cmd_soak.specs.declared.running.SoakRun.{SoakRun}
use Rattle.crsm_cmd_soak.proofs.Sums.{more_more, none_more}

-- ---- the lines of events from a world on

abbrev pub lines_from : World → List Event → List Line
lines_from w es = map (λ x. x.line) (told w (map act_of es))

lines_again : (by : Option Act) (lines : List Line) → map (λ x. x.line) (map (traced by) lines) ≡ lines
unfolding traced
lines_again by [] = refl
lines_again by (l ∷ lines) = ap (λ ls. l ∷ ls) (lines_again by lines)

line_in : TraceLine → Line
line_in x = x.line

first_event : (w : World) (e : Event) (es : List Event) → lines_from w (e ∷ es) ≡ (act w (act_of e)).lines ++ lines_from (act w (act_of e)).after es
unfolding told
first_event w e es =
    let m = act w (act_of e) in
    map-append (λ x. x.line) (map (traced (Some (act_of e))) m.lines) (told m.after (map act_of es)) ∙ ap (λ ls. ls ++ lines_from m.after es) (lines_again (Some (act_of e)) m.lines)

-- ---- a run in progress

pub record Runs (run : SoakRun) (number n steps left : ℕ) : Type 0 where
  pub cluster : World
  pub acts : List Act
  pub stands : WorldStands run.world cluster
  pub reached : cluster ≡ after_acts (begin n) acts
  pub done : HasDone run.world n acts
  pub replicas : run.generator.replicas ≡ n
  pub ahead : acts ++ map act_of (drawn_from left n cluster run.generator.drawing) ≡ acts_of (drawn number n steps)
  pub told : more run.summary (length (drawn_from left n cluster run.generator.drawing)) (lines_from cluster (drawn_from left n cluster run.generator.drawing))
      ≡ more nothing (length (drawn number n steps).events) (lines_of (drawn number n steps))

pub runs_first : (run : SoakRun) (number n steps : ℕ) → Begins run number n → Runs run number n steps steps
unfolding drawn acts_of lines_of seen after_acts
runs_first run number n steps b =
    let es = drawn_from steps n (begin n) (begun number) in
    record {
      cluster = begin n;
      acts = [];
      stands = b.stands;
      reached = refl;
      done = b.done;
      replicas = b.replicas;
      ahead = ap (λ s. map act_of (drawn_from steps n (begin n) s)) b.drawing;
      told =
          ap (λ s. more run.summary (length (drawn_from steps n (begin n) s)) (lines_from (begin n) (drawn_from steps n (begin n) s))) b.drawing
          ∙ ap (λ s. more s (length es) (lines_from (begin n) es)) b.told
          ∙ more_more nothing 0 (length es) (first_lines n) (lines_from (begin n) es)
          ∙ ap (λ k. more nothing k (first_lines n ++ lines_from (begin n) es)) (zero_first (length es))
          ∙ ap (more nothing (length es)) (sym (map-append (λ x. x.line) (map (traced None) (first_lines n)) (told (begin n) (map act_of es)) ∙ ap (λ ls. ls ++ lines_from (begin n) es) (lines_again None (first_lines n))));
    }
  where
    zero_first : (k : ℕ) → 0 + k ≡ k
    zero_first k = omega arith

-- where the world is not full the next event is drawn
next_drawn : (left n : ℕ) (w : World) (s : Drawing) → is_full w ≡ false
    → drawn_from (suc left) n w s ≡ (drawn_next n (view_of w) s).0 ∷ drawn_from left n (act w (act_of (drawn_next n (view_of w) s).0)).after (drawn_next n (view_of w) s).1
unfolding drawn_from
next_drawn left n w s f = rw f refl

none_drawn : (left n : ℕ) (w : World) (s : Drawing) → is_full w ≡ true → drawn_from left n w s ≡ []
unfolding drawn_from
none_drawn zero n w s f = refl
none_drawn (suc left) n w s f = rw f refl

after_more : (w : World) (acts : List Act) (a : Act) → after_acts w (acts ++ a ∷ []) ≡ (act (after_acts w acts) a).after
unfolding after_acts
after_more w [] a = refl
after_more w (b ∷ acts) a = after_more (act w b).after acts a

possible_at : (w : World) (acts : List Act) (a : Act) (rest : List Act) → ArePossible w (acts ++ a ∷ rest) → possible (after_acts w acts) a ≡ None
unfolding after_acts
possible_at w [] a rest p = p.1
possible_at w (b ∷ acts) a rest p = possible_at (act w b).after acts a rest p.2

-- what is drawn next is possible, since all that is drawn is
pub can_go_on : (run : SoakRun) (number n steps left : ℕ) → (h : Runs run number n steps (suc left)) → is_full h.cluster ≡ false → ArePossible (begin n) (acts_of (drawn number n steps)) → CanGoOn run
can_go_on run number n steps left h f all =
    let w = h.cluster in
    let d = run.generator.drawing in
    let next = drawn_next n (view_of w) d in
    let rest = map act_of (drawn_from left n (act w (act_of next.0)).after next.1) in
    let list : h.acts ++ act_of next.0 ∷ rest ≡ acts_of (drawn number n steps) = ap (λ es. h.acts ++ map act_of es) (sym (next_drawn left n w d f)) ∙ h.ahead in
    let can = possible_at (begin n) h.acts (act_of next.0) rest (subst (ArePossible (begin n)) (sym list) all) in
    let here = subst (λ v. possible v (act_of next.0) ≡ None) (sym h.reached) can in
    record { cluster = w; stands = h.stands; can = subst (λ k. possible w (act_of (drawn_next k (view_of w) d).0) ≡ None) (sym h.replicas) here }

pub runs_next : (old new : SoakRun) (number n steps left : ℕ) → (h : Runs old number n steps (suc left)) → is_full h.cluster ≡ false → StepsOn h.cluster n h.acts old new → Runs new number n steps left
runs_next old new number n steps left h f s =
    let w = h.cluster in
    let d = old.generator.drawing in
    let next = drawn_next old.generator.replicas (view_of w) d in
    let e = next.0 in
    let m = act w (act_of e) in
    let rest = drawn_from left n m.after new.generator.drawing in
    let list : drawn_from (suc left) n w d ≡ e ∷ rest =
    next_drawn left n w d f
    ∙ ap (λ k. (drawn_next k (view_of w) d).0 ∷ drawn_from left n (act w (act_of (drawn_next k (view_of w) d).0)).after (drawn_next k (view_of w) d).1) (sym h.replicas)
    ∙ ap (λ t. e ∷ drawn_from left n m.after t) (sym s.drawing) in
    record {
      cluster = m.after;
      acts = h.acts ++ act_of e ∷ [];
      stands = s.stands;
      reached = ap (λ v. (act v (act_of e)).after) h.reached ∙ sym (after_more (begin n) h.acts (act_of e));
      done = s.done;
      replicas = s.replicas ∙ h.replicas;
      ahead = append_assoc h.acts (act_of e ∷ []) (map act_of rest) ∙ ap (λ es. h.acts ++ map act_of es) (sym list) ∙ h.ahead;
      told =
          ap (λ t. more t (length rest) (lines_from m.after rest)) s.told
          ∙ more_more old.summary 1 (length rest) m.lines (lines_from m.after rest)
          ∙ ap (λ k. more old.summary k (m.lines ++ lines_from m.after rest)) (one_first (length rest))
          ∙ ap (more old.summary (length (e ∷ rest))) (sym (first_event w e rest))
          ∙ ap (λ es. more old.summary (length es) (lines_from w es)) (sym list)
          ∙ h.told;
    }
  where
    one_first : (k : ℕ) → 1 + k ≡ suc k
    one_first k = omega arith

-- nothing is ahead any more
ended : (run : SoakRun) (number n steps left : ℕ) → (h : Runs run number n steps left) → drawn_from left n h.cluster run.generator.drawing ≡ [] → HasRun run number n steps
unfolding told
ended run number n steps left h e = record {
  done = subst (HasDone run.world n) (sym (append-nil h.acts) ∙ ap (λ es. h.acts ++ map act_of es) (sym e) ∙ h.ahead) h.done;
  told = sym (none_more run.summary) ∙ ap (λ es. more run.summary (length es) (lines_from h.cluster es)) (sym e) ∙ h.told;
}

pub ends_full : (run : SoakRun) (number n steps left : ℕ) → (h : Runs run number n steps left) → is_full h.cluster ≡ true → HasRun run number n steps
ends_full run number n steps left h f = ended run number n steps left h (none_drawn left n h.cluster run.generator.drawing f)

pub ends_done : (run : SoakRun) (number n steps : ℕ) → Runs run number n steps 0 → HasRun run number n steps
unfolding drawn_from
ends_done run number n steps h = ended run number n steps 0 h refl
