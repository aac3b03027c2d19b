-- A run over a world that follows a plan.
use Rattle.std.proofs.Common.{◌≡◌, ◌≢◌, ℕ, zero, suc, ◌+◌, ◌<◌, ◌≤◌, List, [], ◌∷◌, ◌++◌, length, refl, sym, ◌∙◌, ap, subst, arith, map, Option, Some, None, Result, Ok, Err, append_assoc, append-nil}
use Rattle.std.specs.Prelude.{IfErr, IfOk, MatchOption}
use Rattle.std.specs.List.{AllByRecursion, flat_map}
use Rattle.std.proofs.lemmas.Grind.{flat_map-append}
use Rattle.std.proofs.lemmas.List.{map-append, length-append}
use Rattle.hex.specs.Hex.{IsBytes}
use Rattle.crsm_schedule.specs.Grammar.{FitsEvent, event_text, first_text}
use Rattle.crsm_schedule.specs.declared.Event.{Event}
use Rattle.crsm_spec.specs.Acts.{Act, FitsAct, Bad as Cause}
use Rattle.crsm_spec.specs.Types.{Line}
use Rattle.crsm_spec.specs.Moments.{act}
use Rattle.crsm_spec.specs.Possible.{possible}
use Rattle.crsm_spec.specs.Run.{ArePossible, after_acts}
use Rattle.crsm_spec.specs.World.{World, begin}
use Rattle.crsm_text.specs.Values.{HasBytes}
use Rattle.crsm_spec_plan.specs.declared.Plan.{Plan}
use Rattle.crsm_spec_plan.specs.Plans.{FitsPlan}
use Rattle.crsm_spec_plan.specs.Timelines.{Timed, acts_of, the_command}
use Rattle.crsm_law_pending.specs.Posts.{posts}
use Rattle.crsm_law_timing.specs.SoFar.{CanHappen, EventsCanHappen, IsNext, IsSoFar, world_after}
use Rattle.crsm_law_pending.specs.Agendas.{IsAgenda, LacksPosts}
use Rattle.crsm_law_pending.specs.Following.{AgendasEnd, AgendasGoOn}
use Rattle.crsm_world.specs.Doing.{act_of, bad_of, single_of}
use Rattle.crsm_world.specs.Schedule.{IsSchedule, Schedule, ended, schedule_text}
use Rattle.crsm_world.specs.Schedule as schedules
use Rattle.crsm_world.specs.World.{WorldStands}
use Rattle.crsm_world.specs.declared.bad.Bad.{Bad}
use Rattle.crsm_delay.specs.Following.{AddsTimeline, Follows}
use Rattle.crsm_delay.specs.Upcoming.{does_of, event_of, listed, spelt_of, timed_of}
use Rattle.crsm_delay.specs.declared.upcoming.UpcomingKind.{UpcomingKind}
use Rattle.crsm_delay.specs.declared.upcoming.Upcoming.{Upcoming}
use Rattle.crsm_delay.specs.declared.timeline.TimelineRun.{TimelineRun}

-- ---- events as acts

pub act_is : (u : Upcoming) → act_of (event_of u) ≡ Act.One (timed_of u).does
unfolding act_of single_of
act_is u = go u.kind
  where
    go : (k : UpcomingKind) → act_of (Event.One (spelt_of k)) ≡ Act.One (does_of k)
    go (UpcomingKind.Request replica reading) = refl
    go (UpcomingKind.Tick replica reading) = refl
    go (UpcomingKind.Go number reading) = refl

acts_are : (us : List Upcoming) → map act_of (map event_of us) ≡ acts_of (map timed_of us)
unfolding acts_of
acts_are [] = refl
acts_are (u ∷ us) = ap (λ a. a ∷ map act_of (map event_of us)) (act_is u) ∙ ap (λ l. Act.One (timed_of u).does ∷ l) (acts_are us)

one_byte : (b : ℕ) → b < 256 → IsBytes (b ∷ [])
one_byte b lt zero = lt
one_byte b lt (suc i) = omega arith

has_bytes : HasBytes the_command.op
unfolding the_command
has_bytes = (one_byte 97 (omega arith), one_byte 98 (omega arith))

pub fits_event : (u : Upcoming) → FitsAct (Act.One (timed_of u).does) → FitsEvent (event_of u)
fits_event u h = go u.kind h
  where
    go : (k : UpcomingKind) → FitsAct (Act.One (does_of k)) → FitsEvent (Event.One (spelt_of k))
    go (UpcomingKind.Request replica reading) h = record { replica_fits = h.0; reading_fits = h.1; command_fits = h.2; bytes = has_bytes }
    go (UpcomingKind.Tick replica reading) h = h
    go (UpcomingKind.Go number reading) h = h

-- ---- an event that is possible is not refused

refused : {cause : Cause} → ◌≡◌ {A = Option Cause} None (Some cause) → ⊥
refused e = cc

is_memory : (w : World) (a : Act) → possible w a ≡ None → (bad : Bad) → (bad ≢ Bad.NoMemory → possible w a ≡ bad_of bad) → bad ≡ Bad.NoMemory
unfolding bad_of
is_memory w a can (Bad.Full bytes) because = absurd (refused (sym can ∙ because (λ e. cc)))
is_memory w a can Bad.NoSuchReplica because = absurd (refused (sym can ∙ because (λ e. cc)))
is_memory w a can Bad.NoSuchDatagram because = absurd (refused (sym can ∙ because (λ e. cc)))
is_memory w a can Bad.Used because = absurd (refused (sym can ∙ because (λ e. cc)))
is_memory w a can Bad.Fresh because = absurd (refused (sym can ∙ because (λ e. cc)))
is_memory w a can Bad.Mixed because = absurd (refused (sym can ∙ because (λ e. cc)))
is_memory w a can Bad.IsDown because = absurd (refused (sym can ∙ because (λ e. cc)))
is_memory w a can Bad.IsUp because = absurd (refused (sym can ∙ because (λ e. cc)))
is_memory w a can Bad.TooFew because = absurd (refused (sym can ∙ because (λ e. cc)))
is_memory w a can Bad.Forged because = absurd (refused (sym can ∙ because (λ e. cc)))
is_memory w a can Bad.NoMemory because = refl

pub not_refused : {T : Type 0} (w : World) (a : Act) → possible w a ≡ None → (result : Result T Bad) → IfErr result (λ bad. bad ≢ Bad.NoMemory → possible w a ≡ bad_of bad) → IfErr result (λ bad. bad ≡ Bad.NoMemory)
not_refused w a can (Ok lines) h = tt
not_refused w a can (Err bad) h = is_memory w a can bad h

-- ---- one event more

map_more : (us : List Upcoming) (u : Upcoming) → map timed_of (us ++ u ∷ []) ≡ map timed_of us ++ timed_of u ∷ []
map_more us u = map-append timed_of us (u ∷ [])

after_more : (w : World) (acts : List Act) (a : Act) → after_acts w (acts ++ a ∷ []) ≡ (act (after_acts w acts) a).after
unfolding after_acts
after_more w [] a = refl
after_more w (b ∷ acts) a = after_more (act w b).after acts a

world_more : (plan : Plan) (es : List Timed) (e : Timed) → world_after plan (es ++ e ∷ []) ≡ (act (world_after plan es) (Act.One e.does)).after
unfolding world_after acts_of
world_more plan es e = ap (after_acts (begin plan.n)) (map-append (λ (f : Timed). Act.One f.does) es (e ∷ [])) ∙ after_more (begin plan.n) (map (λ (f : Timed). Act.One f.does) es) (Act.One e.does)

module _ (possibly : EventsCanHappen) (law : AgendasGoOn) (plan : Plan) (fit : FitsPlan plan) (done : List Upcoming) (u : Upcoming) (rest : List Timed)
    (so : IsSoFar plan (map timed_of done)) (agenda : IsAgenda plan (map timed_of done) (timed_of u ∷ rest)) where
  abbrev es : List Timed
  es = map timed_of done

  pub next : IsNext plan es (timed_of u)
  next = law.next plan es rest (timed_of u) fit agenda

  pub can : CanHappen (world_after plan es) (timed_of u)
  can = possibly.next plan es (timed_of u) fit so next

  pub possible_here : possible (world_after plan es) (act_of (event_of u)) ≡ None
  possible_here = ap (possible (world_after plan es)) (act_is u) ∙ can.possible_here

  -- the lines of the event report the datagrams that it sends
  pub told : LacksPosts plan (map timed_of (done ++ u ∷ [])) rest (posts (act (world_after plan es) (act_of (event_of u))).lines) u.moment
  told =
      subst (λ a. LacksPosts plan (map timed_of (done ++ u ∷ [])) rest (posts (act (world_after plan es) a).lines) u.moment) (sym (act_is u))
      (subst (λ l. LacksPosts plan l rest (posts (act (world_after plan es) (Act.One (timed_of u).does)).lines) u.moment) (sym (map_more done u)) (law.told plan es rest (timed_of u) fit so agenda))

  pub so_far_then : IsSoFar plan (map timed_of (done ++ u ∷ []))
  so_far_then = subst (IsSoFar plan) (sym (map_more done u)) (IsSoFar.more (timed_of u) so next)

  pub world_then : (act (world_after plan es) (act_of (event_of u))).after ≡ world_after plan (map timed_of (done ++ u ∷ []))
  world_then = ap (λ a. (act (world_after plan es) a).after) (act_is u) ∙ sym (world_more plan es (timed_of u)) ∙ ap (world_after plan) (sym (map_more done u))

-- ---- the text

abbrev pub scheduled : Plan → List Upcoming → Schedule
scheduled plan us = record { replicas = plan.n; events = map event_of us }

line_of : Event → List ℕ
line_of e = ended (event_text e)

pub text_first : (plan : Plan) (text : List ℕ) → (text ++ first_text plan.n) ++ 10 ∷ [] ≡ text ++ schedule_text (scheduled plan [])
unfolding schedule_text
text_first plan text = append_assoc text (first_text plan.n) (10 ∷ []) ∙ ap (λ l. text ++ l) (sym (append-nil (first_text plan.n ++ 10 ∷ [])))

pub text_more : (plan : Plan) (us : List Upcoming) (u : Upcoming) (text : List ℕ) →
    (text ++ schedule_text (scheduled plan us)) ++ (event_text (event_of u) ++ 10 ∷ []) ≡ text ++ schedule_text (scheduled plan (us ++ u ∷ []))
unfolding schedule_text
text_more plan us u text =
    let head = ended (first_text plan.n) in
    let old = flat_map (λ e. ended (event_text e)) (map event_of us) in
    let line = event_text (event_of u) ++ 10 ∷ [] in
    append_assoc text (head ++ old) line
    ∙ ap (λ l. text ++ l) (append_assoc head old line)
    ∙ ap (λ l. text ++ (head ++ (old ++ l))) (sym (append-nil line))
    ∙ ap (λ l. text ++ (head ++ l)) (sym (flat_map-append (λ e. ended (event_text e)) (map event_of us) (event_of u ∷ [])))
    ∙ ap (λ l. text ++ (head ++ flat_map (λ e. ended (event_text e)) l)) (sym (map-append event_of us (u ∷ [])))

-- ---- the whole of it

-- the loop in progress: these are executed and written, one each time
pub record Written (plan : Plan) (run : TimelineRun) (start text : List ℕ) (count : ℕ) : Type 0 where
  pub done : List Upcoming
  pub follows : Follows plan done run
  pub text_is : text ≡ start ++ schedule_text (scheduled plan done)
  pub count_is : length done ≡ count

pub one_written : (plan : Plan) (old new : TimelineRun) (start before text : List ℕ) (count : ℕ) (u : Upcoming) → (h : Written plan old start before count) → Follows plan (h.done ++ u ∷ []) new →
    text ≡ before ++ (event_text (event_of u) ++ 10 ∷ []) → Written plan new start text (count + 1)
one_written plan old new start before text count u h follows is = record {
  done = h.done ++ u ∷ [];
  follows = follows;
  text_is = is ∙ ap (λ l. l ++ (event_text (event_of u) ++ 10 ∷ [])) h.text_is ∙ text_more plan h.done u start;
  count_is = (let a = length-append h.done (u ∷ []) in let b = h.count_is in omega (arith, a, b));
}

all_fit : (us : List Upcoming) (w : World) → ArePossible w (acts_of (map timed_of us)) → AllByRecursion FitsEvent (map event_of us)
unfolding acts_of
all_fit [] w p = tt
all_fit (u ∷ us) w p = (fits_event u p.0, all_fit us (act w (Act.One (timed_of u).does)).after p.2)

-- where nothing is to happen any more, the text is that of a timeline
pub whole : (possibly : EventsCanHappen) (law : AgendasEnd) (plan : Plan) (run : TimelineRun) (start text : List ℕ) (count : ℕ) → FitsPlan plan → Written plan run start text count → listed run.agenda ≡ [] → AddsTimeline plan start text
unfolding schedules.acts_of
whole possibly law plan run start text count fit h none =
    let es = map timed_of h.done in
    let can = possibly.so_far plan es fit h.follows.so_far in
    record {
      more = schedule_text (scheduled plan h.done);
      added = h.text_is;
      writes = record {
        events = es;
        timeline = law.ends plan es fit h.follows.so_far (subst (IsAgenda plan es) none h.follows.agenda);
        schedule = scheduled plan h.done;
        replicas = refl;
        acts = acts_are h.done;
        can_be_run = record { size = (fit.some, fit.most); fit = all_fit h.done (begin plan.n) can; possible = subst (ArePossible (begin plan.n)) (sym (acts_are h.done)) can };
        text_is = refl;
      };
    }

-- a timeline has fewer events
pub not_so_many : (law : AgendasEnd) (plan : Plan) (run : TimelineRun) (start text : List ℕ) (count : ℕ) → FitsPlan plan → Written plan run start text count → 1000000 ≤ count → ⊥
not_so_many law plan run start text count fit h many =
    let few = law.few plan (map timed_of h.done) fit h.follows.so_far in
    let l = length_map h.done in
    let c = h.count_is in
    absurd (omega (arith, few, l, c, many))
  where
    length_map : (us : List Upcoming) → length (map timed_of us) ≡ length us
    length_map [] = refl
    length_map (u ∷ us) = ap suc (length_map us)

-- ---- the state of a run

pub follows_first : (plan : Plan) (run : TimelineRun) (n : ℕ) → n ≡ plan.n → WorldStands run.world (begin n) → IsAgenda plan [] (listed run.agenda) → Follows plan [] run
unfolding world_after acts_of after_acts
follows_first plan run n same stands agenda = record { so_far = IsSoFar.nothing; agenda = agenda; stands = subst (λ k. WorldStands run.world (begin k)) same stands }

module _ (possibly : EventsCanHappen) (law : AgendasGoOn) (plan : Plan) (fit : FitsPlan plan) (done : List Upcoming) (old : TimelineRun) (h : Follows plan done old) (u : Upcoming) (rest : List Timed)
    (first : listed old.agenda ≡ timed_of u ∷ rest) where
  now : IsAgenda plan (map timed_of done) (timed_of u ∷ rest)
  now = subst (IsAgenda plan (map timed_of done)) first h.agenda

  -- what comes next can happen
  pub it_fits : FitsEvent (event_of u)
  it_fits = fits_event u (can possibly law plan fit done u rest h.so_far now).fits

  pub it_is_soon : u.moment ≤ 3000000000000
  it_is_soon = (can possibly law plan fit done u rest h.so_far now).moment

  pub it_is_possible : possible (world_after plan (map timed_of done)) (act_of (event_of u)) ≡ None
  it_is_possible = possible_here possibly law plan fit done u rest h.so_far now

  pub its_posts : LacksPosts plan (map timed_of (done ++ u ∷ [])) rest (posts (act (world_after plan (map timed_of done)) (act_of (event_of u))).lines) u.moment
  its_posts = told possibly law plan fit done u rest h.so_far now

  -- and it has happened then
  pub follows_next : (new : TimelineRun) → WorldStands new.world (act (world_after plan (map timed_of done)) (act_of (event_of u))).after → IsAgenda plan (map timed_of (done ++ u ∷ [])) (listed new.agenda) →
      Follows plan (done ++ u ∷ []) new
  follows_next new stands agenda = record {
    so_far = so_far_then possibly law plan fit done u rest h.so_far now;
    agenda = agenda;
    stands = subst (WorldStands new.world) (world_then possibly law plan fit done u rest h.so_far now) stands;
  }

-- ---- what came of an event that was not refused

pub same_lines : {B : Type 0} (stepped : Result (List Line) B) (lines told : List Line) → stepped ≡ Ok lines → IfOk stepped (λ ls. ls ≡ told) → lines ≡ told
same_lines stepped lines told e h = subst (λ r. IfOk r (λ ls. ls ≡ told)) e h

pub same_stands : {B : Type 0} (stepped : Result (List Line) B) (lines : List Line) (P : Type 0) → stepped ≡ Ok lines → IfOk stepped (λ ls. P) → P
same_stands stepped lines P e h = subst (λ r. IfOk r (λ (ls : List Line). P)) e h

-- ---- what a step answers

pub ended_run : (next : Option Upcoming) (A : Type 0) (P : Upcoming → Type 0) → next ≡ None → MatchOption next A P → A
ended_run next A P e h = subst (λ o. MatchOption o A P) e h

pub went_on : (next : Option Upcoming) (A : Type 0) (P : Upcoming → Type 0) (u : Upcoming) → next ≡ Some u → MatchOption next A P → P u
went_on next A P u e h = subst (λ o. MatchOption o A P) e h
