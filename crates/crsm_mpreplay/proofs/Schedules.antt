-- Schedules that grow by one event at their end, and their transcripts.
use Rattle.std.proofs.Common.{◌≡◌, ◌≢◌, ℕ, suc, ◌+◌, List, [], ◌∷◌, ◌++◌, Option, Some, None, map, length, slice_get, false, nat_eq, refl, ap, sym, ◌∙◌, arith, append_assoc, length-append}
use Rattle.std.specs.List.{AllByRecursion, IsDistinct, flat_map}
use Rattle.std.proofs.lemmas.List.{append-nil, map-append, length-map, flat_map_more}
use Rattle.std.proofs.lemmas.Bool.{ne_eqb}
use Rattle.std.proofs.lemmas.Grind.{flat_map-append}
use Rattle.crsm_schedule.specs.declared.Single.{Single}
use Rattle.crsm_schedule.specs.declared.Event.{Event}
use Rattle.crsm_schedule.specs.Grammar.{IsSize, FitsSingle, FitsEvent, AreDistinct, AreTogether, first_text, event_text}
use Rattle.crsm_mpspec.specs.declared.MpLine.{MpLine}
use Rattle.crsm_mpspec.specs.World.{World, begin, first_lines}
use Rattle.crsm_spec.specs.Acts.{Act, IsBatch, FitsAct, FitsSingle as FitsStep}
use Rattle.crsm_mpspec.specs.Moments.{act}
use Rattle.crsm_mpspec.specs.Run.{traced, ArePossible, after_acts, told, seen, last_world as world_at_end}
use Rattle.crsm_mpworld.specs.Doing.{single_of, act_of}
use Rattle.crsm_mpworld.specs.Schedule.{Schedule, line_count, ended, schedule_text, acts_of, IsNext, IsSchedule, last_world}
use Rattle.crsm_mpreplay.specs.Transcript.{line_text, lines_text, Shown, shown_by, shown_from, shown, text_of, transcript, act_on, ShowsAll}

-- nothing has happened yet
unfoldable pub no_events : ℕ → Schedule
no_events n = record { replicas = n; events = [] }

-- the schedule with one more event
unfoldable pub with_event : Schedule → Event → Schedule
with_event s e = record s { events = s.events ++ e ∷ [] }

-- ---- the text of a line is that of an act

others_differ : (n : ℕ) (ms : List ℕ) → AllByRecursion (λ m. n ≢ m) ms → AllByRecursion (λ m. nat_eq n m ≡ false) ms
others_differ n [] q = tt
others_differ n (m ∷ ms) q = (ne_eqb n m q.0, others_differ n ms q.1)

are_distinct : (ns : List ℕ) → AreDistinct ns → IsDistinct nat_eq ns
unfolding IsDistinct
are_distinct [] p = tt
are_distinct (n ∷ ns) p = (others_differ n ns p.0, are_distinct ns p.1)

fits_batch : (ns : List ℕ) → AreTogether ns → IsBatch ns
fits_batch ns p = record { some = p.some; most = p.most; distinct = are_distinct ns p.distinct; small = p.fit }

fits_single : (s : Single) → FitsSingle s → FitsStep (single_of s)
unfolding single_of
fits_single (Single.Request r t c) p = (p.replica_fits, p.reading_fits, p.command_fits)
fits_single (Single.Go i t) p = p
fits_single (Single.Again i t) p = p
fits_single (Single.Tick r t) p = p
fits_single (Single.Suspect r t ms) p = (p.replica_fits, p.reading_fits, p.are_members)
fits_single (Single.Junk r t bytes) p = (p.replica_fits, p.reading_fits, record { some = p.some; most = p.most })

pub fits_act : (e : Event) → FitsEvent e → FitsAct (act_of e)
unfolding act_of
fits_act (Event.One s) p = fits_single s p
fits_act (Event.Lose i) p = p
fits_act (Event.Crash r) p = p
fits_act (Event.Start r) p = p
fits_act (Event.Settle t) p = p
fits_act (Event.CutLost s) p = fits_single s p
fits_act (Event.CutKept k s) p = (p.0, fits_single s p.1)
fits_act (Event.Batch t ns) p = (p.0, fits_batch ns p.1)
fits_act (Event.CutLostBatch t ns) p = (p.0, fits_batch ns p.1)
fits_act (Event.CutAt c f s) p = (p.0, p.1, fits_single s p.2)

-- ---- no event

pub last_world-none : (n : ℕ) → last_world (no_events n) ≡ begin n
unfolding last_world world_at_end acts_of no_events after_acts
last_world-none n = refl

pub schedule_text-none : (n : ℕ) → schedule_text (no_events n) ≡ ended (first_text n)
unfolding schedule_text no_events
schedule_text-none n = append-nil (ended (first_text n))

-- the lines of one event, as they are shown
shown_lines : (at : ℕ) (by : Option Act) (lines : List MpLine) → flat_map text_of (map (shown_by at by) lines) ≡ lines_text at lines
unfolding text_of shown_by traced
shown_lines at by [] = refl
shown_lines at by (l ∷ ls) = ap (λ xs. line_text at l ++ xs) (shown_lines at by ls)

pub transcript-none : (n : ℕ) → transcript (no_events n) ≡ lines_text 1 (first_lines n)
unfolding transcript shown no_events shown_from
transcript-none n = ap (λ xs. flat_map text_of xs) (append-nil (map (shown_by 1 None) (first_lines n))) ∙ shown_lines 1 None (first_lines n)

pub line_count-none : (n : ℕ) → line_count (no_events n) ≡ 1
unfolding line_count no_events
line_count-none n = refl

pub schedule-none : (n : ℕ) → IsSize n → IsSchedule (no_events n)
unfolding no_events acts_of
schedule-none n size = record { size = size; fit = tt; possible = tt }

-- ---- one more event

after_acts-push : (w : World) (es : List Event) (e : Event) → after_acts w (map act_of (es ++ e ∷ [])) ≡ (act (after_acts w (map act_of es)) (act_of e)).after
unfolding after_acts
after_acts-push w [] e = refl
after_acts-push w (x ∷ es) e = after_acts-push (act w (act_of x)).after es e

fit-push : (es : List Event) (e : Event) → AllByRecursion FitsEvent es → FitsEvent e → AllByRecursion FitsEvent (es ++ e ∷ [])
fit-push [] e p fits = (fits, tt)
fit-push (x ∷ es) e p fits = (p.0, fit-push es e p.1 fits)

are_possible-push : (w : World) (es : List Event) (e : Event) → ArePossible w (map act_of es) → IsNext (after_acts w (map act_of es)) e → ArePossible w (map act_of (es ++ e ∷ []))
unfolding after_acts
are_possible-push w [] e p next = (fits_act e next.fits, next.possible_here, tt)
are_possible-push w (x ∷ es) e p next = (p.0, p.1, are_possible-push (act w (act_of x)).after es e p.2 next)

shown_from-push : (w : World) (at k : ℕ) (es : List Event) (e : Event) → k ≡ at + length es
    → flat_map text_of (shown_from w at (es ++ e ∷ [])) ≡ flat_map text_of (shown_from w at es) ++ lines_text k (act (after_acts w (map act_of es)) (act_of e)).lines
unfolding shown_from after_acts
shown_from-push w at k [] e is =
    let same : at ≡ k = omega (arith, is) in
    ap (λ xs. flat_map text_of xs) (append-nil (map (shown_by at (Some (act_of e))) (act w (act_of e)).lines))
    ∙ shown_lines at (Some (act_of e)) (act w (act_of e)).lines ∙ ap (λ n. lines_text n (act w (act_of e)).lines) same
shown_from-push w at k (x ∷ es) e is =
    let v : World = (act w (act_of x)).after in
    let here : List Shown = map (shown_by at (Some (act_of x))) (act w (act_of x)).lines in
    let rest = shown_from-push v (at + 1) k es e (omega (arith, is)) in
    flat_map-append text_of here (shown_from v (at + 1) (es ++ e ∷ []))
    ∙ ap (λ ys. flat_map text_of here ++ ys) rest
    ∙ sym (append_assoc (flat_map text_of here) (flat_map text_of (shown_from v (at + 1) es)) (lines_text k (act (after_acts v (map act_of es)) (act_of e)).lines))
    ∙ ap (λ ys. ys ++ lines_text k (act (after_acts v (map act_of es)) (act_of e)).lines) (sym (flat_map-append text_of here (shown_from v (at + 1) es)))

pub last_world-push : (s : Schedule) (e : Event) → last_world (with_event s e) ≡ (act (last_world s) (act_of e)).after
unfolding last_world world_at_end acts_of with_event
last_world-push s e = after_acts-push (begin s.replicas) s.events e

pub schedule_text-push : (s : Schedule) (e : Event) → schedule_text (with_event s e) ≡ schedule_text s ++ ended (event_text e)
unfolding schedule_text with_event
schedule_text-push s e = sym (flat_map_more (λ x. ended (event_text x)) (ended (first_text s.replicas)) s.events e)

pub transcript-push : (k : ℕ) (s : Schedule) (e : Event) → k ≡ line_count s + 1
    → transcript (with_event s e) ≡ transcript s ++ lines_text k (act (last_world s) (act_of e)).lines
unfolding transcript shown with_event last_world world_at_end acts_of line_count
transcript-push k s e is =
    let w : World = begin s.replicas in
    let boots : List Shown = map (shown_by 1 None) (first_lines s.replicas) in
    flat_map-append text_of boots (shown_from w 2 (s.events ++ e ∷ []))
    ∙ ap (λ ys. flat_map text_of boots ++ ys) (shown_from-push w 2 k s.events e (omega (arith, is)))
    ∙ sym (append_assoc (flat_map text_of boots) (flat_map text_of (shown_from w 2 s.events)) (lines_text k (act (after_acts w (map act_of s.events)) (act_of e)).lines))
    ∙ ap (λ ys. ys ++ lines_text k (act (after_acts w (map act_of s.events)) (act_of e)).lines) (sym (flat_map-append text_of boots (shown_from w 2 s.events)))

pub line_count-push : (s : Schedule) (e : Event) → line_count (with_event s e) ≡ line_count s + 1
unfolding line_count with_event
line_count-push s e = let long = length-append s.events (e ∷ []) in omega (arith, long)

pub schedule-push : (s : Schedule) (e : Event) → IsSchedule s → IsNext (last_world s) e → IsSchedule (with_event s e)
unfolding with_event last_world world_at_end acts_of
schedule-push s e good next = record {
  size = good.size;
  fit = fit-push s.events e good.fit next.fits;
  possible = are_possible-push (begin s.replicas) s.events e good.possible next;
}

-- ---- what a schedule shows

told_lines : (at : ℕ) (by : Option Act) (lines : List MpLine) → map (λ (x : Shown). x.told) (map (shown_by at by) lines) ≡ map (traced by) lines
unfolding shown_by
told_lines at by [] = refl
told_lines at by (l ∷ ls) = ap (λ xs. traced by l ∷ xs) (told_lines at by ls)

told_from : (w : World) (at : ℕ) (es : List Event) → map (λ (x : Shown). x.told) (shown_from w at es) ≡ told w (map act_of es)
unfolding shown_from told
told_from w at [] = refl
told_from w at (e ∷ es) =
    let here : List Shown = map (shown_by at (Some (act_of e))) (act w (act_of e)).lines in
    map-append (λ (x : Shown). x.told) here (shown_from (act w (act_of e)).after (at + 1) es)
    ∙ ap (λ xs. xs ++ map (λ (x : Shown). x.told) (shown_from (act w (act_of e)).after (at + 1) es)) (told_lines at (Some (act_of e)) (act w (act_of e)).lines)
    ∙ ap (λ xs. map (traced (Some (act_of e))) (act w (act_of e)).lines ++ xs) (told_from (act w (act_of e)).after (at + 1) es)

-- the act of a line of the schedule
abbrev IsNumbered : Schedule → Shown → Type 0
IsNumbered s x = x.told.by ≡ act_on s x.at

numbered_lines : (s : Schedule) (at : ℕ) (by : Option Act) (lines : List MpLine) → by ≡ act_on s at → AllByRecursion (IsNumbered s) (map (shown_by at by) lines)
unfolding shown_by traced
numbered_lines s at by [] is = tt
numbered_lines s at by (l ∷ ls) is = (is, numbered_lines s at by ls is)

pub all_append : {A : Type 0} (P : A → Type 0) (xs ys : List A) → AllByRecursion P xs → AllByRecursion P ys → AllByRecursion P (xs ++ ys)
all_append P [] ys p q = q
all_append P (x ∷ xs) ys p q = (p.0, all_append P xs ys p.1 q)

-- the element behind a prefix
get_behind : {A : Type 0} (xs : List A) (y : A) (ys : List A) → slice_get (xs ++ y ∷ ys) (length xs) ≡ Some y
get_behind [] y ys = refl
get_behind (x ∷ xs) y ys = get_behind xs y ys

act_on-event : (s : Schedule) (i : ℕ) → act_on s (suc (suc i)) ≡ slice_get (acts_of s) i
unfolding act_on
act_on-event s i = refl

acts_split : (s : Schedule) (prefix : List Event) (e : Event) (es : List Event) → s.events ≡ prefix ++ e ∷ es → acts_of s ≡ map act_of prefix ++ act_of e ∷ map act_of es
unfolding acts_of
acts_split s prefix e es whole = ap (λ xs. map act_of xs) whole ∙ map-append act_of prefix (e ∷ es)

numbered_from : (s : Schedule) (w : World) (prefix es : List Event) (at : ℕ) → at ≡ length prefix + 2 → s.events ≡ prefix ++ es → AllByRecursion (IsNumbered s) (shown_from w at es)
unfolding shown_from
numbered_from s w prefix [] at is whole = tt
numbered_from s w prefix (e ∷ es) at is whole =
    let acts : acts_of s ≡ map act_of prefix ++ act_of e ∷ map act_of es = acts_split s prefix e es whole in
    let place : length (map act_of prefix) ≡ length prefix = length-map prefix act_of in
    let behind : at ≡ suc (suc (length prefix)) = omega (arith, is) in
    let here : act_on s at ≡ Some (act_of e) =
    ap (λ n. act_on s n) behind ∙ act_on-event s (length prefix) ∙ ap (λ xs. slice_get xs (length prefix)) acts
    ∙ ap (λ n. slice_get (map act_of prefix ++ act_of e ∷ map act_of es) n) (sym place) ∙ get_behind (map act_of prefix) (act_of e) (map act_of es) in
    let more : length (prefix ++ e ∷ []) ≡ length prefix + 1 = length-append prefix (e ∷ []) in
    all_append (IsNumbered s) (map (shown_by at (Some (act_of e))) (act w (act_of e)).lines) (shown_from (act w (act_of e)).after (at + 1) es)
    (numbered_lines s at (Some (act_of e)) (act w (act_of e)).lines (sym here))
    (numbered_from s (act w (act_of e)).after (prefix ++ e ∷ []) es (at + 1) (omega (arith, is, more)) (whole ∙ sym (append_assoc prefix (e ∷ []) es)))

pub shows_all : (s : Schedule) → ShowsAll s
unfolding shown seen act_on acts_of
shows_all s = record {
  all = map-append (λ (x : Shown). x.told) (map (shown_by 1 None) (first_lines s.replicas)) (shown_from (begin s.replicas) 2 s.events)
      ∙ ap (λ xs. xs ++ map (λ (x : Shown). x.told) (shown_from (begin s.replicas) 2 s.events)) (told_lines 1 None (first_lines s.replicas))
      ∙ ap (λ xs. map (traced None) (first_lines s.replicas) ++ xs) (told_from (begin s.replicas) 2 s.events);
  numbered = all_append (IsNumbered s) (map (shown_by 1 None) (first_lines s.replicas)) (shown_from (begin s.replicas) 2 s.events)
      (numbered_lines s 1 None (first_lines s.replicas) refl) (numbered_from s (begin s.replicas) [] s.events 2 refl refl);
}
