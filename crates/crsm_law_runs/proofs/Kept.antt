-- Answered entries are held.
use Rattle.std.proofs.Common.{◌≡◌, ℕ, zero, suc, ◌<◌, ◌≤◌, List, [], ◌∷◌, ◌++◌, length, sym, ◌∙◌, subst, inl, inr, arith, map}
use Rattle.std.specs.Prelude.{Some, None, slice_get}
use Rattle.std.proofs.lemmas.Option.{none-some, same_Some}
use Rattle.crsm_spec.specs.Types.{Line}
use Rattle.crsm_spec.specs.Log.{executed}
use Rattle.crsm_spec.specs.World.{World, Moment, begin, first_lines, log_at}
use Rattle.crsm_spec.specs.Acts.{Act}
use Rattle.crsm_spec.specs.Moments.{world_after, lines_of, act, moments_of}
use Rattle.crsm_spec.specs.Run.{ArePossible, TraceLine, traced, moments, moments_of_run, all_worlds, last_world, the_list}
use Rattle.crsm_fact_log.specs.Logs.{Extends, same}
use Rattle.crsm_law_steps.specs.Laws.{LogsGoOn}
use Rattle.crsm_law_steps.specs.Happenings.{GoOn, GoOnBy}
use Rattle.crsm_fact_log.proofs.Logged.{extends_trans}
use Rattle.crsm_law_steps.proofs.Moments.{moment_goes_on}
use Rattle.crsm_law_steps.proofs.Happen.{act_leads, run_happens}
use Rattle.crsm_law_epoch.proofs.Words.{among_map}
use Rattle.crsm_fact_log.proofs.Lists.{get_some}
use Rattle.crsm_law_agreement.proofs.Lists.{get_append}
use Rattle.crsm_law_runs.proofs.Runs.{on_the_way, list_is_one}
use Rattle.crsm_law_runs.proofs.DurableLists.{among_contains, prefix_get}
use Rattle.crsm_law_runs.proofs.Durable.{executed_are_durable}
use Rattle.crsm_law_runs.specs.Seen.{IsSeen, boots, then_on}
use Rattle.crsm_law_runs.specs.Laws.{AnsweredAreKept}
use Rattle.crsm_law_runs.proofs.Lists.{got_among}
use Rattle.crsm_law_runs.proofs.Words.{seen_by}
use Rattle.crsm_law_runs.proofs.Holds.{IsWithin}
use Rattle.crsm_law_runs.proofs.Drafts.{among_right, told_line}
use Rattle.crsm_law_runs.proofs.Worlds.{executed_longer}
use Rattle.crsm_law_runs.proofs.Moments.{seen_holds}
use Rattle.crsm_law_runs.proofs.Safe.{moments_seen, last}

-- ---- the moments of a run

-- what was seen by the end of a moment
record IsMoment (n : ℕ) (m : Moment) : Type 0 where
  before : List TraceLine
  led : Act
  seen : IsSeen n m.after (before ++ seen_by led m.lines)

in_moments : (n : ℕ) (a : Act) (w : World) (ms : List Moment) (lines : List TraceLine) → GoOnBy a w ms → IsSeen n w lines → (i : ℕ) (m : Moment) → slice_get ms i ≡ Some m → IsMoment n m
in_moments n a w [] lines g s i m at = absurd (none-some m at)
in_moments n a w (x ∷ ms) lines g s zero m at = subst (IsMoment n) (same_Some x m at) (record { before = lines; led = a; seen = then_on s a g.1.0 g.1.1 })
in_moments n a w (x ∷ ms) lines g s (suc i) m at = in_moments n a x.after ms (lines ++ seen_by a x.lines) g.2 (then_on s a g.1.0 g.1.1) i m at

in_acts : (n : ℕ) (w : World) (acts : List Act) (lines : List TraceLine) → ArePossible w acts → IsSeen n w lines → (i : ℕ) (m : Moment) → slice_get (moments w acts) i ≡ Some m → IsMoment n m
unfolding moments act
in_acts n w [] lines p s i m at = absurd (none-some m at)
in_acts n w (a ∷ acts) lines p s i m at =
    let ms = moments_of w a in
    let g = act_leads w a p.0 p.1 in
    elim (get_append ms (moments (world_after w ms) acts) i m at) [
      | inl h ↦ in_moments n a w ms lines g s i m h
      | inr h ↦ in_acts n (world_after w ms) acts (lines ++ seen_by a (lines_of ms)) p.2 (moments_seen n a w ms lines g s) h.0 m h.2
    ]

-- logs go on from one moment to a later one
goes_to : (w : World) (ms : List Moment) → GoOn w ms → (j : ℕ) (m : Moment) → slice_get ms j ≡ Some m → LogsGoOn w m.after
goes_to w [] g j m at = absurd (none-some m at)
goes_to w (x ∷ ms) g zero m at = subst (λ (z : Moment). LogsGoOn w z.after) (same_Some x m at) (moment_goes_on w x g.1)
goes_to w (x ∷ ms) g (suc j) m at = λ k. extends_trans (moment_goes_on w x g.1 k) (goes_to x.after ms g.2 j m at k)

goes_between : (w : World) (ms : List Moment) → GoOn w ms → (i j : ℕ) (a b : Moment) → i ≤ j → slice_get ms i ≡ Some a → slice_get ms j ≡ Some b → LogsGoOn a.after b.after
goes_between w [] g i j a b le f h = absurd (none-some a f)
goes_between w (x ∷ ms) g zero zero a b le f h = λ k. subst (λ (z : Moment). Extends (log_at a.after k) (log_at z.after k)) (same_Some a b (sym f ∙ h)) same
goes_between w (x ∷ ms) g zero (suc j) a b le f h = subst (λ (z : Moment). LogsGoOn z.after b.after) (same_Some x a f) (goes_to x.after ms g.2 j b h)
goes_between w (x ∷ ms) g (suc i) zero a b le f h = absurd (omega (arith, le))
goes_between w (x ∷ ms) g (suc i) (suc j) a b le f h = goes_between x.after ms g.2 i j a b (omega (arith, le)) f h

-- ---- what was answered

pub answered_are_kept : AnsweredAreKept
unfolding moments_of_run all_worlds
answered_are_kept n acts most p i j k c m place a answered later e le at said then there =
    let end = last_world n acts in
    let list = the_list n acts in
    let one = list_is_one n acts most p in
    let moment = in_acts n (begin n) acts (map (traced None) (first_lines n)) p boots i answered at in
    let now = on_the_way n acts most p answered.after (inr (among_map (λ (z : Moment). z.after) (moments (begin n) acts) answered (got_among (moments (begin n) acts) i answered at))) in
    let in_later = inr (among_map (λ (z : Moment). z.after) (moments (begin n) acts) later (got_among (moments (begin n) acts) j later then)) in
    let on = on_the_way n acts most p later.after in_later in
    let holds = seen_holds n end list (last n acts most p) answered.after (moment.before ++ seen_by moment.led answered.lines) moment.seen now.goes_on in
    let line = Line.ReplyOk k c m place a in
    let told = traced (Some moment.led) line in
    let within : place < length (executed (log_at answered.after k)) = subst (IsWithin (log_at answered.after)) (told_line moment.led line)
    (holds.within told (among_right moment.before (seen_by moment.led answered.lines) told (among_map (traced (Some moment.led)) answered.lines line (among_contains answered.lines line said)))) in
    let longer = executed_longer (log_at answered.after k) (log_at later.after k) (goes_between (begin n) (moments (begin n) acts) (run_happens (begin n) acts p) i j answered later le at then k) in
    let x = get_some (executed (log_at later.after k)) place (omega (arith, within, longer)) in
    let is_e : x.0 ≡ e = same_Some x.0 e (sym (prefix_get (executed (log_at later.after k)) list (one.ends k (log_at later.after k) (on.goes_on k)) place x.0 x.1) ∙ there) in
    executed_are_durable n acts most p later.after in_later k place e (subst (λ z. slice_get (executed (log_at later.after k)) place ≡ Some z) is_e x.1)
