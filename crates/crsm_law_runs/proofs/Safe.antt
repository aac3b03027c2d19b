-- Every possible run is safe.
use Rattle.std.proofs.Common.{◌≡◌, ℕ, zero, suc, ◌<◌, ◌≤◌, List, [], ◌∷◌, ◌++◌, length, take, refl, sym, ◌∙◌, ap, subst, inl, inr, arith, map, append_assoc}
use Rattle.std.specs.Prelude.{Option, Some, None, slice_get, flat_map}
use Rattle.std.specs.List.{AllByRecursion}
use Rattle.std.proofs.lemmas.Bool.{cases_lt}
use Rattle.std.proofs.lemmas.Option.{none-some, same_Some}
use Rattle.std.proofs.lemmas.List.{append-nil, map-append}
use Rattle.std.proofs.lemmas.List.Concat.{flat_map-cons}
use Rattle.crsm_base.specs.Spelling.{Rises}
use Rattle.crsm_spec.specs.Types.{Stamp, Entry, Line}
use Rattle.crsm_spec.specs.Lists.{Among, IsPrefixOf}
use Rattle.crsm_spec.specs.Log.{Log}
use Rattle.crsm_spec.specs.World.{World, Moment, begin, first_lines, log_at}
use Rattle.crsm_spec.specs.Acts.{Act}
use Rattle.crsm_spec.specs.Moments.{world_after, lines_of, act, moments_of}
use Rattle.crsm_spec.specs.Run.{ArePossible, all_worlds, TraceLine, traced, told, seen, after_acts, last_world, all_lists, the_list}
use Rattle.crsm_spec.specs.Safe.{Submits, IsExecOf, IsSubmitOf, IsLineAt, WasSubmitted, Agreed, Answered, RealTime, IsSafe}
use Rattle.crsm_fact_log.specs.Logs.{Extends, same, more, Logged, AreSpelt}
use Rattle.crsm_law_steps.specs.Happenings.{GoOnBy}
use Rattle.crsm_law_steps.proofs.Happen.{act_leads}
use Rattle.crsm_fact_log.proofs.Logged.{end_fits}
use Rattle.crsm_law_epoch.proofs.LogWorlds.{logs_fit}
use Rattle.crsm_law_bounds.specs.Bounds.{IsSpelt, HasShortLogs}
use Rattle.crsm_fact_log.proofs.Lists.{all_at, all_from}
use Rattle.crsm_fact_log.proofs.LogsFit.{executed_rises}
use Rattle.crsm_law_bounds.proofs.Worlds.{short_logs_are_spelt}
use Rattle.crsm_law_runs.specs.Seen.{IsSeen, boots, then_on}
use Rattle.crsm_law_runs.proofs.Lists.{got_among, executed_logged}
use Rattle.crsm_law_runs.proofs.Each.{each_at, got_before}
use Rattle.crsm_law_runs.proofs.Words.{IsLast, IsRight, IsReplyOn, IsLate, IsLateLine, IsFirst, IsNew, IsSubmittedIn, seen_by}
use Rattle.crsm_law_runs.proofs.LineKinds.{first_of_line, one_other_way}
use Rattle.crsm_law_runs.proofs.Holds.{Holds}
use Rattle.crsm_law_runs.proofs.Drafts.{placed, get_prefix}
use Rattle.crsm_law_runs.proofs.Moments.{seen_reached, seen_holds}
use Rattle.crsm_law_runs.specs.Runs.{IsTheList}
use Rattle.crsm_law_runs.proofs.Runs.{last_among, list_is_one}
use Rattle.crsm_law_bounds.proofs.Short.{run_short}

-- ---- what is seen of a run is seen on the way to its last world

pub moments_seen : (n : ℕ) (a : Act) (w : World) (ms : List Moment) (lines : List TraceLine) → GoOnBy a w ms → IsSeen n w lines → IsSeen n (world_after w ms) (lines ++ seen_by a (lines_of ms))
unfolding world_after lines_of
moments_seen n a w [] lines g s = subst (IsSeen n w) (sym (append-nil lines)) s
moments_seen n a w (m ∷ ms) lines g s =
    subst (IsSeen n (world_after m.after ms)) (append_assoc lines (seen_by a m.lines) (seen_by a (flat_map (λ m. m.lines) ms)) ∙ ap (λ z. lines ++ z) (sym (ap (seen_by a) (flat_map-cons (λ (m : Moment). m.lines) m ms) ∙ map-append (traced (Some a)) m.lines (flat_map (λ m. m.lines) ms))))
    (moments_seen n a m.after ms (lines ++ seen_by a m.lines) g.2 (then_on s a g.1.0 g.1.1))

acts_seen : (n : ℕ) (w : World) (acts : List Act) (lines : List TraceLine) → ArePossible w acts → IsSeen n w lines → IsSeen n (after_acts w acts) (lines ++ told w acts)
unfolding after_acts told act
acts_seen n w [] lines p s = subst (IsSeen n w) (sym (append-nil lines)) s
acts_seen n w (a ∷ acts) lines p s =
    let ms = moments_of w a in
    subst (IsSeen n (after_acts (world_after w ms) acts)) (append_assoc lines (seen_by a (lines_of ms)) (told (world_after w ms) acts))
    (acts_seen n (world_after w ms) acts (lines ++ seen_by a (lines_of ms)) p.2 (moments_seen n a w ms lines (act_leads w a p.0 p.1) s))

run_seen : (n : ℕ) (acts : List Act) → ArePossible (begin n) acts → IsSeen n (last_world n acts) (seen n acts)
unfolding last_world seen
run_seen n acts p = acts_seen n (begin n) acts (map (traced None) (first_lines n)) p boots

spelt_prefix : (a b : Log) → Extends a b → AreSpelt b → AreSpelt a
spelt_prefix a b same h = h
spelt_prefix a b (more {new = c} rec p) h = spelt_prefix a c p h.1

-- ---- the laws of one run

module _ (n : ℕ) (acts : List Act) (most : n ≤ 15) (p : ArePossible (begin n) acts) where
  abbrev end : World
  end = last_world n acts

  abbrev list : List Entry
  list = the_list n acts

  one : IsTheList n acts
  one = list_is_one n acts most p

  none_there : (q : ℕ) (e : Entry) → slice_get [] q ≡ Some e → ⊥
  none_there q e h = absurd (none-some e h)

  pub last : IsLast n end list
  last = record {
    most = most;
    reached = seen_reached n end (seen n acts) (run_seen n acts p);
    short = all_at HasShortLogs (all_worlds n acts) end (run_short n acts p) (last_among n acts);
    prefix = one.ends;
    held = λ q e at. elim one.is [
      | inl none ↦ absurd (none_there q e (subst (λ l. slice_get l q ≡ Some e) none at))
      | inr t ↦ (t.0, t.1, t.2, subst (λ l. slice_get l q ≡ Some e) t.3 at)
    ];
  }

  spelt : IsSpelt n end
  spelt = short_logs_are_spelt n end most last.reached last.short

  holds : Holds end list end (seen n acts)
  holds = seen_holds n end list last end (seen n acts) (run_seen n acts p) (λ k. same)

  -- ---- submissions

  found_at : (lines before after : List TraceLine) (t : TraceLine) → before ++ t ∷ after ≡ lines → slice_get lines (length before) ≡ Some t
  found_at lines [] after t e = ap (λ l. slice_get l 0) (sym e)
  found_at lines (b ∷ before) after t e = ap (λ l. slice_get l (suc (length before))) (sym e) ∙ found_at (before ++ t ∷ after) before after t refl

  among_before : (lines before after : List TraceLine) (t u : TraceLine) (j : ℕ) → before ++ t ∷ after ≡ lines → slice_get lines j ≡ Some u → j < length before → Among before u
  among_before lines before after t u j e at lt = in_front before j (subst (λ l. slice_get l j ≡ Some u) (sym e) at) lt
    where
      in_front : (xs : List TraceLine) (i : ℕ) → slice_get (xs ++ t ∷ after) i ≡ Some u → i < length xs → Among xs u
      in_front [] i at lt = absurd (omega (arith, lt))
      in_front (x ∷ xs) zero at lt = inl (same_Some x u at)
      in_front (x ∷ xs) (suc i) at lt = inr (in_front xs i at (omega (arith, lt)))

  logged_at : (q : ℕ) (e : Entry) → slice_get list q ≡ Some e → Logged (log_at end e.stamp.origin) e
  logged_at q e at = let h = last.held q e at in executed_logged n end last.reached spelt.few spelt.messages h.0 h.1 h.2 q e h.3

  submitted : (q : ℕ) (e : Entry) → slice_get list q ≡ Some e → IsSubmittedIn (seen n acts) e
  submitted q e at = holds.submitted e.stamp.origin e (logged_at q e at) refl

  not_exec : (t : TraceLine) (e : Entry) → Submits t e → IsExecOf e.epoch e.stamp t.line → ⊥
  not_exec t e s h = subst (IsExecOf e.epoch e.stamp) s.0 h

  exec_after : (e : Entry) (s : IsSubmittedIn (seen n acts) e) (j : ℕ) (u : TraceLine) → slice_get (seen n acts) j ≡ Some u → IsExecOf e.epoch e.stamp u.line → length s.before < j
  exec_after e s j u at h = elim (cases_lt (length s.before) j) [
    | inl lt ↦ lt
    | inr le ↦ elim (cases_lt j (length s.before)) [
      | inl lt ↦ absurd (s.first u (among_before (seen n acts) s.before s.after s.told u j s.is at lt) h)
      | inr ge ↦ (let is : j ≡ length s.before = omega (arith, le, ge) in
          let same_one : s.told ≡ u = same_Some s.told u (sym (found_at (seen n acts) s.before s.after s.told s.is) ∙ ap (slice_get (seen n acts)) (sym is) ∙ at) in
          absurd (not_exec s.told e s.submits (subst (λ (z : TraceLine). IsExecOf e.epoch e.stamp z.line) (sym same_one) h)))
    ]
  ]

  -- what its line says of those before it
  first_there : (e : Entry) (s : IsSubmittedIn (seen n acts) e) → IsFirst list (take (length s.before) (seen n acts)) e.epoch e.stamp
  first_there e s =
      subst (IsLateLine list (take (length s.before) (seen n acts))) s.submits.0
      (each_at (IsLate list) [] (seen n acts) (length s.before) s.told holds.late (found_at (seen n acts) s.before s.after s.told s.is))

  not_reply : (t : TraceLine) (e : Entry) → Submits t e → IsReplyOn list e.epoch e.stamp t.line → ⊥
  not_reply t e s h = subst (IsReplyOn list e.epoch e.stamp) s.0 h

  reply_after : (e : Entry) (s : IsSubmittedIn (seen n acts) e) (j : ℕ) (u : TraceLine) → slice_get (seen n acts) j ≡ Some u → IsReplyOn list e.epoch e.stamp u.line → length s.before < j
  reply_after e s j u at h = elim (cases_lt (length s.before) j) [
    | inl lt ↦ lt
    | inr le ↦ elim (cases_lt j (length s.before)) [
      | inl lt ↦ absurd ((first_there e s).replied u (got_before (seen n acts) j (length s.before) u at lt) h)
      | inr ge ↦ (let is : j ≡ length s.before = omega (arith, le, ge) in
          let same_one : s.told ≡ u = same_Some s.told u (sym (found_at (seen n acts) s.before s.after s.told s.is) ∙ ap (slice_get (seen n acts)) (sym is) ∙ at) in
          absurd (not_reply s.told e s.submits (subst (λ (z : TraceLine). IsReplyOn list e.epoch e.stamp z.line) (sym same_one) h)))
    ]
  ]

  -- no epoch and stamp is submitted again
  not_again : (x : ℕ) (s : Stamp) (i j : ℕ) (t u : TraceLine) → slice_get (seen n acts) i ≡ Some t → slice_get (seen n acts) j ≡ Some u → IsSubmitOf x s t.line → IsSubmitOf x s u.line → i < j → ⊥
  not_again x s i j t u at bt a b lt =
      (first_of_line list (take j (seen n acts)) x s u.line (each_at (IsLate list) [] (seen n acts) j u holds.late bt) b).submitted t (got_before (seen n acts) i j t at lt) a

  was_submitted : (e : Entry) (s : IsSubmittedIn (seen n acts) e) (i : ℕ) → length s.before < i → (k x t c m : ℕ) → e.stamp.origin ≡ k → e.epoch ≡ x → e.stamp.time ≡ t → e.command.client ≡ c → e.command.number ≡ m → WasSubmitted (seen n acts) i k x t c m
  was_submitted e s i lt k x t c m ok ox ot oc om = (length s.before, lt, (s.told.by, found_at (seen n acts) s.before s.after s.told s.is ∙ ap (λ l. Some (told_of s.told.by l)) (s.submits.0 ∙ line_is)))
    where
      told_of : Option Act → Line → TraceLine
      told_of by l = record { by = by; line = l }

      line_is : Line.Submit e.stamp.origin e.epoch e.stamp.time e.command.client e.command.number ≡ Line.Submit k x t c m
      line_is = cc

  -- ---- agreement

  list_rises : Rises list
  list_rises = elim one.is [
    | inl e ↦ subst Rises (sym e) tt
    | inr (k, log, ext, is) ↦ subst Rises (sym is) (executed_rises k n log (end_fits k n ext (logs_fit n end last.reached spelt.few k)) (spelt_prefix log (log_at end k) ext (spelt.records k)))
  ]

  agreed : Agreed n acts
  agreed = record {
    prefixes = one.prefixes;
    ascending = list_rises;
    submitted = λ q e at.
        let s = submitted q e at in
        (length s.before, s.told, found_at (seen n acts) s.before s.after s.told s.is, s.submits, exec_after e s);
    submitted_once = λ x s i j t u at bt a b. elim (cases_lt i j) [
      | inl lt ↦ absurd (not_again x s i j t u at bt a b lt)
      | inr ge ↦ elim (cases_lt j i) [
        | inl lt ↦ absurd (not_again x s j i u t bt at b a lt)
        | inr le ↦ omega (arith, ge, le)
      ]
    ];
  }

  -- ---- answers

  told_at : (i : ℕ) (line : Line) → IsLineAt (seen n acts) i line → IsRight end list line
  told_at i line at = holds.right (record { by = at.0; line = line }) (got_among (seen n acts) i (record { by = at.0; line = line }) at.1)

  none_in : (x : ℕ) (s : Stamp) → ((q : ℕ) (e : Entry) → slice_get list q ≡ Some e → e.epoch ≡ x → e.stamp ≡ s → ⊥) → AllByRecursion (AllByRecursion (λ (e : Entry). ((e.epoch ≡ x) × (e.stamp ≡ s)) → ⊥)) (all_lists n acts)
  none_in x s h = all_from _ (all_lists n acts) (λ es a.
      let prefix = all_at (λ es. IsPrefixOf es list) (all_lists n acts) es one.prefixes a in
      all_from _ es (λ e m is.
      let at = placed es e m in
      h at.0 e (subst (λ l. slice_get l at.0 ≡ Some e) prefix.1 (get_prefix es prefix.0 at.0 e at.1)) is.0 is.1))

  answered : Answered n acts
  answered = record {
    executed = λ i k place x s c m a at. told_at i (Line.Exec k place x s c m a) at;
    answered = λ i k c m place a at.
        let t = told_at i (Line.ReplyOk k c m place a) at in
        let s = submitted place t.0 t.1.0 in
        let after = reply_after t.0 s i (record { by = at.0; line = Line.ReplyOk k c m place a }) at.1 (t.0, t.1.0, refl, refl) in
        (t.0, t.1, t.2, t.3, t.4, was_submitted t.0 s i after k t.0.epoch t.0.stamp.time c m t.2 refl refl t.3 t.4);
    dropped = λ i k c m x s at.
        let t = told_at i (Line.ReplyDropped k c m x s) at in
        let q = holds.submitted k t.0 t.1 t.2 in
        let after = reply_after t.0 q i (record { by = at.0; line = Line.ReplyDropped k c m x s }) at.1 (sym t.3, sym t.4) in (
          ap (λ (z : Stamp). z.origin) (sym t.4) ∙ t.2,
          was_submitted t.0 q i after k x s.time c m t.2 t.3 (ap (λ (z : Stamp). z.time) t.4) t.5 t.6,
          none_in x s t.7,
        );
    once = λ i j t u at bt one. elim (cases_lt i j) [
      | inl lt ↦ absurd (each_at IsNew [] (seen n acts) j u holds.once bt t (got_before (seen n acts) i j t at lt) one)
      | inr ge ↦ elim (cases_lt j i) [
        | inl lt ↦ absurd (each_at IsNew [] (seen n acts) i t holds.once at u (got_before (seen n acts) j i u bt lt) (one_other_way t.line u.line one))
        | inr le ↦ omega (arith, ge, le)
      ]
    ];
  }

  -- ---- real time

  real_time : RealTime n acts
  real_time i j k c m place k' x time c' m' a q e lt at bt there ep st =
      (each_at (IsLate list) [] (seen n acts) j (record { by = bt.0; line = Line.Submit k' x time c' m' }) holds.late bt.1).behind (record { by = at.0; line = Line.ReplyOk k c m place a })
      (got_before (seen n acts) i j (record { by = at.0; line = Line.ReplyOk k c m place a }) at.1 lt) k c m place a refl q e there ep st

pub runs_are_safe : IsSafe
runs_are_safe n some most acts p = (agreed n acts most p, answered n acts most p, real_time n acts most p)
