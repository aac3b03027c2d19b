-- Logs grow over moments and runs, and the effect of a step that stops.
use Rattle.std.proofs.Common.{◌≡◌, ℕ, zero, suc, ◌<◌, List, [], ◌∷◌, ◌++◌, length, refl, sym, ◌∙◌, ap, subst, inl, inr, Bool, true, false, cond, arith, map}
use Rattle.std.specs.Prelude.{◌⊎◌, Some, ◌==◌, nat_lt, slice_get, slice_set}
use Rattle.std.specs.Option.{option_map_or}
use Rattle.std.specs.List.{AllByRecursion}
use Rattle.std.proofs.lemmas.Option.{same_Some}
use Rattle.crsm_spec.specs.Choice.{when◌then◌otherwise◌}
use Rattle.crsm_spec.specs.Log.{Log}
use Rattle.crsm_spec.specs.Replica.{Replica, fresh}
use Rattle.crsm_spec.specs.Draft.{Draft, begun, keep}
use Rattle.crsm_spec.specs.Clients.{commits, replies}
use Rattle.crsm_spec.specs.Frames.{owed_oks}
use Rattle.crsm_spec.specs.Step.{step, on_input, if_fitting, idle_at, boot, boot_again, founding_boot, first_boot}
use Rattle.crsm_spec.specs.World.{Site, World, Moment, begin, log_of, log_at, with_site, whole_step, cut_step, lost_step, down, after_step, then_down}
use Rattle.crsm_spec.specs.Acts.{Act}
use Rattle.crsm_spec.specs.Moments.{use_up, silent, begun_at, with_room, start_at, moments_of, world_after, act}
use Rattle.crsm_spec.specs.Run.{after_acts, ArePossible, moments, moments_of_run, all_worlds, last_world}
use Rattle.crsm_law_steps.specs.Happenings.{Marks, Ends, Happens, GoOn}
use Rattle.crsm_law_steps.specs.Happenings.Marks.{none, mark}
use Rattle.crsm_law_steps.specs.Happenings.Ends.{IsWhole, IsCut, IsLost}
use Rattle.crsm_law_steps.specs.Happenings.Happens.{Nothing, Steps, Junk, Stops, Joins, Starts}
use Rattle.crsm_fact_log.specs.Logs.{Extends, same, more}
use Rattle.crsm_law_steps.specs.Laws.{LogsGoOn, KeptBeforeSent}
use Rattle.crsm_fact_step.specs.Steps.{IgnoredInputsEnd}
use Rattle.crsm_fact_log.proofs.Logged.{extends_trans}
use Rattle.crsm_fact_step.proofs.Logs.{steps_grow}
use Rattle.crsm_law_steps.proofs.Happen.{run_happens}

-- ---- one place of a list

pub set_case : {A : Type 0} (xs : List A) (k : ℕ) (y : A) (j : ℕ) → (slice_get (slice_set xs k y) j ≡ slice_get xs j) ⊎ ((j ≡ k) × (slice_get (slice_set xs k y) j ≡ Some y) × (x : A) × (slice_get xs j ≡ Some x))
set_case [] k y j = inl refl
set_case (x ∷ xs) zero y zero = inr (refl, refl, x, refl)
set_case (x ∷ xs) zero y (suc j) = inl refl
set_case (x ∷ xs) (suc k) y zero = inl refl
set_case (x ∷ xs) (suc k) y (suc j) = elim (set_case xs k y j) [ inl e ↦ inl e | inr w ↦ inr (ap suc w.0, w.1, w.2, w.3) ]

pub set_there : {A : Type 0} (xs : List A) (k : ℕ) (y : A) → k < length xs → slice_get (slice_set xs k y) k ≡ Some y
set_there [] k y lt = absurd (omega (arith, lt))
set_there (x ∷ xs) zero y lt = refl
set_there (x ∷ xs) (suc k) y lt = set_there xs k y (omega (arith, lt))

-- ---- sites

-- one site's log goes on, and the others stay
set_goes_on : (v w : World) (k : ℕ) (t : Site) → w.sites ≡ slice_set v.sites k t → ((s : Site) → slice_get v.sites k ≡ Some s → Extends (log_of s) (log_of t)) → LogsGoOn v w
unfolding log_at
set_goes_on v w k t e h j = subst (λ ss. Extends (option_map_or log_of (slice_get v.sites j) []) (option_map_or log_of (slice_get ss j) [])) (sym e) (go (set_case v.sites k t j))
  where
    go : (slice_get (slice_set v.sites k t) j ≡ slice_get v.sites j) ⊎ ((j ≡ k) × (slice_get (slice_set v.sites k t) j ≡ Some t) × (s : Site) × (slice_get v.sites j ≡ Some s)) →
        Extends (option_map_or log_of (slice_get v.sites j) []) (option_map_or log_of (slice_get (slice_set v.sites k t) j) [])
    go (inl e) = subst (λ o. Extends (option_map_or log_of (slice_get v.sites j) []) (option_map_or log_of o [])) (sym e) same
    go (inr c) =
        subst (λ o. Extends (option_map_or log_of (slice_get v.sites j) []) (option_map_or log_of o [])) (sym c.1)
        (subst (λ o. Extends (option_map_or log_of o []) (log_of t)) (sym c.3) (h c.2 (ap (slice_get v.sites) (sym c.0) ∙ c.3)))

marked_sites : {w v : World} → Marks w v → v.sites ≡ w.sites
unfolding use_up
marked_sites none = refl
marked_sites (mark i p) = marked_sites p

stays : (v w : World) → w.sites ≡ v.sites → LogsGoOn v w
unfolding log_at
stays v w e j = subst (λ ss. Extends (option_map_or log_of (slice_get v.sites j) []) (option_map_or log_of (slice_get ss j) [])) (sym e) same

pub on_then : (u v w : World) → LogsGoOn u v → LogsGoOn v w → LogsGoOn u w
on_then u v w p q k = extends_trans (p k) (q k)

goes_down : (w : World) (k : ℕ) → LogsGoOn w (down w k).after
unfolding down with_site log_at log_of
goes_down w k = set_goes_on w (down w k).after k (Site.Down (log_at w k)) refl (λ s e. subst (λ o. Extends (log_of s) (option_map_or log_of o [])) (sym e) same)

boot_goes_on : (me n : ℕ) (log : Log) → Extends log (boot me n log).replica.log
unfolding boot first_boot founding_boot boot_again keep begun fresh when◌then◌otherwise◌
boot_goes_on me n [] = go (nat_lt me n)
  where
    go : (c : Bool) → Extends [] (when c then founding_boot me n otherwise boot_again me n []).replica.log
    go true = more _ (more _ same)
    go false = more _ same
boot_goes_on me n (rec ∷ log) = more _ same

-- an empty site at the end changes no log
room_stays : (w : World) (k : ℕ) → LogsGoOn w (with_room w k)
unfolding with_room log_at log_of
room_stays w k = go (k == length w.sites)
  where
    more_room : (ss : List Site) (j : ℕ) → option_map_or log_of (slice_get (ss ++ Site.Down [] ∷ []) j) [] ≡ option_map_or log_of (slice_get ss j) []
    more_room [] zero = refl
    more_room [] (suc j) = refl
    more_room (s ∷ ss) zero = refl
    more_room (s ∷ ss) (suc j) = more_room ss j

    go : (c : Bool) → LogsGoOn w (cond c (record w { sites = w.sites ++ Site.Down [] ∷ [] }) w)
    go true j = subst (λ l. Extends (log_at w j) l) (sym (more_room w.sites j)) same
    go false j = same

boot_there : (v : World) (k : ℕ) (s : Site) → slice_get v.sites k ≡ Some s → Extends (log_of s) (log_of (Site.Up (boot k v.n (log_at v k)).replica))
unfolding log_at log_of
boot_there v k s e = subst (λ o. Extends (log_of s) (boot k v.n (option_map_or log_of o [])).replica.log) (sym e) (boot_goes_on k v.n (log_of s))

starts_go_on : (w : World) (k : ℕ) → LogsGoOn w (start_at w k).after
unfolding start_at begun_at whole_step after_step
starts_go_on w k =
    let v = with_room w k in
    on_then w v (start_at w k).after (room_stays w k)
    (set_goes_on v (start_at w k).after k (Site.Up (boot k v.n (log_at v k)).replica) refl (λ s e. boot_there v k s e))

-- ---- moments

ends_go_on : (w : World) (k : ℕ) (r : Replica) (x : Draft) → slice_get w.sites k ≡ Some (Site.Up r) → Extends r.log x.replica.log → (m : Moment) → Ends w k x m → LogsGoOn w m.after
unfolding whole_step cut_step lost_step then_down after_step log_of
ends_go_on w k r x e h m IsWhole = set_goes_on w m.after k (Site.Up x.replica) refl (λ s f. subst (λ t. Extends (log_of t) x.replica.log) (same_Some _ s (sym e ∙ f)) h)
ends_go_on w k r x e h m (IsCut count) = set_goes_on w m.after k (Site.Down x.replica.log) refl (λ s f. subst (λ t. Extends (log_of t) x.replica.log) (same_Some _ s (sym e ∙ f)) h)
ends_go_on w k r x e h m IsLost = goes_down w k

junk_goes_on : (w : World) (k : ℕ) (r : Replica) → slice_get w.sites k ≡ Some (Site.Up r) → (m : Moment) → Ends w k (begun r) m → LogsGoOn w m.after
unfolding begun
junk_goes_on w k r e m h = ends_go_on w k r (begun r) e same m h

pub moment_goes_on : (w : World) (m : Moment) → Happens w m → LogsGoOn w m.after
unfolding silent begun_at
moment_goes_on w m (Nothing v p) = stays w v (marked_sites p)
moment_goes_on w m (Steps v p k r e input reading lt c n h) = on_then w v n.after (stays w v (marked_sites p)) (ends_go_on v k r (step r input reading) e (steps_grow r input reading) n h)
moment_goes_on w m (Junk k r e n h) = junk_goes_on w k r e n h
moment_goes_on w m (Stops k) = goes_down w k
moment_goes_on w m (Joins f) = room_stays w (length w.sites)
moment_goes_on w m (Starts k h f) = starts_go_on w k

-- ---- runs

pub end_of_moments : (w : World) (ms : List Moment) → GoOn w ms → LogsGoOn w (world_after w ms)
unfolding world_after
end_of_moments w [] g = λ k. same
end_of_moments w (m ∷ ms) g = on_then w m.after (world_after m.after ms) (moment_goes_on w m g.1) (end_of_moments m.after ms g.2)

each_to_end : (w : World) (ms : List Moment) → GoOn w ms → AllByRecursion (λ v. LogsGoOn v (world_after w ms)) (map (λ m. m.after) ms)
unfolding world_after
each_to_end w [] g = tt
each_to_end w (m ∷ ms) g = (end_of_moments m.after ms g.2, each_to_end m.after ms g.2)

after_both : (w : World) (ms ns : List Moment) → world_after w (ms ++ ns) ≡ world_after (world_after w ms) ns
unfolding world_after
after_both w [] ns = refl
after_both w (m ∷ ms) ns = after_both m.after ms ns

pub same_end : (w : World) (acts : List Act) → world_after w (moments w acts) ≡ after_acts w acts
unfolding world_after moments after_acts act
same_end w [] = refl
same_end w (a ∷ acts) = after_both w (moments_of w a) _ ∙ same_end (world_after w (moments_of w a)) acts

pub logs_grow : (n : ℕ) (acts : List Act) → ArePossible (begin n) acts → AllByRecursion (λ w. LogsGoOn w (last_world n acts)) (all_worlds n acts)
unfolding all_worlds moments_of_run last_world
logs_grow n acts p =
    let g = run_happens (begin n) acts p in
    let ms = moments (begin n) acts in
    subst (λ v. AllByRecursion (λ w. LogsGoOn w v) (begin n ∷ map (λ m. m.after) ms)) (same_end (begin n) acts) (end_of_moments (begin n) ms g, each_to_end (begin n) ms g)

-- ---- stops

pub kept_before_sent : KeptBeforeSent
unfolding whole_step cut_step lost_step then_down after_step down with_site log_at log_of
kept_before_sent w k r input reading m lt IsWhole = inl (ap (λ o. option_map_or log_of o []) (set_there w.sites k (Site.Up (step r input reading).replica) lt))
kept_before_sent w k r input reading m lt (IsCut count) = inl (ap (λ o. option_map_or log_of o []) (set_there w.sites k (Site.Down (step r input reading).replica.log) lt))
kept_before_sent w k r input reading m lt IsLost = inr (refl, refl)
