-- Nothing is left to do in any world reached.
use Rattle.std.proofs.Common.{◌≡◌, ℕ, [], ◌∷◌, length, refl, sym, ◌∙◌, ap, subst, inl, inr, Bool, true, false}
use Rattle.std.specs.Prelude.{◌⊎◌, Some, slice_get, slice_set, nat_lt}
use Rattle.std.proofs.lemmas.Bool.{false≢true}
use Rattle.std.proofs.lemmas.Option.{none-some, same_Some}
use Rattle.crsm_spec.specs.Choice.{when◌then◌otherwise◌}
use Rattle.crsm_spec.specs.Types.{Entry}
use Rattle.crsm_spec.specs.Lists.{first_of, last_of, numbers_below}
use Rattle.crsm_spec.specs.Log.{Log, active, live, suspended, unexecuted, above, last_stamp, logged, logged_in, known, decision, executed}
use Rattle.crsm_spec.specs.Replica.{Replica, fresh}
use Rattle.crsm_spec.specs.Draft.{Draft, begun, keep}
use Rattle.crsm_spec.specs.Step.{step, boot, boot_again, founding_boot, first_boot}
use Rattle.crsm_spec.specs.World.{Site, World, Moment, begin, log_at, with_site, whole_step, cut_step, lost_step, down, after_step, then_down}
use Rattle.crsm_spec.specs.Moments.{silent, begun_at, with_room, start_at}
use Rattle.crsm_fact_log.specs.Logs.{AllFit}
use Rattle.crsm_law_steps.specs.Happenings.{Marks, Ends, Happens, IsReached}
use Rattle.crsm_law_steps.specs.Happenings.Ends.{IsWhole, IsCut, IsLost}
use Rattle.crsm_law_steps.specs.Happenings.Happens.{Nothing, Steps, Junk, Stops, Joins, Starts}
use Rattle.crsm_law_steps.specs.Happenings.IsReached.{first, next}
use Rattle.crsm_law_steps.proofs.Moments.{set_case, moment_goes_on}
use Rattle.crsm_law_epoch.specs.LogWorlds.{HasFewBoots}
use Rattle.crsm_law_epoch.proofs.LogWorlds.{logs_fit, up_numbers, get_range, from_zero}
use Rattle.crsm_law_epoch.proofs.Worlds.{marked_sites, up_same, log_there}
use Rattle.crsm_law_active.specs.Served.{IsDone, NothingIsLeft}
use Rattle.crsm_law_active.proofs.Serving.{step_done}
use Rattle.crsm_law_active.proofs.Worlds.{few_before, room_up, down_up}

abbrev AllDone : World → Type 0
AllDone w = (k : ℕ) (r : Replica) → slice_get w.sites k ≡ Some (Site.Up r) → IsDone k r

-- one site is another
set_done : (w u : World) (k : ℕ) (t : Site) → u.sites ≡ slice_set w.sites k t → ((r : Replica) → t ≡ Site.Up r → IsDone k r) → AllDone w → AllDone u
set_done w u k t is here h j r e = go (set_case w.sites k t j)
  where
    at_j : slice_get (slice_set w.sites k t) j ≡ Some (Site.Up r)
    at_j = sym (ap (λ ss. slice_get ss j) is) ∙ e

    go : (slice_get (slice_set w.sites k t) j ≡ slice_get w.sites j) ⊎ ((j ≡ k) × (slice_get (slice_set w.sites k t) j ≡ Some t) × (x : Site) × (slice_get w.sites j ≡ Some x)) → IsDone j r
    go (inl q) = h j r (sym q ∙ at_j)
    go (inr c) = subst (λ i. IsDone i r) (sym c.0) (here r (same_Some t (Site.Up r) (sym c.1 ∙ at_j)))

went_down : (w : World) (k : ℕ) → AllDone w → AllDone (down w k).after
unfolding down with_site
went_down w k h = set_done w (down w k).after k (Site.Down (log_at w k)) refl (λ r q. absurd (down_up (log_at w k) r q)) h

ended : (w : World) (k : ℕ) (x : Draft) → IsDone k x.replica → (m : Moment) → Ends w k x m → AllDone w → AllDone m.after
unfolding whole_step cut_step lost_step then_down after_step
ended w k x d m IsWhole h = set_done w m.after k (Site.Up x.replica) refl (λ r q. subst (IsDone k) (up_same x.replica r q) d) h
ended w k x d m (IsCut count) h = set_done w m.after k (Site.Down x.replica.log) refl (λ r q. absurd (down_up x.replica.log r q)) h
ended w k x d m IsLost h = went_down w k h

marked : {w v : World} → Marks w v → AllDone w → AllDone v
marked p h k r e = h k r (subst (λ ss. slice_get ss k ≡ Some (Site.Up r)) (marked_sites p) e)

-- a boot: nothing is logged, or the replica is not active; nobody waits
again_done : (k n : ℕ) (log : Log) → IsDone k (boot_again k n log).replica
unfolding boot_again keep begun fresh active live suspended
again_done k n log = record { idle = λ a. absurd (false≢true a); waits = λ c m. absurd m }

none_first : (e : Entry) → first_of {A = Entry} [] ≡ Some e → ⊥
unfolding first_of
none_first e h = none-some e h

founding_done : (k n : ℕ) → IsDone k (founding_boot k n).replica
unfolding founding_boot boot_again keep begun fresh unexecuted above last_stamp logged logged_in known decision executed last_of
founding_done k n = record { idle = λ a e h. absurd (none_first e h); waits = λ c m. absurd m }

boot_done : (k n : ℕ) (log : Log) → IsDone k (boot k n log).replica
unfolding boot first_boot when◌then◌otherwise◌
boot_done k n (rec ∷ log) = again_done k n (rec ∷ log)
boot_done k n [] = go (nat_lt k n)
  where
    go : (b : Bool) → IsDone k (when b then founding_boot k n otherwise boot_again k n []).replica
    go true = founding_done k n
    go false = again_done k n []

fit_there : (n : ℕ) (w : World) → IsReached n w → HasFewBoots w → (k : ℕ) (r : Replica) → slice_get w.sites k ≡ Some (Site.Up r) → AllFit r.me r.n r.log
fit_there n w q few k r e =
    let s = up_numbers n w q k r e in
    subst (λ i. AllFit i r.n r.log) (sym s.0) (subst (λ i. AllFit k i r.log) (sym s.1) (subst (AllFit k n) (log_there w k r e) (logs_fit n w q few k)))

start_done : (w : World) (k : ℕ) → AllDone w → AllDone (start_at w k).after
unfolding start_at begun_at
start_done w k h =
    let v = with_room w k in
    ended v k (boot k v.n (log_at v k)) (boot_done k v.n (log_at v k)) (whole_step v k (boot k v.n (log_at v k))) IsWhole (λ j r e. h j r (room_up w k j r e))

moment_done : (n : ℕ) (w : World) (m : Moment) → IsReached n w → HasFewBoots w → Happens w m → AllDone w → AllDone m.after
unfolding silent begun_at begun
moment_done n w m q few (Nothing v p) h = marked p h
moment_done n w m q few (Steps v p k r e input reading lt c z ends) h =
    let e' = subst (λ ss. slice_get ss k ≡ Some (Site.Up r)) (marked_sites p) e in
    ended v k (step r input reading) (step_done k r input reading (up_numbers n w q k r e').0 (fit_there n w q few k r e') (h k r e').waits) z ends (marked p h)
moment_done n w m q few (Junk k r e z ends) h = ended w k (begun r) (h k r e) z ends h
moment_done n w m q few (Stops k) h = went_down w k h
moment_done n w m q few (Joins f) h = λ k r e. h k r (room_up w (length w.sites) k r e)
moment_done n w m q few (Starts k d f) h = start_done w k h

-- ---- every world

first_done : (n : ℕ) → AllDone (begin n)
unfolding begin numbers_below
first_done n k r e =
    let t = get_range (λ k. Site.Up (founding_boot k n).replica) 0 n k (Site.Up r) e in
    subst (IsDone k) (up_same (founding_boot k n).replica r (from_zero n k (Site.Up r) t.1)) (founding_done k n)

pub nothing_is_left : NothingIsLeft
nothing_is_left n w first few = first_done n
nothing_is_left n w (next {w = u} {m = m} q h) few =
    let few_u = few_before u m.after (moment_goes_on u m h) few in
    moment_done n u m q few_u h (nothing_is_left n u q few_u)
