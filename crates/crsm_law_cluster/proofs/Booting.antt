-- Boots and stops of processes.
use Rattle.std.proofs.Common.{◌≡◌, ℕ, ◌<◌, ◌≤◌, [], ◌∷◌, ◌++◌, length, map, refl, sym, ◌∙◌, ap, subst, inl, Bool, true, false, cond, arith}
use Rattle.std.specs.Prelude.{nat_lt, Option, Some, None, slice_get}
use Rattle.std.specs.Option.{option_map_or}
use Rattle.std.proofs.lemmas.Bool.{lt-ltb, ne_eqb}
use Rattle.crsm_spec.specs.Choice.{when◌then◌otherwise◌}
use Rattle.crsm_spec.specs.Log.{Log}
use Rattle.crsm_spec.specs.Replica.{Replica, fresh}
use Rattle.crsm_spec.specs.Draft.{Draft, begun, keep}
use Rattle.crsm_spec.specs.Step.{boot, first_boot, founding_boot, boot_again}
use Rattle.crsm_spec.specs.World.{Site, World, log_of, log_at, is_up, is_up_at, whole_step, after_step, packet_of, down, with_site}
use Rattle.crsm_spec.specs.Moments.{begun_at, with_room, start_at}
use Rattle.crsm_fact_log.specs.Logs.{same}
use Rattle.crsm_fact_log.proofs.Lists.{among_left}
use Rattle.crsm_law_steps.specs.Laws.{LogsGoOn}
use Rattle.crsm_law_steps.specs.Happenings.Happens.{Starts, Stops}
use Rattle.crsm_law_steps.proofs.Moments.{moment_goes_on}
use Rattle.crsm_law_epoch.proofs.LogWorlds.{all_held}
use Rattle.crsm_law_cluster.specs.Clusters.{outgoing_of, Process, Host, started}
use Rattle.crsm_law_cluster.proofs.Lists.{got_set, got_other, set_length, below}
use Rattle.crsm_law_cluster.proofs.Pending.Pending.{nothing}
use Rattle.crsm_law_cluster.proofs.Shown.{none_out, Shown, Moved, stay}
use Rattle.crsm_law_cluster.proofs.Shown.Shown.{absent, unstarted, of_down, of_up}
use Rattle.crsm_law_cluster.proofs.Witnesses.{IsWitnessed, then_by, quietly, reached_by}

boot_silent : (k n : ℕ) (log : Log) → outgoing_of (boot k n log) ≡ []
unfolding outgoing_of boot first_boot founding_boot boot_again keep begun fresh when◌then◌otherwise◌
boot_silent k n (rec ∷ log) = refl
boot_silent k n [] = go (nat_lt k n)
  where
    go : (b : Bool) → outgoing_of (when b then founding_boot k n otherwise boot_again k n []) ≡ []
    go true = refl
    go false = refl

same_room : (w : World) (k : ℕ) (s : Site) → slice_get w.sites k ≡ Some s → with_room w k ≡ w
unfolding with_room
same_room w k s e = ap (λ b. cond b (record w { sites = w.sites ++ Site.Down [] ∷ [] }) w) (ne_eqb k (length w.sites) (λ is. let t = below w.sites k s e in absurd (omega (arith, t, is))))

down_there : (w : World) (k : ℕ) (log : Log) → slice_get w.sites k ≡ Some (Site.Down log) → is_up_at w k ≡ false
unfolding is_up_at is_up
down_there w k log e = ap (λ o. option_map_or is_up o false) e

log_there : (w : World) (k : ℕ) (log : Log) → slice_get w.sites k ≡ Some (Site.Down log) → log_at w k ≡ log
unfolding log_at log_of
log_there w k log e = ap (λ o. option_map_or log_of o []) e

up_log : (w : World) (k : ℕ) (r : Replica) → slice_get w.sites k ≡ Some (Site.Up r) → log_at w k ≡ r.log
unfolding log_at log_of
up_log w k r e = ap (λ o. option_map_or log_of o []) e

start_is : (w : World) (k m : ℕ) (log : Log) → slice_get w.sites k ≡ Some (Site.Down log) → w.n ≡ m → (start_at w k).after ≡ (whole_step w k (boot k m log)).after
unfolding start_at begun_at
start_is w k m log e is =
    ap (λ v. (whole_step v k (boot k v.n (log_at v k))).after) (same_room w k (Site.Down log) e) ∙ ap (λ z. (whole_step w k (boot k w.n z)).after) (log_there w k log e) ∙ ap (λ z. (whole_step w k (boot k z log)).after) is

pub start_down : (n m : ℕ) (w : World) (k : ℕ) (log : Log) → IsWitnessed n w → m ≡ n → length w.sites ≤ 15 → slice_get w.sites k ≡ Some (Site.Down log) → Moved n w k (started k m log None)
unfolding started start_at begun_at whole_step after_step
start_down n m w k log g is few e =
    let x = boot k m log in
    let u = (whole_step w k x).after in
    let here = start_is w k m log e ((all_held n w (reached_by n w g)).size ∙ sym is) in
    let happens = Starts k (down_there w k log e) (inl (below w.sites k (Site.Down log) e)) in
    record {
      world = u;
      reached = subst (IsWitnessed n) here (then_by g quietly happens tt);
      goes_on = subst (LogsGoOn w) here (moment_goes_on w (start_at w k) happens);
      few = (let l = set_length w.sites k (Site.Up x.replica) in omega (arith, l, few));
      later = λ from to d s. (s.0, among_left w.packets (map (packet_of k) x.sends) _ s.1);
      others = λ j ne. got_other w.sites k j (Site.Up x.replica) ne;
      there = subst (Shown n u k (started k m log None)) (sym (got_set w.sites k (Site.Down log) (Site.Up x.replica) e))
          (of_up x.replica (record { replica = x.replica; pending = []; outbox = outgoing_of x }) nothing (none_out n u k (outgoing_of x) (boot_silent k m log)));
    }

founding_is : (k n : ℕ) → k < n → boot k n [] ≡ founding_boot k n
unfolding boot first_boot when◌then◌otherwise◌
founding_is k n lt = ap (λ b. when b then founding_boot k n otherwise boot_again k n []) (lt-ltb k n lt)

-- the first boot of a founder is its being up without steps
pub start_founder : (n m : ℕ) (w : World) (k : ℕ) → IsWitnessed n w → m ≡ n → length w.sites ≤ 15 → k < n → slice_get w.sites k ≡ Some (Site.Up (founding_boot k n).replica) → Moved n w k (started k m [] None)
unfolding started
start_founder n m w k g is few lt e =
    let x = boot k m [] in
    let same_boot : x ≡ founding_boot k n = ap (λ i. boot k i []) is ∙ founding_is k n lt in
    record {
      world = w;
      reached = g;
      few = few;
      later = λ from to d s. s;
      goes_on = λ j. same;
      others = λ j ne. refl;
      there = subst (Shown n w k (started k m [] None)) (ap (λ (y : Draft). Some (Site.Up y.replica)) same_boot ∙ sym e)
          (of_up x.replica (record { replica = x.replica; pending = []; outbox = outgoing_of x }) nothing (none_out n w k (outgoing_of x) (boot_silent k m [])));
    }

-- ---- stops

down_moved : (n : ℕ) (w : World) (k : ℕ) (r : Replica) (log : Log) → IsWitnessed n w → length w.sites ≤ 15 → slice_get w.sites k ≡ Some (Site.Up r) → r.log ≡ log → Moved n w k (record { log = log; process = None })
unfolding down with_site
down_moved n w k r log g few e is =
    let u = (down w k).after in
    record {
      world = u;
      reached = then_by g quietly (Stops k) tt;
      goes_on = moment_goes_on w (down w k) (Stops k);
      few = (let l = set_length w.sites k (Site.Down (log_at w k)) in omega (arith, l, few));
      later = λ from to d s. s;
      others = λ j ne. got_other w.sites k j (Site.Down (log_at w k)) ne;
      there = subst (Shown n u k (record { log = log; process = None })) (ap (λ z. Some (Site.Down z)) (sym (up_log w k r e ∙ is)) ∙ sym (got_set w.sites k (Site.Up r) (Site.Down (log_at w k)) e)) (of_down log);
    }

pub stop_moved : (n : ℕ) (w : World) (k : ℕ) (p : Host) (s : Option Site) → slice_get w.sites k ≡ s → IsWitnessed n w → length w.sites ≤ 15 → Shown n w k p s → Moved n w k (record p { process = None })
stop_moved n w k _ _ e g few absent = stay n w k (record { log = []; process = None }) g few (subst (Shown n w k (record { log = []; process = None })) (sym e) absent)
stop_moved n w k _ _ e g few (unstarted lt) = stay n w k (record { log = []; process = None }) g few (subst (Shown n w k (record { log = []; process = None })) (sym e) (unstarted lt))
stop_moved n w k _ _ e g few (of_down log) = stay n w k (record { log = log; process = None }) g few (subst (Shown n w k (record { log = log; process = None })) (sym e) (of_down log))
stop_moved n w k _ _ e g few (of_up r x p o) = down_moved n w k r r.log g few e refl

pub started_still : (k n : ℕ) (log : Log) (x : Process) → started k n log (Some x) ≡ record { log = log; process = Some x }
unfolding started
started_still k n log x = refl
