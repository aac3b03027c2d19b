-- The last process of a node leaves the log that its log file has at the end.
use Rattle.std.proofs.Common.{◌≡◌, ℕ, ◌<◌, List, [], ◌∷◌, refl, sym, ◌∙◌, ap, subst, inl, inr}
use Rattle.std.specs.Prelude.{Some, None}
use Rattle.std.specs.List.{flat_map}
use Rattle.std.proofs.lemmas.List.{append-nil}
use Rattle.std.proofs.lemmas.Option.{none-some, same_Some}
use Rattle.crsm_spec.specs.Lists.{Among, last_of}
use Rattle.crsm_spec.specs.Log.{Log}
use Rattle.crsm_spec.specs.Node.{Turn, outputs, outputs_from, turn}
use Rattle.crsm_spec.specs.Replica.{Replica}
use Rattle.crsm_spec.specs.Step.{boot}
use Rattle.crsm_fact_log.specs.Logs.{Logged}
use Rattle.crsm_fact_log.proofs.Lists.{all_at, last_among}
use Rattle.crsm_spec_process.specs.Lives.{Life}
use Rattle.crsm_law_cluster.specs.Clusters.{Event, Host, log_in, unborn}
use Rattle.crsm_law_cluster.specs.Histories.{last_cluster}
use Rattle.crsm_spec_process.specs.Turns.{replica_after}
use Rattle.crsm_law_lives.specs.Events.{events_of, left_by, life_events, lives_of}
use Rattle.crsm_law_lives.specs.Premises.{FindWhatIsLeft, IsProcess, Ran}
use Rattle.crsm_law_lives.proofs.Hosts.{host_run, own_run, own_then}
use Rattle.crsm_law_lives.proofs.Laws.{life_own, unborn_size, unborn_there}
use Rattle.crsm_law_lives.proofs.Processes.{life_left}
use Rattle.crsm_law_sheets.specs.Sheets.{Sheet, last_log, log_after}
use Rattle.crsm_law_honest.specs.Honest.{IsComplete, IsWholeOf}
use Rattle.crsm_law_honest.specs.Laws.{WholeSheetsAreComplete}

-- ---- a sheet with all turns

log_of_turns : (r : Replica) (ts : List (Turn × ℕ)) → log_after r.log (outputs_from r ts) ≡ (replica_after r ts).log
unfolding log_after outputs_from replica_after
log_of_turns r [] = refl
log_of_turns r (t ∷ ts) = log_of_turns (turn r t).replica ts

log_of_steps : (me n : ℕ) (found : Log) (ts : List (Turn × ℕ)) → log_after found (outputs me n found ts) ≡ (replica_after (boot me n found).replica ts).log
unfolding log_after outputs
log_of_steps me n found ts = log_of_turns (boot me n found).replica ts

-- its last log is the log that its process leaves
whole_log : (n : ℕ) (l : Life) (s : Sheet) → IsWholeOf l s → last_log n s ≡ left_by n l
unfolding left_by
whole_log n l s w =
    log_of_steps s.me n s.found s.turns
    ∙ ap (λ k. (replica_after (boot k n s.found).replica s.turns).log) w.me
    ∙ ap (λ log. (replica_after (boot l.me n log).replica s.turns).log) w.found
    ∙ ap (λ ts. (replica_after (boot l.me n l.found).replica ts).log) w.turns

-- ---- the processes of a node, one after another

abbrev stopped : Log → Host
stopped log = record { log = log; process = None }

run_ends : (k n : ℕ) (log : Log) (ls : List Life) → FindWhatIsLeft n log ls → ((l : Life) → Among ls l → l.me ≡ k) → (l : Life) → last_of ls ≡ Some l →
    (own_run k n (flat_map life_events ls) (stopped log)).log ≡ left_by n l
unfolding last_of
run_ends k n log [] f own l is = absurd (none-some l is)
run_ends k n log (m ∷ []) f own l is =
    ap (λ es. (own_run k n es (stopped log)).log) (append-nil (life_events m))
    ∙ ap (λ z. (own_run k n (life_events m) (stopped z)).log) (sym f.0)
    ∙ ap (λ j. (own_run j n (life_events m) (stopped m.found)).log) (sym (own m (inl refl)))
    ∙ (life_left n m).log_is
    ∙ ap (left_by n) (same_Some m l is)
run_ends k n log (m ∷ z ∷ zs) f own l is =
    ap (λ (p : Host). p.log) (own_then k n (life_events m) (flat_map life_events (z ∷ zs)) (stopped log))
    ∙ ap (λ p. (own_run k n (flat_map life_events (z ∷ zs)) p).log) here
    ∙ run_ends k n (left_by n m) (z ∷ zs) f.2 (λ x a. own x (inr a)) l is
  where
    gone : own_run m.me n (life_events m) (stopped m.found) ≡ stopped (left_by n m)
    gone = elim f.1 [ inl none ↦ absurd (not_empty none) | inr ended ↦ (life_left n m).gone ended ]
      where
        not_empty : z ∷ zs ≡ [] → ⊥
        not_empty q = cc

    here : own_run k n (life_events m) (stopped log) ≡ stopped (left_by n m)
    here =
        ap (λ x. own_run k n (life_events m) (stopped x)) (sym f.0)
        ∙ ap (λ j. own_run j n (life_events m) (stopped m.found)) (sym (own m (inl refl)))
        ∙ gone

module _ (n : ℕ) (ls : List Life) (h : List Event) (r : Ran n ls h) where
  left_at_end : (k : ℕ) (l : Life) → last_of (lives_of k ls) ≡ Some l → log_in (last_cluster n h) k ≡ left_by n l
  unfolding log_in last_cluster
  left_at_end k l is =
      let own = life_own k ls l (last_among (lives_of k ls) l is) in
      let small = subst (λ j. j < 15) own.0 (all_at IsProcess ls l r.processes own.1).number in
      let u = unborn_there n k small in
      ap (λ (p : Host). p.log) (host_run k h (unborn n) u.0 u.1)
      ∙ ap (λ (p : Host). (own_run k (unborn n).n (events_of k h) p).log) u.2
      ∙ ap (λ m. (own_run k m (events_of k h) (stopped [])).log) (unborn_size n)
      ∙ ap (λ es. (own_run k n es (stopped [])).log) (r.are k)
      ∙ run_ends k n [] (lives_of k ls) (r.disk k) (λ x a. (life_own k ls x a).0) l is

  whole_is_complete : (s : Sheet) (l : Life) → last_of (lives_of s.me ls) ≡ Some l → IsWholeOf l s → IsComplete n h s
  whole_is_complete s l is w e own logged =
      subst (λ log. Logged log e) (left_at_end s.me l is ∙ sym (whole_log n l s w)) logged

pub whole_sheets_complete : WholeSheetsAreComplete
whole_sheets_complete n ls h r sheets whole k s of_it =
    let t = whole k s of_it in
    whole_is_complete n ls h r s t.0 (ap (λ j. last_of (lives_of j ls)) of_it.me ∙ t.1) t.2
