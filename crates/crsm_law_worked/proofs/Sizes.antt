-- The history of a node's process in a cluster that began with three replicas, by computation.
use Rattle.std.proofs.Common.{List, [], arith, inl, refl, subst, sym, ℕ, ◌∷◌, ◌≡◌, ◌≤◌}
use Rattle.std.specs.Prelude.{◌^◌}
use Rattle.std.specs.List.{AllByRecursion, flat_map}
use Rattle.crsm_base.specs.Records.{FitsRec, body_bytes}
use Rattle.crsm_spec.specs.Types.{Rec}
use Rattle.crsm_spec_process.specs.Lives.{Life, kept_turns}
use Rattle.crsm_spec_process.specs.Turns.{replica_after}
use Rattle.crsm_fact_log.specs.Logs.{with_records}
use Rattle.crsm_law_examples.proofs.Opened.{the_model}
use Rattle.crsm_ledger.specs.Recovered.{AreKept}
use Rattle.crsm_law_cluster.specs.Clusters.{after, empty_host, host_at, kept, log_in, next_out, outgoing_of, posted, sent_of, started, unborn, while_up, with_host, with_process, with_turn}
use Rattle.crsm_law_cluster.specs.Histories.{clusters, clusters_from}
use Rattle.crsm_law_cluster.specs.OneList.{lists, one_list}
use Rattle.crsm_law_lives.specs.Events.{AreEventsOf, events_of, fate_events, group_events, left_by, life_events, lives_of, node_of, take_events}
use Rattle.crsm_law_lives.specs.Premises.{IsProcess}
use Rattle.crsm_law_processes.specs.Files.{FilesKeep, FindBodies, LeavesBodies, RanOnFiles, size_of}
use Rattle.crsm_law_worked.specs.Values.{asked_too, lost_entry, other_life, put_c}
use Rattle.crsm_law_worked.specs.Started.{events_alone}
use Rattle.crsm_law_worked.proofs.Bytes.{are_bytes, read_too, small_too}
use Rattle.crsm_law_worked.proofs.Logs.{fit_first_not_kept, spelt}
use Rattle.crsm_law_worked.proofs.Requests.{nobody_forges}
use Rattle.crsm_law_worked.proofs.History.{by_number, is_small}

abbrev alone : List Life
alone = other_life ∷ []

are_events : AreEventsOf alone events_alone
unfolding events_of lives_of life_events group_events take_events fate_events node_of
are_events = by_number (λ k. events_of k events_alone ≡ flat_map life_events (lives_of k alone)) refl (λ k p. rw p refl)

-- ---- the log, which no vote of another replica completes

abbrev boot_of_three : List Rec
boot_of_three = Rec.Boot 0 3 ∷ Rec.Enter 0 ∷ []

abbrev logged : List Rec
logged = Rec.Prepare lost_entry ∷ []

abbrev bodies : List (List ℕ)
bodies = body_bytes boot_of_three ∷ body_bytes logged ∷ []

fit_boot : AllByRecursion FitsRec boot_of_three
fit_boot = ((omega arith, omega arith), (omega arith, tt))

fit_logged : AllByRecursion FitsRec logged
fit_logged = (fit_first_not_kept.0, tt)

are_kept : AreKept 0 3 [] bodies (with_records (with_records [] boot_of_three) logged)
unfolding the_model
are_kept = (
  boot_of_three,
  spelt boot_of_three (omega arith) fit_boot,
  (refl, (refl, tt)),
  (logged, spelt logged (omega arith) fit_logged, (refl, tt), refl),
)

is_left : left_by 3 other_life ≡ with_records (with_records [] boot_of_three) logged
unfolding the_model left_by replica_after kept_turns asked_too
is_left = refl

are_small : size_of bodies ≤ 2 ^ 50
unfolding the_model size_of
are_small = is_small bodies refl

leaves : LeavesBodies 3 other_life [] bodies
leaves = record { found_log = refl; left_log = subst (AreKept 0 3 [] bodies) (sym is_left) are_kept; small = are_small }

-- ---- the history

files_keep : FilesKeep 3 alone
unfolding lives_of
files_keep = by_number (λ k. FindBodies 3 [] (lives_of k alone)) (bodies, leaves, inl refl, tt) (λ k p. rw p tt)

are_processes : AllByRecursion IsProcess alone
unfolding kept_turns
are_processes = (record { number = omega arith; turns = ((omega arith, are_bytes asked_too small_too), tt) }, tt)

pub ran : RanOnFiles 3 alone events_alone
ran = record { are = are_events; processes = are_processes; files = files_keep; network = nobody_forges 3 events_alone (tt, ((put_c, read_too), (tt, (tt, (tt, tt))))) }

pub none_listed : one_list 3 events_alone ≡ []
unfolding the_model asked_too empty_host unborn outgoing_of started with_turn kept while_up with_process posted host_at log_in with_host next_out sent_of after clusters clusters_from lists one_list
none_listed = refl
