-- The history of processes of which the first kept a group whose sync failed, by computation.
use Rattle.std.proofs.Common.{Bool, List, [], arith, false, inl, inr, refl, subst, sym, true, ℕ, ◌∷◌, ◌≡◌, ◌≤◌}
use Rattle.std.specs.Prelude.{◌==◌, ◌^◌}
use Rattle.std.specs.List.{AllByRecursion, flat_map}
use Rattle.std.proofs.lemmas.Bool.{eqb-true}
use Rattle.crsm_spec_process.specs.Lives.{kept_turns}
use Rattle.crsm_spec_process.specs.Turns.{replica_after}
use Rattle.crsm_law_examples.proofs.Opened.{the_model}
use Rattle.crsm_ledger.specs.Recovered.{AreKept}
use Rattle.crsm_law_cluster.specs.Clusters.{after, empty_host, host_at, kept, log_in, next_out, outgoing_of, posted, sent_of, started, unborn, while_up, with_host, with_process, with_turn}
use Rattle.crsm_law_cluster.specs.Histories.{clusters, clusters_from}
use Rattle.crsm_law_cluster.specs.OneList.{lists, one_list}
use Rattle.crsm_law_lives.specs.Events.{AreEventsOf, events_of, fate_events, group_events, left_by, life_events, lives_of, node_of, take_events}
use Rattle.crsm_law_lives.specs.Premises.{IsProcess}
use Rattle.crsm_law_processes.specs.Files.{FilesKeep, FindBodies, LeavesBodies, RanOnFiles, size_of}
use Rattle.crsm_law_worked.specs.Values.{asked, asked_too, entry_b, kept_life, kept_log, lost_entry, new_life, put_b, put_c, third_life}
use Rattle.crsm_law_worked.specs.Files.{first_boot_body, first_kept_body, kept_bodies, lost_body, new_boot_body, second_boot_body}
use Rattle.crsm_law_worked.specs.Kept.{kept_events, kept_lives}
use Rattle.crsm_law_worked.proofs.Bytes.{are_bytes, read_back, read_too, small, small_too}
use Rattle.crsm_law_worked.proofs.Logs.{kept_lost, kept_new, kept_third}
use Rattle.crsm_law_worked.proofs.Requests.{Asks, nobody_forges}
use Rattle.crsm_law_worked.proofs.History.{is_small}

-- ---- the events are those of the processes

-- what is so of replicas 0 and 1 and of all others
pub by_two : (P : ℕ → Type 0) → P 0 → P 1 → ((k : ℕ) → (0 == k) ≡ false → (1 == k) ≡ false → P k) → (k : ℕ) → P k
by_two P zeroth first others k = go (0 == k) (1 == k) refl refl
  where
    go : (a b : Bool) → (0 == k) ≡ a → (1 == k) ≡ b → P k
    go true b p q = subst P (eqb-true 0 k p) zeroth
    go false true p q = subst P (eqb-true 1 k q) first
    go false false p q = others k p q

are_events : AreEventsOf kept_lives kept_events
unfolding events_of lives_of life_events group_events take_events fate_events node_of
are_events = by_two (λ k. events_of k kept_events ≡ flat_map life_events (lives_of k kept_lives)) refl refl (λ k p q. rw p (rw q refl))

-- ---- the files

kept_small : size_of kept_bodies ≤ 2 ^ 50
unfolding the_model size_of first_boot_body first_kept_body lost_body
kept_small = is_small kept_bodies refl

abbrev third_bodies : List (List ℕ)
third_bodies = first_boot_body ∷ first_kept_body ∷ lost_body ∷ second_boot_body ∷ []

third_small : size_of third_bodies ≤ 2 ^ 50
unfolding the_model size_of first_boot_body first_kept_body lost_body second_boot_body
third_small = is_small third_bodies refl

new_small : size_of (new_boot_body ∷ []) ≤ 2 ^ 50
unfolding the_model size_of new_boot_body
new_small = is_small (new_boot_body ∷ []) refl

first_left : left_by 1 kept_life ≡ kept_log
unfolding the_model left_by replica_after kept_turns asked asked_too
first_left = refl

first_leaves : LeavesBodies 1 kept_life [] kept_bodies
first_leaves = record { found_log = refl; left_log = subst (AreKept 0 1 [] kept_bodies) (sym first_left) kept_lost; small = kept_small }

third_leaves : LeavesBodies 1 third_life kept_bodies third_bodies
unfolding the_model left_by replica_after kept_turns
third_leaves = record { found_log = kept_lost; left_log = kept_third; small = third_small }

new_leaves : LeavesBodies 1 new_life [] (new_boot_body ∷ [])
unfolding the_model left_by replica_after kept_turns
new_leaves = record { found_log = refl; left_log = kept_new; small = new_small }

files_keep : FilesKeep 1 kept_lives
unfolding lives_of
files_keep =
    by_two (λ k. FindBodies 1 [] (lives_of k kept_lives)) (kept_bodies, first_leaves, inr refl, (third_bodies, third_leaves, inl refl, tt)) (new_boot_body ∷ [], new_leaves, inl refl, tt)
    (λ k p q. rw p (rw q tt))

are_processes : AllByRecursion IsProcess kept_lives
unfolding kept_turns
are_processes = (
  record { number = omega arith; turns = ((omega arith, are_bytes asked small), ((omega arith, tt), ((omega arith, are_bytes asked_too small_too), tt))) },
  (record { number = omega arith; turns = tt }, (record { number = omega arith; turns = tt }, tt)),
)

-- ---- the network

all_ask : AllByRecursion Asks kept_events
all_ask = (tt, ((put_b, read_back), (tt, (tt, (tt, ((put_c, read_too), (tt, (tt, (tt, (tt, (tt, (tt, tt))))))))))))

pub ran : RanOnFiles 1 kept_lives kept_events
ran = record { are = are_events; processes = are_processes; files = files_keep; network = nobody_forges 1 kept_events all_ask }

pub is_listed : one_list 1 kept_events ≡ entry_b ∷ lost_entry ∷ []
unfolding the_model asked asked_too empty_host unborn outgoing_of started with_turn kept while_up with_process posted host_at log_in with_host next_out sent_of after clusters clusters_from lists one_list
is_listed = refl
