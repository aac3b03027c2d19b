-- The history of the two processes, by computation.
use Rattle.std.proofs.Common.{Bool, List, [], arith, false, inl, inr, refl, subst, sym, true, ℕ, ◌∷◌, ◌≡◌, ◌≤◌}
use Rattle.std.specs.Prelude.{Some, nat_le, ◌==◌, ◌^◌}
use Rattle.std.specs.List.{AllByRecursion, flat_map}
use Rattle.std.proofs.lemmas.Bool.{eqb-true, leb-true}
use Rattle.crsm_spec.specs.Node.{Turn}
use Rattle.crsm_spec_process.specs.Lives.{kept_turns}
use Rattle.crsm_law_examples.proofs.Opened.{the_model}
use Rattle.crsm_ledger.specs.Recovered.{AreKept}
use Rattle.crsm_law_cluster.specs.Clusters.{Event, Outgoing, after, empty_host, host_at, kept, log_in, next_out, outgoing_of, posted, sent_of, started, unborn, while_up, with_host, with_process, with_turn}
use Rattle.crsm_law_cluster.specs.Histories.{clusters, clusters_from, last_from}
use Rattle.crsm_law_cluster.specs.OneList.{lists, one_list}
use Rattle.crsm_law_cluster.specs.Going.{IsReplied}
use Rattle.crsm_law_lives.specs.Events.{AreEventsOf, events_of, fate_events, group_events, left_by, life_events, lives_of, node_of, take_events}
use Rattle.crsm_law_lives.specs.Premises.{IsProcess}
use Rattle.crsm_law_processes.specs.Files.{FilesKeep, FindBodies, LeavesBodies, RanOnFiles, size_of}
use Rattle.crsm_law_worked.specs.Values.{asked, asked_too, entry_b, entry_c, first_life, put_b, put_c, second_life}
use Rattle.crsm_law_worked.specs.Files.{bodies_found, first_boot_body, second_boot_body, change_body, first_kept_body, second_kept_body}
use Rattle.crsm_law_worked.specs.Worked.{happened, lives, the_answer}
use Rattle.crsm_law_worked.proofs.Bytes.{are_bytes, read_back, read_too, small, small_too}
use Rattle.crsm_law_worked.proofs.Logs.{kept_found, kept_second}
use Rattle.crsm_law_worked.proofs.Requests.{Asks, nobody_forges}
use Rattle.crsm_law_worked.proofs.First as first
use Rattle.crsm_law_worked.proofs.Second as second

-- ---- the events are those of the processes

-- what is so of replica 0 and of all others
pub by_number : (P : ℕ → Type 0) → P 0 → ((k : ℕ) → (0 == k) ≡ false → P k) → (k : ℕ) → P k
by_number P zeroth others k = go (0 == k) refl
  where
    go : (a : Bool) → (0 == k) ≡ a → P k
    go true p = subst P (eqb-true 0 k p) zeroth
    go false p = others k p

are_events : AreEventsOf lives happened
unfolding events_of lives_of life_events group_events take_events fate_events node_of
are_events = by_number (λ k. events_of k happened ≡ flat_map life_events (lives_of k lives)) refl (λ k p. rw p refl)

-- ---- the files

pub is_small : (bodies : List (List ℕ)) → nat_le (size_of bodies) 1000 ≡ true → size_of bodies ≤ 2 ^ 50
is_small bodies le = let few = leb-true (size_of bodies) 1000 le in omega (arith, few)

first_small : size_of bodies_found ≤ 2 ^ 50
unfolding the_model size_of first_boot_body first_kept_body
first_small = is_small bodies_found refl

abbrev second_bodies : List (List ℕ)
second_bodies = first_boot_body ∷ first_kept_body ∷ second_boot_body ∷ change_body ∷ second_kept_body ∷ []

second_small : size_of second_bodies ≤ 2 ^ 50
unfolding the_model size_of first_boot_body first_kept_body second_boot_body change_body second_kept_body
second_small = is_small second_bodies refl

first_leaves : LeavesBodies 1 first_life [] bodies_found
unfolding left_by
first_leaves = record { found_log = refl; left_log = subst (AreKept 0 1 [] bodies_found) (sym first.log_left) kept_found; small = first_small }

second_leaves : LeavesBodies 1 second_life bodies_found second_bodies
unfolding left_by
second_leaves = record { found_log = kept_found; left_log = subst (AreKept 0 1 [] second_bodies) (sym second.log_left) kept_second; small = second_small }

files_keep : FilesKeep 1 lives
unfolding lives_of
files_keep =
    by_number (λ k. FindBodies 1 [] (lives_of k lives)) (bodies_found, first_leaves, inr refl, (second_bodies, second_leaves, inl refl, tt)) (λ k p. rw p tt)

are_processes : AllByRecursion IsProcess lives
unfolding kept_turns
are_processes = (
  record { number = omega arith; turns = ((omega arith, are_bytes asked small), ((omega arith, tt), ((omega arith, are_bytes asked_too small_too), tt))) },
  (
    record {
      number = omega arith;
      turns = (
        (omega arith, tt),
        ((omega arith, tt), ((omega arith, (omega arith, omega arith, tt)), ((omega arith, are_bytes asked_too small_too), tt))),
      );
    },
    tt,
  ),
)

-- ---- the network

all_ask : AllByRecursion Asks happened
all_ask = (
  tt,
  ((put_b, read_back), (tt, (tt, (tt, ((put_c, read_too), (tt, (tt, (tt, (tt, (tt, (tt, (tt, (tt, ((put_c, read_too), (tt, (tt, (tt, tt))))))))))))))))),
)

pub ran : RanOnFiles 1 lives happened
ran = record { are = are_events; processes = are_processes; files = files_keep; network = nobody_forges 1 happened all_ask }

-- ---- the answer

abbrev before : List Event
before = Event.Boots 0 ∷ Event.Takes 0 (Turn.In 77 asked) 5 ∷ Event.Takes 0 Turn.Tick 6 ∷ Event.Keeps 0 ∷ []

goes_out : next_out (last_from (unborn 1) before) 0 ≡ Some (Outgoing.ToClient the_answer)
unfolding the_model asked empty_host unborn outgoing_of started with_turn kept while_up with_process posted host_at with_host next_out sent_of after last_from
goes_out = refl

pub is_replied : IsReplied 1 happened 4 0 the_answer
unfolding clusters clusters_from last_from
is_replied = (last_from (unborn 1) before, record { cluster = refl; event = refl }, goes_out)

pub is_listed : one_list 1 happened ≡ entry_b ∷ entry_c ∷ []
unfolding the_model asked asked_too empty_host unborn outgoing_of started with_turn kept while_up with_process posted host_at log_in with_host next_out sent_of after clusters clusters_from lists one_list
is_listed = refl
