-- A page of three entries is cut, by computation.
use Rattle.std.proofs.Common.{◌≡◌, ℕ, List, [], ◌∷◌, ◌++◌, length, refl, true, arith, inl, inr}
use Rattle.std.specs.Prelude.{Some, Option, replicate}
use Rattle.crsm_base.specs.Messages.{datagram_bytes}
use Rattle.crsm_base.specs.MessageReading.{datagram_of}
use Rattle.crsm_spec.specs.Types.{Command, Op, Datagram}
use Rattle.crsm_spec.specs.Lists.{Among}
use Rattle.crsm_spec.specs.Node.{Turn}
use Rattle.crsm_law_examples.proofs.Opened.{the_model}
use Rattle.crsm_law_cluster.specs.Clusters.{Event, Outgoing, empty_host, unborn, outgoing_of, started, with_turn, kept, while_up, with_process, posted, host_at, log_in, with_host, next_out, sent_of, after}
use Rattle.crsm_law_cluster.specs.Histories.{clusters_from, clusters, last_from, last_cluster}
use Rattle.crsm_law_cluster.specs.Lawful.{IsLawful}
use Rattle.crsm_law_cluster.specs.Going.{IsAt}
use Rattle.crsm_law_cases.proofs.Checks.{all_bytes, all_short, short_cluster, asks, comes}
use Rattle.crsm_law_parts.specs.Handed.{bytes_in}
use Rattle.crsm_law_parts.specs.Example.{CutsHappen}

-- a command of client 7, with a value of 512 bytes
abbrev put : ℕ → Command
put number = record { client = 7; number = number; op = Op.Put (97 ∷ []) (replicate 512 98) }

unfoldable asked : ℕ → List ℕ
asked number = datagram_bytes (Datagram.Request (put number))

abbrev executing : List Event
executing = Event.Boots 0 ∷ Event.Takes 0 (Turn.In 77 (asked 1)) 5 ∷ Event.Takes 0 (Turn.In 77 (asked 2)) 6 ∷ Event.Takes 0 (Turn.In 77 (asked 3)) 7 ∷ []

-- replica 1 asks for what was executed
abbrev starting : List Event
starting = executing ++ Event.Boots 1 ∷ Event.Takes 1 Turn.Tick 8 ∷ Event.Keeps 1 ∷ []

-- the datagram that goes out next
unfoldable out_of : Option Outgoing → Outgoing
out_of (Some o) = o
out_of _ = Outgoing.ToReplica 0 (Datagram.Operate [])

unfoldable datagram_out : Outgoing → Datagram
datagram_out (Outgoing.ToReplica to d) = d
datagram_out _ = Datagram.Operate []

unfoldable next_item : List Event → ℕ → Outgoing
next_item h k = out_of (next_out (last_from (unborn 1) h) k)

asking_bytes : List ℕ
asking_bytes = datagram_bytes (datagram_out (next_item starting 1))

-- replica 0 answers with a page, behind its three replies
abbrev before : List Event
before =
    starting ++ Event.Sends 1 ∷ Event.Takes 0 (Turn.In 71 asking_bytes) 9 ∷ Event.Keeps 0 ∷ Event.Sends 0 ∷ Event.Sends 0 ∷ Event.Sends 0 ∷ []

abbrev history : List Event
history = before ++ Event.Fails 0 ∷ []

small_one : all_bytes (asked 1) ≡ true
unfolding the_model asked all_bytes
small_one = refl

small_two : all_bytes (asked 2) ≡ true
unfolding the_model asked all_bytes
small_two = refl

small_three : all_bytes (asked 3) ≡ true
unfolding the_model asked all_bytes
small_three = refl

back_one : datagram_of (asked 1) ≡ Some (Datagram.Request (put 1))
unfolding the_model asked
back_one = refl

back_two : datagram_of (asked 2) ≡ Some (Datagram.Request (put 2))
unfolding the_model asked
back_two = refl

back_three : datagram_of (asked 3) ≡ Some (Datagram.Request (put 3))
unfolding the_model asked
back_three = refl

asking_small : all_bytes asking_bytes ≡ true
unfolding the_model asked asking_bytes next_item out_of datagram_out all_bytes empty_host unborn outgoing_of started with_turn kept while_up with_process posted host_at log_in with_host next_out sent_of after last_from
asking_small = refl

asking_back : datagram_of asking_bytes ≡ Some (datagram_out (next_item starting 1))
unfolding the_model asked asking_bytes next_item out_of datagram_out empty_host unborn outgoing_of started with_turn kept while_up with_process posted host_at log_in with_host next_out sent_of after last_from
asking_back = refl

asking_sent : Among (last_from (unborn 1) (starting ++ Event.Sends 1 ∷ [])).sent (0, datagram_out (next_item starting 1))
unfolding the_model asked next_item out_of datagram_out empty_host unborn outgoing_of started with_turn kept while_up with_process posted host_at log_in with_host next_out sent_of after last_from
asking_sent = inl refl

is_lawful : IsLawful 1 history
unfolding last_from
is_lawful = (
  tt,
  (
    asks (last_from (unborn 1) (Event.Boots 0 ∷ [])) 0 77 5 (asked 1) (put 1) (omega arith) small_one back_one,
    (
      asks (last_from (unborn 1) (Event.Boots 0 ∷ Event.Takes 0 (Turn.In 77 (asked 1)) 5 ∷ [])) 0 77 6 (asked 2) (put 2) (omega arith) small_two back_two,
      (
        asks (last_from (unborn 1) (Event.Boots 0 ∷ Event.Takes 0 (Turn.In 77 (asked 1)) 5 ∷ Event.Takes 0 (Turn.In 77 (asked 2)) 6 ∷ [])) 0 77 7 (asked 3) (put 3) (omega arith) small_three back_three,
        (
          tt,
          (
            (omega arith, tt),
            (
              tt,
              (
                tt,
                (
                  comes (last_from (unborn 1) (starting ++ Event.Sends 1 ∷ [])) 0 71 9 asking_bytes (datagram_out (next_item starting 1)) (omega arith) asking_small asking_back asking_sent,
                  (tt, (tt, (tt, (tt, (tt, tt))))),
                ),
              ),
            ),
          ),
        ),
      ),
    ),
  ),
)

is_short : all_short (last_cluster 1 history).hosts ≡ true
unfolding the_model asked asking_bytes next_item out_of datagram_out all_short empty_host unborn outgoing_of started with_turn kept while_up with_process posted host_at log_in with_host next_out sent_of after last_from last_cluster
is_short = refl

goes_out : next_out (last_from (unborn 1) before) 0 ≡ Some (next_item before 0)
unfolding the_model asked asking_bytes next_item out_of datagram_out empty_host unborn outgoing_of started with_turn kept while_up with_process posted host_at log_in with_host next_out sent_of after last_from
goes_out = refl

is_long : length (bytes_in 0 (next_item before 0)) ≡ 1698
unfolding the_model asked asking_bytes next_item out_of datagram_out empty_host unborn outgoing_of started with_turn kept while_up with_process posted host_at log_in with_host next_out sent_of after last_from
is_long = refl

is_at : IsAt 1 history 13 (last_from (unborn 1) before) (Event.Fails 0)
unfolding clusters clusters_from last_from
is_at = record { cluster = refl; event = refl }

pub happen : CutsHappen
happen = record {
  h = history;
  is = record { most = omega arith; lawful = is_lawful; short = short_cluster (last_cluster 1 history) is_short };
  bytes = bytes_in 0 (next_item before 0);
  cut = record {
    node = 0;
    from = refl;
    item = next_item before 0;
    handed = (13, last_from (unborn 1) before, Event.Fails 0, is_at, inr refl, goes_out);
    is = refl;
    long = (let long = is_long in omega (arith, long));
  };
}
