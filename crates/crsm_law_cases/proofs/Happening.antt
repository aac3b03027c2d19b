-- A history in which every kind of event happens, by computation.
use Rattle.std.proofs.Common.{◌≡◌, ℕ, List, [], ◌∷◌, refl, true, arith, ◌++◌, sym, subst, inl, inr}
use Rattle.std.specs.Prelude.{Contains, Some, Option}
use Rattle.std.proofs.lemmas.Option.{none-some, same_Some}
use Rattle.crsm_base.specs.Messages.{datagram_bytes}
use Rattle.crsm_base.specs.MessageReading.{datagram_of}
use Rattle.crsm_spec.specs.Types.{Command, Op, Entry, Decision, Rec, Datagram, Answer, Outcome, Line}
use Rattle.crsm_spec.specs.Lists.{Among, first_of}
use Rattle.crsm_spec.specs.Log.{Log, executed}
use Rattle.crsm_spec.specs.Decided.{decisions_in}
use Rattle.crsm_spec.specs.Draft.{Reply}
use Rattle.crsm_spec.specs.Node.{Turn}
use Rattle.crsm_law_examples.proofs.Opened.{the_model}
use Rattle.crsm_law_cluster.specs.Clusters.{Event, Outgoing, empty_host, unborn, outgoing_of, started, with_turn, kept, while_up, with_process, posted, host_at, log_in, with_host, next_out, sent_of, after}
use Rattle.crsm_law_cluster.specs.Histories.{clusters_from, clusters, last_from, last_cluster}
use Rattle.crsm_law_cluster.specs.Lawful.{IsLawful}
use Rattle.crsm_law_cluster.specs.OneList.{world_of}
use Rattle.crsm_law_cluster.specs.Going.{IsReplied}
use Rattle.crsm_law_cases.specs.Cases.{AllHappens}
use Rattle.crsm_law_cases.proofs.Checks.{all_bytes, all_short, short_cluster, asks, comes}

abbrev pub put_a : Command
put_a = record { client = 7; number = 1; op = Op.Put (97 ∷ []) (98 ∷ []) }

abbrev pub put_b : Command
put_b = record { client = 8; number = 1; op = Op.Put (97 ∷ []) (99 ∷ []) }

unfoldable pub asked : List ℕ
asked = datagram_bytes (Datagram.Request put_a)

unfoldable pub asked_too : List ℕ
asked_too = datagram_bytes (Datagram.Request put_b)

abbrev before : List Event
before = Event.Boots 0 ∷ Event.Takes 0 (Turn.In 77 asked) 5 ∷ Event.Keeps 0 ∷ []

-- a new number starts, and with it an epoch
abbrev deciding : List Event
deciding =
    Event.Boots 0 ∷ Event.Takes 0 (Turn.In 77 asked) 5 ∷ Event.Keeps 0 ∷ Event.Sends 0 ∷ Event.Takes 0 (Turn.In 78 asked_too) 6 ∷ Event.Stops 0 ∷ Event.Boots 0 ∷ Event.Boots 1
    ∷ Event.Takes 0 (Turn.Suspect (0 ∷ 1 ∷ [])) 8 ∷ Event.Keeps 0 ∷ []

-- the datagram that goes out next
unfoldable datagram_in : Option Outgoing → Datagram
datagram_in (Some (Outgoing.ToReplica to d)) = d
datagram_in _ = Datagram.Operate []

unfoldable next_datagram : List Event → ℕ → Datagram
next_datagram h k = datagram_in (next_out (last_from (unborn 1) h) k)

-- replica 0 tells the decision, 1 asks for what was executed, and gets it
decided_bytes : List ℕ
decided_bytes = datagram_bytes (next_datagram deciding 0)

abbrev learning : List Event
learning = deciding ++ Event.Sends 0 ∷ Event.Takes 1 (Turn.In 70 decided_bytes) 9 ∷ Event.Keeps 1 ∷ []

asking_bytes : List ℕ
asking_bytes = datagram_bytes (next_datagram learning 1)

abbrev asking : List Event
asking = learning ++ Event.Sends 1 ∷ Event.Takes 0 (Turn.In 71 asking_bytes) 10 ∷ Event.Keeps 0 ∷ []

page_bytes : List ℕ
page_bytes = datagram_bytes (next_datagram asking 0)

abbrev history : List Event
history = asking ++ Event.Sends 0 ∷ Event.Takes 1 (Turn.In 70 page_bytes) 11 ∷ Event.Keeps 1 ∷ []

abbrev told : Reply
told = record { address = 77; client = 7; number = 1; says = Outcome.Answered Answer.Done; line = Line.ReplyOk 0 7 1 0 Answer.Done }

pub small_bytes : all_bytes asked ≡ true
unfolding the_model asked all_bytes
small_bytes = refl

pub small_too : all_bytes asked_too ≡ true
unfolding the_model asked_too all_bytes
small_too = refl

pub read_back : datagram_of asked ≡ Some (Datagram.Request put_a)
unfolding the_model asked
read_back = refl

pub read_too : datagram_of asked_too ≡ Some (Datagram.Request put_b)
unfolding the_model asked_too
read_too = refl

decided_small : all_bytes decided_bytes ≡ true
unfolding the_model asked asked_too decided_bytes next_datagram datagram_in all_bytes empty_host unborn outgoing_of started with_turn kept while_up with_process posted host_at log_in with_host next_out sent_of after last_from
decided_small = refl

decided_back : datagram_of decided_bytes ≡ Some (next_datagram deciding 0)
unfolding the_model asked asked_too decided_bytes next_datagram datagram_in empty_host unborn outgoing_of started with_turn kept while_up with_process posted host_at log_in with_host next_out sent_of after last_from
decided_back = refl

decided_sent : Among (last_from (unborn 1) (deciding ++ Event.Sends 0 ∷ [])).sent (1, next_datagram deciding 0)
unfolding the_model asked asked_too next_datagram datagram_in empty_host unborn outgoing_of started with_turn kept while_up with_process posted host_at log_in with_host next_out sent_of after last_from
decided_sent = inl refl

asking_small : all_bytes asking_bytes ≡ true
unfolding the_model asked asked_too decided_bytes asking_bytes next_datagram datagram_in all_bytes empty_host unborn outgoing_of started with_turn kept while_up with_process posted host_at log_in with_host next_out sent_of after last_from
asking_small = refl

asking_back : datagram_of asking_bytes ≡ Some (next_datagram learning 1)
unfolding the_model asked asked_too decided_bytes asking_bytes next_datagram datagram_in empty_host unborn outgoing_of started with_turn kept while_up with_process posted host_at log_in with_host next_out sent_of after last_from
asking_back = refl

asking_sent : Among (last_from (unborn 1) (learning ++ Event.Sends 1 ∷ [])).sent (0, next_datagram learning 1)
unfolding the_model asked asked_too decided_bytes next_datagram datagram_in empty_host unborn outgoing_of started with_turn kept while_up with_process posted host_at log_in with_host next_out sent_of after last_from
asking_sent = inr (inl refl)

page_small : all_bytes page_bytes ≡ true
unfolding the_model asked asked_too decided_bytes asking_bytes page_bytes next_datagram datagram_in all_bytes empty_host unborn outgoing_of started with_turn kept while_up with_process posted host_at log_in with_host next_out sent_of after last_from
page_small = refl

page_back : datagram_of page_bytes ≡ Some (next_datagram asking 0)
unfolding the_model asked asked_too decided_bytes asking_bytes page_bytes next_datagram datagram_in empty_host unborn outgoing_of started with_turn kept while_up with_process posted host_at log_in with_host next_out sent_of after last_from
page_back = refl

page_sent : Among (last_from (unborn 1) (asking ++ Event.Sends 0 ∷ [])).sent (1, next_datagram asking 0)
unfolding the_model asked asked_too decided_bytes asking_bytes next_datagram datagram_in empty_host unborn outgoing_of started with_turn kept while_up with_process posted host_at log_in with_host next_out sent_of after last_from
page_sent = inr (inr (inl refl))

is_lawful : IsLawful 1 history
unfolding last_from
is_lawful = (
  tt,
  (
    asks (after (unborn 1) (Event.Boots 0)) 0 77 5 asked put_a (omega arith) small_bytes read_back,
    (
      tt,
      (
        tt,
        (
          asks (after (after (after (after (unborn 1) (Event.Boots 0)) (Event.Takes 0 (Turn.In 77 asked) 5)) (Event.Keeps 0)) (Event.Sends 0)) 0 78 6 asked_too put_b (omega arith) small_too read_too,
          (
            tt,
            (
              tt,
              (
                tt,
                (
                  (omega arith, (omega arith, omega arith, (omega arith, omega arith, tt))),
                  (
                    tt,
                    (
                      tt,
                      (
                        comes (last_from (unborn 1) (deciding ++ Event.Sends 0 ∷ [])) 1 70 9 decided_bytes (next_datagram deciding 0) (omega arith) decided_small decided_back decided_sent,
                        (
                          tt,
                          (
                            tt,
                            (
                              comes (last_from (unborn 1) (learning ++ Event.Sends 1 ∷ [])) 0 71 10 asking_bytes (next_datagram learning 1) (omega arith) asking_small asking_back asking_sent,
                              (
                                tt,
                                (tt, (comes (last_from (unborn 1) (asking ++ Event.Sends 0 ∷ [])) 1 70 11 page_bytes (next_datagram asking 0) (omega arith) page_small page_back page_sent, (tt, tt))),
                              ),
                            ),
                          ),
                        ),
                      ),
                    ),
                  ),
                ),
              ),
            ),
          ),
        ),
      ),
    ),
  ),
)

goes_out : next_out (last_from (unborn 1) before) 0 ≡ Some (Outgoing.ToClient told)
unfolding the_model asked empty_host unborn outgoing_of started with_turn kept while_up with_process posted host_at log_in with_host next_out sent_of after last_from
goes_out = refl

is_replied : IsReplied 1 history 3 0 told
unfolding clusters clusters_from last_from
is_replied = (last_from (unborn 1) before, record { cluster = refl; event = refl }, goes_out)

is_short : all_short (last_cluster 1 history).hosts ≡ true
unfolding the_model asked asked_too decided_bytes asking_bytes page_bytes next_datagram datagram_in all_short empty_host unborn outgoing_of started with_turn kept while_up with_process posted host_at log_in with_host next_out sent_of after last_from last_cluster
is_short = refl

abbrev decision : Decision
decision = record { epoch = 1; spec = Some (0 ∷ 1 ∷ []); members = 0 ∷ 1 ∷ []; base_len = 1; tail = [] }

abbrev entry : Entry
entry = record { epoch = 0; stamp = record { time = 5; origin = 0 }; command = put_a }

is_decided : decisions_in (world_of (last_cluster 1 history)) ≡ decision ∷ decision ∷ []
unfolding the_model asked asked_too decided_bytes asking_bytes page_bytes next_datagram datagram_in empty_host unborn outgoing_of started with_turn kept while_up with_process posted host_at log_in with_host next_out sent_of after last_from last_cluster world_of
is_decided = refl

has_entered : first_of (log_in (last_cluster 1 history) 1) ≡ Some (Rec.Enter 1)
unfolding the_model asked asked_too decided_bytes asking_bytes page_bytes next_datagram datagram_in empty_host unborn outgoing_of started with_turn kept while_up with_process posted host_at log_in with_host next_out sent_of after last_from last_cluster first_of
has_entered = refl

has_executed : executed (log_in (last_cluster 1 history) 1) ≡ entry ∷ []
unfolding the_model asked asked_too decided_bytes asking_bytes page_bytes next_datagram datagram_in empty_host unborn outgoing_of started with_turn kept while_up with_process posted host_at log_in with_host next_out sent_of after last_from last_cluster
has_executed = refl

first_among : (log : Log) (rec : Rec) → first_of log ≡ Some rec → Among log rec
unfolding first_of
first_among [] rec e = absurd (none-some rec e)
first_among (r ∷ log) rec e = inl (same_Some r rec e)

pub all_happens : AllHappens
all_happens = record {
  h = history;
  is = record { most = omega arith; lawful = is_lawful; short = short_cluster (last_cluster 1 history) is_short };
  place = 3;
  reply = told;
  replied = is_replied;
  answer = refl;
  lost = 4;
  turn = Turn.In 78 asked_too;
  reading = 6;
  taken = refl;
  stopped = refl;
  started = refl;
  decision = decision;
  decided = subst (λ ds. Contains ds decision) (sym is_decided) (0, omega arith, refl);
  entered = first_among (log_in (last_cluster 1 history) 1) (Rec.Enter 1) has_entered;
  entry = entry;
  list = has_executed;
  client = refl;
}
