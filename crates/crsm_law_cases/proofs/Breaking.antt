-- Histories in which the laws fail, by computation.
use Rattle.std.proofs.Common.{◌≡◌, ℕ, List, [], ◌∷◌, length, refl, sym, ◌∙◌, ap, subst, inl, inr, true, arith}
use Rattle.std.specs.Prelude.{Some}
use Rattle.std.proofs.lemmas.Option.{same_Some}
use Rattle.crsm_base.specs.Messages.{datagram_bytes}
use Rattle.crsm_base.specs.MessageReading.{datagram_of}
use Rattle.crsm_spec.specs.Types.{Entry, Datagram, InEpoch, Answer, Outcome, Line}
use Rattle.crsm_spec.specs.Lists.{Among}
use Rattle.crsm_spec.specs.Log.{Log}
use Rattle.crsm_spec.specs.Draft.{Reply}
use Rattle.crsm_spec.specs.Step.{boot}
use Rattle.crsm_spec.specs.Node.{Turn, turn}
use Rattle.crsm_spec_process.specs.Lives.{Life, kept_turns, kept_steps}
use Rattle.crsm_law_examples.proofs.Opened.{the_model}
use Rattle.crsm_law_cluster.specs.Clusters.{Event, Process, Cluster, empty_host, unborn, outgoing_of, started, with_turn, kept, while_up, with_process, posted, host_at, log_in, with_host, next_out, sent_of, after}
use Rattle.crsm_law_cluster.specs.Histories.{clusters_from, clusters, last_from, last_cluster}
use Rattle.crsm_law_cluster.specs.Lawful.{IsGenuine, IsLawful}
use Rattle.crsm_law_cluster.specs.OneList.{lists, one_list}
use Rattle.crsm_spec_process.specs.Turns.{replica_after}
use Rattle.crsm_law_lives.specs.Events.{left_by, lives_of}
use Rattle.crsm_law_lives.specs.Premises.{DisksKeep}
use Rattle.crsm_law_cases.specs.Cases.{ForgedFramesBreak, SendsWaitForKeeps, AnswersWaitForKeeps, OldLogsBreak}
use Rattle.crsm_law_cases.proofs.Checks.{all_bytes, are_bytes, all_short, short_cluster, asks}
use Rattle.crsm_law_cases.proofs.Happening.{put_a, put_b, asked, asked_too, small_bytes, small_too, read_back, read_too}

-- who puts a, and who puts b
abbrev client_of : Entry → ℕ
client_of e = e.command.client

seven_eight : ◌≡◌ {A = ℕ} 7 8 → ⊥
seven_eight e = absurd (omega (arith, e))

-- ---- forged frames

-- replica 1 says to 0 that it logged (5, 0), and 0 to 1 that it logged (5, 1); neither did
abbrev ok_of_one : Datagram
ok_of_one = Datagram.Frame 1 0 0 0 (InEpoch.PrepareOk (record { time = 5; origin = 0 }) 6)

abbrev ok_of_none : Datagram
ok_of_none = Datagram.Frame 0 1 0 0 (InEpoch.PrepareOk (record { time = 5; origin = 1 }) 6)

forged : List ℕ
forged = datagram_bytes ok_of_one

forged_too : List ℕ
forged_too = datagram_bytes ok_of_none

forged_back : datagram_of forged ≡ Some ok_of_one
unfolding the_model forged
forged_back = refl

abbrev forging : List Event
forging =
    Event.Boots 0 ∷ Event.Boots 1 ∷ Event.Takes 0 (Turn.In 77 asked) 5 ∷ Event.Takes 0 (Turn.In 66 forged) 7 ∷ Event.Keeps 0
    ∷ Event.Takes 1 (Turn.In 78 asked_too) 5 ∷ Event.Takes 1 (Turn.In 66 forged_too) 7 ∷ Event.Keeps 1 ∷ []

abbrev put_first : Entry
put_first = record { epoch = 0; stamp = record { time = 5; origin = 0 }; command = put_a }

abbrev put_second : Entry
put_second = record { epoch = 0; stamp = record { time = 5; origin = 1 }; command = put_b }

nothing_sent : (after (after (after (unborn 2) (Event.Boots 0)) (Event.Boots 1)) (Event.Takes 0 (Turn.In 77 asked) 5)).sent ≡ []
unfolding unborn after with_host
nothing_sent = refl

not_lawful : IsLawful 2 forging → ⊥
not_lawful l =
    let was = l.1.1.1.0.1.1 ok_of_one forged_back refl (λ e. absurd (omega (arith, e))) in
    subst (λ ss. Among ss (0, ok_of_one)) nothing_sent was

pub forged_frames_break : ForgedFramesBreak
unfolding the_model asked asked_too forged forged_too empty_host unborn outgoing_of started with_turn kept while_up with_process posted host_at log_in with_host next_out sent_of after last_from last_cluster
forged_frames_break = record {
  h = forging;
  unlawful = not_lawful;
  first = put_first;
  here = refl;
  second = put_second;
  there = refl;
  differ = λ e. seven_eight (ap client_of e);
}

-- ---- what goes out before its records are kept

abbrev asking : List Event
asking = Event.Boots 0 ∷ Event.Boots 1 ∷ Event.Takes 0 (Turn.In 77 asked) 5 ∷ []

-- the process of replica 0 behind its turn, in a cluster that began with so many replicas
abbrev behind_turn : ℕ → Process
behind_turn n = with_turn (Turn.In 77 asked) 5 (record { replica = (boot 0 n []).replica; pending = []; outbox = outgoing_of (boot 0 n []) })

abbrev prepare : Datagram
prepare = Datagram.Frame 0 1 0 0 (InEpoch.Prepare put_first)

prepare_bytes : List ℕ
prepare_bytes = datagram_bytes prepare

prepare_back : datagram_of prepare_bytes ≡ Some prepare
unfolding the_model prepare_bytes
prepare_back = refl

prepare_small : all_bytes prepare_bytes ≡ true
unfolding the_model prepare_bytes all_bytes
prepare_small = refl

too_early : IsLawful 2 (Event.Boots 0 ∷ Event.Boots 1 ∷ Event.Takes 0 (Turn.In 77 asked) 5 ∷ Event.Takes 1 (Turn.In 70 prepare_bytes) 6 ∷ []) → ⊥
too_early l =
    let was = l.1.1.1.0.1.1 prepare prepare_back refl (λ e. absurd (omega (arith, e))) in
    subst (λ ss. Among ss (1, prepare)) nothing_sent was

abbrev when_sent : Cluster
when_sent = after (after (after (after (after (unborn 2) (Event.Boots 0)) (Event.Boots 1)) (Event.Takes 0 (Turn.In 77 asked) 5)) (Event.Keeps 0)) (Event.Sends 0)

prepare_sent : when_sent.sent ≡ (1, prepare) ∷ []
unfolding the_model asked empty_host unborn outgoing_of started with_turn kept while_up with_process posted host_at log_in with_host next_out sent_of after
prepare_sent = refl

in_time : IsLawful 2 (Event.Boots 0 ∷ Event.Boots 1 ∷ Event.Takes 0 (Turn.In 77 asked) 5 ∷ Event.Keeps 0 ∷ Event.Sends 0 ∷ Event.Takes 1 (Turn.In 70 prepare_bytes) 6 ∷ [])
in_time = (tt, (tt, (asks (after (after (unborn 2) (Event.Boots 0)) (Event.Boots 1)) 0 77 5 asked put_a (omega arith) small_bytes read_back, (tt, (tt, ((omega arith, (are_bytes prepare_bytes prepare_small, λ d e. genuine d (same_Some prepare d (sym prepare_back ∙ e)))), tt))))))
  where
    genuine : (d : Datagram) → prepare ≡ d → IsGenuine when_sent 1 d
    genuine d e = subst (IsGenuine when_sent 1) e (λ is ne. subst (λ ss. Among ss (1, prepare)) (sym prepare_sent) (inl refl))

pub sends_wait_for_keeps : SendsWaitForKeeps
unfolding the_model asked prepare_bytes empty_host unborn outgoing_of started with_turn kept while_up with_process posted host_at log_in with_host next_out sent_of after last_from last_cluster
sends_wait_for_keeps = record {
  h = asking;
  process = behind_turn 2;
  runs = refl;
  datagram = prepare;
  pends = inl refl;
  early = too_early;
  late = in_time;
}

-- ---- an answer that is not kept

abbrev told : Reply
told = record { address = 77; client = 7; number = 1; says = Outcome.Answered Answer.Done; line = Line.ReplyOk 0 7 1 0 Answer.Done }

abbrev losing : List Event
losing =
    Event.Boots 0 ∷ Event.Takes 0 (Turn.In 77 asked) 5 ∷ Event.Stops 0 ∷ Event.Boots 0 ∷ Event.Takes 0 (Turn.Suspect (0 ∷ [])) 8 ∷ Event.Takes 0 (Turn.In 78 asked_too) 9
    ∷ Event.Keeps 0 ∷ []

abbrev put_later : Entry
put_later = record { epoch = 1; stamp = record { time = 9; origin = 0 }; command = put_b }

losing_lawful : IsLawful 1 losing
losing_lawful = (
  tt,
  (
    asks (after (unborn 1) (Event.Boots 0)) 0 77 5 asked put_a (omega arith) small_bytes read_back,
    (
      tt,
      (
        tt,
        (
          (omega arith, (omega arith, omega arith, tt)),
          (asks (after (after (after (after (after (unborn 1) (Event.Boots 0)) (Event.Takes 0 (Turn.In 77 asked) 5)) (Event.Stops 0)) (Event.Boots 0)) (Event.Takes 0 (Turn.Suspect (0 ∷ [])) 8)) 0 78 9 asked_too put_b (omega arith) small_too read_too, (tt, tt)),
        ),
      ),
    ),
  ),
)

losing_short : all_short (last_cluster 1 losing).hosts ≡ true
unfolding the_model asked asked_too all_short empty_host unborn outgoing_of started with_turn kept while_up with_process posted host_at log_in with_host next_out sent_of after last_from last_cluster
losing_short = refl

losing_list : one_list 1 losing ≡ put_later ∷ []
unfolding the_model asked asked_too empty_host unborn outgoing_of started with_turn kept while_up with_process posted host_at log_in with_host next_out sent_of after clusters clusters_from lists one_list
losing_list = refl

pub answers_wait_for_keeps : AnswersWaitForKeeps
unfolding the_model asked empty_host unborn outgoing_of started with_turn kept while_up with_process posted host_at log_in with_host next_out sent_of after last_from last_cluster
answers_wait_for_keeps = record {
  h = Event.Boots 0 ∷ Event.Takes 0 (Turn.In 77 asked) 5 ∷ [];
  process = behind_turn 1;
  runs = refl;
  reply = told;
  pends = inl refl;
  answer = refl;
  more = Event.Stops 0 ∷ Event.Boots 0 ∷ Event.Takes 0 (Turn.Suspect (0 ∷ [])) 8 ∷ Event.Takes 0 (Turn.In 78 asked_too) 9 ∷ Event.Keeps 0 ∷ [];
  is = record { most = omega arith; lawful = losing_lawful; short = short_cluster (last_cluster 1 losing) losing_short };
  other = put_later;
  list = losing_list;
  client = refl;
}

-- ---- a boot on an older log

abbrev older_log : Log
older_log = (boot 0 1 []).replica.log

abbrev first_life : Life
first_life = record { me = 0; found = []; groups = record { turns = (Turn.In 77 asked, 5) ∷ []; fates = true ∷ [] } ∷ []; lost = []; ended = true }

abbrev second_life : Life
second_life = record { me = 0; found = older_log; groups = record { turns = (Turn.Suspect (0 ∷ []), 8) ∷ (Turn.In 78 asked_too, 9) ∷ []; fates = true ∷ [] } ∷ []; lost = []; ended = true }

two_four : ◌≡◌ {A = ℕ} 2 4 → ⊥
two_four e = absurd (omega (arith, e))

not_kept : DisksKeep 1 (first_life ∷ second_life ∷ []) → ⊥
unfolding the_model asked lives_of left_by replica_after kept_turns
not_kept d = two_four (ap length (d 0).2.0)

pub old_logs_break : OldLogsBreak
unfolding the_model asked asked_too kept_turns kept_steps
old_logs_break = record {
  before = first_life;
  behind = second_life;
  older = not_kept;
  one = turn (boot 0 1 []).replica (Turn.In 77 asked, 5);
  did = inr (inl refl);
  first = put_first;
  had = refl;
  two = turn (turn (boot 0 1 older_log).replica (Turn.Suspect (0 ∷ []), 8)).replica (Turn.In 78 asked_too, 9);
  does = inr (inr (inl refl));
  second = put_later;
  has = refl;
  differ = λ e. seven_eight (ap client_of e);
}
