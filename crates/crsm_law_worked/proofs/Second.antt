-- The second process, by computation.
use Rattle.std.proofs.Common.{Global, List, Vec, [], ap, arith, inl, inr, length, map, refl, subst, sym, ℕ, ◌++◌, ◌∙◌, ◌∷◌, ◌≡◌, ◌≤◌, ◌⊎◌}
use Rattle.std.specs.Prelude.{Ok, Result}
use Rattle.std.specs.List.{AllByRecursion}
use Rattle.crsm_base.specs.declared.send.Send.{Send}
use Rattle.crsm_spec.specs.Types.{Answer, Line, Outcome}
use Rattle.crsm_spec.specs.Lists.{Among}
use Rattle.crsm_spec.specs.Replica.{Replica}
use Rattle.crsm_spec.specs.Step.{boot}
use Rattle.crsm_spec.specs.Node.{Turn}
use Rattle.crsm_law_examples.proofs.Opened.{the_model}
use Rattle.crsm_spec_process.specs.Groups.{AreGroups, IsGroup}
use Rattle.crsm_spec_process.specs.Turns.{gone, not_gone, replica_after}
use Rattle.crsm_spec_process.specs.Lives.{HaveFates, kept_turns}
use Rattle.crsm_port.specs.Meaning.{plain}
use Rattle.crsm_replica_io.specs.Outgoing.{packet_for, packets_for, raised_by}
use Rattle.crsm_replica_output.specs.Made.{to_address}
use Rattle.crsm_shell.specs.Shell.{HasLog, records_of, sends_in, sends_of}
use Rattle.crsm_shell.specs.Booting.{ReadsAsBefore, boot_body}
use Rattle.crsm_shell.specs.Taking.{heard_in}
use Rattle.crsm_replica_detector.specs.Wished.{AreWished, empty_receives}
use Rattle.crsm_replica_detector.specs.Wishing.{is_up_to, is_wanted, may_suspect, should_be_members, should_end, suspects, tick_is_due, wanted, wish, wish_at}
use Rattle.crsm_replica_detector.specs.Watching.{unwatched}
use Rattle.crsm_node.specs.Sent.{AreAddressed, HasAddress, fates_of, handed_out, packets_gone, packets_missing, sends_from, steps_by_group}
use Rattle.crsm_node.specs.Received.{GivesAll, datagrams_in}
use Rattle.crsm_node.specs.Kept.{HasBehind, IsLeftOf, PutInTurn, bodies_in_log}
use Rattle.crsm_node.specs.Serving.{Carries, Takes, turns_by_group, with_lost}
use Rattle.crsm_log.specs.Claim.{IsOpenTo}
use Rattle.crsm_node.specs.Running.{KeepsLife, RunsLife}
use Rattle.crsm_log.specs.Format.{cluster_of, found, is_cluster, length_of, may_stand, reading, stands}
use Rattle.crsm_node.specs.declared.errors.NodeError.{NodeError}
use Rattle.crsm_law_worked.specs.Values.{answered_too, asked_too, first_log, second_life, second_log}
use Rattle.crsm_law_worked.specs.Files.{bodies_found, first_boot_body, second_boot_body, change_body, changed_file, file_with, first_file, first_kept_body, second_kept_body, second_begun_file, second_file}
use Rattle.crsm_law_worked.specs.Orders.{order_of}
use Rattle.crsm_law_worked.specs.Devices.{LeftSince, Moment, at, clock_with, packet}
use Rattle.crsm_law_worked.proofs.Bytes.{are_bytes, small_too}
use Rattle.crsm_law_worked.proofs.Logs.{behind_those, has_log, kept_found, kept_second, reads_changed, reads_first, reads_second, reads_second_begun, room_for_change, room_for_second_boot, room_for_second}
use Rattle.crsm_node.specs.declared.errors.NodeEnd.TheVariants as ends

abbrev start : Replica
start = (boot 0 1 first_log).replica

abbrev last : Replica
last = replica_after start (kept_turns second_life.groups)

abbrev turns : List (Turn × ℕ)
turns = kept_turns second_life.groups ++ second_life.lost

abbrev went_well : Result (Unit {0}) NodeError
went_well = Ok tt

-- ---- its turns

pub log_left : last.log ≡ second_log
unfolding the_model replica_after kept_turns asked_too
log_left = refl

are_wished : AreWished unwatched start turns
unfolding the_model AreWished kept_turns asked_too heard_in wish wish_at tick_is_due is_wanted wanted should_end is_up_to should_be_members may_suspect suspects
are_wished = (tt, (tt, (refl, (tt, tt))))

pub can_be_taken : Takes start unwatched turns (at Moment.SecondBegins).clock (at Moment.SecondEnds).clock
unfolding kept_turns GivesAll
can_be_taken = record {
  wished = are_wished;
  can_be = (
    (omega arith, tt),
    ((omega arith, tt), ((omega arith, (omega arith, omega arith, tt)), ((omega arith, are_bytes asked_too small_too), tt))),
  );
  readings = (
    clock_with 1000 (6000000 ∷ 6000001 ∷ 6000002 ∷ []),
    record { is = refl; rest = refl },
    (
      clock_with 6000000 (6000001 ∷ 6000002 ∷ []),
      record { is = refl; rest = refl },
      (clock_with 6000001 (6000002 ∷ []), record { is = refl; rest = refl }, (clock_with 6000002 [], record { is = refl; rest = refl }, refl)),
    ),
  );
}

abbrev alone : Turn × ℕ → List (Turn × ℕ)
alone t = t ∷ []

is_alone : (t : Turn × ℕ) → IsGroup (alone t)
is_alone t = record { before = []; last = t; are = refl; datagrams = tt; few = omega arith }

pub are_groups : AreGroups (with_lost (turns_by_group second_life.groups) second_life.lost)
unfolding is_alone
are_groups = (
  is_alone (Turn.Tick, 1000),
  λ _. inr (λ never. never),
  (
    is_alone (Turn.Tick, 6000000),
    λ _. inr (λ never. never),
    (is_alone (Turn.Suspect (0 ∷ []), 6000001), λ _. inr (λ never. never), (is_alone (Turn.In 78 asked_too, 6000002), λ some. absurd (some refl), tt)),
  ),
)

-- ---- what it sends

pub have_fates : HaveFates sends_from start second_life.groups
unfolding the_model HaveFates replica_after sends_of sends_in asked_too
have_fates = (refl, (refl, (refl, (refl, tt))))

abbrev the_reply : Send
the_reply = to_address (record { address = 78; client = 8; number = 1; says = Outcome.Answered Answer.Done; line = Line.ReplyOk 0 8 1 1 Answer.Done })

all_sent : gone (handed_out start second_life.groups) (fates_of second_life.groups) ≡ the_reply ∷ []
unfolding the_model gone handed_out fates_of kept_turns sends_of sends_in to_address asked_too
all_sent = refl

pub are_addressed : (peers : List ℕ) → AreAddressed peers start second_life.groups
unfolding to_address
are_addressed peers = subst (AllByRecursion (HasAddress peers)) (sym all_sent) (refl, tt)

packets_are : (peers : List ℕ) → packets_gone peers start second_life.groups ≡ packet 78 answered_too ∷ []
unfolding packets_gone packets_for packet_for to_address answered_too
packets_are peers = ap (packets_for peers) all_sent

none_missing : (peers : List ℕ) → packets_missing peers start second_life.groups ≡ 0
unfolding the_model packets_missing packets_for packet_for not_gone handed_out fates_of kept_turns sends_of sends_in asked_too
none_missing peers = refl

two_empty : empty_receives unwatched start turns ≡ 2
unfolding the_model empty_receives kept_turns asked_too heard_in wish wish_at tick_is_due is_wanted wanted should_end is_up_to should_be_members may_suspect suspects
two_empty = refl

pub carries : (peers : List ℕ) → Carries peers start unwatched turns second_life.groups (at Moment.SecondBegins).port (at Moment.SecondEnds).port
unfolding the_model datagrams_in kept_turns asked_too
carries peers = record {
  traffic = record {
    came = packet 78 asked_too ∷ [];
    waited = refl;
    told = refl;
    are = refl;
    out = sym (ap (map plain.wrap) (packets_are peers));
  };
  empties = subst (λ (k : ℕ). raised_by k 0 ≤ 2) (sym two_empty) (omega arith);
  losses = subst (λ (k : ℕ). raised_by k 0 ≤ 0) (sym (none_missing peers)) (omega arith);
  too_long = refl;
  faults = omega arith;
  framing = refl;
  borrowed_as = refl;
}

-- ---- what its disk has

boots_so : boot_body 0 1 first_log ≡ second_boot_body
unfolding the_model second_boot_body
boots_so = refl

keeps_so : bodies_in_log start (turns_by_group second_life.groups) ≡ change_body ∷ second_kept_body ∷ []
unfolding the_model bodies_in_log steps_by_group replica_after records_of asked_too change_body second_kept_body
keeps_so = refl

abbrev all_kept : List (List ℕ)
all_kept = boot_body 0 1 first_log ∷ bodies_in_log start (turns_by_group second_life.groups)

all_so : all_kept ≡ second_boot_body ∷ change_body ∷ second_kept_body ∷ []
all_so = ap (λ (b : List ℕ). b ∷ bodies_in_log start (turns_by_group second_life.groups)) boots_so ∙ ap (λ (bs : List (List ℕ)). second_boot_body ∷ bs) keeps_so

abbrev all_bodies : List (List ℕ)
all_bodies = first_boot_body ∷ first_kept_body ∷ second_boot_body ∷ change_body ∷ second_kept_body ∷ []

-- behind those that were found
has_behind : (c : List ℕ) (more : List (List ℕ)) → reading c ≡ found (bodies_found ++ more) → HasBehind first_file more c
has_behind c more is = behind_those first_file bodies_found reads_first c more is

put_so : PutInTurn all_kept first_file second_file
unfolding PutInTurn
put_so = subst (λ (bs : List (List ℕ)). PutInTurn bs first_file second_file) (sym all_so) (
  second_begun_file,
  has_behind second_begun_file (second_boot_body ∷ []) reads_second_begun,
  room_for_second_boot,
  (
    changed_file,
    behind_those second_begun_file (bodies_found ++ second_boot_body ∷ []) reads_second_begun changed_file (change_body ∷ []) reads_changed,
    room_for_change,
    (
      second_file,
      behind_those changed_file (bodies_found ++ second_boot_body ∷ change_body ∷ []) reads_changed second_file (second_kept_body ∷ []) reads_second,
      room_for_second,
      refl,
    ),
  ),
)

has_all : HasBehind first_file all_kept second_file
has_all = subst (λ (bs : List (List ℕ)). HasBehind first_file bs second_file) (sym all_so) (has_behind second_file (second_boot_body ∷ change_body ∷ second_kept_body ∷ []) reads_second)

left_at_end : (c : List ℕ) → Among (second_file ∷ []) c → HasBehind first_file all_kept c
left_at_end c (inl is) = subst (HasBehind first_file all_kept) is has_all
left_at_end c (inr never) = absurd never

-- these bodies are the first of those that are kept
prefix_is_left : (prefix rest : List (List ℕ)) (file c : List ℕ) → prefix ++ rest ≡ second_boot_body ∷ change_body ∷ second_kept_body ∷ [] → HasBehind first_file prefix file → file ≡ c →
    IsLeftOf first_file all_kept c
prefix_is_left prefix rest file c is has same = record { prefix = prefix; of = (rest, is ∙ sym all_so); has = subst (HasBehind first_file prefix) same has }

left_in_life : (t : ℕ) (c : List ℕ) → LeftSince 1 (second_file ∷ []) (first_file ∷ second_begun_file ∷ changed_file ∷ []) t c →
    ReadsAsBefore (at Moment.SecondBegins).disk c ⊎ IsLeftOf first_file all_kept c
left_in_life t c (inl (inl is)) =
    inr (prefix_is_left (second_boot_body ∷ change_body ∷ second_kept_body ∷ []) [] second_file c refl (has_behind second_file (second_boot_body ∷ change_body ∷ second_kept_body ∷ []) reads_second) is)
left_in_life t c (inl (inr never)) = absurd never
left_in_life t c (inr (lt, inl is)) = inl (inl (inl is))
left_in_life t c (inr (lt, inr (inl is))) =
    inr (prefix_is_left (second_boot_body ∷ []) (change_body ∷ second_kept_body ∷ []) second_begun_file c refl (has_behind second_begun_file (second_boot_body ∷ []) reads_second_begun) is)
left_in_life t c (inr (lt, inr (inr (inl is)))) =
    inr (prefix_is_left (second_boot_body ∷ change_body ∷ []) (second_kept_body ∷ []) changed_file c refl (has_behind changed_file (second_boot_body ∷ change_body ∷ []) reads_changed) is)
left_in_life t c (inr (lt, inr (inr (inr never)))) = absurd never

pub keeps : (peers : Vec ℕ Global) (two : length peers.items ≡ 2) → KeepsLife (order_of 4 peers two) second_life (at Moment.SecondBegins).disk (at Moment.SecondEnds).disk went_well
keeps peers two = record {
  claimed_file = first_file;
  file = second_file;
  claims = refl;
  put = put_so;
  bodies = has_all;
  is = λ _. refl;
  log = subst (HasLog 0 1 second_file) (sym log_left) (has_log 0 second_file all_bodies second_log reads_second kept_second);
  stops = tt;
  synced = left_at_end;
  any_moment = record {
    later = omega arith;
    each = λ c is. left_in_life 0 c is;
    before = λ t c le is. inr (left_in_life t c is);
  };
}

-- the file names never cluster
pub names_none : IsOpenTo 0 (cluster_of first_file)
unfolding the_model first_file file_with first_boot_body first_kept_body is_cluster length_of may_stand stands
names_none = tt

-- ---- the run

unfoldable pub second_run : (peers : Vec ℕ Global) (two : length peers.items ≡ 2) → RunsLife (order_of 4 peers two) (at Moment.SecondBegins) (at Moment.SecondEnds) ends.Done
unfolding kept_turns
second_run peers two = record {
  life = second_life;
  bodies = bodies_found;
  result = went_well;
  ends_so = refl;
  me = refl;
  ended = refl;
  kept = kept_found;
  found = λ _. (reads_first, names_none);
  most = omega arith;
  are_groups = are_groups;
  fates = have_fates;
  addressed = are_addressed peers.items;
  takes = can_be_taken;
  carries = carries peers.items;
  goes = record { honest = refl; fill = refl; borrowed_as = refl; later = omega arith };
  keeps = λ _. keeps peers two;
  writes = refl;
  done = (refl, refl);
}
