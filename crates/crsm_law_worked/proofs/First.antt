-- The first process, by computation.
use Rattle.std.proofs.Common.{Global, List, Vec, [], ap, arith, inl, inr, length, map, refl, subst, sym, ℕ, ◌++◌, ◌∙◌, ◌∷◌, ◌≡◌, ◌≤◌, ◌⊎◌}
use Rattle.std.specs.Prelude.{Err, Result}
use Rattle.std.specs.List.{AllByRecursion}
use Rattle.crsm_base.specs.declared.send.Send.{Send}
use Rattle.crsm_base.specs.Records.{FitsRec, body_bytes}
use Rattle.crsm_spec.specs.Types.{Answer, Line, Outcome}
use Rattle.crsm_spec.specs.Lists.{Among}
use Rattle.crsm_spec.specs.Replica.{Replica}
use Rattle.crsm_spec.specs.Step.{boot}
use Rattle.crsm_spec.specs.Node.{Turn, outputs_from}
use Rattle.crsm_law_examples.proofs.Opened.{the_model}
use Rattle.crsm_spec_process.specs.Groups.{AreGroups}
use Rattle.crsm_spec_process.specs.Turns.{gone, not_gone, replica_after}
use Rattle.crsm_spec_process.specs.Lives.{HaveFates, kept_turns}
use Rattle.crsm_port.specs.Meaning.{plain}
use Rattle.crsm_replica_io.specs.Outgoing.{packet_for, packets_for, raised_by}
use Rattle.crsm_replica_output.specs.Made.{to_address}
use Rattle.crsm_shell.specs.Shell.{HasLog, group_body, records_of, sends_in, sends_of}
use Rattle.crsm_shell.specs.Flushing.{IsFull}
use Rattle.crsm_shell.specs.Booting.{ReadsAsBefore, boot_body}
use Rattle.crsm_shell.specs.Taking.{heard_in}
use Rattle.crsm_replica_detector.specs.Wished.{AreWished, empty_receives}
use Rattle.crsm_replica_detector.specs.Wishing.{is_up_to, is_wanted, may_suspect, should_be_members, should_end, suspects, tick_is_due, wanted, wish, wish_at}
use Rattle.crsm_replica_detector.specs.Watching.{unwatched}
use Rattle.crsm_node.specs.Sent.{AreAddressed, HasAddress, fates_of, handed_out, packets_gone, packets_missing, sends_from, steps_by_group}
use Rattle.crsm_node.specs.Received.{GivesAll, datagrams_in}
use Rattle.crsm_node.specs.Kept.{HasBehind, HasBehindOrMore, IsLeftOf, PutInTurn, bodies_in_log}
use Rattle.crsm_node.specs.Serving.{Carries, IsLeftAtEnd, StopsAt, Takes, maybe_kept, turns_by_group, with_lost}
use Rattle.crsm_node.specs.Running.{KeepsLife, RunsLife}
use Rattle.crsm_log.specs.Format.{found, reading}
use Rattle.crsm_node.specs.declared.errors.NodeError.{NodeError}
use Rattle.crsm_law_worked.specs.Values.{answered, asked, asked_too, first_life, first_log, first_not_kept}
use Rattle.crsm_law_worked.specs.Files.{begun_file, bodies_found, first_boot_body, first_file, first_kept_body, lost_body, lost_file}
use Rattle.crsm_law_worked.specs.Orders.{order_of}
use Rattle.crsm_law_worked.specs.Devices.{LeftSince, Moment, at, clock_with, packet}
use Rattle.crsm_law_worked.proofs.Bytes.{are_bytes, small, small_too}
use Rattle.crsm_law_worked.proofs.Logs.{behind_those, fit_first_not_kept, has_log, kept_found, lost_some, reads_begun, reads_first, reads_lost, room_for_boot, room_for_first, room_for_lost}
use Rattle.crsm_node.specs.declared.errors.NodeEnd.TheVariants as ends
use Rattle.crsm_node.specs.declared.errors.NodeError.TheVariants as errors

abbrev start : Replica
start = (boot 0 1 []).replica

abbrev last : Replica
last = replica_after start (kept_turns first_life.groups)

abbrev turns : List (Turn × ℕ)
turns = kept_turns first_life.groups ++ first_life.lost

abbrev pub stopped : Result (Unit {0}) NodeError
stopped = Err errors.DiskFault

-- ---- its turns

pub log_left : last.log ≡ first_log
unfolding the_model replica_after kept_turns asked
log_left = refl

pub are_wished : AreWished unwatched start turns
unfolding the_model AreWished kept_turns asked asked_too heard_in wish wish_at tick_is_due is_wanted wanted should_end is_up_to should_be_members may_suspect suspects
are_wished = (tt, (tt, (tt, tt)))

pub can_be_taken : Takes start unwatched turns (at Moment.FirstBegins).clock (at Moment.FirstEnds).clock
unfolding kept_turns GivesAll
can_be_taken = record {
  wished = are_wished;
  can_be = ((omega arith, are_bytes asked small), ((omega arith, tt), ((omega arith, are_bytes asked_too small_too), tt)));
  readings = (
    clock_with 5 (6 ∷ 7 ∷ []),
    record { is = refl; rest = refl },
    (clock_with 6 (7 ∷ []), record { is = refl; rest = refl }, (clock_with 7 [], record { is = refl; rest = refl }, refl)),
  );
}

pub are_groups : AreGroups (with_lost (turns_by_group first_life.groups) first_life.lost)
are_groups = (
  record { before = (Turn.In 77 asked, 5) ∷ []; last = (Turn.Tick, 6); are = refl; datagrams = (tt, tt); few = omega arith },
  λ _. inr (λ never. never),
  (record { before = []; last = (Turn.In 78 asked_too, 7); are = refl; datagrams = tt; few = omega arith }, λ some. absurd (some refl), tt),
)

-- ---- what it sends

pub have_fates : HaveFates sends_from start first_life.groups
unfolding the_model HaveFates sends_of sends_in asked
have_fates = (refl, tt)

abbrev the_reply : Send
the_reply = to_address (record { address = 77; client = 7; number = 1; says = Outcome.Answered Answer.Done; line = Line.ReplyOk 0 7 1 0 Answer.Done })

all_sent : gone (handed_out start first_life.groups) (fates_of first_life.groups) ≡ the_reply ∷ []
unfolding the_model gone handed_out fates_of kept_turns sends_of sends_in to_address asked
all_sent = refl

pub are_addressed : (peers : List ℕ) → AreAddressed peers start first_life.groups
unfolding to_address
are_addressed peers = subst (AllByRecursion (HasAddress peers)) (sym all_sent) (refl, tt)

packets_are : (peers : List ℕ) → packets_gone peers start first_life.groups ≡ packet 77 answered ∷ []
unfolding packets_gone packets_for packet_for to_address answered
packets_are peers = ap (packets_for peers) all_sent

none_missing : (peers : List ℕ) → packets_missing peers start first_life.groups ≡ 0
unfolding the_model packets_missing packets_for packet_for not_gone handed_out fates_of kept_turns sends_of sends_in asked
none_missing peers = refl

one_empty : empty_receives unwatched start turns ≡ 1
unfolding the_model empty_receives kept_turns asked asked_too heard_in wish wish_at tick_is_due is_wanted wanted should_end is_up_to should_be_members may_suspect suspects
one_empty = refl

pub carries : (peers : List ℕ) → Carries peers start unwatched turns first_life.groups (at Moment.FirstBegins).port (at Moment.FirstEnds).port
unfolding the_model datagrams_in kept_turns asked asked_too
carries peers = record {
  traffic = record {
    came = packet 77 asked ∷ packet 78 asked_too ∷ [];
    waited = refl;
    told = refl;
    are = refl;
    out = sym (ap (map plain.wrap) (packets_are peers));
  };
  empties = subst (λ (k : ℕ). raised_by k 0 ≤ 1) (sym one_empty) (omega arith);
  losses = subst (λ (k : ℕ). raised_by k 0 ≤ 0) (sym (none_missing peers)) (omega arith);
  too_long = refl;
  faults = omega arith;
  framing = refl;
  borrowed_as = refl;
}

-- ---- what its disk has

boots_so : boot_body 0 1 [] ≡ first_boot_body
unfolding the_model first_boot_body
boots_so = refl

keeps_so : bodies_in_log start (turns_by_group first_life.groups) ≡ first_kept_body ∷ []
unfolding the_model bodies_in_log steps_by_group records_of asked first_kept_body
keeps_so = refl

may_keep_so : bodies_in_log start (maybe_kept first_life.groups first_life.lost stopped) ≡ first_kept_body ∷ lost_body ∷ []
unfolding the_model bodies_in_log steps_by_group replica_after records_of asked asked_too first_kept_body lost_body
may_keep_so = refl

loses_so : records_of (outputs_from last first_life.lost) ≡ first_not_kept
unfolding the_model records_of replica_after kept_turns asked asked_too
loses_so = refl

lost_is : group_body (outputs_from last first_life.lost) ≡ lost_body
unfolding lost_body
lost_is = ap body_bytes loses_so

abbrev all_kept : List (List ℕ)
all_kept = boot_body 0 1 [] ∷ bodies_in_log start (turns_by_group first_life.groups)

all_so : all_kept ≡ bodies_found
all_so = ap (λ (b : List ℕ). b ∷ bodies_in_log start (turns_by_group first_life.groups)) boots_so ∙ ap (λ (bs : List (List ℕ)). first_boot_body ∷ bs) keeps_so

abbrev all_maybe : List (List ℕ)
all_maybe = boot_body 0 1 [] ∷ bodies_in_log start (maybe_kept first_life.groups first_life.lost stopped)

maybe_so : all_maybe ≡ first_boot_body ∷ first_kept_body ∷ lost_body ∷ []
maybe_so = ap (λ (b : List ℕ). b ∷ bodies_in_log start (maybe_kept first_life.groups first_life.lost stopped)) boots_so ∙ ap (λ (bs : List (List ℕ)). first_boot_body ∷ bs) may_keep_so

put_so : PutInTurn all_kept [] first_file
unfolding PutInTurn
put_so = subst (λ (bs : List (List ℕ)). PutInTurn bs [] first_file) (sym all_so) (
  begun_file,
  reads_begun,
  room_for_boot,
  (first_file, behind_those begun_file (first_boot_body ∷ []) reads_begun first_file (first_kept_body ∷ []) reads_first, room_for_first, refl),
)

stops_so : StopsAt last first_life.lost first_file stopped
stops_so = (
  λ full. room_for_lost (subst (IsFull first_file) lost_is full),
  subst (AllByRecursion FitsRec) (sym loses_so) fit_first_not_kept,
)

one_or_more : (c : List ℕ) → Among (first_file ∷ lost_file ∷ []) c → HasBehindOrMore [] bodies_found lost_body c
one_or_more c (inl is) = inl (subst (HasBehind [] bodies_found) is reads_first)
one_or_more c (inr (inl is)) = inr (lost_some, subst (HasBehind [] (bodies_found ++ lost_body ∷ [])) is reads_lost)
one_or_more c (inr (inr never)) = absurd never

left_at_end : (c : List ℕ) → Among (first_file ∷ lost_file ∷ []) c → IsLeftAtEnd [] all_kept last first_life.lost stopped c
left_at_end c is =
    subst (λ (bs : List (List ℕ)). HasBehindOrMore [] bs (group_body (outputs_from last first_life.lost)) c) (sym all_so)
    (subst (λ (b : List ℕ). HasBehindOrMore [] bodies_found b c) (sym lost_is) (one_or_more c is))

-- these bodies are the first of those that may be kept
prefix_is_left : (prefix rest : List (List ℕ)) (file c : List ℕ) → prefix ++ rest ≡ first_boot_body ∷ first_kept_body ∷ lost_body ∷ [] → reading file ≡ found prefix → file ≡ c → IsLeftOf [] all_maybe c
prefix_is_left prefix rest file c is has same = record { prefix = prefix; of = (rest, is ∙ sym maybe_so); has = subst (HasBehind [] prefix) same has }

left_in_life : (t : ℕ) (c : List ℕ) → LeftSince 1 (first_file ∷ lost_file ∷ []) ([] ∷ begun_file ∷ []) t c →
    ReadsAsBefore (at Moment.FirstBegins).disk c ⊎ IsLeftOf [] all_maybe c
left_in_life t c (inl (inl is)) = inr (prefix_is_left bodies_found (lost_body ∷ []) first_file c refl reads_first is)
left_in_life t c (inl (inr (inl is))) = inr (prefix_is_left (first_boot_body ∷ first_kept_body ∷ lost_body ∷ []) [] lost_file c refl reads_lost is)
left_in_life t c (inl (inr (inr never))) = absurd never
left_in_life t c (inr (lt, inl is)) = inl (inl (inl is))
left_in_life t c (inr (lt, inr (inl is))) = inr (prefix_is_left (first_boot_body ∷ []) (first_kept_body ∷ lost_body ∷ []) begun_file c refl reads_begun is)
left_in_life t c (inr (lt, inr (inr never))) = absurd never

pub keeps : (peers : Vec ℕ Global) (two : length peers.items ≡ 2) → KeepsLife (order_of 3 peers two) first_life (at Moment.FirstBegins).disk (at Moment.FirstEnds).disk stopped
keeps peers two = record {
  claimed_file = [];
  file = first_file;
  claims = refl;
  put = put_so;
  bodies = subst (λ (bs : List (List ℕ)). HasBehind [] bs first_file) (sym all_so) reads_first;
  is = λ other. absurd (other refl);
  log = subst (HasLog 0 1 first_file) (sym log_left) (has_log 0 first_file bodies_found first_log reads_first kept_found);
  stops = stops_so;
  synced = left_at_end;
  any_moment = record {
    later = omega arith;
    each = λ c is. left_in_life 0 c is;
    before = λ t c le is. inr (left_in_life t c is);
  };
}

-- ---- the run

unfoldable pub first_run : (peers : Vec ℕ Global) (two : length peers.items ≡ 2) → RunsLife (order_of 3 peers two) (at Moment.FirstBegins) (at Moment.FirstEnds) ends.DiskFault
unfolding kept_turns
first_run peers two = record {
  life = first_life;
  bodies = [];
  result = stopped;
  ends_so = refl;
  me = refl;
  ended = refl;
  kept = refl;
  found = λ _. (refl, tt);
  most = omega arith;
  are_groups = are_groups;
  fates = have_fates;
  addressed = are_addressed peers.items;
  takes = can_be_taken;
  carries = carries peers.items;
  goes = record { honest = refl; fill = refl; borrowed_as = refl; later = omega arith };
  keeps = λ _. keeps peers two;
  writes = refl;
  done = omega arith;
}
