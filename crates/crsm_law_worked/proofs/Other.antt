-- The process that boots on an empty file where another was left, by computation.
use Rattle.std.proofs.Common.{Global, List, Vec, [], ap, arith, inl, inr, length, map, refl, subst, sym, ℕ, ◌++◌, ◌∙◌, ◌∷◌, ◌≡◌, ◌≤◌, ◌⊎◌}
use Rattle.std.specs.Prelude.{Ok, Result}
use Rattle.std.specs.List.{AllByRecursion}
use Rattle.crsm_base.specs.declared.send.Send.{Send}
use Rattle.crsm_spec.specs.Types.{Answer, Line, Outcome}
use Rattle.crsm_spec.specs.Lists.{Among}
use Rattle.crsm_spec.specs.Replica.{Replica}
use Rattle.crsm_spec.specs.Step.{boot}
use Rattle.crsm_spec.specs.Node.{Turn}
use Rattle.crsm_law_examples.proofs.Opened.{the_model}
use Rattle.crsm_spec_process.specs.Groups.{AreGroups}
use Rattle.crsm_spec_process.specs.Turns.{gone, not_gone, replica_after}
use Rattle.crsm_spec_process.specs.Lives.{HaveFates, kept_turns}
use Rattle.crsm_port.specs.Meaning.{plain}
use Rattle.crsm_replica_io.specs.Outgoing.{packet_for, packets_for, raised_by}
use Rattle.crsm_replica_output.specs.Made.{to_address}
use Rattle.crsm_shell.specs.Shell.{HasLog, records_of, sends_in, sends_of}
use Rattle.crsm_shell.specs.Booting.{ReadsAsBefore, boot_body}
use Rattle.crsm_replica_detector.specs.Wished.{AreWished, empty_receives}
use Rattle.crsm_replica_detector.specs.Watching.{unwatched}
use Rattle.crsm_replica_detector.specs.Wishing.{wish}
use Rattle.crsm_node.specs.Sent.{AreAddressed, HasAddress, fates_of, handed_out, packets_gone, packets_missing, sends_from, steps_by_group}
use Rattle.crsm_node.specs.Received.{GivesAll, datagrams_in}
use Rattle.crsm_node.specs.Kept.{HasBehind, IsLeftOf, PutInTurn, bodies_in_log}
use Rattle.crsm_node.specs.Serving.{Carries, Takes, turns_by_group, with_lost}
use Rattle.crsm_node.specs.Running.{KeepsLife, RunsLife}
use Rattle.crsm_log.specs.Format.{found, reading}
use Rattle.crsm_node.specs.declared.errors.NodeError.{NodeError}
use Rattle.crsm_law_worked.specs.Values.{answered_too, asked_too, other_life, other_log}
use Rattle.crsm_law_worked.specs.Files.{begun_file, first_boot_body, lost_body, other_file}
use Rattle.crsm_law_worked.specs.Orders.{order_of}
use Rattle.crsm_law_worked.specs.Devices.{LeftSince, Moment, at, clock_with, packet}
use Rattle.crsm_law_worked.proofs.Bytes.{are_bytes, small_too}
use Rattle.crsm_law_worked.proofs.Logs.{behind_those, has_log, kept_other, reads_begun, reads_other, room_for_boot, room_for_other}
use Rattle.crsm_node.specs.declared.errors.NodeEnd.TheVariants as ends

abbrev start : Replica
start = (boot 0 1 []).replica

abbrev last : Replica
last = replica_after start (kept_turns other_life.groups)

abbrev turns : List (Turn × ℕ)
turns = kept_turns other_life.groups ++ other_life.lost

abbrev pub went_well : Result (Unit {0}) NodeError
went_well = Ok tt

-- ---- its turn

log_left : last.log ≡ other_log
unfolding the_model replica_after kept_turns asked_too
log_left = refl

are_wished : AreWished unwatched start turns
unfolding the_model AreWished kept_turns asked_too wish
are_wished = (tt, tt)

pub can_be_taken : Takes start unwatched turns (at Moment.OtherBegins).clock (at Moment.OtherEnds).clock
unfolding kept_turns GivesAll
can_be_taken = record {
  wished = are_wished;
  can_be = ((omega arith, are_bytes asked_too small_too), tt);
  readings = (clock_with 7 [], record { is = refl; rest = refl }, refl);
}

pub are_groups : AreGroups (with_lost (turns_by_group other_life.groups) other_life.lost)
are_groups = (record { before = []; last = (Turn.In 78 asked_too, 7); are = refl; datagrams = tt; few = omega arith }, λ some. absurd (some refl), tt)

-- ---- what it sends

pub have_fates : HaveFates sends_from start other_life.groups
unfolding the_model HaveFates sends_of sends_in asked_too
have_fates = (refl, tt)

abbrev the_reply : Send
the_reply = to_address (record { address = 78; client = 8; number = 1; says = Outcome.Answered Answer.Done; line = Line.ReplyOk 0 8 1 0 Answer.Done })

all_sent : gone (handed_out start other_life.groups) (fates_of other_life.groups) ≡ the_reply ∷ []
unfolding the_model gone handed_out fates_of kept_turns sends_of sends_in to_address asked_too
all_sent = refl

pub are_addressed : (peers : List ℕ) → AreAddressed peers start other_life.groups
unfolding to_address
are_addressed peers = subst (AllByRecursion (HasAddress peers)) (sym all_sent) (refl, tt)

pub packets_are : (peers : List ℕ) → packets_gone peers start other_life.groups ≡ packet 78 answered_too ∷ []
unfolding packets_gone packets_for packet_for to_address answered_too
packets_are peers = ap (packets_for peers) all_sent

none_missing : (peers : List ℕ) → packets_missing peers start other_life.groups ≡ 0
unfolding the_model packets_missing packets_for packet_for not_gone handed_out fates_of kept_turns sends_of sends_in asked_too
none_missing peers = refl

none_empty : empty_receives unwatched start turns ≡ 0
unfolding the_model empty_receives kept_turns asked_too wish
none_empty = refl

pub carries : (peers : List ℕ) → Carries peers start unwatched turns other_life.groups (at Moment.OtherBegins).port (at Moment.OtherEnds).port
unfolding the_model datagrams_in kept_turns asked_too
carries peers = record {
  traffic = record {
    came = packet 78 asked_too ∷ [];
    waited = refl;
    told = refl;
    are = refl;
    out = sym (ap (map plain.wrap) (packets_are peers));
  };
  empties = subst (λ (k : ℕ). raised_by k 0 ≤ 0) (sym none_empty) (omega arith);
  losses = subst (λ (k : ℕ). raised_by k 0 ≤ 0) (sym (none_missing peers)) (omega arith);
  too_long = refl;
  faults = omega arith;
  framing = refl;
  borrowed_as = refl;
}

-- ---- what its disk has

boots_so : boot_body 0 1 [] ≡ first_boot_body
unfolding the_model first_boot_body
boots_so = refl

keeps_so : bodies_in_log start (turns_by_group other_life.groups) ≡ lost_body ∷ []
unfolding the_model bodies_in_log steps_by_group records_of asked_too lost_body
keeps_so = refl

abbrev all_kept : List (List ℕ)
all_kept = boot_body 0 1 [] ∷ bodies_in_log start (turns_by_group other_life.groups)

all_so : all_kept ≡ first_boot_body ∷ lost_body ∷ []
all_so = ap (λ (b : List ℕ). b ∷ bodies_in_log start (turns_by_group other_life.groups)) boots_so ∙ ap (λ (bs : List (List ℕ)). first_boot_body ∷ bs) keeps_so

put_so : PutInTurn all_kept [] other_file
unfolding PutInTurn
put_so = subst (λ (bs : List (List ℕ)). PutInTurn bs [] other_file) (sym all_so) (
  begun_file,
  reads_begun,
  room_for_boot,
  (other_file, behind_those begun_file (first_boot_body ∷ []) reads_begun other_file (lost_body ∷ []) reads_other, room_for_other, refl),
)

has_all : HasBehind [] all_kept other_file
has_all = subst (λ (bs : List (List ℕ)). HasBehind [] bs other_file) (sym all_so) reads_other

left_at_end : (c : List ℕ) → Among (other_file ∷ []) c → HasBehind [] all_kept c
left_at_end c (inl is) = subst (HasBehind [] all_kept) is has_all
left_at_end c (inr never) = absurd never

-- these bodies are the first of those that are kept
prefix_is_left : (prefix rest : List (List ℕ)) (file c : List ℕ) → prefix ++ rest ≡ first_boot_body ∷ lost_body ∷ [] → reading file ≡ found prefix → file ≡ c → IsLeftOf [] all_kept c
prefix_is_left prefix rest file c is has same = record { prefix = prefix; of = (rest, is ∙ sym all_so); has = subst (HasBehind [] prefix) same has }

left_in_life : (t : ℕ) (c : List ℕ) → LeftSince 1 (other_file ∷ []) ([] ∷ begun_file ∷ []) t c → ReadsAsBefore (at Moment.OtherBegins).disk c ⊎ IsLeftOf [] all_kept c
left_in_life t c (inl (inl is)) = inr (prefix_is_left (first_boot_body ∷ lost_body ∷ []) [] other_file c refl reads_other is)
left_in_life t c (inl (inr never)) = absurd never
left_in_life t c (inr (lt, inl is)) = inl (inl (inl is))
left_in_life t c (inr (lt, inr (inl is))) = inr (prefix_is_left (first_boot_body ∷ []) (lost_body ∷ []) begun_file c refl reads_begun is)
left_in_life t c (inr (lt, inr (inr never))) = absurd never

pub keeps : (peers : Vec ℕ Global) (two : length peers.items ≡ 2) → KeepsLife (order_of 1 peers two) other_life (at Moment.OtherBegins).disk (at Moment.OtherEnds).disk went_well
keeps peers two = record {
  claimed_file = [];
  file = other_file;
  claims = refl;
  put = put_so;
  bodies = has_all;
  is = λ _. refl;
  log = subst (HasLog 0 1 other_file) (sym log_left) (has_log 0 other_file (first_boot_body ∷ lost_body ∷ []) other_log reads_other kept_other);
  stops = tt;
  synced = left_at_end;
  any_moment = record {
    later = omega arith;
    each = λ c is. left_in_life 0 c is;
    before = λ t c le is. inr (left_in_life t c is);
  };
}

-- ---- the run

unfoldable pub other_run : (peers : Vec ℕ Global) (two : length peers.items ≡ 2) → RunsLife (order_of 1 peers two) (at Moment.OtherBegins) (at Moment.OtherEnds) ends.Done
unfolding kept_turns
other_run peers two = record {
  life = other_life;
  bodies = [];
  result = went_well;
  ends_so = refl;
  me = refl;
  ended = refl;
  kept = refl;
  found = λ _. (refl, tt);
  most = omega arith;
  are_groups = are_groups;
  fates = have_fates;
  addressed = are_addressed peers.items;
  takes = can_be_taken;
  carries = carries peers.items;
  goes = record { honest = refl; fill = refl; borrowed_as = refl; later = omega arith };
  keeps = λ _. keeps peers two;
  writes = refl;
  done = (refl, refl);
}
