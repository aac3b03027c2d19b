-- The end of a node, from its turns before.
use Rattle.std.proofs.Common.{◌≡◌, inl, IsTrue, Bool, ℕ, ◌≤◌, List, [], ◌∷◌, ◌++◌, length, refl, sym, ◌∙◌, ap, subst, arith}
use Rattle.std.proofs.lemmas.List.{append-nil}
use Rattle.std.specs.Prelude.{Option, Result, Ok, Err, ◌≢◌}
use Rattle.std.specs.List.{AllByRecursion}
use Rattle.crsm_clock.specs.Readings.{Readings}
use Rattle.crsm_disk.specs.Meaning.{LeavesOnly, Only}
use Rattle.crsm_port_faults.specs.Counts.{Rose}
use Rattle.crsm_io.specs.Streams.{Puts, PutsPrefix}
use Rattle.crsm_spec_process.specs.Groups.{AreGroups, IsGroup}
use Rattle.crsm_spec_process.specs.Lives.{Group, HaveFates, kept_turns}
use Rattle.crsm_log.specs.Format.{bodies_of}
use Rattle.crsm_log.specs.Log.{Goes}
use Rattle.crsm_spec.specs.Node.{Turn, outputs_from}
use Rattle.crsm_spec.specs.Replica.{Replica}
use Rattle.crsm_replica_detector.specs.Watching.{Watch}
use Rattle.crsm_spec_process.specs.Turns.{replica_after}
use Rattle.crsm_replica_io.specs.Outgoing.{packets_for}
use Rattle.crsm_shell.specs.Flushing.{Adds, IsFull, IsLeft, SendsPackets}
use Rattle.crsm_base.specs.Records.{FitsRec}
use Rattle.crsm_shell.specs.Shell.{group_body, records_of, sends_of}
use Rattle.crsm_node.specs.Devices.{Node}
use Rattle.crsm_node.specs.Kept.{HasBehind, HasLogOf, IsLeftOf, bodies_in_log, body_in_log}
use Rattle.crsm_node.specs.Sent.{AreAddressed, sends_from}
use Rattle.crsm_node.specs.Serving.{Carries, IsLeftAtEnd, Keeps, MayGoOn, Serves, StopsAt, Takes, maybe_kept, turns_by_group, turns_text, with_lost}
use Rattle.crsm_node.specs.declared.errors.NodeError.{NodeError}
use Rattle.crsm_node.specs.declared.errors.NodeError.TheVariants.{PortFault, DiskFault, LogFull, WriteFault, Failed, NoMemory}
use Rattle.crsm_node.proofs.Disks.{left_more, synced_by_flush, synced_now}
use Rattle.crsm_node.proofs.Groups.{AreOpen, groups_more, IsShut, open_group, shut_groups}
use Rattle.crsm_node.proofs.Fates.{addressed_more, fates_for, have_fates_more}
use Rattle.crsm_node.proofs.SoFar.{OnDisk, carries_group, disk_more, goes_then}
use Rattle.crsm_node.proofs.Turns.{bodies_more, kept_more}

-- These groups were kept, and these turns behind them were taken off the devices; what was sent and put is the groups'.
-- Nothing is said of the sheet.
pub record SoFar (r : Replica) (w : Watch) (groups : List Group) (ts : List (Turn × ℕ)) (start now : Node) : Type 0 where
  pub takes : Takes r w (kept_turns groups ++ ts) start.clock now.clock
  pub carries : Carries start.peers r w (kept_turns groups ++ ts) groups start.port now.port
  pub fates : HaveFates sends_from r groups
  pub addressed : AreAddressed start.peers r groups
  pub disk : OnDisk r groups start.disk now.disk
  pub peers : now.peers ≡ start.peers

-- ---- turns that are lost

-- with turns that are a group where there are some
pub groups_with : (groups : List Group) (ts : List (Turn × ℕ)) → AllByRecursion IsShut (turns_by_group groups) → (ts ≢ [] → IsGroup ts) → AreGroups (with_lost (turns_by_group groups) ts)
groups_with groups [] shut group = shut_groups (turns_by_group groups) shut
groups_with groups (t ∷ ts) shut group = groups_more (turns_by_group groups) (t ∷ ts) shut (group (λ none. cc))

some_of : (t : Turn × ℕ) (ts : List (Turn × ℕ)) → t ∷ ts ≢ []
some_of t ts none = cc

pub lost_some : (groups : List (List (Turn × ℕ))) (ts : List (Turn × ℕ)) → ts ≢ [] → with_lost groups ts ≡ groups ++ ts ∷ []
lost_some groups [] some = absurd (some refl)
lost_some groups (t ∷ ts) some = refl

-- turns that may be followed are a group where there are some
pub group_if : (ts : List (Turn × ℕ)) → AreOpen ts → ts ≢ [] → IsGroup ts
group_if [] open_ some = absurd (some refl)
group_if (t ∷ ts) open_ some = open_group t ts open_

module _ (r : Replica) (w : Watch) (most : ℕ) (groups : List Group) (ts : List (Turn × ℕ)) (start now : Node) (s : SoFar r w groups ts start now)
    (written : Puts start.sheet now.sheet (turns_text (kept_turns groups))) (few : length (kept_turns groups ++ ts) ≤ most) (are : AreGroups (with_lost (turns_by_group groups) ts)) where
  synced : IsTrue start.disk.honest → (c : List ℕ) → now.disk.may_leave c → HasBehind start.disk.seen (bodies_in_log r (turns_by_group groups)) c
  synced honest = synced_now start.disk.seen (bodies_in_log r (turns_by_group groups)) now.disk.seen now.disk.may_leave (s.disk.has honest) (s.disk.durable honest)

  -- memory ran out
  pub ends_without_memory : Serves r w most start now (Err NoMemory)
  ends_without_memory = record {
    groups = groups;
    lost = ts;
    most = few;
    are_groups = are;
    fates = s.fates;
    addressed = s.addressed;
    takes = s.takes;
    carries = s.carries;
    goes = s.disk.goes;
    keeps = λ honest. record {
      file = now.disk.seen;
      put = s.disk.put honest;
      bodies = s.disk.has honest;
      is = λ _. refl;
      log = s.disk.log honest;
      stops = tt;
      synced = synced honest;
      any_moment = s.disk.any_moment honest;
    };
    writes = written;
    ends = tt;
    peers = s.peers;
  }

  -- the log is full for them
  pub ends_full : (IsTrue start.disk.honest → IsFull now.disk.seen (group_body (outputs_from (replica_after r (kept_turns groups)) ts))) → Serves r w most start now (Err LogFull)
  ends_full full = record {
    groups = groups;
    lost = ts;
    most = few;
    are_groups = are;
    fates = s.fates;
    addressed = s.addressed;
    takes = s.takes;
    carries = s.carries;
    goes = s.disk.goes;
    keeps = λ honest. record {
      file = now.disk.seen;
      put = s.disk.put honest;
      bodies = s.disk.has honest;
      is = λ _. refl;
      log = s.disk.log honest;
      stops = full honest;
      synced = synced honest;
      any_moment = s.disk.any_moment honest;
    };
    writes = written;
    ends = tt;
    peers = s.peers;
  }

-- where the bodies of all groups are synced
pub all_synced : (before : List ℕ) (bodies : List (List ℕ)) (r : Replica) (lost : List (Turn × ℕ)) (result : Result (Unit {0}) NodeError) (c : List ℕ) → HasBehind before bodies c → IsLeftAtEnd before bodies r lost result c
all_synced before bodies r lost (Ok x) c has = has
all_synced before bodies r lost (Err PortFault) c has = has
all_synced before bodies r lost (Err DiskFault) c has = inl has
all_synced before bodies r lost (Err LogFull) c has = has
all_synced before bodies r lost (Err WriteFault) c has = has
all_synced before bodies r lost (Err Failed) c has = has
all_synced before bodies r lost (Err NoMemory) c has = has

-- the disk failed at them
pub ends_at_disk : (r : Replica) (w : Watch) (most : ℕ) (groups : List Group) (ts : List (Turn × ℕ)) (start mid now : Node) → SoFar r w groups ts start mid → Puts start.sheet mid.sheet (turns_text (kept_turns groups)) →
    length (kept_turns groups ++ ts) ≤ most → AreGroups (with_lost (turns_by_group groups) ts) → ts ≢ [] →
    now.clock ≡ mid.clock → Carries start.peers r w (kept_turns groups ++ ts) groups start.port now.port → now.sheet ≡ mid.sheet → now.peers ≡ mid.peers → Goes mid.disk now.disk → Rose mid.disk.faults now.disk.faults →
    (IsTrue mid.disk.honest → LeavesOnly mid.disk now.disk (IsLeft (bodies_of mid.disk.seen) (group_body (outputs_from (replica_after r (kept_turns groups)) ts)))) →
    (IsTrue mid.disk.honest → IsFull mid.disk.seen (group_body (outputs_from (replica_after r (kept_turns groups)) ts)) → ⊥) →
    AllByRecursion FitsRec (records_of (outputs_from (replica_after r (kept_turns groups)) ts)) → Serves r w most start now (Err DiskFault)
ends_at_disk r w most groups ts start mid now s written few are some clock carries sheet peers goes rose left fits spelt =
    let bodies : List (List ℕ) = bodies_in_log r (turns_by_group groups) in
    let body : List ℕ = group_body (outputs_from (replica_after r (kept_turns groups)) ts) in
    let trusts : IsTrue start.disk.honest → IsTrue mid.disk.honest = λ honest. subst IsTrue (sym s.disk.goes.honest) honest in
    let all : bodies_in_log r (with_lost (turns_by_group groups) ts) ≡ bodies ++ body_in_log (outputs_from (replica_after r (kept_turns groups)) ts) =
    ap (bodies_in_log r) (lost_some (turns_by_group groups) ts some) ∙ bodies_more r groups ts in
    let before = s.disk.goes.later in
    record {
      groups = groups;
      lost = ts;
      most = few;
      are_groups = are;
      fates = s.fates;
      addressed = s.addressed;
      takes = subst (λ (c : Option Readings). Takes r w (kept_turns groups ++ ts) start.clock c) (sym clock) s.takes;
      carries = carries;
      goes = goes_then start.disk mid.disk now.disk s.disk.goes goes;
      keeps = λ honest. record {
        file = mid.disk.seen;
        put = s.disk.put honest;
        bodies = s.disk.has honest;
        is = λ other. absurd (other refl);
        log = s.disk.log honest;
        stops = (fits (trusts honest), spelt);
        synced = λ c is.
            let flushed = left (trusts honest) in
            synced_by_flush start.disk.seen bodies body mid.disk.seen c (s.disk.has honest) (flushed.each c (now.disk.counts_now mid.disk.moment c flushed.later is));
        any_moment = subst (λ (xs : List (List ℕ)). LeavesOnly start.disk now.disk (IsLeftOf start.disk.seen xs)) (sym all)
            (left_more start.disk mid.disk now.disk bodies body (s.disk.has honest) (s.disk.any_moment honest) (left (trusts honest)));
      };
      writes = sheet ∙ written;
      ends = omega (arith, before, rose);
      peers = peers ∙ s.peers;
    }

-- ---- all turns are kept

module _ (r : Replica) (w : Watch) (most : ℕ) (groups : List Group) (start now : Node) (s : SoFar r w groups [] start now) (few : length (kept_turns groups) ≤ most)
    (are : AreGroups (turns_by_group groups)) where
  -- nothing is lost
  all_kept : length (kept_turns groups ++ []) ≤ most
  all_kept = subst (λ (ts : List (Turn × ℕ)). length ts ≤ most) (sym (append-nil (kept_turns groups))) few

  keeps_all : (result : Result (Unit {0}) NodeError) → maybe_kept groups [] result ≡ turns_by_group groups → StopsAt (replica_after r (kept_turns groups)) [] now.disk.seen result →
      IsTrue start.disk.honest → Keeps r groups [] start.disk now.disk result
  keeps_all result maybe stops honest = record {
    file = now.disk.seen;
    put = s.disk.put honest;
    bodies = s.disk.has honest;
    is = λ _. refl;
    log = s.disk.log honest;
    stops = stops;
    synced = λ c is.
        all_synced start.disk.seen (bodies_in_log r (turns_by_group groups)) (replica_after r (kept_turns groups)) [] result c
        (synced_now start.disk.seen (bodies_in_log r (turns_by_group groups)) now.disk.seen now.disk.may_leave (s.disk.has honest) (s.disk.durable honest) c is);
    any_moment = subst (λ (gs : List (List (Turn × ℕ))). LeavesOnly start.disk now.disk (IsLeftOf start.disk.seen (bodies_in_log r gs))) (sym maybe) (s.disk.any_moment honest);
  }

  pub ends_well : Puts start.sheet now.sheet (turns_text (kept_turns groups)) → length (kept_turns groups) ≡ most → MayGoOn r w groups [] now → Serves r w most start now (Ok tt)
  ends_well written all on = record {
    groups = groups;
    lost = [];
    most = all_kept;
    are_groups = are;
    fates = s.fates;
    addressed = s.addressed;
    takes = s.takes;
    carries = s.carries;
    goes = s.disk.goes;
    keeps = keeps_all (Ok tt) refl tt;
    writes = written;
    ends = (all, on);
    peers = s.peers;
  }

  pub ends_at_port : Puts start.sheet now.sheet (turns_text (kept_turns groups)) → Rose start.port.faults now.port.faults → MayGoOn r w groups [] now → Serves r w most start now (Err PortFault)
  ends_at_port written rose on = record {
    groups = groups;
    lost = [];
    most = all_kept;
    are_groups = are;
    fates = s.fates;
    addressed = s.addressed;
    takes = s.takes;
    carries = s.carries;
    goes = s.disk.goes;
    keeps = keeps_all (Err PortFault) refl tt;
    writes = written;
    ends = (rose, on);
    peers = s.peers;
  }

  pub ends_at_sheet : PutsPrefix start.sheet now.sheet (turns_text (kept_turns groups)) → Rose start.faults now.faults → MayGoOn r w groups [] now → Serves r w most start now (Err WriteFault)
  ends_at_sheet written rose on = record {
    groups = groups;
    lost = [];
    most = all_kept;
    are_groups = are;
    fates = s.fates;
    addressed = s.addressed;
    takes = s.takes;
    carries = s.carries;
    goes = s.disk.goes;
    keeps = keeps_all (Err WriteFault) refl tt;
    writes = written;
    ends = (rose, on);
    peers = s.peers;
  }

-- ---- a group is kept

-- what it does to the devices
pub record KeepsTurns (addresses : List ℕ) (r : Replica) (ts : List (Turn × ℕ)) (mid now : Node) : Type 0 where
  pub sent : SendsPackets (packets_for addresses (sends_of (outputs_from r ts))) mid.port now.port
  pub goes : Goes mid.disk now.disk
  pub adds : IsTrue mid.disk.honest → Adds (group_body (outputs_from r ts)) mid.disk.seen now.disk.seen
  pub left : IsTrue mid.disk.honest → LeavesOnly mid.disk now.disk (IsLeft (bodies_of mid.disk.seen) (group_body (outputs_from r ts)))
  pub fits : IsTrue mid.disk.honest → IsFull mid.disk.seen (group_body (outputs_from r ts)) → ⊥
  pub log : IsTrue now.disk.honest → HasLogOf (replica_after r ts) now.disk.seen
  pub durable : IsTrue now.disk.honest → Only now.disk.seen now.disk.may_leave
  pub clock : now.clock ≡ mid.clock
  pub peers : now.peers ≡ mid.peers

pub group_kept : (r : Replica) (w : Watch) (groups : List Group) (ts : List (Turn × ℕ)) (start mid now : Node) → SoFar r w groups ts start mid →
    KeepsTurns start.peers (replica_after r (kept_turns groups)) ts mid now →
    (fates : List Bool) × SoFar r w (groups ++ (record { turns = ts; fates = fates }) ∷ []) [] start now
group_kept r w groups ts start mid now s k =
    let q : Replica = replica_after r (kept_turns groups) in
    let out = k.sent.out in
    let f = fates_for start.peers (sends_of (outputs_from q ts)) out.missing out.out out.lacks in
    let g : Group = record { turns = ts; fates = f.fates } in
    let all : List Group = groups ++ g ∷ [] in
    let same : kept_turns groups ++ ts ≡ kept_turns all ++ [] = sym (kept_more groups g) ∙ sym (append-nil (kept_turns all)) in
    let carried : Carries start.peers r w (kept_turns groups ++ ts) all start.port now.port =
    carries_group start.peers r w (kept_turns groups ++ ts) groups ts start.port mid.port now.port s.fates out k.sent.framing k.sent.borrowed_as k.sent.empties k.sent.too_long k.sent.faults f s.carries in (
      f.fates,
      record {
        takes = subst (λ (us : List (Turn × ℕ)). Takes r w us start.clock now.clock) same (subst (λ (c : Option Readings). Takes r w (kept_turns groups ++ ts) start.clock c) (sym k.clock) s.takes);
        carries = subst (λ (us : List (Turn × ℕ)). Carries start.peers r w us all start.port now.port) same carried;
        fates = have_fates_more r groups g s.fates f.each;
        addressed = addressed_more start.peers r groups s.fates ts out.missing out.out f s.addressed;
        disk = disk_more r groups g start.disk mid.disk now.disk s.disk k.goes k.adds k.left k.fits k.log k.durable;
        peers = k.peers ∙ s.peers;
      },
    )
