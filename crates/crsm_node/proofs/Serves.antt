-- The turns of a node one after another: the state between two turns, and how they end.
use Rattle.std.proofs.Common.{◌≡◌, ◌≢◌, ◌⊎◌, inl, inr, IsTrue, ℕ, ◌+◌, ◌-◌, ◌<◌, ◌≤◌, List, [], ◌∷◌, ◌++◌, length, refl, sym, ◌∙◌, ap, subst, arith, append_assoc, Bool, false}
use Rattle.std.proofs.lemmas.List.{append-nil, map-append}
use Rattle.std.specs.Prelude.{Option, Some, None, Result, Ok, Err}
use Rattle.std.specs.List.{AllByRecursion}
use Rattle.crsm_clock.specs.Readings.{Readings}
use Rattle.crsm_disk.specs.Meaning.{Meaning as DiskMeaning, Only, Same}
use Rattle.crsm_port_faults.specs.Counts.{Rose}
use Rattle.crsm_io.specs.Streams.{Puts, PutsPrefix}
use Rattle.crsm_spec_process.specs.Groups.{AreGroups, IsClosed, IsDatagram, IsGroup}
use Rattle.crsm_spec_process.specs.Lives.{Group, HaveFates, kept_turns}
use Rattle.crsm_log.specs.Log.{Goes}
use Rattle.crsm_port.specs.Meaning.{Meaning as PortMeaning, Traffic}
use Rattle.crsm_spec.specs.Draft.{Draft}
use Rattle.crsm_spec.specs.Node.{Turn, outputs_from, turn}
use Rattle.crsm_spec.specs.Replica.{Replica}
use Rattle.crsm_replica_io.specs.Outgoing.{packets_for, raised_by}
use Rattle.crsm_replica_detector.specs.Watching.{Watch, watched}
use Rattle.crsm_spec_process.specs.Turns.{gone, not_gone, replica_after}
use Rattle.crsm_replica_detector.specs.Wished.{AreWished, empty_receives, watch_after}
use Rattle.crsm_replica_detector.specs.Detector.{DetectorStands}
use Rattle.crsm_replica_detector.specs.declared.detector.Detector.{Detector}
use Rattle.crsm_shell.specs.declared.shell.Shell.{Shell}
use Rattle.crsm_shell.specs.Flushing.{IsFull, SendsNone, SendsPackets}
use Rattle.crsm_base.specs.Records.{FitsRec}
use Rattle.crsm_shell.specs.Shell.{ShellStands, group_body, records_of, sends_of}
use Rattle.crsm_shell.specs.Words.{disk_of, has_failed, peers_of}
use Rattle.crsm_node.specs.Devices.{Node, node_of}
use Rattle.crsm_node.specs.Kept.{HasBehind, HasLogOf, IsLeftOf, PutInTurn, bodies_in_log}
use Rattle.crsm_node.specs.Received.{BothTell, GivesAll, Passes, datagrams_in}
use Rattle.crsm_node.specs.Sent.{fates_of, handed_out, packets_gone, packets_missing, steps_by_group}
use Rattle.crsm_node.specs.Serving.{Carries, MayGoOn, Serves, Takes, turns_by_group, turns_text, with_lost}
use Rattle.crsm_node.specs.Steps.{FailsToReceive, FailsToTake, IsIdle, KeepsGroup, KeepsSteps, TakesTurn, Took, turn_text}
use Rattle.crsm_node.specs.declared.errors.NodeError.{NodeError}
use Rattle.crsm_node.specs.declared.errors.NodeError.TheVariants as errors
use Rattle.crsm_node.proofs.Disks.{not_begun, runs_no_further}
use Rattle.crsm_node.proofs.Ends.{KeepsTurns, SoFar, ends_at_disk, ends_at_port, ends_at_sheet, ends_full, ends_well, ends_without_memory, group_if, group_kept, groups_with, lost_some}
use Rattle.crsm_node.proofs.Groups.{AreOpen, IsShut, group_of, groups_more, none_open, open_more, shut_more}
use Rattle.crsm_node.proofs.Ports.{both_same, passes_none, raised_none}
use Rattle.crsm_node.proofs.SoFar.{OnDisk, carries_more, goes_then, prefix_more, takes_more, text_more, written_more}
use Rattle.crsm_node.proofs.Turns.{count_more, kept_more, outputs_more, replica_append, replica_more, watch_more}

none_left : (taken most : ℕ) → taken + 1 < most → most - taken - 1 ≡ 0 → ⊥
none_left taken most more last = omega (arith, more, last)

-- ---- a port over which nothing went

carries_idle : (peers : List ℕ) (r : Replica) (w : Watch) (ts : List (Turn × ℕ)) (groups : List Group) (a b c : PortMeaning) → Carries peers r w ts groups a b → IsIdle b c → Carries peers r w ts groups a c
carries_idle peers r w ts groups a b c carries idle =
    let before = carries.faults in
    let after = idle.later in
    record {
      traffic = subst (λ (x : Option Traffic). BothTell (Passes a.framing (datagrams_in ts) (packets_gone peers r groups)) a.traffic x) (sym idle.traffic) carries.traffic;
      empties = subst (λ (k : ℕ). raised_by (empty_receives w r ts) a.empties ≤ k) (sym idle.empties) carries.empties;
      losses = subst (λ (k : ℕ). raised_by (packets_missing peers r groups) a.losses ≤ k) (sym idle.losses) carries.losses;
      too_long = idle.too_long ∙ carries.too_long;
      faults = omega (arith, before, after);
      framing = idle.framing ∙ carries.framing;
      borrowed_as = idle.borrowed_as ∙ carries.borrowed_as;
    }

idle_unsent : (a b : PortMeaning) → SendsNone a b → IsIdle a b
idle_unsent a b none = record {
  traffic = ap (λ (m : PortMeaning). m.traffic) none.same;
  empties = ap (λ (m : PortMeaning). m.empties) none.same;
  losses = ap (λ (m : PortMeaning). m.losses) none.same;
  too_long = ap (λ (m : PortMeaning). m.too_long) none.same;
  later = subst (λ (k : ℕ). a.faults ≤ k) (sym (ap (λ (m : PortMeaning). m.faults) none.same)) (omega arith);
  framing = ap (λ (m : PortMeaning). m.framing) none.same;
  borrowed_as = ap (λ (m : PortMeaning). m.borrowed_as) none.same;
}

disk_same : (r : Replica) (groups : List Group) (a b c : DiskMeaning) → OnDisk r groups a b → Goes b c → Same b c → OnDisk r groups a c
disk_same r groups a b c on goes same = record {
  goes = goes_then a b c on.goes goes;
  put = λ honest. subst (λ (f : List ℕ). PutInTurn (bodies_in_log r (turns_by_group groups)) a.seen f) (sym same.seen) (on.put honest);
  has = λ honest. subst (λ (f : List ℕ). HasBehind a.seen (bodies_in_log r (turns_by_group groups)) f) (sym same.seen) (on.has honest);
  log = λ honest. subst (λ (f : List ℕ). HasLogOf (replica_after r (kept_turns groups)) f) (sym same.seen) (on.log honest);
  durable = λ honest f is. on.durable honest f ((same.images f).0 is) ∙ sym same.seen;
  any_moment = λ honest. runs_no_further a b c (IsLeftOf a.seen (bodies_in_log r (turns_by_group groups))) (on.any_moment honest) same;
}

-- ---- between two calls

-- These turns are pending behind the groups that were kept, and this is the text of their lines.
pub record Pends (r : Replica) (w : Watch) (start now : Node) (text : List ℕ) (groups : List Group) (ts : List (Turn × ℕ)) : Type 0 where
  pub so_far : SoFar r w groups ts start now
  pub wrote : Puts start.sheet now.sheet (turns_text (kept_turns groups))
  pub later : start.faults ≤ now.faults
  pub stands : now.stands (replica_after r (kept_turns groups)).log (replica_after r (kept_turns groups ++ ts)) (outputs_from (replica_after r (kept_turns groups)) ts)
  pub watches : now.watches (replica_after r (kept_turns groups ++ ts)).me (watch_after w (kept_turns groups ++ ts))
  pub text_is : text ≡ turns_text ts

-- the same between two turns, after a number of them
pub record Stage (r : Replica) (w : Watch) (start now : Node) (text : List ℕ) (taken most : ℕ) : Type 0 where
  pub groups : List Group
  pub ts : List (Turn × ℕ)
  pub pends : Pends r w start now text groups ts
  pub is_open : AreOpen ts
  pub are_groups : AreGroups (turns_by_group groups)
  pub shut : taken < most → AllByRecursion IsShut (turns_by_group groups)
  pub ended : taken ≡ most → ts ≡ []
  pub count : length (kept_turns groups ++ ts) ≡ taken

-- ---- the beginning

puts_none : (a : Option (List ℕ)) → Puts a a []
puts_none None = refl
puts_none (Some had) = ap Some (sym (append-nil had))

starts : {C P D O : Type 0} {g : _} (disk : D → DiskMeaning) (port : P → PortMeaning) (clock : C → Option Readings) (written : O → Option (List ℕ)) (faults : O → ℕ) (r : Replica) (w : Watch) (s : Shell D g) (d : Detector) (p : P) (c : C) (o : O) → (IsTrue (disk (disk_of s)).honest → HasBehind (disk (disk_of s)).seen [] (disk (disk_of s)).seen) →
    (IsTrue (disk (disk_of s)).honest → Only (disk (disk_of s)).seen (disk (disk_of s)).may_leave) → (IsTrue (disk (disk_of s)).honest → HasLogOf r (disk (disk_of s)).seen) → SoFar r w [] [] (node_of disk port clock written faults s d p c o) (node_of disk port clock written faults s d p c o)
unfolding kept_turns AreWished GivesAll datagrams_in packets_gone packets_missing handed_out fates_of gone not_gone sends_of outputs_from packets_for empty_receives HaveFates bodies_in_log steps_by_group PutInTurn replica_after
starts disk port clock written faults r w s d p c o has only logged = record {
  takes = record { wished = tt; can_be = tt; readings = refl };
  carries = record {
    traffic = both_same (Passes (port p).framing [] []) (port p).traffic (passes_none (port p).framing);
    empties = raised_none (port p).empties (port p).empties (omega arith);
    losses = raised_none (port p).losses (port p).losses (omega arith);
    too_long = refl;
    faults = omega arith;
    framing = refl;
    borrowed_as = refl;
  };
  fates = tt;
  addressed = tt;
  disk = record {
    goes = record { honest = refl; fill = refl; borrowed_as = refl; later = omega arith };
    put = λ honest. refl;
    has = has;
    log = logged;
    durable = only;
    any_moment = λ honest. not_begun (disk (disk_of s)) (disk (disk_of s)).seen (has honest) (only honest);
  };
  peers = refl;
}

pub begins : {C P D O : Type 0} {g : _} (disk : D → DiskMeaning) (port : P → PortMeaning) (clock : C → Option Readings) (written : O → Option (List ℕ)) (faults : O → ℕ) (r : Replica) (w : Watch) (s : Shell D g) (d : Detector) (p : P) (c : C) (o : O) (text : List ℕ) (most : ℕ) → (IsTrue (disk (disk_of s)).honest → HasBehind (disk (disk_of s)).seen [] (disk (disk_of s)).seen) →
    (IsTrue (disk (disk_of s)).honest → Only (disk (disk_of s)).seen (disk (disk_of s)).may_leave) → (IsTrue (disk (disk_of s)).honest → HasLogOf r (disk (disk_of s)).seen) → ShellStands s (disk (disk_of s)) r.log r [] → DetectorStands d r.me w → text ≡ [] →
    Stage r w (node_of disk port clock written faults s d p c o) (node_of disk port clock written faults s d p c o) text 0 most
unfolding kept_turns replica_after watch_after outputs_from turns_text
begins disk port clock written faults r w s d p c o text most has only logged stands watches none = record {
  groups = [];
  ts = [];
  pends = record { so_far = starts disk port clock written faults r w s d p c o has only logged; wrote = puts_none (written o); later = omega arith; stands = stands; watches = watches; text_is = none };
  is_open = none_open;
  are_groups = tt;
  shut = λ _. tt;
  ended = λ _. refl;
  count = refl;
}

-- ---- a turn

module _ {C P D O : Type 0} {g : _} (disk : D → DiskMeaning) (port : P → PortMeaning) (clock : C → Option Readings) (written : O → Option (List ℕ)) (faults : O → ℕ)
    (r : Replica) (w : Watch) (start : Node) (s s' : Shell D g) (d d' : Detector) (p p' : P) (c c' : C) (o : O) (text printed : List ℕ) (groups : List Group) (ts : List (Turn × ℕ))
    (now : Pends r w start (node_of disk port clock written faults s d p c o) text groups ts) (same_disk : disk_of s' ≡ disk_of s) (same_peers : peers_of s' ≡ peers_of s) where
  abbrev kept : List (Turn × ℕ)
  kept = kept_turns groups

  abbrev all : List (Turn × ℕ)
  all = kept ++ ts

  abbrev q : Replica
  q = replica_after r kept

  -- one turn more was taken off the devices
  more_so_far : (t : Turn × ℕ) → Took (replica_after r all) (watch_after w all) t (clock c) (clock c') (port p) (port p') → SoFar r w groups (ts ++ t ∷ []) start (node_of disk port clock written faults s' d' p' c' o)
  more_so_far t k =
      let same = append_assoc kept ts (t ∷ []) in
      let was = now.so_far in record {
        takes = subst (λ (us : List (Turn × ℕ)). Takes r w us start.clock (clock c')) same (takes_more r w all t start.clock (clock c) (clock c') was.takes k.fulfils k.can_be k.gives);
        carries = subst (λ (us : List (Turn × ℕ)). Carries start.peers r w us groups start.port (port p')) same (carries_more start.peers r w all t groups start.port (port p) (port p') was.carries k.off);
        fates = was.fates;
        addressed = was.addressed;
        disk = subst (λ (x : D). OnDisk r groups start.disk (disk x)) (sym same_disk) was.disk;
        peers = same_peers ∙ was.peers;
      }

  pub turn_taken : (b : Bool) (k : TakesTurn s' (disk (disk_of s')) d' (clock c) (clock c') (port p) (port p') text printed b q.log (replica_after r all) (outputs_from q ts) (watch_after w all)) →
      Pends r w start (node_of disk port clock written faults s' d' p' c' o) printed groups (ts ++ k.t ∷ [])
  turn_taken b k =
      let t = k.t in
      let assoc = append_assoc kept ts (t ∷ []) in
      let replica : replica_after r (kept ++ (ts ++ t ∷ [])) ≡ (turn (replica_after r all) t).replica = ap (replica_after r) (sym assoc) ∙ replica_more r all t in
      let watch : watch_after w (kept ++ (ts ++ t ∷ [])) ≡ watched (watch_after w all) t = ap (watch_after w) (sym assoc) ∙ watch_more w all t in
      let steps : outputs_from q (ts ++ t ∷ []) ≡ outputs_from q ts ++ turn (replica_after r all) t ∷ [] =
      outputs_more q ts t ∙ ap (λ (x : Replica). outputs_from q ts ++ turn x t ∷ []) (sym (replica_append r kept ts)) in
      let m = disk (disk_of s') in
      let stands = subst (λ (x : Replica). ShellStands s' m q.log x (outputs_from q ts ++ turn (replica_after r all) t ∷ [])) (sym replica) k.stands in
      let watches = subst (λ (x : Replica). DetectorStands d' x.me (watched (watch_after w all) t)) (sym replica) k.watches in
      record {
        so_far = more_so_far t k.took;
        wrote = now.wrote;
        later = now.later;
        stands = subst (λ (xs : List Draft). ShellStands s' m q.log (replica_after r (kept ++ (ts ++ t ∷ []))) xs) (sym steps) stands;
        watches = subst (λ (x : Watch). DetectorStands d' (replica_after r (kept ++ (ts ++ t ∷ []))).me x) (sym watch) watches;
        text_is = k.prints ∙ ap (λ (x : List ℕ). x ++ turn_text t) now.text_is ∙ sym (text_more ts t);
      }

  -- nothing was taken off the devices
  still : (clock c' ≡ clock c) → IsIdle (port p) (port p') → SoFar r w groups ts start (node_of disk port clock written faults s' d' p' c' o)
  still unread idle =
      let was = now.so_far in record {
        takes = subst (λ (x : Option Readings). Takes r w all start.clock x) (sym unread) was.takes;
        carries = carries_idle start.peers r w all groups start.port (port p) (port p') was.carries idle;
        fates = was.fates;
        addressed = was.addressed;
        disk = subst (λ (x : D). OnDisk r groups start.disk (disk x)) (sym same_disk) was.disk;
        peers = same_peers ∙ was.peers;
      }

  -- a receive failed
  pub port_failed : FailsToReceive s' (disk (disk_of s')) d' (clock c) (clock c') (port p) (port p') text printed q.log (replica_after r all) (outputs_from q ts) (watch_after w all) →
      Pends r w start (node_of disk port clock written faults s' d' p' c' o) printed groups ts
  port_failed k = record {
    so_far = still k.unread k.idle;
    wrote = now.wrote;
    later = now.later;
    stands = k.stands;
    watches = k.watches;
    text_is = k.unprinted ∙ now.text_is;
  }

  pub port_rose : FailsToReceive s' (disk (disk_of s')) d' (clock c) (clock c') (port p) (port p') text printed q.log (replica_after r all) (outputs_from q ts) (watch_after w all) →
      Rose start.port.faults (port p').faults
  port_rose k =
      let before = now.so_far.carries.faults in
      let rose = k.fault in
      omega (arith, before, rose)

  -- memory ran out
  pub take_ends : (most : ℕ) → AreOpen ts → AllByRecursion IsShut (turns_by_group groups) → length all < most → (why : NodeError) → (why ≡ errors.PortFault → ⊥) →
      FailsToTake s' (disk (disk_of s')) d' (clock c) (clock c') (port p) (port p') text printed q.log (replica_after r all) (outputs_from q ts) (watch_after w all) why →
      Serves r w most start (node_of disk port clock written faults s' d' p' c' o) (Err why)
  take_ends most is_open shut few errors.PortFault other k = absurd (other refl)
  take_ends most is_open shut few errors.NoMemory other (inl k) =
      ends_without_memory r w most groups ts start (node_of disk port clock written faults s' d' p' c' o) (still k.0 k.1) now.wrote (omega (arith, few)) (groups_with groups ts shut (group_if ts is_open))
  take_ends most is_open shut few errors.NoMemory other (inr k) =
      let t = k.0 in
      let count : length (kept ++ (ts ++ t ∷ [])) ≡ length all + 1 = ap (λ (us : List (Turn × ℕ)). length us) (sym (append_assoc kept ts (t ∷ []))) ∙ count_more all t in
      ends_without_memory r w most groups (ts ++ t ∷ []) start (node_of disk port clock written faults s' d' p' c' o) (more_so_far t k.1) now.wrote (omega (arith, few, count)) (groups_with groups (ts ++ t ∷ []) shut (λ _. group_of ts t is_open))
  take_ends most is_open shut few errors.DiskFault other k = absurd k
  take_ends most is_open shut few errors.LogFull other k = absurd k
  take_ends most is_open shut few errors.WriteFault other k = absurd k
  take_ends most is_open shut few errors.Failed other k = absurd k

-- ---- a group

module _ {C P D O : Type 0} {g : _} (disk : D → DiskMeaning) (port : P → PortMeaning) (clock : C → Option Readings) (written : O → Option (List ℕ)) (faults : O → ℕ)
    (r : Replica) (w : Watch) (start : Node) (s s' : Shell D g) (d : Detector) (p p' : P) (c : C) (o o' : O) (text : List ℕ) (groups : List Group) (ts : List (Turn × ℕ))
    (now : Pends r w start (node_of disk port clock written faults s d p c o) text groups ts) (goes : Goes (disk (disk_of s)) (disk (disk_of s'))) (same_peers : peers_of s' ≡ peers_of s) (later : faults o ≤ faults o')
    (durable : has_failed s' ≡ false → IsTrue (disk (disk_of s')).honest → Only (disk (disk_of s')).seen (disk (disk_of s')).may_leave) where
  abbrev before : List (Turn × ℕ)
  before = kept_turns groups

  abbrev every : List (Turn × ℕ)
  every = before ++ ts

  abbrev k : Replica
  k = replica_after r before

  abbrev with_fates : List Bool → List Group
  with_fates fates = groups ++ (record { turns = ts; fates = fates }) ∷ []

  kept_log : (q : Replica) → ShellStands s' (disk (disk_of s')) q.log q [] → IsTrue (disk (disk_of s')).honest → HasLogOf q (disk (disk_of s')).seen
  unfolding ShellStands
  kept_log q stands honest = stands.file honest

  not_failed : (q : Replica) → ShellStands s' (disk (disk_of s')) q.log q [] → has_failed s' ≡ false
  unfolding ShellStands
  not_failed q stands = stands.well

  keeps_turns : KeepsSteps disk s s' (port p) (port p') (replica_after r every) (outputs_from k ts) → KeepsTurns start.peers k ts (node_of disk port clock written faults s d p c o) (node_of disk port clock written faults s' d p' c o')
  keeps_turns h = record {
    sent = subst (λ (ps : List ℕ). SendsPackets (packets_for ps (sends_of (outputs_from k ts))) (port p) (port p')) now.so_far.peers h.sent;
    goes = goes;
    adds = h.added;
    left = h.left;
    fits = h.fits;
    log = λ honest. subst (λ (q : Replica). HasLogOf q (disk (disk_of s')).seen) (replica_append r before ts) (kept_log (replica_after r every) h.stands honest);
    durable = durable (not_failed (replica_after r every) h.stands);
    clock = refl;
    peers = same_peers;
  }

  -- the steps are kept, and the node goes on
  kept_on : KeepsSteps disk s s' (port p) (port p') (replica_after r every) (outputs_from k ts) →
      (fates : List Bool) × SoFar r w (with_fates fates) [] start (node_of disk port clock written faults s' d p' c o') × MayGoOn r w (with_fates fates) [] (node_of disk port clock written faults s' d p' c o')
  kept_on h =
      let on = group_kept r w groups ts start (node_of disk port clock written faults s d p c o) (node_of disk port clock written faults s' d p' c o') now.so_far (keeps_turns h) in
      let same = sym (kept_more groups (record { turns = ts; fates = on.0 })) in (
        on.0,
        on.1,
        record {
          none_lost = refl;
          stands = subst (λ (us : List (Turn × ℕ)). ShellStands s' (disk (disk_of s')) (replica_after r us).log (replica_after r us) []) same h.stands;
          watches = subst (λ (us : List (Turn × ℕ)). DetectorStands d (replica_after r us).me (watch_after w us)) same now.watches;
        },
      )

  pub kept_well : (cleared : List ℕ) → cleared ≡ [] → KeepsSteps disk s s' (port p) (port p') (replica_after r every) (outputs_from k ts) → Puts (written o) (written o') text →
      (fates : List Bool) × Pends r w start (node_of disk port clock written faults s' d p' c o') cleared (with_fates fates) []
  unfolding outputs_from turns_text
  kept_well cleared none h put =
      let on = kept_on h in
      let groups' = with_fates on.0 in
      let kept' = kept_turns groups' in
      let same : kept' ≡ kept' ++ [] = sym (append-nil kept') in
      let m = on.2 in
      let was = now.later in (
        on.0,
        record {
          so_far = on.1;
          wrote = written_more start.sheet (written o) (written o') groups (record { turns = ts; fates = on.0 }) now.wrote (subst (λ (x : List ℕ). Puts (written o) (written o') x) now.text_is put);
          later = omega (arith, was, later);
          stands = subst (λ (us : List (Turn × ℕ)). ShellStands s' (disk (disk_of s')) (replica_after r kept').log (replica_after r us) []) same m.stands;
          watches = subst (λ (us : List (Turn × ℕ)). DetectorStands d (replica_after r us).me (watch_after w us)) same m.watches;
          text_is = none;
        },
      )

  -- nothing was sent, and the disk is as it was
  untouched : SendsNone (port p) (port p') → Same (disk (disk_of s)) (disk (disk_of s')) → SoFar r w groups ts start (node_of disk port clock written faults s' d p' c o')
  untouched unsent same =
      let was = now.so_far in record {
        takes = was.takes;
        carries = carries_idle start.peers r w every groups start.port (port p) (port p') was.carries (idle_unsent (port p) (port p') unsent);
        fates = was.fates;
        addressed = was.addressed;
        disk = disk_same r groups start.disk (disk (disk_of s)) (disk (disk_of s')) was.disk goes same;
        peers = same_peers ∙ was.peers;
      }

  -- the records that are pending have an encoding
  pending_spelt : AllByRecursion FitsRec (records_of (outputs_from k ts))
  unfolding ShellStands
  pending_spelt = now.stands.spelt

  -- the group is not kept, or its lines are not written
  pub keep_ends : (most : ℕ) → ts ≢ [] → AreGroups (with_lost (turns_by_group groups) ts) → length every ≤ most → (result : Result (Unit {0}) NodeError) → (result ≡ Ok tt → ⊥) →
      KeepsGroup disk s s' (port p) (port p') (written o) (written o') (faults o) (faults o') text (replica_after r every) (outputs_from k ts) result → Serves r w most start (node_of disk port clock written faults s' d p' c o') result
  keep_ends most some are few (Ok tt) other h = absurd (other refl)
  keep_ends most some are few (Err errors.PortFault) other h = absurd h
  keep_ends most some are few (Err errors.Failed) other h = absurd h
  keep_ends most some are few (Err errors.WriteFault) other h =
      let on = kept_on h.0 in
      let g' : Group = record { turns = ts; fates = on.0 } in
      let grouped : AreGroups (turns_by_group (with_fates on.0)) =
      subst AreGroups (lost_some (turns_by_group groups) ts some ∙ sym (map-append (λ (x : Group). x.turns) groups (g' ∷ []))) are in
      let was = now.later in
      let rose = h.1.rose in
      ends_at_sheet r w most (with_fates on.0) start (node_of disk port clock written faults s' d p' c o') on.1 (subst (λ (us : List (Turn × ℕ)). length us ≤ most) (sym (kept_more groups g')) few) grouped
      (prefix_more start.sheet (written o) (written o') groups g' now.wrote (subst (λ (x : List ℕ). PutsPrefix (written o) (written o') x) now.text_is h.1.prefix)) (omega (arith, was, rose)) on.2
  keep_ends most some are few (Err errors.DiskFault) other h =
      ends_at_disk r w most groups ts start (node_of disk port clock written faults s d p c o) (node_of disk port clock written faults s' d p' c o') now.so_far now.wrote few are some refl
      (carries_idle start.peers r w every groups start.port (port p) (port p') now.so_far.carries (idle_unsent (port p) (port p') h.0.unsent)) h.0.unwritten same_peers goes h.1.fault h.1.left h.1.fits pending_spelt
  keep_ends most some are few (Err errors.LogFull) other h =
      ends_full r w most groups ts start (node_of disk port clock written faults s' d p' c o') (untouched h.0.unsent h.1.same) (subst (λ (x : Option (List ℕ)). Puts start.sheet x (turns_text before)) (sym h.0.unwritten) now.wrote) few are
      (λ honest. subst (λ (f : List ℕ). IsFull f (group_body (outputs_from k ts))) (sym h.1.same.seen) (h.1.full (subst IsTrue (sym now.so_far.disk.goes.honest) honest)))
  keep_ends most some are few (Err errors.NoMemory) other h =
      ends_without_memory r w most groups ts start (node_of disk port clock written faults s' d p' c o') (untouched h.0.unsent h.1) (subst (λ (x : Option (List ℕ)). Puts start.sheet x (turns_text before)) (sym h.0.unwritten) now.wrote) few are

  -- a receive had failed, and all turns are kept
  pub port_ends_kept : (most : ℕ) → ts ≢ [] → AreGroups (with_lost (turns_by_group groups) ts) → length every ≤ most → Rose start.port.faults (port p).faults →
      KeepsSteps disk s s' (port p) (port p') (replica_after r every) (outputs_from k ts) → Puts (written o) (written o') text → Serves r w most start (node_of disk port clock written faults s' d p' c o') (Err errors.PortFault)
  port_ends_kept most some are few rose h put =
      let on = kept_on h in
      let g' : Group = record { turns = ts; fates = on.0 } in
      ends_at_port r w most (with_fates on.0) start (node_of disk port clock written faults s' d p' c o') on.1 (subst (λ (us : List (Turn × ℕ)). length us ≤ most) (sym (kept_more groups g')) few)
      (subst AreGroups (lost_some (turns_by_group groups) ts some ∙ sym (map-append (λ (x : Group). x.turns) groups (g' ∷ []))) are)
      (written_more start.sheet (written o) (written o') groups g' now.wrote (subst (λ (x : List ℕ). Puts (written o) (written o') x) now.text_is put))
      (subst (λ (n : ℕ). Rose start.port.faults n) (sym h.sent.faults) rose) on.2

-- ---- the end

pub goes_on : (r : Replica) (w : Watch) (start now : Node) (text : List ℕ) (groups : List Group) → Pends r w start now text groups [] → MayGoOn r w groups [] now
unfolding outputs_from
goes_on r w start now text groups h =
    let kept = kept_turns groups in
    let same = append-nil kept in
    record {
      none_lost = refl;
      stands = subst (λ (us : List (Turn × ℕ)). now.stands (replica_after r kept).log (replica_after r us) []) same h.stands;
      watches = subst (λ (us : List (Turn × ℕ)). now.watches (replica_after r us).me (watch_after w us)) same h.watches;
    }

-- all turns were taken
pub stage_ends : (r : Replica) (w : Watch) (start now : Node) (text : List ℕ) (taken most : ℕ) → Stage r w start now text taken most → taken ≡ most → Serves r w most start now (Ok tt)
stage_ends r w start now text taken most s is =
    let none = s.ended is in
    let count : length (kept_turns s.groups) ≡ taken = sym (ap (λ (us : List (Turn × ℕ)). length us) (ap (λ (us : List (Turn × ℕ)). kept_turns s.groups ++ us) none ∙ append-nil (kept_turns s.groups))) ∙ s.count in
    let h : Pends r w start now text s.groups [] = subst (λ (us : List (Turn × ℕ)). Pends r w start now text s.groups us) none s.pends in
    ends_well r w most s.groups start now h.so_far (omega (arith, count, is)) s.are_groups h.wrote (omega (arith, count, is)) (goes_on r w start now text s.groups h)

-- a turn was taken, and others may be kept with it
pub stage_goes_on : (r : Replica) (w : Watch) (start now next : Node) (text printed : List ℕ) (taken most : ℕ) (s : Stage r w start now text taken most) → taken < most → (t : Turn × ℕ) →
    Pends r w start next printed s.groups (s.ts ++ t ∷ []) → IsDatagram t → length (s.ts ++ t ∷ []) < 256 → most - taken - 1 ≢ 0 → Stage r w start next printed (taken + 1) most
stage_goes_on r w start now next text printed taken most s below t h is few left =
    let kept = kept_turns s.groups in
    let was = s.count in
    let count : length (kept ++ (s.ts ++ t ∷ [])) ≡ length (kept ++ s.ts) + 1 = ap (λ (us : List (Turn × ℕ)). length us) (sym (append_assoc kept s.ts (t ∷ []))) ∙ count_more (kept ++ s.ts) t in
    record {
      groups = s.groups;
      ts = s.ts ++ t ∷ [];
      pends = h;
      is_open = open_more s.ts t s.is_open is few;
      are_groups = s.are_groups;
      shut = λ _. s.shut below;
      ended = λ is. absurd (left (omega (arith, is)));
      count = omega (arith, count, was);
    }

-- a turn was taken, and the group that ends with it is kept
pub stage_keeps : (r : Replica) (w : Watch) (start now next : Node) (text printed : List ℕ) (taken most : ℕ) (s : Stage r w start now text taken most) → taken < most → (t : Turn × ℕ) → (fates : List Bool) →
    Pends r w start next printed (s.groups ++ (record { turns = s.ts ++ t ∷ []; fates = fates }) ∷ []) [] → ((IsDatagram t → ⊥) ⊎ ((most - taken - 1 ≡ 0) ⊎ (256 ≤ length (s.ts ++ t ∷ [])))) →
    Stage r w start next printed (taken + 1) most
stage_keeps r w start now next text printed taken most s below t fates h why =
    let kept = kept_turns s.groups in
    let g' : Group = record { turns = s.ts ++ t ∷ []; fates = fates } in
    let all = s.groups ++ g' ∷ [] in
    let was = s.count in
    let group : IsGroup (s.ts ++ t ∷ []) = group_of s.ts t s.is_open in
    let gathered : turns_by_group s.groups ++ (s.ts ++ t ∷ []) ∷ [] ≡ turns_by_group all = sym (map-append (λ (x : Group). x.turns) s.groups (g' ∷ [])) in
    let most_open = s.is_open.few in
    let one = count_more s.ts t in
    let closed : taken + 1 < most → IsClosed group = λ more. elim why [ inl other ↦ inr other | inr (inl last) ↦ absurd (none_left taken most more last) | inr (inr many) ↦ inl (omega (arith, many, most_open, one)) ] in
    let count : length (kept_turns all ++ []) ≡ length (kept ++ s.ts) + 1 =
    ap (λ (us : List (Turn × ℕ)). length us) (append-nil (kept_turns all) ∙ kept_more s.groups g' ∙ sym (append_assoc kept s.ts (t ∷ []))) ∙ count_more (kept ++ s.ts) t in
    record {
      groups = all;
      ts = [];
      pends = h;
      is_open = none_open;
      are_groups = subst AreGroups gathered (groups_more (turns_by_group s.groups) (s.ts ++ t ∷ []) (s.shut below) group);
      shut = λ more. subst (λ (gs : List (List (Turn × ℕ))). AllByRecursion IsShut gs) gathered (shut_more (turns_by_group s.groups) (s.ts ++ t ∷ []) (s.shut below) (group, closed more));
      ended = λ _. refl;
      count = omega (arith, count, was);
    }

-- a receive had failed, and no turn was pending
pub port_ends : (r : Replica) (w : Watch) (start now : Node) (text : List ℕ) (groups : List Group) (ts : List (Turn × ℕ)) (most : ℕ) → Pends r w start now text groups ts → ts ≡ [] → AreGroups (turns_by_group groups) →
    length (kept_turns groups ++ ts) ≤ most → Rose start.port.faults now.port.faults → Serves r w most start now (Err errors.PortFault)
port_ends r w start now text groups ts most pends none are few rose =
    let h : Pends r w start now text groups [] = subst (λ (us : List (Turn × ℕ)). Pends r w start now text groups us) none pends in
    let less : length (kept_turns groups) ≤ most = subst (λ (us : List (Turn × ℕ)). length us ≤ most) (ap (λ (us : List (Turn × ℕ)). kept_turns groups ++ us) none ∙ append-nil (kept_turns groups)) few in
    ends_at_port r w most groups start now h.so_far less are h.wrote rose (goes_on r w start now text groups h)

-- what is known of an error is known of the result that carries it
pub serves_err : (r : Replica) (w : Watch) (most : ℕ) (start now : Node) (result : Result (Unit {0}) NodeError) (e why : NodeError) → result ≡ Err e → e ≡ why → Serves r w most start now (Err why) → Serves r w most start now result
serves_err r w most start now result e why is same h = subst (λ (x : Result (Unit {0}) NodeError). Serves r w most start now x) (sym is) (subst (λ (x : NodeError). Serves r w most start now (Err x)) (sym same) h)
