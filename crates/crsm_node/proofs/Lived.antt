-- One process of a node, from its claim and its boot to its last turn.
use Rattle.std.proofs.Common.{◌≡◌, inl, inr, IsTrue, ℕ, ◌≤◌, List, [], ◌∷◌, ◌++◌, length, map, true, refl, sym, ◌∙◌, ap, subst, arith, append_assoc}
use Rattle.std.proofs.lemmas.Grind.{flat_map-append}
use Rattle.std.specs.Prelude.{Option, Result, Ok, Err}
use Rattle.crsm_disk.specs.Meaning.{LeavesOnly, Meaning, Only}
use Rattle.crsm_io.specs.Streams.{Puts, PutsPrefix}
use Rattle.crsm_ledger.specs.Recovered.{AreKept}
use Rattle.crsm_spec_process.specs.Groups.{AreGroups}
use Rattle.crsm_spec_process.specs.Lives.{Group, HaveFates, Life, kept_turns}
use Rattle.crsm_log.specs.Claim.{Claims, IsClaimedOrBefore}
use Rattle.crsm_log.specs.Format.{bodies_in, bodies_of, found, reading}
use Rattle.crsm_text_sheet.specs.declared.line.SheetLine.{SheetLine}
use Rattle.crsm_text_sheet.specs.Grammar.{sheet_line_text}
use Rattle.crsm_text_sheet.specs.Sheets.{entry_line, sheet_of, sheet_text, turn_line}
use Rattle.crsm_clock.specs.Readings.{Readings}
use Rattle.crsm_port.specs.Meaning.{Meaning as PortMeaning}
use Rattle.crsm_log.specs.Log.{Goes}
use Rattle.crsm_replica_detector.specs.Watching.{Watch, unwatched}
use Rattle.crsm_spec_process.specs.Turns.{gone, not_gone, replica_after}
use Rattle.crsm_replica_detector.specs.Wished.{AreWished, empty_receives}
use Rattle.crsm_replica_io.specs.Outgoing.{packets_for}
use Rattle.crsm_spec.specs.Log.{Log}
use Rattle.crsm_spec.specs.Node.{Turn, outputs_from}
use Rattle.crsm_spec.specs.Replica.{Replica}
use Rattle.crsm_shell.specs.Booting.{HasBoot, IsLeftByBoot, boot_body}
use Rattle.crsm_shell.specs.Flushing.{IsFull}
use Rattle.crsm_shell.specs.Shell.{HasLog, group_body, sends_of}
use Rattle.crsm_node.specs.Kept.{HasBehind, HasLogOf, IsLeftOf, PutInTurn, bodies_in_log}
use Rattle.crsm_node.specs.Received.{GivesAll, Passes, datagrams_in}
use Rattle.crsm_node.specs.Devices.{Node}
use Rattle.crsm_node.specs.Order.{peers_in}
use Rattle.crsm_node.specs.Running.{Devices, EndsLife, IsLeftAtStart, IsLeftInLife, KeepsLife, RunsLife, WritesLife, booted, end_of, opening_text, unlent_disk, unlent_port}
use Rattle.crsm_node.specs.Sent.{AreAddressed, fates_of, handed_out, packets_gone, packets_missing, sends_from, steps_by_group}
use Rattle.crsm_node.specs.Serving.{Carries, Ends, IsLeftAtEnd, Keeps, StopsAt, Takes, Writes, maybe_kept, turns_by_group, turns_text, with_lost}
use Rattle.crsm_node.specs.declared.errors.NodeEnd.{NodeEnd}
use Rattle.crsm_node.specs.declared.errors.NodeError.{NodeError}
use Rattle.crsm_node.specs.declared.errors.NodeError.TheVariants as errors
use Rattle.crsm_node.specs.declared.order.NodeOrder.{NodeOrder}
use Rattle.crsm_node.proofs.Disks.{not_begun, runs_on, synced_now}
use Rattle.crsm_node.proofs.Ends.{all_synced}
use Rattle.crsm_node.proofs.Ports.{both_same, passes_none, raised_none}
use Rattle.crsm_node.proofs.SoFar.{puts_then}
use Rattle.crsm_node.proofs.Starts.{boot_mine, boot_of, same_bodies, same_log, start_run, unlent_goes, unlent_run}
use Rattle.crsm_node.proofs.Turns.{same_replica}

-- ---- the sheet

-- the sheet of turns behind its first lines
sheet_cut : (bodies : List (List ℕ)) (turns : List (Turn × ℕ)) → sheet_text (sheet_of bodies turns) ≡ opening_text bodies ++ turns_text turns
unfolding sheet_of turns_text
sheet_cut bodies turns =
    ap sheet_text (sym (append_assoc (map entry_line bodies) (SheetLine.Open ∷ []) (map turn_line turns)))
    ∙ flat_map-append (λ (l : SheetLine). sheet_line_text l ++ 10 ∷ []) (map entry_line bodies ++ SheetLine.Open ∷ []) (map turn_line turns)

puts_sheet : (bodies : List (List ℕ)) (turns : List (Turn × ℕ)) (a b c : Option (List ℕ)) → Puts a b (opening_text bodies) → Puts b c (turns_text turns) → Puts a c (sheet_text (sheet_of bodies turns))
puts_sheet bodies turns a b c one two = subst (λ (x : List ℕ). Puts a c x) (sym (sheet_cut bodies turns)) (puts_then a b c (opening_text bodies) (turns_text turns) one two)

pub life_writes : (bodies : List (List ℕ)) (life : Life) (a b c : Option (List ℕ)) (result : Result (Unit {0}) NodeError) → Puts a b (opening_text bodies) → Writes life.groups b c result → WritesLife bodies life a c result
life_writes bodies life a b c (Ok x) one two = puts_sheet bodies (kept_turns life.groups) a b c one two
life_writes bodies life a b c (Err errors.WriteFault) one two = record {
  prefix = opening_text bodies ++ two.prefix;
  rest = two.rest;
  cut = sheet_cut bodies (kept_turns life.groups) ∙ ap (λ (x : List ℕ). opening_text bodies ++ x) two.cut ∙ sym (append_assoc (opening_text bodies) two.prefix two.rest);
  put = puts_then a b c (opening_text bodies) two.prefix one two.put;
}
life_writes bodies life a b c (Err errors.NoMemory) one two = inl (puts_sheet bodies (kept_turns life.groups) a b c one two)
life_writes bodies life a b c (Err errors.PortFault) one two = puts_sheet bodies (kept_turns life.groups) a b c one two
life_writes bodies life a b c (Err errors.DiskFault) one two = puts_sheet bodies (kept_turns life.groups) a b c one two
life_writes bodies life a b c (Err errors.LogFull) one two = puts_sheet bodies (kept_turns life.groups) a b c one two
life_writes bodies life a b c (Err errors.Failed) one two = puts_sheet bodies (kept_turns life.groups) a b c one two

-- ---- the disk

-- a file's log is one
abbrev pub LogsAreOne : Type 0
LogsAreOne = (me n : ℕ) (file : List ℕ) (a b : Log) → HasLog me n file a → HasLog me n file b → a ≡ b

module _ (order : NodeOrder) (life : Life) (m n o p : Meaning) (result : Result (Unit {0}) NodeError) (bodies : List (List ℕ)) (logs : LogsAreOne)
    (claimed : Claims m n order.cluster) (first : LeavesOnly m n (IsClaimedOrBefore m order.cluster)) (reads : reading n.seen ≡ found bodies) (kept : AreKept order.me order.n [] bodies life.found)
    (room : IsFull n.seen (boot_body order.me order.n life.found) → ⊥) (added : reading o.seen ≡ found (bodies ++ boot_body order.me order.n life.found ∷ [])) (second : LeavesOnly n o (IsLeftByBoot order.me order.n n))
    (keeps : Keeps (booted order life.found) life.groups life.lost o p result) where
  abbrev boot : List ℕ
  boot = boot_body order.me order.n life.found

  found_in : bodies_of m.seen ≡ bodies
  found_in = ap bodies_in (sym claimed.bodies ∙ reads)

  log_in : HasLog order.me order.n m.seen life.found
  unfolding HasLog
  log_in =
      let same = sym found_in in
      record { whole = sym claimed.bodies ∙ reads ∙ ap found same; kept = subst (λ (xs : List (List ℕ)). AreKept order.me order.n [] xs life.found) same kept }

  begun : HasBehind m.seen (boot ∷ []) o.seen
  begun = added ∙ ap (λ (xs : List (List ℕ)). found (xs ++ boot ∷ [])) (sym found_in)

  boot_in : bodies_of o.seen ≡ bodies_of m.seen ++ boot ∷ []
  boot_in = ap bodies_in begun

  -- the bodies behind the boot's
  behind : (gs : List (List ℕ)) (file : List ℕ) → HasBehind o.seen gs file → HasBehind m.seen (boot ∷ gs) file
  behind gs file h = h ∙ ap (λ (xs : List (List ℕ)). found (xs ++ gs)) boot_in ∙ ap found (append_assoc (bodies_of m.seen) (boot ∷ []) gs)

  abbrev ours : List (List ℕ)
  ours = bodies_in_log (booted order life.found) (maybe_kept life.groups life.lost result)

  at_start : (file : List ℕ) → IsLeftAtStart order m file → IsLeftInLife order life m result file
  at_start file (inl was) = inl was
  at_start file (inr h) = inr (record {
    prefix = boot ∷ [];
    of = (ours, refl);
    has = behind_claim h.0 file h.1 h.2;
  })
    where
      behind_claim : (claimed_file file : List ℕ) → reading claimed_file ≡ reading m.seen → HasBoot order.me order.n claimed_file file → HasBehind m.seen (boot ∷ []) file
      behind_claim claimed_file file same b =
          b.3 ∙ ap (λ (xs : List (List ℕ)). found (xs ++ boot_body order.me order.n b.0 ∷ [])) (same_bodies claimed_file m.seen same)
          ∙ ap (λ (log : Log). found (bodies_of m.seen ++ boot_body order.me order.n log ∷ [])) (logs order.me order.n m.seen b.0 life.found (same_log order claimed_file m.seen b.0 same b.1) log_in)

  in_turns : (file : List ℕ) → IsLeftOf o.seen ours file → IsLeftInLife order life m result file
  in_turns file h = inr (record { prefix = boot ∷ h.prefix; of = (h.of.0, ap (λ (xs : List (List ℕ)). boot ∷ xs) h.of.1); has = behind h.prefix file h.has })

  logged : HasLog order.me order.n keeps.file (replica_after (booted order life.found) (kept_turns life.groups)).log
  logged =
      let q = replica_after (booted order life.found) (kept_turns life.groups) in
      let same = same_replica (booted order life.found) (kept_turns life.groups) in
      subst (λ (k : ℕ). HasLog k order.n keeps.file q.log) (same.0 ∙ boot_mine order.me order.n life.found)
      (subst (λ (k : ℕ). HasLog q.me k keeps.file q.log) (same.1 ∙ boot_of order.me order.n life.found) keeps.log)

  abbrev kept_bodies : List (List ℕ)
  kept_bodies = bodies_in_log (booted order life.found) (turns_by_group life.groups)

  abbrev end : Replica
  end = replica_after (booted order life.found) (kept_turns life.groups)

  at_end : (why : Result (Unit {0}) NodeError) (c : List ℕ) → IsLeftAtEnd o.seen kept_bodies end life.lost why c → IsLeftAtEnd m.seen (boot ∷ kept_bodies) end life.lost why c
  at_end (Ok x) c h = behind kept_bodies c h
  at_end (Err errors.PortFault) c h = behind kept_bodies c h
  at_end (Err errors.DiskFault) c (inl h) = inl (behind kept_bodies c h)
  at_end (Err errors.DiskFault) c (inr h) = inr (h.0, behind (kept_bodies ++ group_body (outputs_from end life.lost) ∷ []) c h.1)
  at_end (Err errors.LogFull) c h = behind kept_bodies c h
  at_end (Err errors.WriteFault) c h = behind kept_bodies c h
  at_end (Err errors.Failed) c h = behind kept_bodies c h
  at_end (Err errors.NoMemory) c h = behind kept_bodies c h

  -- the boot, and then the groups
  put_all : PutInTurn kept_bodies o.seen keeps.file → PutInTurn (boot ∷ kept_bodies) n.seen keeps.file
  unfolding PutInTurn
  put_all put = (o.seen, added ∙ ap (λ (xs : List (List ℕ)). found (xs ++ boot ∷ [])) (sym (ap bodies_in reads)), room, put)

  pub life_keeps : KeepsLife order life (unlent_disk m) (unlent_disk p) result
  life_keeps = record {
    claimed_file = n.seen;
    file = keeps.file;
    claims = claimed.bodies;
    put = put_all keeps.put;
    bodies = behind (bodies_in_log (booted order life.found) (turns_by_group life.groups)) keeps.file keeps.bodies;
    is = keeps.is;
    log = logged;
    stops = keeps.stops;
    synced = λ c is. at_end result c (keeps.synced c is);
    any_moment = unlent_run m p (IsLeftInLife order life (unlent_disk m) result)
        (runs_on m o p (IsLeftAtStart order m) (IsLeftOf o.seen ours) (IsLeftInLife order life (unlent_disk m) result) (start_run order m n o claimed first second) keeps.any_moment at_start in_turns);
  }

-- ---- the whole

-- what was sent and received, whoever lends the port
carries_unlent : (peers : List ℕ) (r : Replica) (w : Watch) (ts : List (Turn × ℕ)) (groups : List Group) (a b : PortMeaning) → Carries peers r w ts groups a b → Carries peers r w ts groups (unlent_port a) (unlent_port b)
carries_unlent peers r w ts groups a b h = record { traffic = h.traffic; empties = h.empties; losses = h.losses; too_long = h.too_long; faults = h.faults; framing = h.framing; borrowed_as = refl }

-- what a life did to the devices, but for its sheet and its end
pub record Lived (order : NodeOrder) (found_log : Log) (groups : List Group) (lost : List (Turn × ℕ)) (before after : Option Readings) (a b : PortMeaning) (o p : Meaning) (result : Result (Unit {0}) NodeError) : Type 0 where
  pub most : length (kept_turns groups ++ lost) ≤ order.turns
  pub are_groups : AreGroups (with_lost (turns_by_group groups) lost)
  pub fates : HaveFates sends_from (booted order found_log) groups
  pub addressed : AreAddressed (peers_in order) (booted order found_log) groups
  pub takes : Takes (booted order found_log) unwatched (kept_turns groups ++ lost) before after
  pub carries : Carries (peers_in order) (booted order found_log) unwatched (kept_turns groups ++ lost) groups a b
  pub goes : Goes o p
  pub keeps : IsTrue o.honest → Keeps (booted order found_log) groups lost o p result

-- how a life ends that served so
pub life_ends : (order : NodeOrder) (life : Life) (r : Replica) (w : Watch) (groups : List Group) (lost : List (Turn × ℕ)) (start now : Node) (old new : Devices) (result : Result (Unit {0}) NodeError) →
    life.groups ≡ groups → life.lost ≡ lost → Ends r w order.turns groups lost start now result → old.port.faults ≡ start.port.faults → new.port.faults ≡ now.port.faults → old.faults ≤ start.faults → new.faults ≡ now.faults →
    old.disk.faults ≤ start.disk.faults → new.disk.faults ≡ now.disk.faults → EndsLife order life old new result
life_ends order life r w groups lost start now old new (Ok x) g l ends port port' sheet sheet' disk disk' = (ap (λ (gs : List Group). length (kept_turns gs)) g ∙ ends.0, l ∙ ends.1.none_lost)
life_ends order life r w groups lost start now old new (Err errors.PortFault) g l ends port port' sheet sheet' disk disk' = let rose = ends.0 in (omega (arith, rose, port, port'), l ∙ ends.1.none_lost)
life_ends order life r w groups lost start now old new (Err errors.WriteFault) g l ends port port' sheet sheet' disk disk' = let rose = ends.0 in (omega (arith, rose, sheet, sheet'), l ∙ ends.1.none_lost)
life_ends order life r w groups lost start now old new (Err errors.DiskFault) g l ends port port' sheet sheet' disk disk' = omega (arith, ends, disk, disk')
life_ends order life r w groups lost start now old new (Err errors.LogFull) g l ends port port' sheet sheet' disk disk' = tt
life_ends order life r w groups lost start now old new (Err errors.NoMemory) g l ends port port' sheet sheet' disk disk' = tt
life_ends order life r w groups lost start now old new (Err errors.Failed) g l ends port port' sheet sheet' disk disk' = absurd ends

abbrev pub life_of : NodeOrder → Log → List Group → List (Turn × ℕ) → Life
life_of order log groups lost = record { me = order.me; found = log; groups = groups; lost = lost; ended = true }

-- a life behind a claim and a boot; the disk is m at first, n once it is claimed, o once the boot is kept, and p at the
-- end
pub runs_life : (order : NodeOrder) (log : Log) (groups : List Group) (lost : List (Turn × ℕ)) (m n o p : Meaning) (a b : PortMeaning) (before after : Option Readings) (had has : Option (List ℕ)) (faults more : ℕ)
    (result : Result (Unit {0}) NodeError) (end : NodeEnd) (bodies : List (List ℕ)) → LogsAreOne → n.honest ≡ m.honest → n.fill ≡ m.fill → m.faults ≤ n.faults → Goes n o →
    (IsTrue m.honest → Claims m n order.cluster) → (IsTrue m.honest → LeavesOnly m n (IsClaimedOrBefore m order.cluster)) → (IsTrue n.honest → reading n.seen ≡ found bodies) → AreKept order.me order.n [] bodies log →
    (IsTrue n.honest → (IsFull n.seen (boot_body order.me order.n log) → ⊥) × (reading o.seen ≡ found (bodies ++ boot_body order.me order.n log ∷ []))) → (IsTrue n.honest → LeavesOnly n o (IsLeftByBoot order.me order.n n)) →
    Lived order log groups lost before after a b o p result → end ≡ end_of result → WritesLife bodies (life_of order log groups lost) had has result →
    EndsLife order (life_of order log groups lost) (record { disk = unlent_disk m; port = unlent_port a; clock = before; sheet = had; faults = faults }) (record { disk = unlent_disk p; port = unlent_port b; clock = after; sheet = has; faults = more }) result →
    RunsLife order (record { disk = unlent_disk m; port = unlent_port a; clock = before; sheet = had; faults = faults }) (record { disk = unlent_disk p; port = unlent_port b; clock = after; sheet = has; faults = more }) end
runs_life order log groups lost m n o p a b before after had has faults more result end bodies logs trust fill first booted_on claimed left reads kept added left_by h ends_so writes done =
    let life = life_of order log groups lost in
    let trusts : IsTrue m.honest → IsTrue n.honest = λ honest. subst IsTrue (sym trust) honest in
    let trusts' : IsTrue m.honest → IsTrue o.honest = λ honest. subst IsTrue (sym (booted_on.honest ∙ trust)) honest in
    let second = booted_on.later in
    let third = h.goes.later in
    record {
      life = life;
      bodies = bodies;
      result = result;
      ends_so = ends_so;
      me = refl;
      ended = refl;
      kept = kept;
      found = λ honest. (sym (claimed honest).bodies ∙ reads (trusts honest), (claimed honest).open_to);
      most = h.most;
      are_groups = h.are_groups;
      fates = h.fates;
      addressed = h.addressed;
      takes = h.takes;
      carries = carries_unlent (peers_in order) (booted order log) unwatched (kept_turns groups ++ lost) groups a b h.carries;
      goes = unlent_goes p m (h.goes.honest ∙ booted_on.honest ∙ trust) (h.goes.fill ∙ booted_on.fill ∙ fill) (omega (arith, first, second, third));
      keeps = λ honest. life_keeps order life m n o p result bodies logs (claimed honest) (left honest) (reads (trusts honest)) kept (added (trusts honest)).0 (added (trusts honest)).1 (left_by (trusts honest)) (h.keeps (trusts' honest));
      writes = writes;
      done = done;
    }

-- no turn is taken
pub lived_still : (order : NodeOrder) (log : Log) (before after : Option Readings) (a b : PortMeaning) (o : Meaning) (result : Result (Unit {0}) NodeError) → b ≡ a → after ≡ before →
    ((r : Replica) → StopsAt r [] o.seen result) → maybe_kept [] [] result ≡ [] → (IsTrue o.honest → HasBehind o.seen [] o.seen) → (IsTrue o.honest → Only o.seen o.may_leave) → (IsTrue o.honest → HasLogOf (booted order log) o.seen) → Lived order log [] [] before after a b o o result
unfolding kept_turns AreWished GivesAll datagrams_in packets_gone packets_missing handed_out fates_of gone not_gone sends_of outputs_from packets_for empty_receives HaveFates bodies_in_log steps_by_group PutInTurn replica_after
lived_still order log before after a b o result port clock stops maybe has only logged =
    let r : Replica = booted order log in
    let still : Carries (peers_in order) r unwatched [] [] a a = record {
      traffic = both_same (Passes a.framing [] []) a.traffic (passes_none a.framing);
      empties = raised_none a.empties a.empties (omega arith);
      losses = raised_none a.losses a.losses (omega arith);
      too_long = refl;
      faults = omega arith;
      framing = refl;
      borrowed_as = refl;
    } in
    record {
      most = omega arith;
      are_groups = tt;
      fates = tt;
      addressed = tt;
      takes = record { wished = tt; can_be = tt; readings = clock };
      carries = subst (λ (x : PortMeaning). Carries (peers_in order) r unwatched [] [] a x) (sym port) still;
      goes = record { honest = refl; fill = refl; borrowed_as = refl; later = omega arith };
      keeps = λ honest. record {
        file = o.seen;
        put = refl;
        bodies = has honest;
        is = λ _. refl;
        log = logged honest;
        stops = stops (replica_after r (kept_turns []));
        synced = λ c is. all_synced o.seen [] (replica_after r (kept_turns [])) [] result c (synced_now o.seen [] o.seen o.may_leave (has honest) (only honest) c is);
        any_moment = subst (λ (gs : List (List (Turn × ℕ))). LeavesOnly o o (IsLeftOf o.seen (bodies_in_log r gs))) (sym maybe) (not_begun o o.seen (has honest) (only honest));
      };
    }

pub opening_prefix : (order : NodeOrder) (log : Log) (bodies : List (List ℕ)) (had has : Option (List ℕ)) → PutsPrefix had has (opening_text bodies) → WritesLife bodies (life_of order log [] []) had has (Err errors.WriteFault)
unfolding kept_turns
opening_prefix order log bodies had has h = h

pub opening_memory : (order : NodeOrder) (log : Log) (bodies : List (List ℕ)) (had has : Option (List ℕ)) → PutsPrefix had has (opening_text bodies) → WritesLife bodies (life_of order log [] []) had has (Err errors.NoMemory)
unfolding kept_turns
opening_memory order log bodies had has h = inr (refl, h)
