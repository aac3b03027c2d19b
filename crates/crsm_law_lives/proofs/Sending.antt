-- The datagrams and replies sent at a node in a history are those of its processes.
use Rattle.std.proofs.Common.{◌≡◌, ℕ, zero, suc, List, [], ◌∷◌, ◌++◌, length, refl, sym, ◌∙◌, ap, inl, inr, Bool, true, false, cond, arith, append_assoc}
use Rattle.std.specs.Prelude.{nat_lt, Some, None, slice_get, drop, option_to_list}
use Rattle.std.specs.Option.{option_map_or}
use Rattle.std.specs.List.{flat_map}
use Rattle.std.proofs.lemmas.Bool.{cases_eq, eq-eqb, ne_eqb}
use Rattle.std.proofs.lemmas.List.{append-nil}
use Rattle.crsm_spec.specs.Choice.{when◌then◌otherwise◌}
use Rattle.crsm_spec.specs.Lists.{Among, first_of}
use Rattle.crsm_spec.specs.Log.{Log}
use Rattle.crsm_spec.specs.Replica.{Replica, fresh}
use Rattle.crsm_spec.specs.Draft.{begun, keep}
use Rattle.crsm_spec.specs.Step.{boot, first_boot, founding_boot, boot_again}
use Rattle.crsm_spec.specs.Node.{Turn, turn, outputs_from}
use Rattle.crsm_fact_log.proofs.Lists.{all_at}
use Rattle.crsm_spec_process.specs.Lives.{Group, HaveFates, Life, before_last}
use Rattle.crsm_law_cluster.specs.Clusters.{Event, Outgoing, outgoing_of, Process, Host, Cluster, host_at, next_out, started, with_turn, kept, while_up, with_process, posted, after, unborn}
use Rattle.crsm_spec_process.specs.Turns.{gone, replica_after}
use Rattle.crsm_law_lives.specs.Events.{take_events, fate_events, group_events, life_events, left_by, node_of, events_of, lives_of}
use Rattle.crsm_law_lives.specs.Premises.{FindWhatIsLeft}
use Rattle.crsm_law_lives.specs.Sending.{handed_by, sent_from, sent_by, HasFates, out_at, outs_from}
use Rattle.crsm_law_lives.specs.Laws.{SendsAreTheirs}
use Rattle.crsm_law_lives.proofs.Processes.{life_left}
use Rattle.crsm_law_lives.proofs.Laws.{life_own, unborn_there, unborn_size}
use Rattle.crsm_law_lives.proofs.Hosts.{own_event, own_run, own_then, after_own, after_other, still_there, same_size, own_first, other_first, no_events}

-- ---- what goes out at one host

unfoldable own_out : Event → Host → List Outgoing
own_out (Event.Sends j) p = option_to_list (option_map_or (λ (x : Process). first_of x.outbox) p.process None)
own_out _ p = []

unfoldable own_outs : ℕ → ℕ → List Event → Host → List Outgoing
own_outs k n [] p = []
own_outs k n (e ∷ es) p = own_out e p ++ own_outs k n es (own_event k n e p)

outs_then : (k n : ℕ) (es fs : List Event) (p : Host) → own_outs k n (es ++ fs) p ≡ own_outs k n es p ++ own_outs k n fs (own_run k n es p)
unfolding own_outs own_run
outs_then k n [] fs p = refl
outs_then k n (e ∷ es) fs p = ap (λ z. own_out e p ++ z) (outs_then k n es fs (own_event k n e p)) ∙ sym (append_assoc (own_out e p) (own_outs k n es (own_event k n e p)) (own_outs k n fs (own_run k n es (own_event k n e p))))

out_own : (c : Cluster) (k : ℕ) (e : Event) → node_of e ≡ k → out_at k c e ≡ own_out e (host_at c k)
unfolding out_at node_of own_out next_out
out_own c k (Event.Boots j) e = refl
out_own c k (Event.Takes j t reading) e = refl
out_own c k (Event.Keeps j) e = refl
out_own c k (Event.Sends j) e = ap (λ b. cond b (option_to_list (option_map_or (λ (x : Process). first_of x.outbox) (host_at c k).process None)) []) (eq-eqb j k e)
out_own c k (Event.Fails j) e = refl
out_own c k (Event.Stops j) e = refl

out_other : (c : Cluster) (k : ℕ) (e : Event) → (node_of e ≡ k → ⊥) → out_at k c e ≡ []
unfolding out_at node_of
out_other c k (Event.Boots j) ne = refl
out_other c k (Event.Takes j t reading) ne = refl
out_other c k (Event.Keeps j) ne = refl
out_other c k (Event.Sends j) ne = ap (λ b. cond b (option_to_list (next_out c k)) []) (ne_eqb j k ne)
out_other c k (Event.Fails j) ne = refl
out_other c k (Event.Stops j) ne = refl

outs_are : (k : ℕ) (h : List Event) (c : Cluster) (q : Host) → slice_get c.hosts k ≡ Some q → outs_from k c h ≡ own_outs k c.n (events_of k h) (host_at c k)
unfolding outs_from own_outs
outs_are k [] c q there = ap (λ es. own_outs k c.n es (host_at c k)) (sym (no_events k))
outs_are k (e ∷ h) c q there =
    let t = still_there c k e q there in
    let rest = outs_are k h (after c e) t.0 t.1 ∙ ap (λ m. own_outs k m (events_of k h) (host_at (after c e) k)) (same_size c e) in
    elim (cases_eq (node_of e) k) [
      | inl is ↦ ap (λ z. z ++ outs_from k (after c e) h) (out_own c k e is) ∙ ap (λ z. own_out e (host_at c k) ++ z) (rest ∙ ap (own_outs k c.n (events_of k h)) (after_own c k q there e is))
          ∙ ap (λ es. own_outs k c.n es (host_at c k)) (sym (own_first k e h is))
      | inr ne ↦ ap (λ z. z ++ outs_from k (after c e) h) (out_other c k e ne) ∙ rest ∙ ap (own_outs k c.n (events_of k h)) (after_other c k e ne) ∙ ap (λ es. own_outs k c.n es (host_at c k)) (sym (other_first k e h ne))
    ]

-- ---- a process

-- the host of a process
abbrev up : Log → Replica → List Outgoing → List Outgoing → Host
up log r ps os = record { log = log; process = Some (record { replica = r; pending = ps; outbox = os }) }

drop_more : (m : ℕ) (os : List Outgoing) → drop m (drop 1 os) ≡ drop (suc m) os
drop_more zero [] = refl
drop_more (suc m) [] = refl
drop_more m (o ∷ os) = refl

drop_all : (m : ℕ) (os : List Outgoing) → m ≡ length os → drop m os ≡ []
drop_all zero [] e = refl
drop_all zero (o ∷ os) e = absurd (omega (arith, e))
drop_all (suc m) [] e = refl
drop_all (suc m) (o ∷ os) e = drop_all m os (omega (arith, e))

silent : (k n : ℕ) (log : Log) → outgoing_of (boot k n log) ≡ []
unfolding outgoing_of boot first_boot founding_boot boot_again keep begun fresh when◌then◌otherwise◌
silent k n (rec ∷ log) = refl
silent k n [] = go (nat_lt k n)
  where
    go : (b : Bool) → outgoing_of (when b then founding_boot k n otherwise boot_again k n []) ≡ []
    go true = refl
    go false = refl

module _ (k n : ℕ) where
  takes_run : (ts : List (Turn × ℕ)) (log : Log) (r : Replica) (ps os : List Outgoing) → own_run k n (take_events k ts) (up log r ps os) ≡ up log (replica_after r ts) (ps ++ handed_by r ts) os
  unfolding own_run take_events replica_after own_event while_up with_process with_turn handed_by outputs_from
  takes_run [] log r ps os = ap (λ z. up log r z os) (sym (append-nil ps))
  takes_run (t ∷ ts) log r ps os =
      takes_run ts log (turn r t).replica (ps ++ outgoing_of (turn r t)) os ∙ ap (λ z. up log (replica_after (turn r t).replica ts) z os) (append_assoc ps (outgoing_of (turn r t)) (flat_map outgoing_of (outputs_from (turn r t).replica ts)))

  takes_outs : (ts : List (Turn × ℕ)) (p : Host) → own_outs k n (take_events k ts) p ≡ []
  unfolding own_outs own_out take_events
  takes_outs [] p = refl
  takes_outs (t ∷ ts) p = takes_outs ts (own_event k n (Event.Takes k t.0 t.1) p)

  fates_run : (fates : List Bool) (log : Log) (r : Replica) (os : List Outgoing) → own_run k n (fate_events k fates) (up log r [] os) ≡ up log r [] (drop (length fates) os)
  unfolding own_run fate_events own_event while_up with_process posted
  fates_run [] log r os = refl
  fates_run (true ∷ fates) log r os = fates_run fates log r (drop 1 os) ∙ ap (up log r []) (drop_more (length fates) os)
  fates_run (false ∷ fates) log r os = fates_run fates log r (drop 1 os) ∙ ap (up log r []) (drop_more (length fates) os)

  fates_outs : (fates : List Bool) (log : Log) (r : Replica) (os : List Outgoing) → own_outs k n (fate_events k fates) (up log r [] os) ≡ gone os fates
  unfolding own_outs own_out fate_events own_event while_up with_process posted gone first_of
  fates_outs [] log r [] = refl
  fates_outs [] log r (o ∷ os) = refl
  fates_outs (true ∷ fates) log r [] = fates_outs fates log r []
  fates_outs (true ∷ fates) log r (o ∷ os) = ap (λ z. o ∷ z) (fates_outs fates log r os)
  fates_outs (false ∷ fates) log r [] = fates_outs fates log r []
  fates_outs (false ∷ fates) log r (o ∷ os) = fates_outs fates log r os

  keep_run : (fates : List Bool) (log : Log) (r : Replica) (ps : List Outgoing) → own_run k n (Event.Keeps k ∷ fate_events k fates) (up log r ps []) ≡ up r.log r [] (drop (length fates) ps)
  unfolding own_run own_event while_up kept
  keep_run fates log r ps = fates_run fates r.log r ps

  keep_outs : (fates : List Bool) (log : Log) (r : Replica) (ps : List Outgoing) → own_outs k n (Event.Keeps k ∷ fate_events k fates) (up log r ps []) ≡ gone ps fates
  unfolding own_outs own_out own_event while_up kept
  keep_outs fates log r ps = fates_outs fates r.log r ps

  group_run : (g : Group) (log : Log) (r : Replica) → own_run k n (group_events k g) (up log r [] []) ≡ up (replica_after r g.turns).log (replica_after r g.turns) [] (drop (length g.fates) (handed_by r g.turns))
  unfolding group_events
  group_run g log r =
      own_then k n (take_events k g.turns) (Event.Keeps k ∷ fate_events k g.fates) (up log r [] [])
      ∙ ap (own_run k n (Event.Keeps k ∷ fate_events k g.fates)) (takes_run g.turns log r [] [])
      ∙ keep_run g.fates log (replica_after r g.turns) (handed_by r g.turns)

  group_outs : (g : Group) (log : Log) (r : Replica) → own_outs k n (group_events k g) (up log r [] []) ≡ gone (handed_by r g.turns) g.fates
  unfolding group_events
  group_outs g log r =
      outs_then k n (take_events k g.turns) (Event.Keeps k ∷ fate_events k g.fates) (up log r [] [])
      ∙ ap (λ z. z ++ own_outs k n (Event.Keeps k ∷ fate_events k g.fates) (own_run k n (take_events k g.turns) (up log r [] []))) (takes_outs g.turns (up log r [] []))
      ∙ ap (own_outs k n (Event.Keeps k ∷ fate_events k g.fates)) (takes_run g.turns log r [] [])
      ∙ keep_outs g.fates log (replica_after r g.turns) (handed_by r g.turns)

  -- what this replica hands out of the group and has no fate
  left_of : Replica → Group → List Outgoing
  left_of r g = drop (length g.fates) (handed_by r g.turns)

  -- of a group and of those behind it
  group_then : (g : Group) (gs : List Group) (log : Log) (r : Replica) →
      own_outs k n (flat_map (group_events k) gs) (up (replica_after r g.turns).log (replica_after r g.turns) [] (left_of r g)) ≡ sent_from (replica_after r g.turns) gs →
      own_outs k n (flat_map (group_events k) (g ∷ gs)) (up log r [] []) ≡ sent_from r (g ∷ gs)
  unfolding sent_from left_of
  group_then g gs log r rest =
      outs_then k n (group_events k g) (flat_map (group_events k) gs) (up log r [] [])
      ∙ ap (λ z. z ++ own_outs k n (flat_map (group_events k) gs) (own_run k n (group_events k g) (up log r [] []))) (group_outs g log r)
      ∙ ap (λ p. gone (handed_by r g.turns) g.fates ++ own_outs k n (flat_map (group_events k) gs) p) (group_run g log r)
      ∙ ap (λ z. gone (handed_by r g.turns) g.fates ++ z) rest

  groups_outs : (gs : List Group) (log : Log) (r : Replica) → HaveFates handed_by r (before_last gs) → own_outs k n (flat_map (group_events k) gs) (up log r [] []) ≡ sent_from r gs
  unfolding own_outs sent_from HaveFates before_last left_of
  groups_outs [] log r h = refl
  groups_outs (g ∷ []) log r h = group_then g [] log r refl
  groups_outs (g ∷ x ∷ gs) log r h =
      let s = replica_after r g.turns in
      group_then g (x ∷ gs) log r
      (ap (λ z. own_outs k n (flat_map (group_events k) (x ∷ gs)) (up s.log s [] z)) (drop_all (length g.fates) (handed_by r g.turns) h.0) ∙ groups_outs (x ∷ gs) s.log s h.1)

  stop_outs : (ended : Bool) (p : Host) → own_outs k n (cond ended (Event.Stops k ∷ []) []) p ≡ []
  unfolding own_outs own_out
  stop_outs true p = refl
  stop_outs false p = refl

  boot_run : (log : Log) → own_run k n (Event.Boots k ∷ []) (record { log = log; process = None }) ≡ up (boot k n log).replica.log (boot k n log).replica [] []
  unfolding own_run own_event started
  boot_run log = ap (up (boot k n log).replica.log (boot k n log).replica []) (silent k n log)

  boot_outs : (p : Host) → own_outs k n (Event.Boots k ∷ []) p ≡ []
  unfolding own_outs own_out
  boot_outs p = refl

  lived_outs : (found : Log) (gs : List Group) (lost : List (Turn × ℕ)) (ended : Bool) → HaveFates handed_by (boot k n found).replica (before_last gs) →
      own_outs k n (Event.Boots k ∷ flat_map (group_events k) gs ++ take_events k lost ++ cond ended (Event.Stops k ∷ []) []) (record { log = found; process = None }) ≡ sent_from (boot k n found).replica gs
  lived_outs found gs lost ended h =
      let p : Host = record { log = found; process = None } in
      let r = (boot k n found).replica in
      let all = flat_map (group_events k) gs in
      let stop = cond ended (Event.Stops k ∷ []) [] in
      outs_then k n (Event.Boots k ∷ []) ((all ++ take_events k lost) ++ stop) p
      ∙ ap (λ z. z ++ own_outs k n ((all ++ take_events k lost) ++ stop) (own_run k n (Event.Boots k ∷ []) p)) (boot_outs p)
      ∙ ap (own_outs k n ((all ++ take_events k lost) ++ stop)) (boot_run found)
      ∙ outs_then k n (all ++ take_events k lost) stop (up r.log r [] [])
      ∙ ap (λ z. own_outs k n (all ++ take_events k lost) (up r.log r [] []) ++ z) (stop_outs ended (own_run k n (all ++ take_events k lost) (up r.log r [] [])))
      ∙ append-nil (own_outs k n (all ++ take_events k lost) (up r.log r [] []))
      ∙ outs_then k n all (take_events k lost) (up r.log r [] [])
      ∙ ap (λ z. own_outs k n all (up r.log r [] []) ++ z) (takes_outs lost (own_run k n all (up r.log r [] [])))
      ∙ append-nil (own_outs k n all (up r.log r [] []))
      ∙ groups_outs gs r.log r h

life_outs : (n : ℕ) (l : Life) → HasFates n l → own_outs l.me n (life_events l) (record { log = l.found; process = None }) ≡ sent_by n l
unfolding life_events sent_by
life_outs n l h = lived_outs l.me n l.found l.groups l.lost l.ended h

-- ---- the processes of one node

no_outs : (k n : ℕ) (p : Host) → own_outs k n [] p ≡ []
unfolding own_outs
no_outs k n p = refl

lives_outs : (k n : ℕ) (log : Log) (ls : List Life) → FindWhatIsLeft n log ls → ((l : Life) → Among ls l → (l.me ≡ k) × HasFates n l) →
    own_outs k n (flat_map life_events ls) (record { log = log; process = None }) ≡ flat_map (sent_by n) ls
lives_outs k n log [] h own = no_outs k n _
lives_outs k n log (m ∷ ls) h own =
    let me = (own m (inl refl)).0 in
    let first : own_outs k n (life_events m) (record { log = log; process = None }) ≡ sent_by n m =
    ap (λ z. own_outs k n (life_events m) (record { log = z; process = None })) (sym h.0) ∙ ap (λ z. own_outs z n (life_events m) (record { log = m.found; process = None })) (sym me) ∙ life_outs n m (own m (inl refl)).1 in
    let run : own_run k n (life_events m) (record { log = log; process = None }) ≡ own_run m.me n (life_events m) (record { log = m.found; process = None }) =
    ap (λ z. own_run k n (life_events m) (record { log = z; process = None })) (sym h.0) ∙ ap (λ z. own_run z n (life_events m) (record { log = m.found; process = None })) (sym me) in
    let rest : own_outs k n (flat_map life_events ls) (own_run k n (life_events m) (record { log = log; process = None })) ≡ flat_map (sent_by n) ls = elim h.1 [
      | inl none ↦ ap (λ z. own_outs k n (flat_map life_events z) (own_run k n (life_events m) (record { log = log; process = None }))) none ∙ no_outs k n _ ∙ ap (flat_map (sent_by n)) (sym none)
      | inr ended ↦ ap (own_outs k n (flat_map life_events ls)) (run ∙ (life_left n m).gone ended) ∙ lives_outs k n (left_by n m) ls h.2 (λ l a. own l (inr a))
    ] in
    outs_then k n (life_events m) (flat_map life_events ls) (record { log = log; process = None }) ∙ ap (λ z. z ++ own_outs k n (flat_map life_events ls) (own_run k n (life_events m) (record { log = log; process = None }))) first ∙ ap (λ z. sent_by n m ++ z) rest

pub sends_are_theirs : SendsAreTheirs
sends_are_theirs n ls h r fates k lt =
    let u = unborn_there n k lt in
    outs_are k h (unborn n) u.0 u.1
    ∙ ap (λ m. own_outs k m (events_of k h) (host_at (unborn n) k)) (unborn_size n)
    ∙ ap (own_outs k n (events_of k h)) u.2
    ∙ ap (λ es. own_outs k n es (record { log = []; process = None })) (r.are k)
    ∙ lives_outs k n [] (lives_of k ls) (r.disk k) (λ l a. let t = life_own k ls l a in (t.0, all_at (HasFates n) ls l fates t.1))
