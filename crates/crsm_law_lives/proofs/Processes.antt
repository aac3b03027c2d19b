-- The effect of a process's events on its host: the log that it leaves.
use Rattle.std.proofs.Common.{◌≡◌, ℕ, List, [], ◌∷◌, ◌++◌, refl, sym, ◌∙◌, ap, subst, inl, inr, Bool, true, false, cond, append_assoc}
use Rattle.std.specs.Prelude.{Some, None}
use Rattle.std.specs.List.{flat_map}
use Rattle.crsm_spec.specs.Lists.{Among}
use Rattle.crsm_spec.specs.Log.{Log}
use Rattle.crsm_spec.specs.Replica.{Replica}
use Rattle.crsm_spec.specs.Step.{boot}
use Rattle.crsm_spec.specs.Node.{Turn, turn}
use Rattle.crsm_spec_process.specs.Lives.{Group, Life, kept_turns}
use Rattle.crsm_law_cluster.specs.Clusters.{Event, Process, Host, started, with_turn, kept, while_up, with_process, posted}
use Rattle.crsm_spec_process.specs.Turns.{replica_after}
use Rattle.crsm_law_lives.specs.Events.{take_events, fate_events, group_events, life_events, left_by}
use Rattle.crsm_law_lives.specs.Premises.{FindWhatIsLeft}
use Rattle.crsm_law_lives.proofs.Hosts.{own_event, own_run, own_then}

pub turns_then : (r : Replica) (ts us : List (Turn × ℕ)) → replica_after r (ts ++ us) ≡ replica_after (replica_after r ts) us
unfolding replica_after
turns_then r [] us = refl
turns_then r (t ∷ ts) us = turns_then (turn r t).replica ts us

-- a process runs that has come so far, on this log
pub record IsUp (p : Host) (log : Log) (r : Replica) : Type 0 where
  pub process : Process
  pub host : p ≡ record { log = log; process = Some process }
  pub replica : process.replica ≡ r

nothing_run : (k n : ℕ) (p : Host) → own_run k n [] p ≡ p
unfolding own_run
nothing_run k n p = refl

-- the log file has this log, and nobody runs if the process has ended
pub record IsLeft (p : Host) (log : Log) (ended : Bool) : Type 0 where
  pub log_is : p.log ≡ log
  pub gone : ended ≡ true → p ≡ record { log = log; process = None }

module _ (k n : ℕ) where
  taken : (ts : List (Turn × ℕ)) (p : Host) (log : Log) (r : Replica) → IsUp p log r → IsUp (own_run k n (take_events k ts) p) log (replica_after r ts)
  unfolding own_run take_events replica_after own_event while_up with_process with_turn
  taken [] p log r u = u
  taken (t ∷ ts) p log r u = taken ts _ log (turn r t).replica (record {
    process = with_turn t.0 t.1 u.process;
    host = ap (λ q. while_up q (λ x. with_process q (with_turn t.0 t.1 x))) u.host;
    replica = ap (λ z. (turn z t).replica) u.replica;
  })

  -- what goes out or fails leaves log and replica
  posted_all : (fates : List Bool) (p : Host) (log : Log) (r : Replica) → IsUp p log r → IsUp (own_run k n (fate_events k fates) p) log r
  unfolding own_run fate_events own_event while_up with_process posted
  posted_all [] p log r u = u
  posted_all (true ∷ fates) p log r u = posted_all fates _ log r (record { process = posted u.process; host = ap (λ q. while_up q (λ x. with_process q (posted x))) u.host; replica = u.replica })
  posted_all (false ∷ fates) p log r u = posted_all fates _ log r (record { process = posted u.process; host = ap (λ q. while_up q (λ x. with_process q (posted x))) u.host; replica = u.replica })

  one_kept : (fates : List Bool) (p : Host) (log : Log) (r : Replica) → IsUp p log r → IsUp (own_run k n (Event.Keeps k ∷ fate_events k fates) p) r.log r
  unfolding own_run own_event while_up kept
  one_kept fates p log r u = posted_all fates _ r.log r (record {
    process = record u.process { pending = []; outbox = u.process.outbox ++ u.process.pending };
    host = ap (λ q. while_up q (kept q)) u.host ∙ ap (λ (z : Replica). record { log = z.log; process = Some (record u.process { pending = []; outbox = u.process.outbox ++ u.process.pending }) }) u.replica;
    replica = u.replica;
  })

  group_kept : (g : Group) (p : Host) (log : Log) (r : Replica) → IsUp p log r → IsUp (own_run k n (group_events k g) p) (replica_after r g.turns).log (replica_after r g.turns)
  unfolding group_events
  group_kept g p log r u =
      let r' = replica_after r g.turns in
      subst (λ q. IsUp q r'.log r') (sym (own_then k n (take_events k g.turns) (Event.Keeps k ∷ fate_events k g.fates) p)) (one_kept g.fates _ log r' (taken g.turns p log r u))

  groups_kept : (gs : List Group) (p : Host) (r : Replica) → IsUp p r.log r → IsUp (own_run k n (flat_map (group_events k) gs) p) (replica_after r (kept_turns gs)).log (replica_after r (kept_turns gs))
  unfolding own_run kept_turns replica_after
  groups_kept [] p r u = u
  groups_kept (g ∷ gs) p r u =
      let r' = replica_after r g.turns in
      let v = groups_kept gs (own_run k n (group_events k g) p) r' (group_kept g p r.log r u) in
      subst (λ z. IsUp (own_run k n (flat_map (group_events k) (g ∷ gs)) p) z.log z) (sym (turns_then r g.turns (kept_turns gs)))
      (subst (λ q. IsUp q (replica_after r' (kept_turns gs)).log (replica_after r' (kept_turns gs))) (sym (own_then k n (group_events k g) (flat_map (group_events k) gs) p)) v)

  booted : (log : Log) → IsUp (own_run k n (Event.Boots k ∷ []) (record { log = log; process = None })) (boot k n log).replica.log (boot k n log).replica
  unfolding own_run own_event started
  booted log = record { process = _; host = refl; replica = refl }

  -- ---- a process from its boot to its end

  ends : (ended : Bool) (p : Host) (log : Log) (r : Replica) → IsUp p log r → IsLeft (own_run k n (cond ended (Event.Stops k ∷ []) []) p) log ended
  unfolding own_run own_event
  ends true p log r u = record { log_is = ap (λ q. q.log) u.host; gone = λ e. ap (λ (q : Host). record q { process = None }) u.host }
  ends false p log r u = record { log_is = ap (λ q. q.log) u.host; gone = λ e. absurd (cc) }

  lived : (found : Log) (gs : List Group) (lost : List (Turn × ℕ)) (ended : Bool) → let r = replica_after (boot k n found).replica (kept_turns gs) in
      IsLeft (own_run k n (Event.Boots k ∷ flat_map (group_events k) gs ++ take_events k lost ++ cond ended (Event.Stops k ∷ []) []) (record { log = found; process = None })) r.log ended
  lived found gs lost ended =
      let p : Host = record { log = found; process = None } in
      let r = replica_after (boot k n found).replica (kept_turns gs) in
      let q = own_run k n (Event.Boots k ∷ []) p in
      let v = groups_kept gs q (boot k n found).replica (booted found) in
      let w = taken lost (own_run k n (flat_map (group_events k) gs) q) r.log r v in
      let stop = cond ended (Event.Stops k ∷ []) [] in
      let split =
      own_then k n (Event.Boots k ∷ []) ((flat_map (group_events k) gs ++ take_events k lost) ++ stop) p
      ∙ own_then k n (flat_map (group_events k) gs ++ take_events k lost) stop q
      ∙ ap (own_run k n stop) (own_then k n (flat_map (group_events k) gs) (take_events k lost) q) in
      subst (λ z. IsLeft z r.log ended) (sym split) (ends ended _ r.log (replica_after r lost) w)

pub life_left : (n : ℕ) (l : Life) → IsLeft (own_run l.me n (life_events l) (record { log = l.found; process = None })) (left_by n l) l.ended
unfolding life_events left_by
life_left n l = lived l.me n l.found l.groups l.lost l.ended

-- ---- processes of one node, one after another

-- where a process is among them: those before it have left the log that it finds
pub record IsPlaced (k n : ℕ) (p : Host) (all : List Event) (l : Life) : Type 0 where
  pub before : List Event
  pub behind : List Event
  pub split : all ≡ before ++ (life_events l ++ behind)
  pub here : own_run k n before p ≡ record { log = l.found; process = None }

pub placed : (k n : ℕ) (log : Log) (ls : List Life) → FindWhatIsLeft n log ls → ((l : Life) → Among ls l → l.me ≡ k) → (l : Life) → Among ls l →
    IsPlaced k n (record { log = log; process = None }) (flat_map life_events ls) l
placed k n log [] h own l a = absurd a
placed k n log (m ∷ ls) h own l (inl e) = subst (IsPlaced k n (record { log = log; process = None }) (flat_map life_events (m ∷ ls))) e (record {
  before = [];
  behind = flat_map life_events ls;
  split = refl;
  here = nothing_run k n _ ∙ ap (λ z. record { log = z; process = None }) (sym h.0);
})
placed k n log (m ∷ ls) h own l (inr a) = elim h.1 [
  | inl none ↦ absurd (subst (λ z. Among z l) none a)
  | inr ended ↦ (let t = placed k n (left_by n m) ls h.2 (λ z b. own z (inr b)) l a in
      let left = (life_left n m).gone ended in
      let run : own_run k n (life_events m) (record { log = log; process = None }) ≡ record { log = left_by n m; process = None } =
      ap (λ z. own_run k n (life_events m) (record { log = z; process = None })) (sym h.0) ∙ ap (λ z. own_run z n (life_events m) (record { log = m.found; process = None })) (sym (own m (inl refl))) ∙ left in
      record {
        before = life_events m ++ t.before;
        behind = t.behind;
        split = ap (λ z. life_events m ++ z) t.split ∙ sym (append_assoc (life_events m) t.before (life_events l ++ t.behind));
        here = own_then k n (life_events m) t.before _ ∙ ap (own_run k n t.before) run ∙ t.here;
      })
]
