-- Processes of nodes make a lawful history.
use Rattle.std.proofs.Common.{◌≡◌, ℕ, zero, suc, ◌<◌, List, [], ◌∷◌, ◌++◌, length, refl, sym, ◌∙◌, ap, subst, inl, inr, Bool, true, false, cond, map, append_assoc}
use Rattle.std.specs.Prelude.{◌==◌, filter, Some, None, slice_get}
use Rattle.std.specs.List.{AllByRecursion, flat_map}
use Rattle.std.specs.Option.{option_map_or}
use Rattle.std.proofs.lemmas.Bool.{cases_eq, eq-eqb, ne_eqb}
use Rattle.std.proofs.lemmas.Option.{none-some, same_Some}
use Rattle.crsm_spec.specs.Types.{Datagram}
use Rattle.crsm_spec.specs.Lists.{Among, numbers_below}
use Rattle.crsm_spec.specs.Node.{Turn}
use Rattle.crsm_fact_log.proofs.Lists.{among_left, among_right, among_either, all_at, flat_from, flat_in}
use Rattle.crsm_spec_process.specs.Lives.{Group, Life, kept_turns}
use Rattle.crsm_law_cluster.specs.Clusters.{Event, Outgoing, Host, Cluster, empty_host, host_at, log_in, next_out, sent_of, with_host, after, unborn}
use Rattle.crsm_law_cluster.specs.Histories.{clusters_from, clusters, last_from}
use Rattle.crsm_law_cluster.specs.Lawful.{IsGenuine, MayHappen, IsLawfulFrom, IsLawful}
use Rattle.crsm_law_cluster.proofs.Lists.{got_range}
use Rattle.crsm_law_epoch.proofs.Words.{among_unmap}
use Rattle.crsm_law_cluster.specs.Going.{IsAt}
use Rattle.crsm_law_cluster.proofs.Along.{IsThere, from_then, next_there}
use Rattle.crsm_law_lives.specs.Events.{AreEventsOf, take_events, fate_events, group_events, life_events, node_of, events_of, lives_of}
use Rattle.crsm_spec_process.specs.Turns.{CanBeTaken}
use Rattle.crsm_law_lives.specs.Premises.{IsProcess, WasSentBy, SpeaksTrue, NobodyForges, Ran}
use Rattle.crsm_law_lives.specs.Laws.{IsIn, LivesAreLawful}
use Rattle.crsm_law_lives.proofs.Hosts.{own_run, own_then, host_run, IsCut, cut_at, IsBefore, before_next, own_first, other_first}
use Rattle.crsm_law_lives.proofs.Processes.{life_left, IsPlaced, placed}

-- ---- the network

-- what was sent stays among what was sent
sent_stays : (c : Cluster) (e : Event) (k : ℕ) (d : Datagram) → Among c.sent (k, d) → Among (after c e).sent (k, d)
unfolding after with_host
sent_stays c (Event.Boots j) k d a = a
sent_stays c (Event.Takes j t reading) k d a = a
sent_stays c (Event.Keeps j) k d a = a
sent_stays c (Event.Sends j) k d a = among_left c.sent (sent_of (next_out c j)) (k, d) a
sent_stays c (Event.Fails j) k d a = a
sent_stays c (Event.Stops j) k d a = a

goes_out : (c : Cluster) (j k : ℕ) (d : Datagram) → next_out c j ≡ Some (Outgoing.ToReplica k d) → Among (after c (Event.Sends j)).sent (k, d)
unfolding after with_host sent_of
goes_out c j k d e = among_right c.sent (sent_of (next_out c j)) (k, d) (subst (λ o. Among (sent_of o) (k, d)) (sym e) (inl refl))

module _ (n : ℕ) (h : List Event) where
  was_sent : (i from k : ℕ) (d : Datagram) (c : Cluster) → IsThere n h i c → WasSentBy n h i from k d → Among c.sent (k, d)
  was_sent i from k d c at w =
      from_then n h (λ j b. Among b.sent (k, d)) (λ j b e now next a. sent_stays b e k d a) (suc w.place) (after w.cluster (Event.Sends from)) (next_there n h w.place w.cluster (Event.Sends from) w.at)
      (goes_out w.cluster from k d w.is) i c w.before at

  genuine : (i k : ℕ) (c : Cluster) → IsThere n h i c → (d : Datagram) → SpeaksTrue n h i k d → IsGenuine c k d
  genuine i k c at (Datagram.Frame from to epoch seq payload) s = λ is ne. was_sent i from k _ c at (s is ne)
  genuine i k c at (Datagram.Ack from to epoch next) s = λ is ne. was_sent i from k _ c at (s is ne)
  genuine i k c at (Datagram.Part from to boot number index count bytes) s = λ is ne. was_sent i from k _ c at (s is ne)
  genuine i k c at (Datagram.Request command) s = tt
  genuine i k c at (Datagram.Reply client number told) s = tt
  genuine i k c at (Datagram.Operate members) s = tt

  -- each turn of the history can be taken
  abbrev AreTurns : Type 0
  AreTurns = (k : ℕ) (t : Turn) (reading : ℕ) → Among h (Event.Takes k t reading) → CanBeTaken (t, reading)

  may_take : NobodyForges n h → AreTurns → (i k : ℕ) (t : Turn) (reading : ℕ) (c : Cluster) → IsAt n h i c (Event.Takes k t reading) → Among h (Event.Takes k t reading) → MayHappen c (Event.Takes k t reading)
  may_take net turns i k (Turn.In address bytes) reading c at m = let t = turns k (Turn.In address bytes) reading m in (t.0, (t.1, λ d is. genuine i k c at.cluster d (net i k address reading bytes c d at is)))
  may_take net turns i k Turn.Tick reading c at m = let t = turns k Turn.Tick reading m in (t.0, tt)
  may_take net turns i k (Turn.Suspect ms) reading c at m = let t = turns k (Turn.Suspect ms) reading m in (t.0, t.1)

  may_happen : NobodyForges n h → AreTurns → (i : ℕ) (c : Cluster) (e : Event) → IsAt n h i c e → Among h e → MayHappen c e
  may_happen net turns i c (Event.Boots k) at m = tt
  may_happen net turns i c (Event.Takes k t reading) at m = may_take net turns i k t reading c at m
  may_happen net turns i c (Event.Keeps k) at m = tt
  may_happen net turns i c (Event.Sends k) at m = tt
  may_happen net turns i c (Event.Fails k) at m = tt
  may_happen net turns i c (Event.Stops k) at m = tt

-- what may happen at each place may happen one after another
lawful_from : (c : Cluster) (es : List Event) → ((i : ℕ) (b : Cluster) (e : Event) → slice_get (clusters_from c es) i ≡ Some b → slice_get es i ≡ Some e → MayHappen b e) → IsLawfulFrom c es
unfolding clusters_from
lawful_from c [] h = tt
lawful_from c (e ∷ es) h = (h 0 c e refl refl, lawful_from (after c e) es (λ i b f at is. h (suc i) b f at is))

pub got_among : {A : Type 0} (xs : List A) (i : ℕ) (x : A) → slice_get xs i ≡ Some x → Among xs x
got_among [] i x e = absurd (none-some x e)
got_among (y ∷ xs) zero x e = inl (same_Some y x e)
got_among (y ∷ xs) (suc i) x e = inr (got_among xs i x e)

-- ---- one node

-- its processes are among all
pub life_own : (k : ℕ) (ls : List Life) (l : Life) → Among (lives_of k ls) l → (l.me ≡ k) × Among ls l
unfolding lives_of
life_own k [] l a = absurd a
life_own k (m ∷ ls) l a = elim (cases_eq m.me k) [
  | inl e ↦ elim (subst (λ b. Among (cond b (m ∷ filter (λ l. l.me == k) ls) (filter (λ l. l.me == k) ls)) l) (eq-eqb m.me k e) a) [
    | inl q ↦ (ap (λ (z : Life). z.me) (sym q) ∙ e, inl q)
    | inr b ↦ (let t = life_own k ls l b in (t.0, inr t.1))
  ]
  | inr ne ↦ (let t = life_own k ls l (subst (λ b. Among (cond b (m ∷ filter (λ l. l.me == k) ls) (filter (λ l. l.me == k) ls)) l) (ne_eqb m.me k ne) a) in (t.0, inr t.1))
]

own_life : (k : ℕ) (ls : List Life) (l : Life) → l.me ≡ k → Among ls l → Among (lives_of k ls) l
unfolding lives_of
own_life k [] l is a = absurd a
own_life k (m ∷ ls) l is a = elim (cases_eq m.me k) [
  | inl e ↦ subst (λ b. Among (cond b (m ∷ filter (λ l. l.me == k) ls) (filter (λ l. l.me == k) ls)) l) (sym (eq-eqb m.me k e)) (elim a [ inl q ↦ inl q | inr b ↦ inr (own_life k ls l is b) ])
  | inr ne ↦ subst (λ b. Among (cond b (m ∷ filter (λ l. l.me == k) ls) (filter (λ l. l.me == k) ls)) l) (sym (ne_eqb m.me k ne))
      (elim a [ inl q ↦ absurd (ne (ap (λ (z : Life). z.me) q ∙ is)) | inr b ↦ own_life k ls l is b ])
]

-- an event of a history is one of its node's
own_among : (h : List Event) (e : Event) → Among h e → Among (events_of (node_of e) h) e
own_among [] e a = absurd a
own_among (g ∷ h) e a = elim (cases_eq (node_of g) (node_of e)) [
  | inl own ↦ subst (λ es. Among es e) (sym (own_first (node_of e) g h own)) (elim a [ inl q ↦ inl q | inr b ↦ inr (own_among h e b) ])
  | inr ne ↦ subst (λ es. Among es e) (sym (other_first (node_of e) g h ne)) (elim a [ inl q ↦ absurd (ne (ap node_of q)) | inr b ↦ own_among h e b ])
]

-- the turns among the events of a process are its turns
IsHis : Life → Event → Type 0
IsHis l (Event.Takes k t reading) = Among (kept_turns l.groups ++ l.lost) (t, reading)
IsHis l _ = Unit {0}

is_his : (l : Life) (e : Event) → Among (life_events l) e → IsHis l e
unfolding life_events IsHis group_events take_events fate_events kept_turns
is_his l e (inl q) = subst (IsHis l) q tt
is_his l e (inr a) = elim (among_either (flat_map (group_events l.me) l.groups ++ take_events l.me l.lost) _ e a) [
  | inl b ↦ elim (among_either (flat_map (group_events l.me) l.groups) (take_events l.me l.lost) e b) [
    | inl c ↦ (let t = flat_from (group_events l.me) l.groups e c in grouped t.0 t.1 t.2)
    | inr c ↦ (let t = among_unmap (λ t. Event.Takes l.me t.0 t.1) l.lost e c in subst (IsHis l) t.2 (among_right (kept_turns l.groups) l.lost t.0 t.1))
  ]
  | inr b ↦ stop l.ended b
]
  where
    stop : (ended : Bool) → Among (cond ended (Event.Stops l.me ∷ []) []) e → IsHis l e
    stop true (inl q) = subst (IsHis l) q tt
    stop true (inr q) = absurd q
    stop false q = absurd q

    fated : (fates : List Bool) → Among (map (λ fate. cond fate (Event.Sends l.me) (Event.Fails l.me)) fates) e → IsHis l e
    fated [] q = absurd q
    fated (true ∷ fates) (inl q) = subst (IsHis l) q tt
    fated (false ∷ fates) (inl q) = subst (IsHis l) q tt
    fated (fate ∷ fates) (inr q) = fated fates q

    grouped : (g : Group) → Among l.groups g → Among (group_events l.me g) e → IsHis l e
    grouped g m a = elim (among_either (take_events l.me g.turns) (Event.Keeps l.me ∷ fate_events l.me g.fates) e a) [
      | inl c ↦ (let t = among_unmap (λ t. Event.Takes l.me t.0 t.1) g.turns e c in
          subst (IsHis l) t.2 (among_left (kept_turns l.groups) l.lost t.0 (flat_in (λ (z : Group). z.turns) l.groups g t.0 m t.1)))
      | inr c ↦ elim c [ inl q ↦ subst (IsHis l) q tt | inr q ↦ fated g.fates q ]
    ]

-- ---- places in a history

at_cut : (c : Cluster) (es fs : List Event) → slice_get (clusters_from c (es ++ fs)) (length es) ≡ Some (last_from c es)
unfolding clusters_from last_from
at_cut c [] [] = refl
at_cut c [] (f ∷ fs) = refl
at_cut c (e ∷ es) fs = at_cut (after c e) es fs

next_at : (es : List Event) (e : Event) (fs : List Event) → slice_get (es ++ e ∷ fs) (length es) ≡ Some e
next_at [] e fs = refl
next_at (f ∷ es) e fs = next_at es e fs

pub unborn_there : (n k : ℕ) → k < 15 → (p : Host) × (slice_get (unborn n).hosts k ≡ Some p) × (host_at (unborn n) k ≡ record { log = []; process = None })
unfolding unborn host_at empty_host numbers_below
unborn_there n k lt = let t = got_range (λ (i : ℕ). record { log = []; process = None }) 0 15 k lt in (_, t, ap (λ o. option_map_or (λ (p : Host). p) o (record { log = []; process = None })) t)

pub unborn_size : (n : ℕ) → (unborn n).n ≡ n
unfolding unborn
unborn_size n = refl

-- each turn among the events is one of a process
pub turns_of : (ls : List Life) (h : List Event) → AreEventsOf ls h → AllByRecursion IsProcess ls → (k : ℕ) (t : Turn) (reading : ℕ) → Among h (Event.Takes k t reading) → CanBeTaken (t, reading)
unfolding node_of IsHis
turns_of ls h are ps k t reading a =
    let own = subst (λ es. Among es (Event.Takes k t reading)) (are k) (own_among h (Event.Takes k t reading) a) in
    let s = flat_from life_events (lives_of k ls) (Event.Takes k t reading) own in
    let l = life_own k ls s.0 s.1 in
    all_at CanBeTaken (kept_turns s.0.groups ++ s.0.lost) (t, reading) (all_at IsProcess ls s.0 ps l.1).turns (is_his s.0 (Event.Takes k t reading) s.2)

module _ (n : ℕ) (ls : List Life) (h : List Event) (r : Ran n ls h) where
  lawful : IsLawful n h
  unfolding clusters
  lawful = lawful_from (unborn n) h (λ i b e at is. may_happen n h r.network (turns_of ls h r.are r.processes) i b e (record { cluster = at; event = is }) (got_among h i e is))

  module _ (l : Life) (a : Among ls l) where
    small : l.me < 15
    small = (all_at IsProcess ls l r.processes a).number

    place : IsPlaced l.me n (record { log = []; process = None }) (flat_map life_events (lives_of l.me ls)) l
    place = placed l.me n [] (lives_of l.me ls) (r.disk l.me) (λ m b. (life_own l.me ls m b).0) l (own_life l.me ls l refl a)

    host_then : (first : List Event) → host_at (last_from (unborn n) first) l.me ≡ own_run l.me n (events_of l.me first) (record { log = []; process = None })
    host_then first = let u = unborn_there n l.me small in host_run l.me first (unborn n) u.0 u.1 ∙ ap (own_run l.me (unborn n).n (events_of l.me first)) u.2 ∙ ap (λ m. own_run l.me m (events_of l.me first) (record { log = []; process = None })) (unborn_size n)

    next : IsBefore l.me h place.before (Event.Boots l.me)
    unfolding life_events
    next = before_next l.me h place.before (Event.Boots l.me) _ (r.are l.me ∙ place.split)

    ended : IsCut l.me h (place.before ++ life_events l) place.behind
    ended = cut_at l.me h (place.before ++ life_events l) place.behind (r.are l.me ∙ place.split ∙ sym (append_assoc place.before (life_events l) place.behind))

    abbrev before : Cluster
    before = last_from (unborn n) next.first

    abbrev end : Cluster
    end = last_from (unborn n) ended.first

    host_before : host_at before l.me ≡ record { log = l.found; process = None }
    host_before = host_then next.first ∙ ap (λ es. own_run l.me n es (record { log = []; process = None })) next.had ∙ place.here

    host_end : host_at end l.me ≡ own_run l.me n (life_events l) (record { log = l.found; process = None })
    host_end = host_then ended.first ∙ ap (λ es. own_run l.me n es (record { log = []; process = None })) ended.had ∙ own_then l.me n place.before (life_events l) _ ∙ ap (own_run l.me n (life_events l)) place.here

    is_in : IsIn n h l
    unfolding clusters log_in
    is_in = record {
      place = length next.first;
      before = before;
      boots = record {
        cluster = subst (λ es. slice_get (clusters_from (unborn n) es) (length next.first) ≡ Some before) next.is (at_cut (unborn n) next.first (Event.Boots l.me ∷ next.rest));
        event = subst (λ es. slice_get es (length next.first) ≡ Some (Event.Boots l.me)) next.is (next_at next.first (Event.Boots l.me) next.rest);
      };
      none = ap (λ (p : Host). p.process) host_before;
      found = ap (λ (p : Host). p.log) host_before;
      last = length ended.first;
      end = end;
      there = subst (λ es. slice_get (clusters_from (unborn n) es) (length ended.first) ≡ Some end) ended.is (at_cut (unborn n) ended.first ended.rest);
      left = ap (λ (p : Host). p.log) host_end ∙ (life_left n l).log_is;
    }

pub lives_are_lawful : LivesAreLawful
lives_are_lawful n ls h most r = record { lawful = lawful n ls h r; each = is_in n ls h r }
