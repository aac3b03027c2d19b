-- A node's host is the result of the events of this node.
use Rattle.std.proofs.Common.{◌≡◌, ℕ, List, [], ◌∷◌, ◌++◌, refl, sym, ◌∙◌, ap, subst, inl, inr, Bool, cond}
use Rattle.std.specs.Prelude.{◌==◌, filter, Some, None, slice_get}
use Rattle.std.proofs.lemmas.Bool.{cases_eq, eq-eqb, ne_eqb}
use Rattle.crsm_spec.specs.Types.{Datagram}
use Rattle.crsm_law_cluster.specs.Clusters.{Event, Host, Cluster, host_at, with_host, started, with_turn, kept, while_up, with_process, posted, after}
use Rattle.crsm_law_cluster.specs.Histories.{last_from}
use Rattle.crsm_law_cluster.proofs.Lists.{got_set, got_other}
use Rattle.crsm_law_cluster.proofs.Shown.{host_is, host_other}
use Rattle.crsm_law_lives.specs.Events.{node_of, events_of}

-- what an event of replica k's node makes of its host, in a cluster that began with n replicas
unfoldable pub own_event : ℕ → ℕ → Event → Host → Host
own_event k n (Event.Boots j) p = started k n p.log p.process
own_event k n (Event.Takes j t reading) p = while_up p (λ x. with_process p (with_turn t reading x))
own_event k n (Event.Keeps j) p = while_up p (kept p)
own_event k n (Event.Sends j) p = while_up p (λ x. with_process p (posted x))
own_event k n (Event.Fails j) p = while_up p (λ x. with_process p (posted x))
own_event k n (Event.Stops j) p = record p { process = None }

unfoldable pub own_run : ℕ → ℕ → List Event → Host → Host
own_run k n [] p = p
own_run k n (e ∷ es) p = own_run k n es (own_event k n e p)

pub own_then : (k n : ℕ) (es fs : List Event) (p : Host) → own_run k n (es ++ fs) p ≡ own_run k n fs (own_run k n es p)
unfolding own_run
own_then k n [] fs p = refl
own_then k n (e ∷ es) fs p = own_then k n es fs (own_event k n e p)

sent_host : (c : Cluster) (ss : List (ℕ × Datagram)) (k : ℕ) → host_at (record c { sent = ss }) k ≡ host_at c k
unfolding host_at
sent_host c ss k = refl

module _ (c : Cluster) (k : ℕ) where
  changed : (j : ℕ) (p : ℕ → Host) (q : Host) → slice_get c.hosts k ≡ Some q → j ≡ k → host_at (with_host c j (p j)) k ≡ p k
  changed j p q there e = subst (λ i. host_at (with_host c i (p i)) k ≡ p k) (sym e) (host_is c k (p k) q there)

  pub after_own : (q : Host) → slice_get c.hosts k ≡ Some q → (e : Event) → node_of e ≡ k → host_at (after c e) k ≡ own_event k c.n e (host_at c k)
  unfolding after node_of own_event
  after_own q there (Event.Boots j) e = changed j (λ i. started i c.n (host_at c i).log (host_at c i).process) q there e
  after_own q there (Event.Takes j t reading) e = changed j (λ i. while_up (host_at c i) (λ x. with_process (host_at c i) (with_turn t reading x))) q there e
  after_own q there (Event.Keeps j) e = changed j (λ i. while_up (host_at c i) (kept (host_at c i))) q there e
  after_own q there (Event.Sends j) e = sent_host _ _ k ∙ changed j (λ i. while_up (host_at c i) (λ x. with_process (host_at c i) (posted x))) q there e
  after_own q there (Event.Fails j) e = changed j (λ i. while_up (host_at c i) (λ x. with_process (host_at c i) (posted x))) q there e
  after_own q there (Event.Stops j) e = changed j (λ i. record (host_at c i) { process = None }) q there e

  pub after_other : (e : Event) → (node_of e ≡ k → ⊥) → host_at (after c e) k ≡ host_at c k
  unfolding after node_of
  after_other (Event.Boots j) ne = host_other c j k _ (λ e. ne (sym e))
  after_other (Event.Takes j t reading) ne = host_other c j k _ (λ e. ne (sym e))
  after_other (Event.Keeps j) ne = host_other c j k _ (λ e. ne (sym e))
  after_other (Event.Sends j) ne = sent_host _ _ k ∙ host_other c j k _ (λ e. ne (sym e))
  after_other (Event.Fails j) ne = host_other c j k _ (λ e. ne (sym e))
  after_other (Event.Stops j) ne = host_other c j k _ (λ e. ne (sym e))

  set_there : (j : ℕ) (p q : Host) → slice_get c.hosts k ≡ Some q → (r : Host) × (slice_get (with_host c j p).hosts k ≡ Some r)
  unfolding with_host
  set_there j p q there = elim (cases_eq k j) [
    | inl e ↦ (p, subst (λ i. slice_get (with_host c i p).hosts k ≡ Some p) e (got_set c.hosts k q p there))
    | inr ne ↦ (q, got_other c.hosts j k p ne ∙ there)
  ]

  pub still_there : (e : Event) (q : Host) → slice_get c.hosts k ≡ Some q → (r : Host) × (slice_get (after c e).hosts k ≡ Some r)
  unfolding after
  still_there (Event.Boots j) q there = set_there j _ q there
  still_there (Event.Takes j t reading) q there = set_there j _ q there
  still_there (Event.Keeps j) q there = set_there j _ q there
  still_there (Event.Sends j) q there = set_there j _ q there
  still_there (Event.Fails j) q there = set_there j _ q there
  still_there (Event.Stops j) q there = set_there j _ q there

pub same_size : (c : Cluster) (e : Event) → (after c e).n ≡ c.n
unfolding after with_host
same_size c (Event.Boots j) = refl
same_size c (Event.Takes j t reading) = refl
same_size c (Event.Keeps j) = refl
same_size c (Event.Sends j) = refl
same_size c (Event.Fails j) = refl
same_size c (Event.Stops j) = refl

-- ---- the events of one node

pub own_first : (k : ℕ) (e : Event) (h : List Event) → node_of e ≡ k → events_of k (e ∷ h) ≡ e ∷ events_of k h
unfolding events_of
own_first k e h is = ap (λ (b : Bool). cond b (e ∷ filter (λ f. node_of f == k) h) (filter (λ f. node_of f == k) h)) (eq-eqb (node_of e) k is)

pub other_first : (k : ℕ) (e : Event) (h : List Event) → (node_of e ≡ k → ⊥) → events_of k (e ∷ h) ≡ events_of k h
unfolding events_of
other_first k e h ne = ap (λ (b : Bool). cond b (e ∷ filter (λ f. node_of f == k) h) (filter (λ f. node_of f == k) h)) (ne_eqb (node_of e) k ne)

pub no_events : (k : ℕ) → events_of k [] ≡ []
unfolding events_of
no_events k = refl

pub host_run : (k : ℕ) (h : List Event) (c : Cluster) (q : Host) → slice_get c.hosts k ≡ Some q → host_at (last_from c h) k ≡ own_run k c.n (events_of k h) (host_at c k)
unfolding last_from own_run
host_run k [] c q there = ap (λ es. own_run k c.n es (host_at c k)) (sym (no_events k))
host_run k (e ∷ h) c q there =
    let t = still_there c k e q there in
    let rest = host_run k h (after c e) t.0 t.1 ∙ ap (λ m. own_run k m (events_of k h) (host_at (after c e) k)) (same_size c e) in
    elim (cases_eq (node_of e) k) [
      | inl is ↦ rest ∙ ap (own_run k c.n (events_of k h)) (after_own c k q there e is) ∙ ap (λ es. own_run k c.n es (host_at c k)) (sym (own_first k e h is))
      | inr ne ↦ rest ∙ ap (own_run k c.n (events_of k h)) (after_other c k e ne) ∙ ap (λ es. own_run k c.n es (host_at c k)) (sym (other_first k e h ne))
    ]

-- where a node has had the first of its events
pub record IsCut (k : ℕ) (h es fs : List Event) : Type 0 where
  pub first : List Event
  pub rest : List Event
  pub is : first ++ rest ≡ h
  pub had : events_of k first ≡ es
  pub to_come : events_of k rest ≡ fs

pub cut_at : (k : ℕ) (h es fs : List Event) → events_of k h ≡ es ++ fs → IsCut k h es fs
cut_at k h [] fs is = record { first = []; rest = h; is = refl; had = no_events k; to_come = is }
cut_at k [] (e ∷ es) fs is = absurd (none_is (sym (no_events k) ∙ is))
  where
    none_is : [] ≡ e ∷ (es ++ fs) → ⊥
    none_is q = absurd (cc)
cut_at k (g ∷ h) (e ∷ es) fs is = elim (cases_eq (node_of g) k) [
  | inl own ↦ (let both = sym (own_first k g h own) ∙ is in
      let t = cut_at k h es fs (rest_is g (events_of k h) both) in
      record { first = g ∷ t.first; rest = t.rest; is = ap (λ l. g ∷ l) t.is; had = own_first k g t.first own ∙ ap (λ l. g ∷ l) t.had ∙ ap (λ z. z ∷ es) (first_is g (events_of k h) both); to_come = t.to_come })
  | inr ne ↦ (let t = cut_at k h (e ∷ es) fs (sym (other_first k g h ne) ∙ is) in
      record { first = g ∷ t.first; rest = t.rest; is = ap (λ l. g ∷ l) t.is; had = other_first k g t.first ne ∙ t.had; to_come = t.to_come })
]
  where
    first_is : (g : Event) (ls : List Event) → g ∷ ls ≡ e ∷ (es ++ fs) → g ≡ e
    first_is g ls q = cc

    rest_is : (g : Event) (ls : List Event) → g ∷ ls ≡ e ∷ (es ++ fs) → ls ≡ es ++ fs
    rest_is g ls q = cc

-- where one of its events is the next
pub record IsBefore (k : ℕ) (h es : List Event) (e : Event) : Type 0 where
  pub first : List Event
  pub rest : List Event
  pub is : first ++ e ∷ rest ≡ h
  pub had : events_of k first ≡ es

pub before_next : (k : ℕ) (h es : List Event) (e : Event) (fs : List Event) → events_of k h ≡ es ++ e ∷ fs → IsBefore k h es e
before_next k [] es e fs is = absurd (none_is es (sym (no_events k) ∙ is))
  where
    none_is : (es : List Event) → [] ≡ es ++ e ∷ fs → ⊥
    none_is [] q = absurd (cc)
    none_is (f ∷ es) q = absurd (cc)
before_next k (g ∷ h) es e fs is = elim (cases_eq (node_of g) k) [
  | inl own ↦ go es (λ us q. before_next k h us e fs q) (sym (own_first k g h own) ∙ is) own
  | inr ne ↦ (let t = before_next k h es e fs (sym (other_first k g h ne) ∙ is) in
      record { first = g ∷ t.first; rest = t.rest; is = ap (λ l. g ∷ l) t.is; had = other_first k g t.first ne ∙ t.had })
]
  where
    first_is : (f : Event) (ls us : List Event) → g ∷ ls ≡ f ∷ us → f ≡ g
    first_is f ls us q = cc

    rest_is : (f : Event) (ls us : List Event) → g ∷ ls ≡ f ∷ us → ls ≡ us
    rest_is f ls us q = cc

    go : (es : List Event) → ((us : List Event) → events_of k h ≡ us ++ e ∷ fs → IsBefore k h us e) → g ∷ events_of k h ≡ es ++ e ∷ fs → node_of g ≡ k → IsBefore k (g ∷ h) es e
    go [] more both own = record { first = []; rest = h; is = ap (λ z. z ∷ h) (first_is e (events_of k h) fs both); had = no_events k }
    go (f ∷ es) more both own =
        let t = more es (rest_is f (events_of k h) (es ++ e ∷ fs) both) in
        record { first = g ∷ t.first; rest = t.rest; is = ap (λ l. g ∷ l) t.is; had = own_first k g t.first own ∙ ap (λ l. g ∷ l) t.had ∙ ap (λ z. z ∷ es) (sym (first_is f (events_of k h) (es ++ e ∷ fs) both)) }
