-- Histories by induction, and the effect of an event on a host.
use Rattle.std.proofs.Common.{◌≡◌, ℕ, zero, suc, ◌+◌, ◌≤◌, List, [], ◌∷◌, refl, sym, ◌∙◌, ap, subst, inl, inr, arith}
use Rattle.std.specs.Prelude.{◌⊎◌, Option, Some, None, slice_get}
use Rattle.std.specs.Option.{option_map_or}
use Rattle.std.proofs.lemmas.Bool.{cases_eq, cases_lt}
use Rattle.std.proofs.lemmas.Option.{none-some, same_Some}
use Rattle.crsm_spec.specs.Types.{Datagram}
use Rattle.crsm_spec.specs.Log.{Log}
use Rattle.crsm_law_cluster.specs.Clusters.{Event, Process, Host, Cluster, empty_host, host_at, with_host, while_up, with_process, posted, after, unborn}
use Rattle.crsm_law_cluster.specs.Histories.{clusters_from, clusters}
use Rattle.crsm_law_cluster.proofs.Lists.{set_none}
use Rattle.crsm_law_cluster.proofs.Shown.{host_is, host_other}
use Rattle.crsm_law_cluster.specs.Going.{IsAt}

module _ (n : ℕ) (h : List Event) where
  abbrev pub IsThere : ℕ → Cluster → Type 0
  IsThere i c = slice_get (clusters n h) i ≡ Some c

  -- what an event keeps
  abbrev pub IsKept : (ℕ → Cluster → Type 0) → Type 0
  IsKept P = (i : ℕ) (c : Cluster) (e : Event) → IsAt n h i c e → IsThere (suc i) (after c e) → P i c → P (suc i) (after c e)

  walk : (P : ℕ → Cluster → Type 0) → IsKept P → (m : ℕ) (c : Cluster) (rest : List Event) → ((i : ℕ) (b : Cluster) → slice_get (clusters_from c rest) i ≡ Some b → IsThere (m + i) b) →
      ((i : ℕ) (e : Event) → slice_get rest i ≡ Some e → slice_get h (m + i) ≡ Some e) → P m c → (j : ℕ) (d : Cluster) → slice_get (clusters_from c rest) j ≡ Some d → P (m + j) d
  unfolding clusters_from
  walk P keeps m c [] there events p zero d at = subst (λ b. P (m + 0) b) (same_Some c d at) (subst (λ i. P i c) (omega arith) p)
  walk P keeps m c [] there events p (suc j) d at = absurd (none-some d at)
  walk P keeps m c (e ∷ rest) there events p zero d at = subst (λ b. P (m + 0) b) (same_Some c d at) (subst (λ i. P i c) (omega arith) p)
  walk P keeps m c (e ∷ rest) there events p (suc j) d at =
      let next : (i : ℕ) (b : Cluster) → slice_get (clusters_from (after c e) rest) i ≡ Some b → IsThere (suc m + i) b = λ i b q. subst (λ z. IsThere z b) (omega arith) (there (suc i) b q) in
      let here : IsThere m c = subst (λ z. IsThere z c) (omega arith) (there 0 c refl) in
      let now : slice_get h m ≡ Some e = subst (λ z. slice_get h z ≡ Some e) (omega arith) (events 0 e refl) in
      let first : IsThere (suc m) (after c e) = subst (λ z. IsThere z (after c e)) (omega arith) (next 0 (after c e) (at_first (after c e) rest)) in
      subst (λ z. P z d) (omega arith)
      (walk P keeps (suc m) (after c e) rest next (λ i f q. subst (λ z. slice_get h z ≡ Some f) (omega arith) (events (suc i) f q)) (keeps m c e (record { cluster = here; event = now }) first p) j d at)
    where
      at_first : (c : Cluster) (es : List Event) → slice_get (clusters_from c es) 0 ≡ Some c
      at_first c [] = refl
      at_first c (e ∷ es) = refl

  -- what holds at the beginning
  pub always : (P : ℕ → Cluster → Type 0) → IsKept P → P 0 (unborn n) → (j : ℕ) (d : Cluster) → IsThere j d → P j d
  unfolding clusters
  always P keeps p j d at = subst (λ z. P z d) (omega arith) (walk P keeps 0 (unborn n) h (λ i b q. subst (λ z. slice_get (clusters_from (unborn n) h) z ≡ Some b) (omega arith) q) (λ i e q. subst (λ z. slice_get h z ≡ Some e) (omega arith) q) p j d at)

  at_zero : (d : Cluster) → IsThere 0 d → unborn n ≡ d
  unfolding clusters clusters_from
  at_zero d at = go h at
    where
      go : (es : List Event) → slice_get (clusters_from (unborn n) es) 0 ≡ Some d → unborn n ≡ d
      go [] q = same_Some (unborn n) d q
      go (e ∷ es) q = same_Some (unborn n) d q

  -- what holds at a moment, from then on
  pub from_then : (P : ℕ → Cluster → Type 0) → IsKept P → (i : ℕ) (c : Cluster) → IsThere i c → P i c → (j : ℕ) (d : Cluster) → i ≤ j → IsThere j d → P j d
  from_then P keeps i c here p j d le at = always (λ m b. i ≤ m → P m b) kept_on first j d at le
    where
      first : i ≤ 0 → P 0 (unborn n)
      first le = let is : i ≡ 0 = omega (arith, le) in subst (λ b. P 0 b) (sym (at_zero c (subst (λ z. IsThere z c) is here))) (subst (λ z. P z c) is p)

      kept_on : IsKept (λ m b. i ≤ m → P m b)
      kept_on m b e now next q le = elim (cases_lt m i) [
        | inl lt ↦ (let is : i ≡ suc m = omega (arith, le, lt) in subst (λ z. P (suc m) z) (same_Some c (after b e) (sym (subst (λ z. IsThere z c) is here) ∙ next)) (subst (λ z. P z c) is p))
        | inr ge ↦ keeps m b e now next (q ge)
      ]

next_from : (c : Cluster) (es : List Event) (i : ℕ) (b : Cluster) (e : Event) → slice_get (clusters_from c es) i ≡ Some b → slice_get es i ≡ Some e → slice_get (clusters_from c es) (suc i) ≡ Some (after b e)
unfolding clusters_from
next_from c [] i b e at is = absurd (none-some e is)
next_from c (f ∷ es) zero b e at is = first es ∙ ap (λ z. Some (after c z)) (same_Some f e is) ∙ ap (λ z. Some (after z e)) (same_Some c b at)
  where
    first : (es : List Event) → slice_get (clusters_from (after c f) es) 0 ≡ Some (after c f)
    first [] = refl
    first (g ∷ es) = refl
next_from c (f ∷ es) (suc i) b e at is = next_from (after c f) es i b e at is

-- the cluster behind an event
pub next_there : (n : ℕ) (h : List Event) (i : ℕ) (c : Cluster) (e : Event) → IsAt n h i c e → IsThere n h (suc i) (after c e)
unfolding clusters
next_there n h i c e at = next_from (unborn n) h i c e at.cluster at.event

-- ---- what an event makes of a host

sent_host : (c : Cluster) (ss : List (ℕ × Datagram)) (k : ℕ) → host_at (record c { sent = ss }) k ≡ host_at c k
unfolding host_at
sent_host c ss k = refl

-- the host of a process that is there
pub changed_there : (c : Cluster) (k : ℕ) (p : Host) (x : Process) → (host_at c k).process ≡ Some x → host_at (with_host c k p) k ≡ p
unfolding host_at empty_host
changed_there c k p x e = go (slice_get c.hosts k) refl e
  where
    go : (o : Option Host) → slice_get c.hosts k ≡ o → (option_map_or (λ (q : Host). q) o empty_host).process ≡ Some x → host_at (with_host c k p) k ≡ p
    go None is q = absurd (none-some x q)
    go (Some q) is r = host_is c k p q is

-- one host is changed, if it is there
pub changed : (c : Cluster) (j k : ℕ) (p : Host) → (host_at (with_host c j p) k ≡ host_at c k) ⊎ ((j ≡ k) × (host_at (with_host c j p) k ≡ p))
unfolding host_at with_host
changed c j k p = elim (cases_eq k j) [
  | inr ne ↦ inl (host_other c j k p ne)
  | inl e ↦ go (slice_get c.hosts j) refl e
]
  where
    go : (o : Option Host) → slice_get c.hosts j ≡ o → k ≡ j → (host_at (with_host c j p) k ≡ host_at c k) ⊎ ((j ≡ k) × (host_at (with_host c j p) k ≡ p))
    go None is e = inl (ap (λ ps. option_map_or (λ (q : Host). q) (slice_get ps k) empty_host) (set_none c.hosts j p is))
    go (Some q) is e = inr (sym e, subst (λ i. host_at (with_host c j p) i ≡ p) (sym e) (host_is c j p q is))

-- a process of which something goes out
pub sends_there : (c : Cluster) (k : ℕ) (log : Log) (x : Process) → host_at c k ≡ record { log = log; process = Some x } → host_at (after c (Event.Sends k)) k ≡ record { log = log; process = Some (posted x) }
unfolding after while_up with_process
sends_there c k log x is =
    sent_host _ _ k ∙ changed_there c k _ x (ap (λ (p : Host). p.process) is) ∙ ap (λ (p : Host). while_up p (λ x. with_process p (posted x))) is
