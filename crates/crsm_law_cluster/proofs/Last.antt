-- The world that shows the end of a history is a last world of the laws of runs, with the history's list.
use Rattle.std.proofs.Common.{◌≡◌, ℕ, ◌<◌, ◌≤◌, List, [], ◌∷◌, length, map, refl, sym, ◌∙◌, ap, subst, inl, inr, arith}
use Rattle.std.specs.Prelude.{◌⊎◌, Option, Some, None, slice_get}
use Rattle.std.specs.List.{AllByRecursion, range_with_len}
use Rattle.std.specs.Option.{option_map_or}
use Rattle.std.proofs.lemmas.Option.{none-some}
use Rattle.crsm_base.specs.Spelling.{Rises}
use Rattle.crsm_spec.specs.Types.{Entry}
use Rattle.crsm_spec.specs.Lists.{Among, IsPrefixOf, numbers_below}
use Rattle.crsm_spec.specs.Log.{Log, executed}
use Rattle.crsm_spec.specs.Run.{longest}
use Rattle.crsm_spec.specs.World.{World, Site, log_of, log_at}
use Rattle.crsm_fact_log.specs.Logs.{Extends, same, more, AreSpelt}
use Rattle.crsm_fact_log.proofs.Lists.{flat_from, flat_in}
use Rattle.crsm_fact_log.proofs.Logged.{end_fits, extends_trans}
use Rattle.crsm_fact_log.proofs.LogsFit.{executed_rises}
use Rattle.crsm_law_epoch.proofs.Words.{among_map, among_unmap, is_range}
use Rattle.crsm_law_epoch.proofs.LogWorlds.{logs_fit}
use Rattle.crsm_law_bounds.specs.Bounds.{IsSpelt}
use Rattle.crsm_law_bounds.proofs.Worlds.{short_logs_are_spelt}
use Rattle.crsm_law_agreement.proofs.Agree.{lists_agree}
use Rattle.crsm_law_runs.specs.Last.{IsLast}
use Rattle.crsm_law_runs.proofs.RunLists.{of_each, longest_among, none_longer, shorter_prefix, empty_prefix}
use Rattle.crsm_law_runs.proofs.Runs.{executed_longer}
use Rattle.crsm_law_runs.proofs.DurableLists.{among_place}
use Rattle.crsm_law_cluster.specs.Clusters.{Event, Cluster, log_in, after, unborn}
use Rattle.crsm_law_cluster.specs.Histories.{clusters_from, clusters, last_from, last_cluster}
use Rattle.crsm_law_cluster.specs.Showing.{IsShown}
use Rattle.crsm_law_cluster.proofs.Showing.{histories_are_shown}
use Rattle.crsm_law_cluster.proofs.Agree.{shown_short, list_is}
use Rattle.crsm_law_cluster.specs.OneList.{lists, one_list}
use Rattle.crsm_law_cluster.specs.ClusterLaws.{IsHistory, ListsAreOne, LogFilesGrow}

-- the last cluster is one of all
last_of : (c : Cluster) (h : List Event) → Among (clusters_from c h) (last_from c h)
unfolding clusters_from last_from
last_of c [] = inl refl
last_of c (e ∷ h) = inr (last_of (after c e) h)

pub last_among : (n : ℕ) (h : List Event) → Among (clusters n h) (last_cluster n h)
unfolding clusters last_cluster
last_among n h = last_of (unborn n) h

list_from : (n : ℕ) (h : List Event) (es : List Entry) → Among (lists n h) es → (k : ℕ) × (c : Cluster) × Among (clusters n h) c × (executed (log_in c k) ≡ es)
unfolding lists
list_from n h es a =
    let t = flat_from (λ k. map (λ c. executed (log_in c k)) (clusters n h)) (numbers_below 15) es a in
    let u = among_unmap (λ c. executed (log_in c t.0)) (clusters n h) es t.2 in
    (t.0, u.0, u.1, u.2)

list_in : (n : ℕ) (h : List Event) (k : ℕ) (c : Cluster) → k < 15 → Among (clusters n h) c → Among (lists n h) (executed (log_in c k))
unfolding lists numbers_below
list_in n h k c lt a =
    flat_in (λ k. map (λ c. executed (log_in c k)) (clusters n h)) (range_with_len 0 15) k (executed (log_in c k)) (is_range 0 15 k (omega arith) (omega (arith, lt)))
    (among_map (λ c. executed (log_in c k)) (clusters n h) c a)

-- a log that has a record is that of a replica with a small number
some_log : (w : World) (k : ℕ) → ((k : ℕ) (s : Site) → slice_get w.sites k ≡ Some s → k < 15) → (k < 15) ⊎ (log_at w k ≡ [])
unfolding log_at
some_log w k small = go (slice_get w.sites k) refl
  where
    go : (o : Option Site) → slice_get w.sites k ≡ o → (k < 15) ⊎ (option_map_or log_of o [] ≡ [])
    go None e = inr refl
    go (Some s) e = inl (small k s e)

none_executed : (log : Log) → log ≡ [] → length (executed log) ≤ 0
unfolding executed
none_executed log e = subst (λ l. length (executed l) ≤ 0) (sym e) (omega arith)

spelt_prefix : (a b : Log) → Extends a b → AreSpelt b → AreSpelt a
spelt_prefix a b same h = h
spelt_prefix a b (more {new = c} rec p) h = spelt_prefix a c p h.1

module _ (n : ℕ) (h : List Event) (q : IsHistory n h) where
  pub shown : IsShown n h
  shown = histories_are_shown n h q.most q.lawful

  abbrev list : List Entry
  list = one_list n h

  spelt : IsSpelt n shown.end
  spelt = short_logs_are_spelt n shown.end q.most shown.last.reached (shown_short n (last_cluster n h) shown.end shown.last q.short)

  agree : (j k : ℕ) (a b : Log) → Extends a (log_at shown.end j) → Extends b (log_at shown.end k) → IsPrefixOf (executed a) (executed b) ⊎ IsPrefixOf (executed b) (executed a)
  agree = lists_agree n shown.end shown.last.reached spelt.few spelt.messages

  -- each list of the history is that of a log on the way to the end
  on_the_way : (k : ℕ) (c : Cluster) → Among (clusters n h) c → (log : Log) × Extends log (log_at shown.end k) × (executed (log_in c k) ≡ executed log)
  on_the_way k c a =
      let p = among_place (clusters n h) c a in
      let t = shown.between p.0 p.0 c c (omega arith) p.1 p.1 in
      (log_at t.next k, t.goes_on k, list_is n c t.next t.next_shown k)

  is : (list ≡ []) ⊎ ((k : ℕ) × (log : Log) × Extends log (log_at shown.end k) × (list ≡ executed log))
  unfolding one_list
  is = elim (longest_among (lists n h)) [
    | inl e ↦ inl e
    | inr a ↦ (let t = list_from n h (longest (lists n h)) a in
        let u = on_the_way t.0 t.1 t.2 in
        inr (t.0, u.0, u.1, sym t.3 ∙ u.2))
  ]

  -- no list is longer
  shorter : (k : ℕ) (log : Log) → Extends log (log_at shown.end k) → length (executed log) ≤ length list
  unfolding one_list
  shorter k log x = elim (some_log shown.end k spelt.numbers) [
    | inl lt ↦ (let t = none_longer (lists n h) (executed (log_in (last_cluster n h) k)) (list_in n h k (last_cluster n h) lt (last_among n h)) in
        let e = ap length (list_is n (last_cluster n h) shown.end shown.last k) in
        let u = executed_longer log (log_at shown.end k) x in omega (arith, t, e, u))
    | inr e ↦ (let t = none_executed (log_at shown.end k) e in let u = executed_longer log (log_at shown.end k) x in omega (arith, t, u))
  ]

  ends : (k : ℕ) (log : Log) → Extends log (log_at shown.end k) → IsPrefixOf (executed log) list
  ends k log x = go is
    where
      go : (list ≡ []) ⊎ ((j : ℕ) × (b : Log) × Extends b (log_at shown.end j) × (list ≡ executed b)) → IsPrefixOf (executed log) list
      go (inl e) = subst (IsPrefixOf (executed log)) (sym e) (empty_prefix (executed log) (subst (λ z. length (executed log) ≤ length z) e (shorter k log x)))
      go (inr t) = subst (IsPrefixOf (executed log)) (sym t.3) (shorter_prefix (executed log) (executed t.1) (agree k t.0 log t.1 x t.2) (subst (λ z. length (executed log) ≤ length z) t.3 (shorter k log x)))

  pub last : IsLast n shown.end list
  last = record {
    most = q.most;
    reached = shown.last.reached;
    short = shown_short n (last_cluster n h) shown.end shown.last q.short;
    prefix = ends;
    held = λ p e at. elim is [
      | inl none ↦ absurd (none-some e (subst (λ l. slice_get l p ≡ Some e) none at))
      | inr t ↦ (t.0, t.1, t.2, subst (λ l. slice_get l p ≡ Some e) t.3 at)
    ];
  }

  rises : Rises list
  rises = elim is [
    | inl e ↦ subst Rises (sym e) tt
    | inr (k, log, ext, e) ↦ subst Rises (sym e) (executed_rises k n log (end_fits k n ext (logs_fit n shown.end last.reached spelt.few k)) (spelt_prefix log (log_at shown.end k) ext (spelt.records k)))
  ]

  prefixes : AllByRecursion (λ es. IsPrefixOf es list) (lists n h)
  prefixes = of_each (λ es. IsPrefixOf es list) (lists n h) (λ es a.
      let t = list_from n h es a in
      let u = on_the_way t.0 t.1 t.2 in
      subst (λ z. IsPrefixOf z list) (sym u.2 ∙ t.3) (ends t.0 u.0 u.1))

pub lists_are_one : ListsAreOne
lists_are_one n h q = record { prefixes = prefixes n h q; ascending = rises n h q }

pub log_files_grow : LogFilesGrow
log_files_grow n h q i j c d le p r k =
    let t = (shown n h q).between i j c d le p r in
    let a = log_at t.world k in
    let b = log_at t.next k in
    subst (λ z. IsPrefixOf z (executed (log_in d k))) (sym (list_is n c t.world t.shown k))
    (subst (IsPrefixOf (executed a)) (sym (list_is n d t.next t.next_shown k))
    (shorter_prefix (executed a) (executed b) (agree n h q k k a b (extends_trans (t.later k) (t.goes_on k)) (t.goes_on k)) (executed_longer a b (t.later k))))
