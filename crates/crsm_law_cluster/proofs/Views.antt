-- The log files of a cluster, as a world, and the world that shows them: the decisions and entries that they hold.
use Rattle.std.proofs.Common.{◌≡◌, ℕ, zero, suc, List, [], ◌∷◌, ◌++◌, map, refl, sym, ◌∙◌, ap, subst, inl, inr}
use Rattle.std.specs.Prelude.{◌==◌, slice_get, flat_map, find, Contains}
use Rattle.std.specs.Option.{option_map_or}
use Rattle.std.proofs.lemmas.List.Concat.{flat_map-cons}
use Rattle.crsm_spec.specs.Types.{Entry, Decision, Rec}
use Rattle.crsm_spec.specs.Lists.{Among}
use Rattle.crsm_spec.specs.Replica.{fresh}
use Rattle.crsm_spec.specs.Draft.{begun, keep}
use Rattle.crsm_spec.specs.Step.{founding_boot, boot_again}
use Rattle.crsm_spec.specs.Quorum.{spec_decided}
use Rattle.crsm_spec.specs.Decided.{decisions, decisions_in, decision_of, spec_at}
use Rattle.crsm_spec.specs.Durable.{HoldsEntry, KeepsEntry, IsKeptBy}
use Rattle.crsm_spec.specs.World.{World, Site, log_of, log_at}
use Rattle.crsm_law_epoch.proofs.LogWorlds.{all_held}
use Rattle.crsm_law_runs.proofs.RunLists.{each_of, of_each}
use Rattle.crsm_law_runs.proofs.DurableLists.{among_contains}
use Rattle.crsm_law_cluster.specs.Clusters.{Host, Cluster, host_at, log_in, empty_host}
use Rattle.crsm_law_cluster.specs.Showing.{IsShownBy}
use Rattle.crsm_law_cluster.specs.OneList.{world_of}

-- ---- logs

log_down : (ps : List Host) (k : ℕ) → option_map_or log_of (slice_get (map (λ (p : Host). Site.Down p.log) ps) k) [] ≡ (option_map_or (λ (p : Host). p) (slice_get ps k) empty_host).log
unfolding log_of empty_host
log_down [] k = refl
log_down (p ∷ ps) zero = refl
log_down (p ∷ ps) (suc k) = log_down ps k

pub log_is : (c : Cluster) (k : ℕ) → log_at (world_of c) k ≡ log_in c k
unfolding world_of log_at log_in host_at
log_is c k = log_down c.hosts k

founding_decisions : (k n : ℕ) → decisions (founding_boot k n).replica.log ≡ []
unfolding founding_boot boot_again keep begun fresh decisions
founding_decisions k n = refl

no_decisions : decisions [] ≡ []
unfolding decisions
no_decisions = refl

-- a first boot keeps no entry
founding_keeps : (k n : ℕ) (e : Entry) (rec : Rec) → Among (founding_boot k n).replica.log rec → HoldsEntry e rec → ⊥
unfolding founding_boot boot_again keep begun fresh
founding_keeps k n e rec (inl q) h = subst (HoldsEntry e) (sym q) h
founding_keeps k n e rec (inr (inl q)) h = subst (HoldsEntry e) (sym q) h
founding_keeps k n e rec (inr (inr q)) h = q

-- ---- decisions

abbrev decisions_at : List Site → ℕ → List Decision
decisions_at ss k = decisions (option_map_or log_of (slice_get ss k) [])

abbrev all_of : List Site → List Decision
all_of ss = flat_map (λ s. decisions (log_of s)) ss

same_decisions : (ss ts : List Site) → ((k : ℕ) → decisions_at ss k ≡ decisions_at ts k) → all_of ss ≡ all_of ts
same_decisions [] [] h = refl
same_decisions [] (t ∷ ts) h = sym (flat_map-cons (λ s. decisions (log_of s)) t ts ∙ ap (λ z. z ++ all_of ts) (sym (h 0) ∙ no_decisions) ∙ sym (same_decisions [] ts (λ k. h (suc k))))
same_decisions (s ∷ ss) [] h = flat_map-cons (λ s. decisions (log_of s)) s ss ∙ ap (λ z. z ++ all_of ss) (h 0 ∙ no_decisions) ∙ same_decisions ss [] (λ k. h (suc k))
same_decisions (s ∷ ss) (t ∷ ts) h =
    flat_map-cons (λ s. decisions (log_of s)) s ss ∙ ap (λ z. z ++ all_of ss) (h 0) ∙ ap (λ z. decisions (log_of t) ++ z) (same_decisions ss ts (λ k. h (suc k))) ∙ sym (flat_map-cons (λ s. decisions (log_of s)) t ts)

module _ (n : ℕ) (c : Cluster) (w : World) (h : IsShownBy n c w) where
  decisions_there : (k : ℕ) → decisions (log_at (world_of c) k) ≡ decisions (log_at w k)
  decisions_there k = ap decisions (log_is c k) ∙ elim (h.logs k) [
    | inl e ↦ ap decisions e
    | inr t ↦ ap decisions t.1 ∙ no_decisions ∙ sym (ap decisions t.2 ∙ founding_decisions k n)
  ]

  pub decisions_are : decisions_in (world_of c) ≡ decisions_in w
  unfolding decisions_in log_at
  decisions_are = same_decisions (world_of c).sites w.sites there
    where
      there : (k : ℕ) → decisions_at (world_of c).sites k ≡ decisions_at w.sites k
      there k = decisions_there k

  pub spec_is : (e : ℕ) → spec_at (world_of c) e ≡ spec_at w e
  unfolding spec_at decision_of world_of
  spec_is e = ap (λ m. spec_decided m (find (λ d. d.epoch == e) (decisions_in (world_of c)))) (h.size ∙ sym (all_held n w h.reached).size) ∙ ap (λ ds. spec_decided w.n (find (λ (d : Decision). d.epoch == e) ds)) decisions_are

  keeps : (e : Entry) (k : ℕ) → KeepsEntry w e k → KeepsEntry (world_of c) e k
  keeps e k (rec, there, holds) = elim (h.logs k) [
    | inl q ↦ (rec, subst (λ l. Contains l rec) (sym (log_is c k ∙ q)) there, holds)
    | inr t ↦ absurd (founding_keeps k n e rec (subst (λ l. Among l rec) t.2 (among_contains (log_at w k) rec there)) holds)
  ]

  pub kept_by : (spec : List ℕ) (e : Entry) → IsKeptBy w spec e → IsKeptBy (world_of c) spec e
  kept_by spec e (ks, many, all) = (ks, many, of_each (KeepsEntry (world_of c) e) ks (λ k a. keeps e k (each_of (KeepsEntry w e) ks all k a)))
