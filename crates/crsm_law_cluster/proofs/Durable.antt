-- Decisions of log files agree, and executed entries are durable.
use Rattle.std.proofs.Common.{◌≡◌, ℕ, ◌<◌, ◌≤◌, List, length, sym, subst, arith}
use Rattle.std.specs.Prelude.{Some, slice_get, Contains}
use Rattle.std.specs.List.{AllByRecursion}
use Rattle.crsm_spec.specs.Types.{Entry, Decision}
use Rattle.crsm_spec.specs.Log.{executed}
use Rattle.crsm_spec.specs.Decided.{decisions_in, spec_at, ArePrefixes}
use Rattle.crsm_spec.specs.Durable.{IsKeptBy}
use Rattle.crsm_spec.specs.World.{World, log_at}
use Rattle.crsm_law_steps.specs.Laws.{LogsGoOn}
use Rattle.crsm_law_runs.specs.Last.{start_in, GoesOnWith, IsDurableIn, DecisionsAgreeIn}
use Rattle.crsm_law_runs.proofs.Last.{is_before}
use Rattle.crsm_law_runs.proofs.RunLists.{each_of, of_each}
use Rattle.crsm_law_runs.proofs.DurableLists.{among_place}
use Rattle.crsm_law_runs.proofs.Decisions as decisions
use Rattle.crsm_law_runs.proofs.Durable.{durable}
use Rattle.crsm_law_cluster.specs.Clusters.{Event, Cluster}
use Rattle.crsm_law_cluster.specs.Histories.{clusters, last_cluster}
use Rattle.crsm_law_cluster.specs.Showing.{IsShownBy}
use Rattle.crsm_law_cluster.proofs.Agree.{list_is}
use Rattle.crsm_law_cluster.specs.OneList.{one_list, world_of}
use Rattle.crsm_law_cluster.specs.ClusterLaws.{IsHistory, DecisionsAgree, LogFilesAreDurable}
use Rattle.crsm_law_cluster.proofs.Last.{shown, last}
use Rattle.crsm_law_cluster.proofs.Views.{decisions_are, spec_is, kept_by}

-- decisions agree in a world if they do in one with the same
agree_in : (v w : World) (list : List Entry) → decisions_in v ≡ decisions_in w → DecisionsAgreeIn w list → DecisionsAgreeIn v list
agree_in v w list e h = record {
  one = λ a b p q. h.one a b (subst (λ ds. Contains ds a) e p) (subst (λ ds. Contains ds b) e q);
  base = subst (λ ds. AllByRecursion (λ (d : Decision). d.base_len ≤ length list) ds) (sym e) h.base;
  start = subst (λ ds. AllByRecursion (λ (d : Decision). ArePrefixes (start_in list d) list) ds) (sym e) h.start;
}

pub decisions_agree : DecisionsAgree
decisions_agree n h q =
    let s = shown n h q in
    agree_in (world_of (last_cluster n h)) s.end (one_list n h) (decisions_are n (last_cluster n h) s.end s.last) (decisions.decisions_agree n s.end (one_list n h) (last n h q))

module _ (n : ℕ) (h : List Event) (q : IsHistory n h) (c : Cluster) (w : World) (g : IsShownBy n c w) (on : LogsGoOn w (shown n h q).end) where
  spec_end : (e : ℕ) → spec_at (shown n h q).end e ≡ spec_at (world_of (last_cluster n h)) e
  spec_end e = sym (spec_is n (last_cluster n h) (shown n h q).end (shown n h q).last e)

  moves : (x : ℕ) (e : Entry) → IsKeptBy w (spec_at (shown n h q).end x) e → IsKeptBy (world_of c) (spec_at (world_of (last_cluster n h)) x) e
  moves x e k = kept_by n c w g (spec_at (world_of (last_cluster n h)) x) e (subst (λ s. IsKeptBy w s e) (spec_end x) k)

  -- what a world that shows the cluster has executed is durable in its log files
  pub durable_there : (k place : ℕ) (e : Entry) → slice_get (executed (log_at w k)) place ≡ Some e → IsDurableIn (world_of (last_cluster n h)) (one_list n h) (world_of c) e place
  durable_there k place e at =
      let end = (shown n h q).end in
      let list = one_list n h in
      let l = last n h q in
      let d = durable n end list l w (is_before n end w list l g.reached on) e k place at in
      record {
        kept = moves e.epoch e d.kept;
        later = subst (λ ds. AllByRecursion (λ (b : Decision). e.epoch < b.epoch → GoesOnWith (world_of (last_cluster n h)) list (world_of c) e place b) ds) (sym (decisions_are n c w g))
            (of_each (λ b. e.epoch < b.epoch → GoesOnWith (world_of (last_cluster n h)) list (world_of c) e place b) (decisions_in w) (λ b m lt.
            let t = each_of (λ b. e.epoch < b.epoch → GoesOnWith end list w e place b) (decisions_in w) d.later b m lt in
            record { start = t.start; kept = λ x is. moves x e (t.kept x is) }));
      }

pub log_files_are_durable : LogFilesAreDurable
log_files_are_durable n h q c a k place e at =
    let p = among_place (clusters n h) c a in
    let t = (shown n h q).between p.0 p.0 c c (omega arith) p.1 p.1 in
    durable_there n h q c t.next t.next_shown t.goes_on k place e (subst (λ z. slice_get z place ≡ Some e) (list_is n c t.next t.next_shown k) at)
