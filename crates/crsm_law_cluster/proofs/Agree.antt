-- The log files of a lawful history agree.
use Rattle.std.proofs.Common.{◌≡◌, ℕ, zero, suc, List, [], ◌∷◌, length, refl, sym, ◌∙◌, ap, subst, inl, inr, arith}
use Rattle.std.specs.Prelude.{◌⊎◌, Some, slice_get}
use Rattle.crsm_spec.specs.Lists.{Among, IsPrefixOf}
use Rattle.crsm_spec.specs.Log.{executed}
use Rattle.crsm_spec.specs.Draft.{begun, keep}
use Rattle.crsm_spec.specs.Replica.{fresh}
use Rattle.crsm_spec.specs.Step.{founding_boot, boot_again}
use Rattle.crsm_spec.specs.World.{World, log_at}
use Rattle.crsm_law_bounds.specs.Bounds.{HasShortLogs as AreShort}
use Rattle.crsm_law_bounds.proofs.Worlds.{short_logs_are_spelt}
use Rattle.crsm_law_agreement.proofs.Agree.{lists_agree}
use Rattle.crsm_law_cluster.specs.Clusters.{Cluster, log_in}
use Rattle.crsm_law_cluster.specs.Histories.{clusters, last_cluster}
use Rattle.crsm_law_cluster.specs.Showing.{IsShownBy}
use Rattle.crsm_law_cluster.specs.HistoryLaws.{HasShortLogs, LogFilesAgree}
use Rattle.crsm_law_cluster.proofs.Showing.{histories_are_shown}

founding_length : (k n : ℕ) → length (founding_boot k n).replica.log ≡ 2
unfolding founding_boot boot_again keep begun fresh
founding_length k n = refl

founding_list : (k n : ℕ) → executed (founding_boot k n).replica.log ≡ []
unfolding founding_boot boot_again keep begun fresh executed
founding_list k n = refl

none_executed : executed [] ≡ []
unfolding executed
none_executed = refl

-- a world that shows short logs has short logs
pub shown_short : (n : ℕ) (c : Cluster) (w : World) → IsShownBy n c w → HasShortLogs c → AreShort w
shown_short n c w h few k = elim (h.logs k) [
  | inl e ↦ (let l = ap length e in let f = few k in omega (arith, l, f))
  | inr t ↦ (let l = ap length t.2 in let f = founding_length k n in omega (arith, l, f))
]

-- and executed lists are the same
pub list_is : (n : ℕ) (c : Cluster) (w : World) → IsShownBy n c w → (k : ℕ) → executed (log_in c k) ≡ executed (log_at w k)
list_is n c w h k = elim (h.logs k) [
  | inl e ↦ ap executed e
  | inr t ↦ ap executed t.1 ∙ none_executed ∙ sym (ap executed t.2 ∙ founding_list k n)
]

among_place : {A : Type 0} (xs : List A) (x : A) → Among xs x → (i : ℕ) × (slice_get xs i ≡ Some x)
among_place [] x a = absurd a
among_place (y ∷ xs) x (inl e) = (zero, ap (λ z. Some z) e)
among_place (y ∷ xs) x (inr a) = let t = among_place xs x a in (suc t.0, t.1)

pub log_files_agree : LogFilesAgree
log_files_agree n h most l few c d a b j k =
    let s = histories_are_shown n h most l in
    let w = s.end in
    let t = short_logs_are_spelt n w most s.last.reached (shown_short n (last_cluster n h) w s.last few) in
    let p = among_place (clusters n h) c a in
    let q = among_place (clusters n h) d b in
    let u = s.between p.0 p.0 c c (omega arith) p.1 p.1 in
    let v = s.between q.0 q.0 d d (omega arith) q.1 q.1 in
    subst (λ x. IsPrefixOf x (executed (log_in d k)) ⊎ IsPrefixOf (executed (log_in d k)) x) (sym (list_is n c u.next u.next_shown j))
    (subst (λ x. IsPrefixOf (executed (log_at u.next j)) x ⊎ IsPrefixOf x (executed (log_at u.next j))) (sym (list_is n d v.next v.next_shown k))
    (lists_agree n w s.last.reached t.few t.messages j k (log_at u.next j) (log_at v.next k) (u.goes_on j) (v.goes_on k)))
