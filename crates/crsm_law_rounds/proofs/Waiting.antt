-- A client that waited before two calm rounds waits no more, and its entry is the one that was answered.
use Rattle.std.proofs.Common.{◌≡◌, ℕ, ◌+◌, ◌-◌, ◌≤◌, List, sym, ◌∙◌, ap, subst}
use Rattle.std.specs.Prelude.{IsTrue}
use Rattle.crsm_spec.specs.Clock.{u64_max}
use Rattle.crsm_spec.specs.Types.{Stamp, Entry}
use Rattle.crsm_spec.specs.Lists.{Among}
use Rattle.crsm_spec.specs.Log.{known, active, executed}
use Rattle.crsm_spec.specs.Replica.{Replica, Waiting}
use Rattle.crsm_spec.specs.World.{World, log_at}
use Rattle.crsm_fact_log.specs.Logs.{Logged}
use Rattle.crsm_law_epoch.specs.Numbers.{Distinct}
use Rattle.crsm_law_epoch.proofs.Worlds.{log_there}
use Rattle.crsm_law_bounds.specs.Bounds.{IsSpelt}
use Rattle.crsm_law_runs.proofs.DurableLists.{among_place}
use Rattle.crsm_law_active.specs.Served.{WaitsRightly}
use Rattle.crsm_law_active.proofs.ServedWorlds.{nothing_is_left}
use Rattle.crsm_law_rounds.specs.Members.{IsMemberUp, AllUp}
use Rattle.crsm_law_rounds.proofs.Links.{facts, seat_log}
use Rattle.crsm_law_rounds.proofs.Round.{RoundDone}
use Rattle.crsm_law_rounds.proofs.Executed.{executed_is_logged}
use Rattle.crsm_law_rounds.proofs.Spreading.{CalmStart, IsSubmitted}
use Rattle.crsm_law_rounds.proofs.Starting.{were_submitted}
use Rattle.crsm_law_rounds.proofs.Finishing.{executed_there, logged4}
use Rattle.crsm_law_rounds.proofs.Answered.{found_there}

-- client c waits at member k of the calm world, which is r
module _ (n e : ℕ) (ms : List ℕ) (v : World) (h : AllUp n e ms v) (spelt : IsSpelt n v) (k : ℕ) (r : Replica) (c : Waiting) (in_k : Among ms k) (mine : IsMemberUp e ms v k r) (waits : Among r.waiting c) where
  rightly : WaitsRightly k r c
  rightly = (nothing_is_left n v h.reached spelt.few k r mine.up).waits c waits

  pub waits_in_epoch : c.entry.epoch ≡ e
  waits_in_epoch = rightly.epoch mine.runs ∙ mine.knows

  pub waiting_submitted : IsSubmitted e ms v c.entry
  waiting_submitted =
      were_submitted n e ms v h spelt c.entry waits_in_epoch
      (subst (λ i. Logged (log_at v i) c.entry) (sym rightly.own) (subst (λ l. Logged l c.entry) (sym (log_there v k r mine.up)) rightly.logged)) k in_k

  module _ (t u : ℕ → ℕ) (one : 1 ≤ n) (distinct : Distinct ms) (small : (k : ℕ) → Among ms k → k ≤ 14) (v1 v2 v3 v4 : World) (spelt4 : IsSpelt n v4) (start : CalmStart e ms v)
      (d1 : RoundDone n e t ms v v1 v2) (d2 : RoundDone n e u ms v2 v3 v4)
      (above : (k j time : ℕ) (r : Replica) → Among ms k → Among ms j → IsMemberUp e ms v2 j r → Among r.issued time → time + 10 ≤ u k) (below : (k : ℕ) → Among ms k → u k ≤ u64_max - 100000)
      (q : Replica) (now : IsMemberUp e ms v4 k q) where
    here4 : log_at v4 k ≡ q.log
    here4 = log_there v4 k q now.up

    -- nobody is left waiting
    pub none_waits : Among q.waiting c → ⊥
    none_waits still =
        let w = (nothing_is_left n v4 d2.up2.reached spelt4.few k q now.up).waits c still in
        let x = executed_there n e t u ms one distinct small v v1 v2 v3 v4 h spelt spelt4 start d1 d2 above below c.entry waiting_submitted k q in_k now in
        let at = among_place (executed q.log) c.entry x in
        found_there c (executed q.log) at.0 w.pending at.1

    -- its entry is the one that was answered
    pub one_entry : (f : Entry) → Among (executed q.log) f → f.epoch ≡ c.entry.epoch → f.stamp ≡ c.entry.stamp → f ≡ c.entry
    one_entry f m ep st =
        let run4 : IsTrue (active (log_at v4 k)) = subst (λ l. IsTrue (active l)) (sym here4) now.runs in
        let kn : f.epoch ≡ known (log_at v4 k) = ep ∙ waits_in_epoch ∙ sym now.knows ∙ ap known (sym here4) in
        let l = executed_is_logged n v4 d2.up2.reached spelt4 k run4 f (subst (λ z. Among (executed z) f) (sym here4) m) kn in
        let mine4 = logged4 n e t u ms one distinct small v v1 v2 v3 v4 h spelt spelt4 start d1 d2 above below c.entry waiting_submitted k q in_k now in
        let seat = seat_log n e ms v4 d2.up2 k q now in
        (facts n e ms v4 d2.up2).one k f c.entry (subst (λ z. Logged z f) (sym (seat ∙ sym here4)) l) (subst (λ z. Logged z c.entry) (sym seat) mine4)
        (ap (λ (z : Stamp). z.origin) st ∙ rightly.own) ep st
