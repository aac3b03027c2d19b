-- New replica numbers are given sites, one after another.
use Rattle.std.proofs.Common.{◌≡◌, ℕ, zero, suc, ◌+◌, ◌<◌, [], ◌∷◌, ◌++◌, length, refl, sym, ap, subst, inl, inr, cond, arith, length-append}
use Rattle.std.specs.Prelude.{Option, Some, None, slice_get}
use Rattle.std.proofs.lemmas.Bool.{eq-eqb}
use Rattle.std.proofs.lemmas.Option.{none-some}
use Rattle.crsm_spec.specs.World.{Site, World}
use Rattle.crsm_spec.specs.Moments.{silent, with_room}
use Rattle.crsm_law_steps.specs.Laws.{LogsGoOn}
use Rattle.crsm_law_steps.specs.Happenings.Happens.{Joins}
use Rattle.crsm_law_steps.proofs.Moments.{moment_goes_on, on_then}
use Rattle.crsm_law_cluster.specs.Clusters.{Host, Cluster, host_at}
use Rattle.crsm_law_cluster.proofs.Lists.{added, at_end}
use Rattle.crsm_law_cluster.proofs.Shown.{Shown, Shows, shown_later}
use Rattle.crsm_law_cluster.proofs.Shown.Shown.{absent, unstarted, of_down, of_up}
use Rattle.crsm_law_cluster.proofs.Witnesses.{IsWitnessed, then_by, quietly}

room_full : (w : World) → with_room w (length w.sites) ≡ record w { sites = w.sites ++ Site.Down [] ∷ [] }
unfolding with_room
room_full w = ap (λ b. cond b (record w { sites = w.sites ++ Site.Down [] ∷ [] }) w) (eq-eqb (length w.sites) (length w.sites) refl)

none_shown : (n : ℕ) (w u : World) (k : ℕ) (p : Host) (s : Option Site) → s ≡ None → Shown n w k p s → Shown n u k p (Some (Site.Down []))
none_shown n w u k _ _ e absent = of_down []
none_shown n w u k _ _ e (unstarted lt) = absurd (none-some _ (sym e))
none_shown n w u k _ _ e (of_down log) = absurd (none-some _ (sym e))
none_shown n w u k _ _ e (of_up r x p o) = absurd (none-some _ (sym e))

joins_on : (w : World) → length w.sites < 15 → LogsGoOn w (record w { sites = w.sites ++ Site.Down [] ∷ [] })
unfolding silent
joins_on w lt = subst (LogsGoOn w) (room_full w) (moment_goes_on w (silent w (with_room w (length w.sites))) (Joins lt))

join_one : (n : ℕ) (c : Cluster) (w : World) → length w.sites < 15 → Shows n c w → Shows n c (record w { sites = w.sites ++ Site.Down [] ∷ [] })
unfolding silent
join_one n c w lt h =
    let u = record w { sites = w.sites ++ Site.Down [] ∷ [] } in
    let longer = length-append w.sites (Site.Down [] ∷ []) in
    record {
      reached = subst (IsWitnessed n) (room_full w) (then_by h.reached quietly (Joins lt) tt);
      size = h.size;
      few = omega (arith, longer, lt);
      wide = h.wide;
      all = λ k. elim (added w.sites (Site.Down []) k) [
        | inl e ↦ subst (Shown n u k (host_at c k)) (sym e) (shown_later n w u k (host_at c k) (slice_get w.sites k) (λ from to d s. s) (joins_on w lt) (h.all k))
        | inr t ↦ subst (Shown n u k (host_at c k)) (sym t.1) (none_shown n w u k (host_at c k) (slice_get w.sites k) t.0 (h.all k))
      ];
      sent = h.sent;
    }

-- a world in which number k has a site
pub record Joined (n : ℕ) (c : Cluster) (w : World) (k : ℕ) : Type 0 where
  pub world : World
  pub shows : Shows n c world
  pub goes_on : LogsGoOn w world
  pub there : slice_get world.sites k ≡ Some (Site.Down [])

pub join_to : (n : ℕ) (c : Cluster) (k m : ℕ) (w : World) → k ≡ length w.sites + m → k < 15 → Shows n c w → Joined n c w k
join_to n c k zero w is lt h =
    let u = record w { sites = w.sites ++ Site.Down [] ∷ [] } in
    record { world = u; shows = join_one n c w (omega (arith, is, lt)) h; goes_on = joins_on w (omega (arith, is, lt)); there = subst (λ i. slice_get u.sites i ≡ Some (Site.Down [])) (omega (arith, is)) (at_end w.sites (Site.Down [])) }
join_to n c k (suc m) w is lt h =
    let u = record w { sites = w.sites ++ Site.Down [] ∷ [] } in
    let longer = length-append w.sites (Site.Down [] ∷ []) in
    let j = join_to n c k m u (omega (arith, is, longer)) lt (join_one n c w (omega (arith, is, lt)) h) in
    record { world = j.world; shows = j.shows; goes_on = on_then w u j.world (joins_on w (omega (arith, is, lt))) j.goes_on; there = j.there }
