-- Every event of a history, by worlds that show it.
use Rattle.std.proofs.Common.{◌≡◌, ℕ, zero, suc, ◌-◌, ◌<◌, ◌≤◌, List, [], ◌∷◌, ◌++◌, length, map, refl, sym, ◌∙◌, ap, subst, inl, inr, arith}
use Rattle.std.specs.Prelude.{◌⊎◌, Option, Some, None, slice_get}
use Rattle.std.specs.Option.{option_map_or}
use Rattle.std.specs.List.{range_with_len}
use Rattle.std.proofs.lemmas.Bool.{cases_lt}
use Rattle.std.proofs.lemmas.Option.{none-some, same_Some}
use Rattle.crsm_spec.specs.Types.{Datagram}
use Rattle.crsm_spec.specs.Lists.{Among, first_of, numbers_below}
use Rattle.crsm_spec.specs.Replica.{Replica}
use Rattle.crsm_spec.specs.Draft.{Reply}
use Rattle.crsm_spec.specs.Step.{founding_boot}
use Rattle.crsm_spec.specs.World.{Site, World, begin, log_of, log_at}
use Rattle.crsm_fact_log.specs.Logs.{same}
use Rattle.crsm_fact_log.proofs.Lists.{among_either}
use Rattle.crsm_law_steps.specs.Laws.{LogsGoOn}
use Rattle.crsm_law_steps.specs.Happenings.{WasSent}
use Rattle.crsm_law_steps.proofs.Moments.{on_then}
use Rattle.crsm_law_cluster.specs.Clusters.{Event, Outgoing, Process, Host, Cluster, log_in, empty_host, host_at, with_host, started, while_up, with_process, posted, sent_of, next_out, after, unborn}
use Rattle.crsm_law_cluster.specs.Histories.{last_from, last_cluster, clusters_from, clusters}
use Rattle.crsm_law_cluster.specs.Lawful.{MayHappen, IsLawfulFrom, IsLawful}
use Rattle.crsm_law_cluster.specs.Showing.{IsShownBy, AreShownBy}
use Rattle.crsm_law_cluster.specs.HistoryLaws.{HistoriesAreShown}
use Rattle.crsm_law_cluster.proofs.Lists.{below, set_none, none_above, got_range, none_in_range, range_length}
use Rattle.crsm_law_cluster.proofs.Pending.{Pending}
use Rattle.crsm_law_cluster.proofs.Shown.{Out, Shown, Shows, Moved, moved, stay}
use Rattle.crsm_law_cluster.proofs.Shown.Shown.{absent, unstarted, of_down, of_up}
use Rattle.crsm_law_cluster.proofs.Joining.{join_to}
use Rattle.crsm_law_cluster.proofs.Booting.{start_down, start_founder, started_still, stop_moved}
use Rattle.crsm_law_cluster.proofs.Turning.{keep_moved, take_moved, post_moved, out_sent}
use Rattle.crsm_law_cluster.specs.Told.{IsTold}
use Rattle.crsm_law_cluster.proofs.Witnesses.{first_witnessed, reached_by}

-- ---- every event

-- a world further on that shows the cluster
pub record Next (n : ℕ) (w : World) (c : Cluster) : Type 0 where
  pub world : World
  pub shows : Shows n c world
  pub goes_on : LogsGoOn w world

module _ (n : ℕ) (c : Cluster) (w : World) (h : Shows n c w) (k : ℕ) where
  -- a place that is not there is not changed
  nowhere : (p : Host) → slice_get c.hosts k ≡ None → Shows n (with_host c k p) w
  unfolding with_host
  nowhere p e = subst (λ ps. Shows n (record c { hosts = ps }) w) (sym (set_none c.hosts k p e)) h

  -- the place, changed as a world moves
  change : (p : Host) → ((q : Host) → slice_get c.hosts k ≡ Some q → Moved n w k p) → Next n w (with_host c k p)
  change p m = go (slice_get c.hosts k) refl
    where
      go : (o : Option Host) → slice_get c.hosts k ≡ o → Next n w (with_host c k p)
      go None e = record { world = w; shows = nowhere p e; goes_on = λ j. same }
      go (Some q) e = record { world = (m q e).world; shows = moved n c w k p q e h (m q e); goes_on = (m q e).goes_on }

  boots_from : (q : Host) → slice_get c.hosts k ≡ Some q → (p : Host) → host_at c k ≡ p → (s : Option Site) → slice_get w.sites k ≡ s → Shown n w k p s → Next n w (with_host c k (started k c.n p.log p.process))
  boots_from q there _ pe _ e absent =
      let j = join_to n c k (k - length w.sites) w (let t = none_above w.sites k e in omega (arith, t)) (let t = below c.hosts k q there in let z = h.wide in omega (arith, t, z)) h in
      let m = start_down n c.n j.world k [] j.shows.reached j.shows.size j.shows.few j.there in
      record { world = m.world; shows = moved n c j.world k (started k c.n [] None) q there j.shows m; goes_on = on_then w j.world m.world j.goes_on m.goes_on }
  boots_from q there _ pe _ e (unstarted f) = let m = start_founder n c.n w k h.reached h.size h.few f e in record { world = m.world; shows = moved n c w k (started k c.n [] None) q there h m; goes_on = m.goes_on }
  boots_from q there _ pe _ e (of_down log) = let m = start_down n c.n w k log h.reached h.size h.few e in record { world = m.world; shows = moved n c w k (started k c.n log None) q there h m; goes_on = m.goes_on }
  boots_from q there _ pe _ e (of_up r x p o) =
      let m = stay n w k (started k c.n r.log (Some x)) h.reached h.few (subst (Shown n w k (started k c.n r.log (Some x))) (sym e) (running_still r x p o)) in
      record { world = m.world; shows = moved n c w k (started k c.n r.log (Some x)) q there h m; goes_on = m.goes_on }
    where
      running_still : (r : Replica) (x : Process) → Pending w k r x.pending x.replica → Out n w k x.outbox → Shown n w k (started k c.n r.log (Some x)) (Some (Site.Up r))
      running_still r x p o = subst (λ z. Shown n w k z (Some (Site.Up r))) (sym (started_still k c.n r.log x)) (of_up r x p o)

  boots : Next n w (with_host c k (started k c.n (host_at c k).log (host_at c k).process))
  boots = go (slice_get c.hosts k) refl
    where
      go : (o : Option Host) → slice_get c.hosts k ≡ o → Next n w (with_host c k (started k c.n (host_at c k).log (host_at c k).process))
      go None e = record { world = w; shows = nowhere (started k c.n (host_at c k).log (host_at c k).process) e; goes_on = λ j. same }
      go (Some q) e = boots_from q e (host_at c k) refl (slice_get w.sites k) refl (h.all k)

  -- what goes out joins what was sent
  with_sent : (u : World) (p : Host) (ss : List (ℕ × Datagram)) → Shows n (with_host c k p) u → ((j : ℕ) (d : Datagram) → Among ss (j, d) → (i : ℕ) × WasSent u i j d) → Shows n (record (with_host c k p) { sent = c.sent ++ ss }) u
  unfolding with_host host_at
  with_sent u p ss g more = record {
    reached = g.reached;
    size = g.size;
    few = g.few;
    wide = g.wide;
    all = g.all;
    sent = λ j d a. elim (among_either c.sent ss (j, d) a) [ inl b ↦ g.sent j d b | inr b ↦ more j d b ];
  }

  posts : Next n w (after c (Event.Sends k))
  unfolding after next_out
  posts = go (slice_get c.hosts k) refl
    where
      p : Host
      p = host_at c k

      gone : Host
      gone = while_up p (λ x. with_process p (posted x))

      ss : List (ℕ × Datagram)
      ss = sent_of (option_map_or (λ (x : Process). first_of x.outbox) p.process None)

      out : (j : ℕ) (d : Datagram) → Among ss (j, d) → WasSent w k j d
      out = out_sent n w k p (slice_get w.sites k) (h.all k)

      m : Moved n w k gone
      m = post_moved n w k p (slice_get w.sites k) refl h.reached h.few (h.all k)

      go : (o : Option Host) → slice_get c.hosts k ≡ o → Next n w (record (with_host c k gone) { sent = c.sent ++ ss })
      go None e = record { world = w; shows = with_sent w gone ss (nowhere gone e) (λ j d a. (k, out j d a)); goes_on = λ j. same }
      go (Some q) e = record { world = m.world; shows = with_sent m.world gone ss (moved n c w k gone q e h m) (λ j d a. (k, m.later k j d (out j d a))); goes_on = m.goes_on }

happens : (n : ℕ) (c : Cluster) (w : World) (e : Event) → MayHappen c e → Shows n c w → Next n w (after c e)
unfolding after
happens n c w (Event.Boots k) may h = boots n c w h k
happens n c w (Event.Takes k t reading) may h = change n c w h k _ (λ q e. take_moved n c w k (host_at c k) (slice_get w.sites k) t reading refl h.reached h.few h.sent may.0 may.1 (h.all k))
happens n c w (Event.Keeps k) may h = change n c w h k _ (λ q e. keep_moved n w k (host_at c k) (slice_get w.sites k) refl h.reached h.few (h.all k))
happens n c w (Event.Sends k) may h = posts n c w h k
happens n c w (Event.Fails k) may h = change n c w h k _ (λ q e. post_moved n w k (host_at c k) (slice_get w.sites k) refl h.reached h.few (h.all k))
happens n c w (Event.Stops k) may h = change n c w h k _ (λ q e. stop_moved n w k (host_at c k) (slice_get w.sites k) refl h.reached h.few (h.all k))

-- ---- the beginning
empty_at : (ks : List ℕ) (k : ℕ) → option_map_or (λ (p : Host). p) (slice_get (map (λ i. empty_host) ks) k) empty_host ≡ empty_host
empty_at [] k = refl
empty_at (i ∷ ks) zero = refl
empty_at (i ∷ ks) (suc k) = empty_at ks k

empty_is : empty_host ≡ record { log = []; process = None }
unfolding empty_host
empty_is = refl

unborn_shown : (n : ℕ) → n ≤ 15 → Shows n (unborn n) (begin n)
unfolding unborn begin host_at numbers_below
unborn_shown n most = record {
  reached = first_witnessed n;
  size = refl;
  few = (let l = range_length (λ k. Site.Up (founding_boot k n).replica) 0 n in omega (arith, l, most));
  wide = (let l = range_length (λ (k : ℕ). empty_host) 0 15 in omega (arith, l));
  all = λ k. subst (λ p. Shown n (begin n) k p (slice_get (map (λ k. Site.Up (founding_boot k n).replica) (range_with_len 0 n)) k)) (sym (empty_at (range_with_len 0 15) k ∙ empty_is)) (elim (cases_lt k n) [
    | inl lt ↦ subst (Shown n (begin n) k (record { log = []; process = None })) (sym (got_range (λ k. Site.Up (founding_boot k n).replica) 0 n k lt ∙ ap (λ i. Some (Site.Up (founding_boot i n).replica)) (omega arith))) (unstarted lt)
    | inr le ↦ subst (Shown n (begin n) k (record { log = []; process = None })) (sym (none_in_range (λ k. Site.Up (founding_boot k n).replica) 0 n k le)) absent
  ]);
  sent = λ j d a. absurd a;
}

-- ---- histories

-- what a world shows is told by its logs and by what was sent
log_shown : (n : ℕ) (w : World) (k : ℕ) (p : Host) (s : Option Site) → Shown n w k p s → (p.log ≡ option_map_or log_of s []) ⊎ ((k < n) × (p.log ≡ []) × (option_map_or log_of s [] ≡ (founding_boot k n).replica.log))
unfolding log_of
log_shown n w k _ _ absent = inl refl
log_shown n w k _ _ (unstarted lt) = inr (lt, refl, refl)
log_shown n w k _ _ (of_down log) = inl refl
log_shown n w k _ _ (of_up r x p o) = inl refl

-- what waits to go out to clients was told
told_there : (n : ℕ) (w : World) (k : ℕ) (p : Host) (s : Option Site) → Shown n w k p s → (x : Process) (a : Reply) → p.process ≡ Some x → Among x.outbox (Outgoing.ToClient a) → IsTold n w a
told_there n w k _ _ absent x a is m = absurd (none-some x is)
told_there n w k _ _ (unstarted lt) x a is m = absurd (none-some x is)
told_there n w k _ _ (of_down log) x a is m = absurd (none-some x is)
told_there n w k _ _ (of_up r y p o) x a is m = o.told a (subst (λ (z : Process). Among z.outbox (Outgoing.ToClient a)) (sym (same_Some y x is)) m)

pub shown_by : (n : ℕ) (c : Cluster) (w : World) → Shows n c w → IsShownBy n c w
unfolding log_in log_at
shown_by n c w h = record {
  size = h.size;
  reached = reached_by n w h.reached;
  logs = λ k. log_shown n w k (host_at c k) (slice_get w.sites k) (h.all k);
  sent = h.sent;
  told = λ k x a is m. told_there n w k (host_at c k) (slice_get w.sites k) (h.all k) x a is m;
}

-- what follows a cluster that a world shows
record Followed (n : ℕ) (c : Cluster) (w : World) (h : List Event) : Type 0 where
  end : World
  last : IsShownBy n (last_from c h) end
  goes_on : LogsGoOn w end
  each : (i : ℕ) (b : Cluster) → slice_get (clusters_from c h) i ≡ Some b → (v : World) × IsShownBy n b v × LogsGoOn w v × LogsGoOn v end
  between : (i j : ℕ) (b d : Cluster) → i ≤ j → slice_get (clusters_from c h) i ≡ Some b → slice_get (clusters_from c h) j ≡ Some d → AreShownBy n b d end

shown_from : (n : ℕ) (c : Cluster) (w : World) (h : List Event) → IsLawfulFrom c h → Shows n c w → Followed n c w h
unfolding last_from clusters_from
shown_from n c w [] l g = record { end = w; last = shown_by n c w g; goes_on = λ j. same; each = at; between = both }
  where
    at : (i : ℕ) (b : Cluster) → slice_get (c ∷ []) i ≡ Some b → (v : World) × IsShownBy n b v × LogsGoOn w v × LogsGoOn v w
    at zero b e = (w, subst (λ z. IsShownBy n z w) (same_Some c b e) (shown_by n c w g), λ j. same, λ j. same)
    at (suc i) b e = absurd (none-some b e)

    both : (i j : ℕ) (b d : Cluster) → i ≤ j → slice_get (c ∷ []) i ≡ Some b → slice_get (c ∷ []) j ≡ Some d → AreShownBy n b d w
    both i j b d le p q = record { world = w; shown = shown_is i b p; next = w; next_shown = shown_is j d q; later = λ j. same; goes_on = λ j. same }
      where
        shown_is : (i : ℕ) (b : Cluster) → slice_get (c ∷ []) i ≡ Some b → IsShownBy n b w
        shown_is zero b e = subst (λ z. IsShownBy n z w) (same_Some c b e) (shown_by n c w g)
        shown_is (suc i) b e = absurd (none-some b e)
shown_from n c w (e ∷ h) l g =
    let m = happens n c w e l.0 g in
    let f = shown_from n (after c e) m.world h l.1 m.shows in
    record { end = f.end; last = f.last; goes_on = on_then w m.world f.end m.goes_on f.goes_on; each = at m f; between = both m f }
  where
    here : (b : Cluster) → c ≡ b → IsShownBy n b w
    here b q = subst (λ z. IsShownBy n z w) q (shown_by n c w g)

    at : (m : Next n w (after c e)) (f : Followed n (after c e) m.world h) (i : ℕ) (b : Cluster) → slice_get (c ∷ clusters_from (after c e) h) i ≡ Some b → (v : World) × IsShownBy n b v × LogsGoOn w v × LogsGoOn v f.end
    at m f zero b q = (w, here b (same_Some c b q), λ j. same, on_then w m.world f.end m.goes_on f.goes_on)
    at m f (suc i) b q = let t = f.each i b q in (t.0, t.1, on_then w m.world t.0 m.goes_on t.2, t.3)

    both : (m : Next n w (after c e)) (f : Followed n (after c e) m.world h) (i j : ℕ) (b d : Cluster) → i ≤ j → slice_get (c ∷ clusters_from (after c e) h) i ≡ Some b → slice_get (c ∷ clusters_from (after c e) h) j ≡ Some d → AreShownBy n b d f.end
    both m f zero j b d le p q = let t = at m f j d q in record { world = w; shown = here b (same_Some c b p); next = t.0; next_shown = t.1; later = t.2; goes_on = t.3 }
    both m f (suc i) zero b d le p q = absurd (omega (arith, le))
    both m f (suc i) (suc j) b d le p q = f.between i j b d (omega (arith, le)) p q

ends_from : (n : ℕ) (c : Cluster) (w : World) (h : List Event) → IsLawfulFrom c h → Shows n c w → (u : World) × Shows n (last_from c h) u
unfolding last_from
ends_from n c w [] l g = (w, g)
ends_from n c w (e ∷ h) l g = let m = happens n c w e l.0 g in ends_from n (after c e) m.world h l.1 m.shows

-- a world shows the hosts at the end
pub end_is_shown : (n : ℕ) (h : List Event) → n ≤ 15 → IsLawful n h → (w : World) × Shows n (last_cluster n h) w
unfolding last_cluster
end_is_shown n h most l = ends_from n (unborn n) (begin n) h l (unborn_shown n most)

pub histories_are_shown : HistoriesAreShown
unfolding last_cluster clusters
histories_are_shown n h most l =
    let f = shown_from n (unborn n) (begin n) h l (unborn_shown n most) in record { end = f.end; last = f.last; between = f.between }
