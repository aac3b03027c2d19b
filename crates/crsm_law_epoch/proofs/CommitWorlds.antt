-- Each recorded commit has its witness, in every world reached.
use Rattle.std.proofs.Common.{◌≡◌, ℕ, ◌<◌, List, [], ◌∷◌, ◌++◌, length, refl, sym, ◌∙◌, ap, subst, inl, inr, Bool, true, false, arith, take, map}
use Rattle.std.specs.Prelude.{◌⊎◌, Option, Some, None, slice_get, slice_set, nat_lt}
use Rattle.std.proofs.lemmas.Bool.{cases_eq, false≢true}
use Rattle.std.proofs.lemmas.List.{map-append}
use mathlib.Core.Path.{fun_ext}
use Rattle.crsm_spec.specs.Choice.{when◌then◌otherwise◌}
use Rattle.crsm_spec.specs.Types.{Stamp, Entry, Rec, InEpoch, Datagram}
use Rattle.crsm_spec.specs.Lists.{Among}
use Rattle.crsm_spec.specs.Log.{Log, active, live, suspended, members}
use Rattle.crsm_spec.specs.Replica.{Replica, fresh}
use Rattle.crsm_spec.specs.Draft.{Draft, begun, keep}
use Rattle.crsm_spec.specs.Step.{Input, step, boot, boot_again, founding_boot, first_boot}
use Rattle.crsm_spec.specs.World.{Site, World, Moment, begin, log_at, with_site, packet_of, whole_step, cut_step, lost_step, down, after_step, then_down}
use Rattle.crsm_spec.specs.Moments.{silent, begun_at, with_room, start_at}
use Rattle.crsm_fact_log.specs.Logs.{Extends, same, more, Logged}
use Rattle.crsm_law_steps.specs.Laws.{LogsGoOn}
use Rattle.crsm_fact_step.specs.Changes.{Changes, stay, and_then}
use Rattle.crsm_law_steps.specs.Happenings.{Marks, CanCome, Ends, Happens}
use Rattle.crsm_law_steps.specs.Happenings.Ends.{IsWhole, IsCut, IsLost}
use Rattle.crsm_law_steps.specs.Happenings.Happens.{Nothing, Steps, Junk, Stops, Joins, Starts}
use Rattle.crsm_law_steps.specs.Happenings.IsReached.{first, next}
use Rattle.crsm_fact_step.proofs.Logs.{log_change, change_grows, numbers_stay}
use Rattle.crsm_fact_log.proofs.Logged.{extends_trans}
use Rattle.crsm_fact_step.proofs.Fitted.{step_changes}
use Rattle.crsm_law_steps.proofs.Moments.{moment_goes_on}
use Rattle.crsm_law_epoch.specs.Numbers.{Distinct}
use Rattle.crsm_law_epoch.specs.Seats.{Seat, seat_up, seat_down, seat_of}
use Rattle.crsm_law_epoch.specs.Worlds.{seats, sent_in, IsWell}
use Rattle.crsm_fact_log.proofs.Lists.{among_left}
use Rattle.crsm_law_epoch.proofs.Moved.{at, at_same, at_other}
use Rattle.crsm_law_epoch.proofs.Drafts.{Good}
use Rattle.crsm_law_epoch.proofs.Kept.{chain_kept}
use Rattle.crsm_law_epoch.proofs.Worlds.{Held, all_held, held_marked, begun_good, came_sent, marked_sent, marked_sites, seats_set, room_seats, room_sent, room_there, begin_seats, seat_log_at, set_nowhere, log_after}
use Rattle.crsm_law_epoch.specs.LogWorlds.{HasFewBoots}
use Rattle.crsm_law_epoch.proofs.LogWorlds.{is_well}
use Rattle.crsm_law_epoch.proofs.LogBoots.{boots_grow}
use Rattle.crsm_law_epoch.specs.Witness.{AreWitnessed}
use Rattle.crsm_law_epoch.specs.CommitWorlds.{CommitsAreWitnessed}
use Rattle.crsm_law_epoch.proofs.CommitSeats.{changed}
use Rattle.crsm_law_epoch.proofs.CommitEffects.{effect}
use Rattle.crsm_law_epoch.proofs.CommitLogs.{extends_cases}
use Rattle.crsm_law_epoch.proofs.CommitSteps.{W, effect_witnessed}

-- ---- what is the same

same_seats : (n : ℕ) (v u : ℕ → Seat) (a b : List Datagram) → ((k : ℕ) → v k ≡ u k) → a ≡ b → AreWitnessed n v a → AreWitnessed n u b
same_seats n v u a b e d f = subst (λ z. AreWitnessed n z b) (fun_ext e) (subst (AreWitnessed n v) d f)

-- more was sent
more_sent : (n : ℕ) (v : ℕ → Seat) (a b : List Datagram) → ((d : Datagram) → Among a d → Among b d) → AreWitnessed n v a → AreWitnessed n v b
more_sent n v a b more_is f by log x c =
    let w = f by log x c in
    record {
      voters = w.voters;
      many = w.many;
      logged = w.logged;
      received = λ m mem ne. let q = w.received m mem ne in (q.0, q.1, more_is _ q.2, q.3);
      older = w.older;
      passed = w.passed;
    }

at_self : (k : ℕ) (v : ℕ → Seat) (j : ℕ) → v j ≡ at k (v k) v j
at_self k v j = elim (cases_eq j k) [
  | inl e ↦ subst (λ i. v i ≡ at k (v k) v i) (sym e) (sym (at_same 0 k v (v k)))
  | inr ne ↦ sym (at_other 0 k v (v k) j ne)
]

-- a seat that does not run, with the log that was there
off_seat : (n k : ℕ) (v : ℕ → Seat) (u s : Seat) (all : List Datagram) → s.log ≡ u.log → s.running ≡ false → AreWitnessed n (at k u v) all → AreWitnessed n (at k s v) all
off_seat n k v u s all e off a = changed n k v u s all (record {
  keeps = λ f h. subst (λ l. Logged l f) (sym e) h;
  own = λ by log f c mem z h ep o le. subst (λ l. Logged l z) e h;
  passed = λ log f ex h run kn. absurd (false≢true (sym off ∙ run));
  commits = λ log f ex h. inl (subst (Extends (Rec.Commit f.stamp ∷ log)) e ex);
}) a

-- ---- a step

module _ (n k : ℕ) (v : ℕ → Seat) (sent : List Datagram) (r : Replica) (input : Input) (reading : ℕ) (r_me : r.me ≡ k)
    (came : (a m e i : ℕ) (p : InEpoch) → input ≡ Input.Came a (Datagram.Frame m r.me e i p) → Among sent (Datagram.Frame m r.me e i p))
    (last : Log) (distinct : (log : Log) → Extends log last → Distinct (members n log)) where
  pub chain_witnessed : {x y : Draft} → Changes r input reading x y → Extends y.replica.log last → Good n k v sent x → W n k v sent x → W n k v sent y
  chain_witnessed stay ex g a = a
  chain_witnessed (and_then {y = y} {z = z} p c f) ex g a =
      let ey = extends_trans (change_grows y z (log_change r input reading y z c)) ex in
      let gy = chain_kept n k v sent r input reading r_me came last distinct p ey g in
      effect_witnessed n k v sent reading y z gy (numbers_stay r input reading y z c).0 (effect r input reading y z c (r_me ∙ sym gy.me)) (chain_witnessed p ey g a)

-- ---- a world after a step

down_log : (log : Log) → (seat_of (Some (Site.Down log))).log ≡ log
unfolding seat_of seat_down
down_log log = refl

down_off : (log : Log) → (seat_of (Some (Site.Down log))).running ≡ false
unfolding seat_of seat_down
down_off log = refl

up_seat : (r : Replica) → seat_of (Some (Site.Up r)) ≡ seat_up r
unfolding seat_of
up_seat r = refl

-- a seat that goes down with the log that is at hand
seat_down_witnessed : (n : ℕ) (w : World) (k : ℕ) (s : Site) (u : Seat) (log : Log) (u' : World) → slice_get w.sites k ≡ Some s → u'.sites ≡ slice_set w.sites k (Site.Down log) →
    log ≡ u.log → (all : List Datagram) → AreWitnessed n (at k u (seats w)) all → AreWitnessed n (seats u') all
seat_down_witnessed n w k s u log u' e is l all a =
    same_seats n _ _ all all (seats_set w u' k s (Site.Down log) e is) refl (off_seat n k (seats w) u (seat_of (Some (Site.Down log))) all (down_log log ∙ l) (down_off log) a)

down_sent : (w : World) (k : ℕ) → sent_in (down w k).after ≡ sent_in w
unfolding down with_site sent_in
down_sent w k = refl

down_sites : (w : World) (k : ℕ) → (down w k).after.sites ≡ slice_set w.sites k (Site.Down (log_at w k))
unfolding down with_site
down_sites w k = refl

same_sites : (v u : World) → v.sites ≡ u.sites → (j : ℕ) → seats v j ≡ seats u j
unfolding seats
same_sites v u e j = ap (λ ss. seat_of (slice_get ss j)) e

went_down : (n : ℕ) (w : World) (k : ℕ) → AreWitnessed n (seats w) (sent_in w) → AreWitnessed n (seats (down w k).after) (sent_in (down w k).after)
went_down n w k a = go (slice_get w.sites k) refl
  where
    go : (o : Option Site) → slice_get w.sites k ≡ o → AreWitnessed n (seats (down w k).after) (sent_in (down w k).after)
    go (Some s) e = subst (AreWitnessed n (seats (down w k).after)) (sym (down_sent w k))
        (seat_down_witnessed n w k s (seats w k) (log_at w k) (down w k).after e (down_sites w k) (sym (seat_log_at w k)) (sent_in w) (same_seats n _ _ _ _ (at_self k (seats w)) refl a))
    go None e = same_seats n _ _ _ _ (same_sites w (down w k).after (sym (down_sites w k ∙ set_nowhere w.sites k (Site.Down (log_at w k)) e))) (sym (down_sent w k)) a

-- what the endings of a step leave
whole_sites : (w : World) (k : ℕ) (x : Draft) → (whole_step w k x).after.sites ≡ slice_set w.sites k (Site.Up x.replica)
unfolding whole_step after_step
whole_sites w k x = refl

whole_sent : (w : World) (k : ℕ) (x : Draft) → sent_in (whole_step w k x).after ≡ sent_in w ++ map (λ m. m.datagram) (map (packet_of k) x.sends)
unfolding whole_step after_step sent_in
whole_sent w k x = map-append (λ m. m.datagram) w.packets (map (packet_of k) x.sends)

cut_sites : (count : ℕ) (w : World) (k : ℕ) (x : Draft) → (cut_step count w k x).after.sites ≡ slice_set w.sites k (Site.Down x.replica.log)
unfolding cut_step then_down after_step
cut_sites count w k x = refl

cut_sent : (count : ℕ) (w : World) (k : ℕ) (x : Draft) → sent_in (cut_step count w k x).after ≡ sent_in w ++ map (λ m. m.datagram) (map (packet_of k) (take count x.sends))
unfolding cut_step then_down after_step sent_in
cut_sent count w k x = map-append (λ m. m.datagram) w.packets (map (packet_of k) (take count x.sends))

lost_down : (w : World) (k : ℕ) (x : Draft) → lost_step w k x ≡ down w k
unfolding lost_step
lost_down w k x = refl

here : (w : World) (k : ℕ) (r : Replica) → slice_get w.sites k ≡ Some (Site.Up r) → seats w k ≡ seat_up (begun r).replica
unfolding seats seat_of begun
here w k r e = ap seat_of e

marked_witnessed : (n : ℕ) (w v : World) → Marks w v → AreWitnessed n (seats w) (sent_in w) → AreWitnessed n (seats v) (sent_in v)
unfolding seats
marked_witnessed n w v p a = same_seats n (seats w) (seats v) (sent_in w) (sent_in v) (λ k. ap (λ ss. seat_of (slice_get ss k)) (sym (marked_sites p))) (sym (marked_sent p)) a

module _ (n : ℕ) (w : World) (k : ℕ) (s : Site) (e : slice_get w.sites k ≡ Some s) (a : AreWitnessed n (seats w) (sent_in w)) (x : Draft) (b : W n k (seats w) (sent_in w) x) where
  whole_after : (u : World) → u.sites ≡ slice_set w.sites k (Site.Up x.replica) → ((d : Datagram) → Among (sent_in w) d → Among (sent_in u) d) → AreWitnessed n (seats u) (sent_in u)
  whole_after u is more_is =
      same_seats n (at k (seat_up x.replica) (seats w)) (seats u) (sent_in u) (sent_in u) (λ j. ap (λ q. at k q (seats w) j) (sym (up_seat x.replica)) ∙ seats_set w u k s (Site.Up x.replica) e is j) refl
      (more_sent n (at k (seat_up x.replica) (seats w)) (sent_in w) (sent_in u) more_is b)

  up_log : x.replica.log ≡ (seat_up x.replica).log
  unfolding seat_up
  up_log = refl

  cut_after : (u : World) → u.sites ≡ slice_set w.sites k (Site.Down x.replica.log) → ((d : Datagram) → Among (sent_in w) d → Among (sent_in u) d) → AreWitnessed n (seats u) (sent_in u)
  cut_after u is more_is = more_sent n (seats u) (sent_in w) (sent_in u) more_is (seat_down_witnessed n w k s (seat_up x.replica) x.replica.log u e is up_log (sent_in w) b)

  pub ended : (m : Moment) → Ends w k x m → AreWitnessed n (seats m.after) (sent_in m.after)
  unfolding lost_step down
  ended m IsWhole = whole_after m.after (whole_sites w k x) (λ d h. subst (λ l. Among l d) (sym (whole_sent w k x)) (among_left (sent_in w) _ d h))
  ended m (IsCut count) = cut_after m.after (cut_sites count w k x) (λ d h. subst (λ l. Among l d) (sym (cut_sent count w k x)) (among_left (sent_in w) _ d h))
  ended m IsLost = went_down n w k a

begun_witnessed : (n : ℕ) (w : World) (k : ℕ) (r : Replica) → slice_get w.sites k ≡ Some (Site.Up r) → AreWitnessed n (seats w) (sent_in w) → W n k (seats w) (sent_in w) (begun r)
begun_witnessed n w k r e a = same_seats n (seats w) (at k (seat_up (begun r).replica) (seats w)) _ _ (λ j. at_self k (seats w) j ∙ ap (λ q. at k q (seats w) j) (here w k r e)) refl a

held_step : (n : ℕ) (w v : World) → Marks w v → Held n v → (k : ℕ) (r : Replica) → slice_get v.sites k ≡ Some (Site.Up r) → (input : Input) (reading : ℕ) → CanCome w k input →
    (m : Moment) → Ends v k (step r input reading) m → IsWell n m.after → AreWitnessed n (seats v) (sent_in v) → AreWitnessed n (seats m.after) (sent_in m.after)
held_step n w v p h k r e input reading c m ends well a = elim (log_after v k r (step r input reading) e m ends) [
  | inr lost ↦ subst (λ z. AreWitnessed n (seats z.after) (sent_in z.after)) (sym (lost ∙ lost_down v k (step r input reading))) (went_down n v k a)
  | inl is ↦ (let z = step r input reading in
      let b = chain_witnessed n k (seats v) (sent_in v) r input reading (h.seated k r e).0
      (λ a j e i q inp. subst (λ l. Among l (Datagram.Frame j r.me e i q)) (sym (marked_sent p)) (came_sent w k input c a j r.me e i q inp))
      z.replica.log (λ log x. well.distinct k log (subst (Extends log) (sym is) x)) (step_changes r input reading) same (begun_good n v h k r e) (begun_witnessed n v k r e a) in
      ended n v k (Site.Up r) e a z b m ends)
]

-- ---- starts

-- a boot adds no commit and no entry, and nothing runs behind it
again_seat : (n k : ℕ) (v : ℕ → Seat) (u s : Seat) (all : List Datagram) (size : ℕ) (log : Log) → u.log ≡ log → s.log ≡ Rec.Boot k size ∷ log → s.running ≡ false → AreWitnessed n (at k u v) all → AreWitnessed n (at k s v) all
again_seat n k v u s all size log is e off a = changed n k v u s all (record {
  keeps = λ f h. subst (λ l. Logged l f) (sym e) (inr (subst (λ l. Logged l f) is h));
  own = λ by old f c mem z h ep o le. subst (λ l. Logged l z) (sym is) (elim (subst (λ l. Logged l z) e h) [ inl q ↦ absurd (no_entry z q) | inr q ↦ q ]);
  passed = λ old f ex h run kn. absurd (false≢true (sym off ∙ run));
  commits = λ old f ex h. elim (extends_cases (Rec.Commit f.stamp) (Rec.Boot k size) old log (subst (Extends (Rec.Commit f.stamp ∷ old)) e ex)) [ inl q ↦ absurd (no_commit f q.0) | inr q ↦ inl (subst (Extends (Rec.Commit f.stamp ∷ old)) (sym is) q) ];
}) a
  where
    no_entry : (z : Entry) → Rec.Boot k size ≡ Rec.Prepare z → ⊥
    no_entry z q = cc

    no_commit : (f : Entry) → Rec.Commit f.stamp ≡ Rec.Boot k size → ⊥
    no_commit f q = cc

-- what goes on to an empty log is empty
none_left : (a b : Log) → Extends a b → b ≡ [] → a ≡ []
none_left a b same e = e
none_left a b (more rec h) e = absurd (cc)

no_commits_down : (log : Log) (s : Stamp) → Extends (Rec.Commit s ∷ log) [] → ⊥
no_commits_down log s h = not_empty (none_left (Rec.Commit s ∷ log) [] h refl)
  where
    not_empty : Rec.Commit s ∷ log ≡ [] → ⊥
    not_empty e = cc

-- the first boot of a founder
first_seat : (n k : ℕ) (v : ℕ → Seat) (u s : Seat) (all : List Datagram) → u.log ≡ [] → ((log : Log) (t : Stamp) → Extends (Rec.Commit t ∷ log) s.log → ⊥) → ((f : Entry) → Logged s.log f → ⊥) →
    AreWitnessed n (at k u v) all → AreWitnessed n (at k s v) all
first_seat n k v u s all is commits entries a = changed n k v u s all (record {
  keeps = λ f h. absurd (subst (λ l. Logged l f) is h);
  own = λ by old f c mem z h ep o le. absurd (entries z h);
  passed = λ old f ex h run kn. absurd (no_commits_down old f.stamp (subst (Extends (Rec.Commit f.stamp ∷ old)) is ex));
  commits = λ old f ex h. absurd (commits old f.stamp ex);
}) a

founding_commits : (k n : ℕ) (log : Log) (s : Stamp) → Extends (Rec.Commit s ∷ log) (founding_boot k n).replica.log → ⊥
unfolding founding_boot boot_again keep begun fresh
founding_commits k n log s h = elim (extends_cases (Rec.Commit s) (Rec.Enter 0) log (Rec.Boot k n ∷ []) h) [
  | inl q ↦ absurd (no_enter q.0)
  | inr q ↦ elim (extends_cases (Rec.Commit s) (Rec.Boot k n) log [] q) [ inl w ↦ absurd (no_boot w.0) | inr w ↦ no_commits_down log s w ]
]
  where
    no_enter : Rec.Commit s ≡ Rec.Enter 0 → ⊥
    no_enter e = cc

    no_boot : Rec.Commit s ≡ Rec.Boot k n → ⊥
    no_boot e = cc

founding_entries : (k n : ℕ) (f : Entry) → Logged (founding_boot k n).replica.log f → ⊥
unfolding founding_boot boot_again keep begun fresh
founding_entries k n f h = elim h [ inl e ↦ absurd (cc) | inr w ↦ elim w [ inl e ↦ absurd (cc) | inr z ↦ z ] ]

start_is : (w : World) (k : ℕ) → start_at w k ≡ begun_at w (whole_step (with_room w k) k (boot k (with_room w k).n (log_at (with_room w k) k)))
unfolding start_at
start_is w k = refl

begun_after : (w : World) (m : Moment) → (begun_at w m).after ≡ m.after
unfolding begun_at
begun_after w m = refl

-- a boot adds no commit, and nothing runs that has committed
booted : (n k : ℕ) (v : ℕ → Seat) (u : Seat) (all : List Datagram) (size : ℕ) (log : Log) → u.log ≡ log → AreWitnessed n (at k u v) all → AreWitnessed n (at k (seat_up (boot k size log).replica) v) all
unfolding boot first_boot founding_boot boot_again keep begun fresh seat_up active live suspended when◌then◌otherwise◌
booted n k v u all size (rec ∷ log) is a = again_seat n k v u (seat_up (boot_again k size (rec ∷ log)).replica) all size (rec ∷ log) is refl refl a
booted n k v u all size [] is a = go (nat_lt k size)
  where
    go : (c : Bool) → AreWitnessed n (at k (seat_up (when c then founding_boot k size otherwise boot_again k size []).replica) v) all
    go true = first_seat n k v u (seat_up (founding_boot k size).replica) all is (founding_commits k size) (founding_entries k size) a
    go false = again_seat n k v u (seat_up (boot_again k size []).replica) all size [] is refl refl a

start_after : (n : ℕ) (w : World) (k : ℕ) → (k < length w.sites) ⊎ ((k ≡ length w.sites) × (k < 15)) → AreWitnessed n (seats w) (sent_in w) → AreWitnessed n (seats (start_at w k).after) (sent_in (start_at w k).after)
start_after n w k f a =
    let v = with_room w k in
    let t = room_there w k f in
    let av = same_seats n (seats w) (seats v) (sent_in w) (sent_in v) (room_seats w k) (room_sent w k) a in
    let b = booted n k (seats v) (seats v k) (sent_in v) v.n (log_at v k) (seat_log_at v k) (same_seats n _ _ _ _ (at_self k (seats v)) refl av) in
    subst (λ (u : World). AreWitnessed n (seats u) (sent_in u)) (sym (ap (λ (m : Moment). m.after) (start_is w k) ∙ begun_after w (whole_step v k (boot k v.n (log_at v k))))) (ended n v k t.0 t.1 av (boot k v.n (log_at v k)) b (whole_step v k (boot k v.n (log_at v k))) IsWhole)

moment_witnessed : (n : ℕ) (w : World) (m : Moment) → Happens w m → Held n w → IsWell n m.after → AreWitnessed n (seats w) (sent_in w) → AreWitnessed n (seats m.after) (sent_in m.after)
unfolding silent begun_at
moment_witnessed n w m (Nothing v p) h well a = marked_witnessed n w v p a
moment_witnessed n w m (Steps v p k r e input reading lt c z ends) h well a = held_step n w v p (held_marked n w v p h) k r e input reading c z ends well (marked_witnessed n w v p a)
moment_witnessed n w m (Junk k r e z ends) h well a = ended n w k (Site.Up r) e a (begun r) (begun_witnessed n w k r e a) z ends
moment_witnessed n w m (Stops k) h well a = went_down n w k a
moment_witnessed n w m (Joins f) h well a = let v = with_room w (length w.sites) in same_seats n (seats w) (seats v) (sent_in w) (sent_in v) (room_seats w (length w.sites)) (room_sent w (length w.sites)) a
moment_witnessed n w m (Starts k d f) h well a = start_after n w k f a

-- ---- every world

no_commits_up : (k n : ℕ) (log : Log) (s : Stamp) → Extends (Rec.Commit s ∷ log) (seat_up (founding_boot k n).replica).log → ⊥
unfolding seat_up
no_commits_up k n log s h = founding_commits k n log s h

first_witnessed : (n : ℕ) → AreWitnessed n (seats (begin n)) (sent_in (begin n))
unfolding seat_down
first_witnessed n by log x c = absurd (never by log x.stamp c.0)
  where
    never : (k : ℕ) → (log : Log) (s : Stamp) → Extends (Rec.Commit s ∷ log) (seats (begin n) k).log → ⊥
    never k = begin_seats n (λ j s. (log : Log) (t : Stamp) → Extends (Rec.Commit t ∷ log) s.log → ⊥) (λ j log t h. no_commits_up j n log t h) (λ j log t h. no_commits_down log t h) k

few_before : (w u : World) → LogsGoOn w u → HasFewBoots u → HasFewBoots w
few_before w u grows few k = let t = boots_grow (log_at w k) (log_at u k) (grows k) in let f = few k in omega (arith, t, f)

pub commits_are_witnessed : CommitsAreWitnessed
commits_are_witnessed n w first few = first_witnessed n
commits_are_witnessed n w (next {w = u} {m = m} r h) few =
    let few_u = few_before u m.after (moment_goes_on u m h) few in
    moment_witnessed n u m h (all_held n u r (is_well n u r few_u)) (is_well n m.after (next r h) few) (commits_are_witnessed n u r few_u)
