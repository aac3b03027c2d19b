-- The facts hold of every world reached.
use Rattle.std.proofs.Common.{◌≡◌, ℕ, zero, suc, ◌+◌, ◌<◌, ◌≤◌, List, [], ◌∷◌, ◌++◌, length, refl, sym, ◌∙◌, ap, subst, inl, inr, Bool, true, false, cond, arith, take, map}
use Rattle.std.specs.Prelude.{◌⊎◌, IsTrue, Option, Some, None, slice_get, slice_set, ◌==◌, nat_lt}
use Rattle.std.specs.Option.{option_map_or}
use Rattle.std.specs.List.{range_with_len}
use Rattle.std.proofs.lemmas.Bool.{cases_eq, cases_lt, eq-eqb, false≢true}
use Rattle.std.proofs.lemmas.Option.{none-some, same_Some}
use Rattle.std.proofs.lemmas.List.{append-nil, map-append}
use mathlib.Core.Path.{fun_ext}
use Rattle.crsm_spec.specs.Types.{Entry, Rec, InEpoch, Datagram}
use Rattle.crsm_spec.specs.Choice.{when◌then◌otherwise◌}
use Rattle.crsm_spec.specs.Lists.{Among, numbers_below}
use Rattle.crsm_spec.specs.Log.{Log, known, active, live, suspended, has_entered, is_enter, decision}
use Rattle.crsm_spec.specs.Replica.{Replica, fresh}
use Rattle.crsm_spec.specs.Draft.{Draft, begun, keep}
use Rattle.crsm_spec.specs.Step.{Input, step, boot, boot_again, founding_boot, first_boot}
use Rattle.crsm_spec.specs.World.{Site, Packet, World, Moment, begin, log_of, log_at, with_site, packet_of, whole_step, cut_step, lost_step, down, after_step, then_down}
use Rattle.crsm_spec.specs.Moments.{use_up, silent, begun_at, with_room, start_at}
use Rattle.crsm_fact_log.specs.Logs.{AllFit, Extends, same, more, Logged}
use Rattle.crsm_law_steps.specs.Laws.{LogsGoOn}
use Rattle.crsm_law_steps.specs.Happenings.{Marks, CanCome, Ends, Happens, IsReached}
use Rattle.crsm_law_steps.specs.Happenings.Marks.{none, mark}
use Rattle.crsm_law_steps.specs.Happenings.CanCome.{IsPacket, IsCommand, IsReply, IsTick, IsSuspicion}
use Rattle.crsm_law_steps.specs.Happenings.Ends.{IsWhole, IsCut, IsLost}
use Rattle.crsm_law_steps.specs.Happenings.Happens.{Nothing, Steps, Junk, Stops, Joins, Starts}
use Rattle.crsm_law_steps.specs.Happenings.IsReached.{first, next}
use Rattle.crsm_fact_log.proofs.Logged.{extends_trans}
use Rattle.crsm_fact_step.proofs.Logs.{steps_grow}
use Rattle.crsm_fact_step.proofs.Fitted.{step_changes}
use Rattle.crsm_law_steps.proofs.Moments.{moment_goes_on}
use Rattle.crsm_law_epoch.specs.Seats.{Seat, seat_up, seat_down, seat_of, Sender, Receiver, IsFirst, Facts, logs_of, pushed_to, taken_of}
use Rattle.crsm_law_epoch.specs.Worlds.{seats, sent_in, IsWell, AreSeated, EpochsHold}
use Rattle.crsm_fact_log.proofs.Lists.{get_some, get_left, among_left, among_right, among_either, among_take}
use Rattle.crsm_law_epoch.proofs.Words.{get_end, among_map, set_same, set_other}
use Rattle.crsm_law_epoch.proofs.Moved.{at, at_same, at_other, at_case, moved}
use Rattle.crsm_law_epoch.proofs.Quiet.{stopped, strip, entered_more}
use Rattle.crsm_law_epoch.proofs.Drafts.{Good, IsPrefix, outs, seat_fact}
use Rattle.crsm_law_epoch.proofs.Seated.{good_enter}
use Rattle.crsm_law_epoch.proofs.Kept.{chain_kept}

-- ---- what is the same

-- the facts of equal seats and datagrams
pub facts_same : (n : ℕ) (v u : ℕ → Seat) (a b : List Datagram) → ((k : ℕ) → v k ≡ u k) → a ≡ b → Facts n v a → Facts n u b
facts_same n v u a b e d f = subst (λ z. Facts n z b) (fun_ext e) (subst (Facts n v) d f)

-- the log of a seat is that of its site
seat_log : (o : Option Site) → (seat_of o).log ≡ option_map_or log_of o []
unfolding seat_of seat_up seat_down log_of
seat_log None = refl
seat_log (Some (Site.Up r)) = refl
seat_log (Some (Site.Down log)) = refl

-- ---- marks

map_set : (xs : List Packet) (i : ℕ) (m n : Packet) → slice_get xs i ≡ Some m → n.datagram ≡ m.datagram → map (λ m. m.datagram) (slice_set xs i n) ≡ map (λ m. m.datagram) xs
map_set [] i m n h e = refl
map_set (x ∷ xs) zero m n h e = ap (λ d. d ∷ map (λ m. m.datagram) xs) (e ∙ ap (λ m. m.datagram) (sym (same_Some x m h)))
map_set (x ∷ xs) (suc i) m n h e = ap (λ l. x.datagram ∷ l) (map_set xs i m n h e)

mark_sent : (i : ℕ) (w : World) → sent_in (use_up i w) ≡ sent_in w
unfolding sent_in use_up
mark_sent i w = go (slice_get w.packets i) refl
  where
    go : (o : Option Packet) → slice_get w.packets i ≡ o → map (λ m. m.datagram) (option_map_or (λ m. slice_set w.packets i (record m { used = true })) o w.packets) ≡ map (λ m. m.datagram) w.packets
    go None e = refl
    go (Some m) e = map_set w.packets i m (record m { used = true }) e refl

pub marked_sent : {w v : World} → Marks w v → sent_in v ≡ sent_in w
marked_sent none = refl
marked_sent (mark {v = v} i p) = mark_sent i v ∙ marked_sent p

mark_sites : (i : ℕ) (w : World) → (use_up i w).sites ≡ w.sites
unfolding use_up
mark_sites i w = refl

pub marked_sites : {w v : World} → Marks w v → v.sites ≡ w.sites
marked_sites none = refl
marked_sites (mark {v = v} i p) = mark_sites i v ∙ marked_sites p

mark_n : (i : ℕ) (w : World) → (use_up i w).n ≡ w.n
unfolding use_up
mark_n i w = refl

pub marked_n : {w v : World} → Marks w v → v.n ≡ w.n
marked_n none = refl
marked_n (mark {v = v} i p) = mark_n i v ∙ marked_n p

-- ---- a stopped step: a prefix of its sends is out

module _ (n k : ℕ) (v : ℕ → Seat) (sent : List Datagram) (i : Facts n v sent) (x : Draft) (g : Good n k v sent x) (grows : Extends (v k).log x.replica.log) (count : ℕ) where
  abbrev part : List Datagram
  part = take count (outs x)

  sub : (d : Datagram) → Among (sent ++ part) d → Among (sent ++ outs x) d
  sub d h = elim (among_either sent part d h) [ inl a ↦ among_left sent _ d a | inr b ↦ among_right sent _ d (among_take count (outs x) d b) ]

  gone : at k (seat_up x.replica) v k ≡ seat_up x.replica
  gone = at_same n k v (seat_up x.replica)

  keeps : {a b : Log} (f : Entry) → Extends a b → Logged a f → Logged b f
  keeps f same h = h
  keeps f (more rec p) h = inr (keeps f p h)

  cut_off : Facts n (at k (seat_down x.replica.log) v) (sent ++ part)
  unfolding seat_down seat_up
  cut_off = moved n k v sent (seat_down x.replica.log) (sent ++ part) i (record {
    fit = seat_fact n k v sent x (λ w. AllFit k n w.log) (g.facts.fit k);
    keeps = λ f h. keeps f grows h;
    source = λ f h. elim (at_case n k v (seat_up x.replica) (λ w. Logged w.log f) f.stamp.origin (g.facts.own k f (subst (λ w. Logged w.log f) (sym gone) h))) [ inl w ↦ inl w.0 | inr w ↦ inr w.1 ];
    one = λ f h a b. g.facts.one k f h (subst (λ w. Logged w.log f) (sym gone) a) (subst (λ w. Logged w.log h) (sym gone) b);
    more = λ d h. among_left sent part d h;
    frames = λ m j e y p h. elim (among_either sent part _ h) [ inl a ↦ inl a | inr b ↦ inr (g.mine m j e y p (among_take count (outs x) _ b)) ];
    says = λ j e y f h. let w = g.facts.says k j e y f (sub _ h) in (subst (λ s. Logged s.log f) gone w.0, w.1, w.2);
    says_ok = λ j e y t u h. let w = g.facts.says_ok k j e y t u (sub _ h) in (w.0, subst (λ s. Logged s.log w.0) gone w.1, w.2, w.3);
    same = λ j e y p q a b. g.facts.same k j e y p q (sub _ a) (sub _ b);
    low = (g.prefixes count).low;
    first = (g.prefixes count).first;
    entered = λ j e y p h. subst (λ s. IsTrue (has_entered e s.log)) gone (g.facts.entered k j e y p (sub _ h));
    stamped = λ f h o. subst (λ s. IsTrue (has_entered f.epoch s.log)) gone (g.facts.stamped k f (subst (λ w. Logged w.log f) (sym gone) h) o);
    sender = λ r. absurd (false≢true r);
    receiver = λ r. absurd (false≢true r);
  })

-- a replica that stops: its log stays
stops_here : (n k : ℕ) (v : ℕ → Seat) (sent : List Datagram) → Facts n v sent → Facts n (at k (seat_down (v k).log) v) sent
unfolding seat_down
stops_here n k v sent i = stopped n k v sent sent (seat_down (v k).log) i (λ d h. h) (λ m j e x p h. h) (i.fit k) (λ f h. h) (λ f h. h) (λ e h. h) (λ r. absurd (false≢true r))

-- ---- what holds of a world

pub record Held (n : ℕ) (w : World) : Type 0 where
  pub size : w.n ≡ n
  pub seated : AreSeated n w
  pub facts : Facts n (seats w) (sent_in w)

-- the seats where one site is another
pub seats_set : (w u : World) (k : ℕ) (s t : Site) → slice_get w.sites k ≡ Some s → u.sites ≡ slice_set w.sites k t → (j : ℕ) → at k (seat_of (Some t)) (seats w) j ≡ seats u j
unfolding seats
seats_set w u k s t e is j = elim (cases_eq j k) [
  | inl q ↦ subst (λ i. at k (seat_of (Some t)) (seats w) i ≡ seat_of (slice_get u.sites i)) (sym q)
      (at_same 0 k (seats w) (seat_of (Some t)) ∙ ap seat_of (sym (ap (λ ss. slice_get ss k) is ∙ set_same w.sites k s t e)))
  | inr ne ↦ at_other 0 k (seats w) (seat_of (Some t)) j ne ∙ ap seat_of (sym (ap (λ ss. slice_get ss j) is ∙ set_other w.sites k j t ne))
]

seated_set : (n : ℕ) (w u : World) (k : ℕ) (s t : Site) → slice_get w.sites k ≡ Some s → u.sites ≡ slice_set w.sites k t → AreSeated n w → ((r : Replica) → t ≡ Site.Up r → (r.me ≡ k) × (r.n ≡ n)) → AreSeated n u
seated_set n w u k s t e is h new j r q = elim (cases_eq j k) [
  | inl z ↦ (let got : Some t ≡ Some (Site.Up r) = sym (ap (λ ss. slice_get ss k) is ∙ set_same w.sites k s t e) ∙ subst (λ i. slice_get u.sites i ≡ Some (Site.Up r)) z q in
      let p = new r (same_Some t (Site.Up r) got) in (p.0 ∙ sym z, p.1))
  | inr ne ↦ h j r (sym (ap (λ ss. slice_get ss j) is ∙ set_other w.sites k j t ne) ∙ q)
]

pub packets_sent : (k : ℕ) (sends : List (ℕ × Datagram)) → map (λ m. m.datagram) (map (packet_of k) sends) ≡ map (λ s. s.1) sends
unfolding packet_of
packets_sent k [] = refl
packets_sent k (s ∷ ss) = ap (λ l. s.1 ∷ l) (packets_sent k ss)

pub map_take : (c : ℕ) (xs : List (ℕ × Datagram)) → map (λ s. s.1) (take c xs) ≡ take c (map (λ s. s.1) xs)
map_take zero xs = refl
map_take (suc c) [] = refl
map_take (suc c) (x ∷ xs) = ap (λ l. x.1 ∷ l) (map_take c xs)

pub up_same : (a b : Replica) → Site.Up a ≡ Site.Up b → a ≡ b
up_same a b h = cc

pub set_nowhere : {A : Type 0} (xs : List A) (k : ℕ) (y : A) → slice_get xs k ≡ None → slice_set xs k y ≡ xs
set_nowhere [] k y h = refl
set_nowhere (x ∷ xs) zero y h = absurd (none-some x (sym h))
set_nowhere (x ∷ xs) (suc k) y h = ap (λ l. x ∷ l) (set_nowhere xs k y h)

nowhere : (n : ℕ) (w : World) → Held n w → (k : ℕ) → slice_get w.sites k ≡ None → Held n (down w k).after
unfolding down with_site seats sent_in
nowhere n w h k e =
    let same_sites : slice_set w.sites k (Site.Down (log_at w k)) ≡ w.sites = set_nowhere w.sites k (Site.Down (log_at w k)) e in
    record {
      size = h.size;
      seated = subst (λ ss. (j : ℕ) (r : Replica) → slice_get ss j ≡ Some (Site.Up r) → (r.me ≡ j) × (r.n ≡ n)) (sym same_sites) h.seated;
      facts = facts_same n (seats w) (seats (down w k).after) (sent_in w) (sent_in (down w k).after) (λ j. ap (λ ss. seat_of (slice_get ss j)) (sym same_sites)) refl h.facts;
    }

-- a replica that goes down keeps its log
went_down : (n : ℕ) (w : World) → Held n w → (k : ℕ) (s : Site) → slice_get w.sites k ≡ Some s → Held n (down w k).after
unfolding down with_site log_at seats seat_of sent_in
went_down n w h k s e = record {
  size = h.size;
  seated = seated_set n w (down w k).after k s (Site.Down (log_at w k)) e refl h.seated (λ q z. absurd (cc));
  facts = facts_same n (at k (seat_down (seats w k).log) (seats w)) (seats (down w k).after) (sent_in w) (sent_in w)
      (λ j. ap (λ l. at k (seat_down l) (seats w) j) (seat_log (slice_get w.sites k)) ∙ seats_set w (down w k).after k s (Site.Down (log_at w k)) e refl j) refl
      (stops_here n k (seats w) (sent_in w) h.facts);
}

-- a world after a step of k, where the facts of its draft are at hand
module _ (n : ℕ) (w : World) (h : Held n w) (k : ℕ) (r : Replica) (e : slice_get w.sites k ≡ Some (Site.Up r)) (x : Draft) (g : Good n k (seats w) (sent_in w) x) (grows : Extends r.log x.replica.log) where
  here_log : (seats w k).log ≡ r.log
  unfolding seats seat_of seat_up
  here_log = ap (λ o. (seat_of o).log) e

  ended : (m : Moment) → Ends w k x m → Held n m.after
  unfolding whole_step cut_step lost_step then_down after_step down with_site seats seat_of sent_in log_at log_of
  ended m IsWhole = record {
    size = h.size;
    seated = seated_set n w m.after k (Site.Up r) (Site.Up x.replica) e refl h.seated (λ q z. let s = up_same x.replica q z in (ap (λ y. y.me) (sym s) ∙ g.me, ap (λ y. y.n) (sym s) ∙ g.size));
    facts = facts_same n (at k (seat_up x.replica) (seats w)) (seats m.after) (sent_in w ++ outs x) (sent_in m.after) (seats_set w m.after k (Site.Up r) (Site.Up x.replica) e refl)
        (sym (map-append (λ m. m.datagram) w.packets (map (packet_of k) x.sends) ∙ ap (λ l. sent_in w ++ l) (packets_sent k x.sends))) g.facts;
  }
  ended m (IsCut count) = record {
    size = h.size;
    seated = seated_set n w m.after k (Site.Up r) (Site.Down x.replica.log) e refl h.seated (λ q z. absurd (cc));
    facts = facts_same n (at k (seat_down x.replica.log) (seats w)) (seats m.after) (sent_in w ++ take count (outs x)) (sent_in m.after) (seats_set w m.after k (Site.Up r) (Site.Down x.replica.log) e refl)
        (sym (map-append (λ m. m.datagram) w.packets (map (packet_of k) (take count x.sends)) ∙ ap (λ l. sent_in w ++ l) (packets_sent k (take count x.sends) ∙ map_take count x.sends)))
        (cut_off n k (seats w) (sent_in w) h.facts x g (subst (λ l. Extends l x.replica.log) (sym here_log) grows) count);
  }
  ended m IsLost = went_down n w h k (Site.Up r) e

-- ---- a step

pub begun_good : (n : ℕ) (w : World) → Held n w → (k : ℕ) (r : Replica) → slice_get w.sites k ≡ Some (Site.Up r) → Good n k (seats w) (sent_in w) (begun r)
unfolding begun seats seat_of seat_up
begun_good n w h k r e =
    let seat : (seats w k) ≡ seat_up r = ap seat_of e in
    let nil = append-nil (sent_in w) in
    record {
      me = (h.seated k r e).0;
      size = (h.seated k r e).1;
      facts = facts_same n (seats w) (at k (seat_up r) (seats w)) (sent_in w) (sent_in w ++ []) (λ j. elim (cases_eq j k) [
        | inl q ↦ subst (λ i. seats w i ≡ at k (seat_up r) (seats w) i) (sym q) (seat ∙ sym (at_same n k (seats w) (seat_up r)))
        | inr ne ↦ sym (at_other n k (seats w) (seat_up r) j ne)
      ]) (sym nil) h.facts;
      prefixes = λ c. subst (λ l. IsPrefix k r.log l) (sym (ap (λ z. sent_in w ++ z) (none_taken c) ∙ nil))
          (record { first = subst (λ s. IsFirst k s.log (sent_in w)) seat (h.facts.first k); low = h.facts.low k });
      mine = λ m j e i p q. absurd q;
    }
  where
    no_datagrams : List Datagram
    no_datagrams = []

    none_taken : (c : ℕ) → take c no_datagrams ≡ no_datagrams
    none_taken zero = refl
    none_taken (suc c) = refl

pub held_marked : (n : ℕ) (w v : World) → Marks w v → Held n w → Held n v
unfolding seats
held_marked n w v p h = record {
  size = marked_n p ∙ h.size;
  seated = subst (λ ss. (k : ℕ) (r : Replica) → slice_get ss k ≡ Some (Site.Up r) → (r.me ≡ k) × (r.n ≡ n)) (sym (marked_sites p)) h.seated;
  facts = facts_same n (seats w) (seats v) (sent_in w) (sent_in v) (λ k. ap (λ ss. seat_of (slice_get ss k)) (sym (marked_sites p))) (sym (marked_sent p)) h.facts;
}

-- what came as a frame was sent
pub came_sent : (w : World) (k : ℕ) (input : Input) → CanCome w k input → (a m j e i : ℕ) (p : InEpoch) → input ≡ Input.Came a (Datagram.Frame m j e i p) → Among (sent_in w) (Datagram.Frame m j e i p)
unfolding sent_in
came_sent w k input (IsPacket from d s) a m j e i p q =
    let same : d ≡ Datagram.Frame m j e i p = came_is from a d (Datagram.Frame m j e i p) q in
    subst (λ z. Among (map (λ m. m.datagram) w.packets) z) same (among_map (λ m. m.datagram) w.packets _ s.1)
  where
    came_is : (a b : ℕ) (c d : Datagram) → Input.Came a c ≡ Input.Came b d → c ≡ d
    came_is a b c d h = cc
came_sent w k input (IsCommand b c f) a m j e i p q = absurd (cc)
came_sent w k input (IsReply b c d t) a m j e i p q = absurd (cc)
came_sent w k input IsTick a m j e i p q = absurd (cc)
came_sent w k input (IsSuspicion ms f) a m j e i p q = absurd (cc)

pub log_there : (w : World) (k : ℕ) (r : Replica) → slice_get w.sites k ≡ Some (Site.Up r) → log_at w k ≡ r.log
unfolding log_at log_of
log_there w k r e = ap (λ o. option_map_or log_of o []) e

-- the log at k, where that site is set
log_set : (w : World) (k : ℕ) (s t : Site) (u : World) → slice_get w.sites k ≡ Some s → u.sites ≡ slice_set w.sites k t → log_at u k ≡ log_of t
unfolding log_at
log_set w k s t u e is = ap (λ ss. option_map_or log_of (slice_get ss k) []) is ∙ ap (λ o. option_map_or log_of o []) (set_same w.sites k s t e)

-- how a step's log stands in the world after it: the whole of it, or the log of before
pub log_after : (w : World) (k : ℕ) (r : Replica) (x : Draft) → slice_get w.sites k ≡ Some (Site.Up r) → (m : Moment) → Ends w k x m → (log_at m.after k ≡ x.replica.log) ⊎ (m ≡ lost_step w k x)
unfolding whole_step cut_step then_down after_step log_of
log_after w k r x e m IsWhole = inl (log_set w k (Site.Up r) (Site.Up x.replica) m.after e refl)
log_after w k r x e m (IsCut count) = inl (log_set w k (Site.Up r) (Site.Down x.replica.log) m.after e refl)
log_after w k r x e m IsLost = inr refl

begun_after : (w : World) (m : Moment) → (begun_at w m).after ≡ m.after
unfolding begun_at
begun_after w m = refl

-- ---- starts

more_room : (ss : List Site) (i : ℕ) → seat_of (slice_get ss i) ≡ seat_of (slice_get (ss ++ Site.Down [] ∷ []) i)
unfolding seat_of
more_room [] zero = refl
more_room [] (suc i) = refl
more_room (s ∷ ss) zero = refl
more_room (s ∷ ss) (suc i) = more_room ss i

-- one more site, down with an empty log, has no other seat
pub room_seats : (w : World) (k j : ℕ) → seats w j ≡ seats (with_room w k) j
unfolding seats with_room
room_seats w k j = go (k == length w.sites)
  where
    go : (c : Bool) → seat_of (slice_get w.sites j) ≡ seat_of (slice_get (cond c (record w { sites = w.sites ++ Site.Down [] ∷ [] }) w).sites j)
    go true = more_room w.sites j
    go false = refl

get_room : (ss : List Site) (i : ℕ) (r : Replica) → slice_get (ss ++ Site.Down [] ∷ []) i ≡ Some (Site.Up r) → slice_get ss i ≡ Some (Site.Up r)
get_room [] zero r h = absurd (cc)
get_room [] (suc i) r h = absurd (none-some _ h)
get_room (s ∷ ss) zero r h = h
get_room (s ∷ ss) (suc i) r h = get_room ss i r h

room_n : (w : World) (k : ℕ) → (with_room w k).n ≡ w.n
unfolding with_room
room_n w k = go (k == length w.sites)
  where
    go : (c : Bool) → (cond c (record w { sites = w.sites ++ Site.Down [] ∷ [] }) w).n ≡ w.n
    go true = refl
    go false = refl

pub room_sent : (w : World) (k : ℕ) → sent_in w ≡ sent_in (with_room w k)
unfolding with_room sent_in
room_sent w k = go (k == length w.sites)
  where
    go : (c : Bool) → map (λ m. m.datagram) w.packets ≡ map (λ m. m.datagram) (cond c (record w { sites = w.sites ++ Site.Down [] ∷ [] }) w).packets
    go true = refl
    go false = refl

room_up : (w : World) (k j : ℕ) (r : Replica) → slice_get (with_room w k).sites j ≡ Some (Site.Up r) → slice_get w.sites j ≡ Some (Site.Up r)
unfolding with_room
room_up w k j r = go (k == length w.sites)
  where
    go : (c : Bool) → slice_get (cond c (record w { sites = w.sites ++ Site.Down [] ∷ [] }) w).sites j ≡ Some (Site.Up r) → slice_get w.sites j ≡ Some (Site.Up r)
    go true h = get_room w.sites j r h
    go false h = h

pub room_there : (w : World) (k : ℕ) → (k < length w.sites) ⊎ ((k ≡ length w.sites) × (k < 15)) → (s : Site) × (slice_get (with_room w k).sites k ≡ Some s)
unfolding with_room
room_there w k (inl lt) = go (k == length w.sites)
  where
    go : (c : Bool) → (s : Site) × (slice_get (cond c (record w { sites = w.sites ++ Site.Down [] ∷ [] }) w).sites k ≡ Some s)
    go true = let t = get_some w.sites k lt in (t.0, get_left w.sites (Site.Down [] ∷ []) k t.0 t.1)
    go false = get_some w.sites k lt
room_there w k (inr e) = go (k == length w.sites) (eq-eqb k (length w.sites) e.0)
  where
    go : (c : Bool) → c ≡ true → (s : Site) × (slice_get (cond c (record w { sites = w.sites ++ Site.Down [] ∷ [] }) w).sites k ≡ Some s)
    go true h = (Site.Down [], subst (λ i. slice_get (w.sites ++ Site.Down [] ∷ []) i ≡ Some (Site.Down [])) (sym e.0) (get_end w.sites (Site.Down [])))
    go false h = absurd (false≢true h)

pub held_room : (n : ℕ) (w : World) (k : ℕ) → Held n w → Held n (with_room w k)
held_room n w k h = record {
  size = room_n w k ∙ h.size;
  seated = λ j r e. h.seated j r (room_up w k j r e);
  facts = facts_same n (seats w) (seats (with_room w k)) (sent_in w) (sent_in (with_room w k)) (room_seats w k) (room_sent w k) h.facts;
}

-- ---- boots

no_datagrams : List Datagram
no_datagrams = []

none_out : (c : ℕ) → take c no_datagrams ≡ no_datagrams
unfolding no_datagrams
none_out zero = refl
none_out (suc c) = refl

-- a boot on a log: nothing runs until an epoch is entered
again_good : (n : ℕ) (v : World) → Held n v → (k : ℕ) (log : Log) → (seats v k).log ≡ log → AllFit k n (boot_again k v.n log).replica.log → Good n k (seats v) (sent_in v) (boot_again k v.n log)
unfolding boot_again keep begun fresh seat_up no_datagrams active live suspended
again_good n v h k log is fit =
    let s = seat_up (boot_again k v.n log).replica in
    let nil = append-nil (sent_in v) in
    let lose = λ (f : Entry) (g : Logged (Rec.Boot k v.n ∷ log) f). subst (λ l. Logged l f) (sym is) (strip (Rec.Boot k v.n) log f (λ z q. absurd (cc)) g) in
    let f0 : Facts n (at k s (seats v)) (sent_in v) = stopped n k (seats v) (sent_in v) (sent_in v) s h.facts (λ d q. q) (λ m j e x p q. q) fit (λ f q. inr (subst (λ l. Logged l f) is q)) lose
    (λ e q. entered_more e (Rec.Boot k v.n) log (subst (λ l. IsTrue (has_entered e l)) is q)) (λ r. absurd (false≢true r)) in
    record {
      me = refl;
      size = h.size;
      facts = subst (Facts n (at k s (seats v))) (sym nil) f0;
      prefixes = λ c. subst (λ l. IsPrefix k (Rec.Boot k v.n ∷ log) l) (sym (ap (λ z. sent_in v ++ z) (none_out c) ∙ nil))
          (record { first = λ f j i p q o. h.facts.first k f j i p (lose f q) o; low = h.facts.low k });
      mine = λ m j e i p q. absurd q;
    }

founding : (n : ℕ) (v : World) → Held n v → (k : ℕ) → (seats v k).log ≡ [] → AllFit k n (founding_boot k v.n).replica.log → Good n k (seats v) (sent_in v) (founding_boot k v.n)
unfolding founding_boot boot_again keep begun fresh known decision has_entered is_enter
founding n v h k is fit =
    good_enter n k (seats v) (sent_in v) (boot_again k v.n []) (founding_boot k v.n) (again_good n v h k [] is fit.1) refl refl refl refl fit refl refl refl refl refl refl refl

boot_good : (n : ℕ) (v : World) → Held n v → (k : ℕ) (log : Log) → (seats v k).log ≡ log → AllFit k n (boot k v.n log).replica.log → Good n k (seats v) (sent_in v) (boot k v.n log)
unfolding boot first_boot when◌then◌otherwise◌
boot_good n v h k (rec ∷ log) is fit = again_good n v h k (rec ∷ log) is fit
boot_good n v h k [] is fit = go (nat_lt k v.n) fit
  where
    go : (c : Bool) → AllFit k n (when c then founding_boot k v.n otherwise boot_again k v.n []).replica.log → Good n k (seats v) (sent_in v) (when c then founding_boot k v.n otherwise boot_again k v.n [])
    go true f = founding n v h k is f
    go false f = again_good n v h k [] is f

-- ---- moments

fit_end : (me n : ℕ) (a b : Log) → Extends a b → AllFit me n b → AllFit me n a
fit_end me n a b same h = h
fit_end me n a b (more {new = c} rec p) h = fit_end me n a c p h.1

pub well_before : (n : ℕ) (w u : World) → LogsGoOn w u → IsWell n u → IsWell n w
well_before n w u grows h = record {
  fit = λ k. fit_end k n (log_at w k) (log_at u k) (grows k) (h.fit k);
  distinct = λ k log e. h.distinct k log (extends_trans e (grows k));
}

-- the log of a seat is that at its place
pub seat_log_at : (w : World) (k : ℕ) → (seats w k).log ≡ log_at w k
unfolding seats log_at
seat_log_at w k = seat_log (slice_get w.sites k)

-- a step, of which the log in the world after it is well
held_step : (n : ℕ) (w v : World) → Marks w v → Held n v → (k : ℕ) (r : Replica) → slice_get v.sites k ≡ Some (Site.Up r) → (input : Input) (reading : ℕ) → CanCome w k input →
    (m : Moment) → Ends v k (step r input reading) m → IsWell n m.after → Held n m.after
unfolding lost_step down
held_step n w v p h k r e input reading c m ends well = elim (log_after v k r (step r input reading) e m ends) [
  | inr lost ↦ subst (λ z. Held n z.after) (sym lost) (went_down n v h k (Site.Up r) e)
  | inl is ↦ (let z = step r input reading in
      let g = chain_kept n k (seats v) (sent_in v) r input reading (h.seated k r e).0
      (λ a j e i q inp. subst (λ l. Among l (Datagram.Frame j r.me e i q)) (sym (marked_sent p)) (came_sent w k input c a j r.me e i q inp))
      z.replica.log (λ log x. well.distinct k log (subst (Extends log) (sym is) x)) (step_changes r input reading) same (begun_good n v h k r e) in
      ended n v h k r e z g (steps_grow r input reading) m ends)
]

held_junk : (n : ℕ) (w : World) → Held n w → (k : ℕ) (r : Replica) → slice_get w.sites k ≡ Some (Site.Up r) → (m : Moment) → Ends w k (begun r) m → Held n m.after
unfolding begun
held_junk n w h k r e m ends = ended n w h k r e (begun r) (begun_good n w h k r e) same m ends

log_up : (w u : World) (k : ℕ) (s : Site) (r : Replica) → slice_get w.sites k ≡ Some s → u.sites ≡ slice_set w.sites k (Site.Up r) → log_at u k ≡ r.log
unfolding log_of
log_up w u k s r e is = log_set w k s (Site.Up r) u e is

seats_at : (w u : World) (k : ℕ) (s : Site) (r : Replica) → slice_get w.sites k ≡ Some s → u.sites ≡ slice_set w.sites k (Site.Up r) → (j : ℕ) → at k (seat_up r) (seats w) j ≡ seats u j
unfolding seat_of
seats_at w u k s r e is j = seats_set w u k s (Site.Up r) e is j

-- a replica that stops, or a number with no replica
held_stop : (n : ℕ) (w : World) (k : ℕ) → Held n w → Held n (down w k).after
held_stop n w k h = go (slice_get w.sites k) refl
  where
    go : (o : Option Site) → slice_get w.sites k ≡ o → Held n (down w k).after
    go (Some s) e = went_down n w h k s e
    go None e = nowhere n w h k e

-- a start
held_start : (n : ℕ) (w : World) (k : ℕ) → Held n w → (k < length w.sites) ⊎ ((k ≡ length w.sites) × (k < 15)) → IsWell n (start_at w k).after → Held n (start_at w k).after
unfolding start_at begun_at whole_step after_step sent_in
held_start n w k h f well =
    let v = with_room w k in
    let hv = held_room n w k h in
    let t = room_there w k f in
    let x = boot k v.n (log_at v k) in
    let u = (start_at w k).after in
    let fit : AllFit k n x.replica.log = subst (AllFit k n) (log_set' v k t.0 x u t.1) (well.fit k) in
    let g = boot_good n v hv k (log_at v k) (seat_log_at v k) fit in
    record {
      size = hv.size;
      seated = seated_set n v u k t.0 (Site.Up x.replica) t.1 refl hv.seated (λ q z. let s = up_same x.replica q z in (ap (λ y. y.me) (sym s) ∙ g.me, ap (λ y. y.n) (sym s) ∙ g.size));
      facts = facts_same n (at k (seat_up x.replica) (seats v)) (seats u) (sent_in v ++ outs x) (sent_in u) (seats_up v u k t.0 x.replica t.1)
          (sym (map-append (λ m. m.datagram) v.packets (map (packet_of k) x.sends) ∙ ap (λ l. sent_in v ++ l) (packets_sent k x.sends))) g.facts;
    }
  where
    log_set' : (v : World) (k : ℕ) (s : Site) (x : Draft) (u : World) → slice_get v.sites k ≡ Some s → log_at (record u { sites = slice_set v.sites k (Site.Up x.replica) }) k ≡ x.replica.log
    log_set' v k s x u e = log_up v (record u { sites = slice_set v.sites k (Site.Up x.replica) }) k s x.replica e refl

    seats_up : (v u : World) (k : ℕ) (s : Site) (r : Replica) → slice_get v.sites k ≡ Some s → (j : ℕ) → at k (seat_up r) (seats v) j ≡ seats (record u { sites = slice_set v.sites k (Site.Up r) }) j
    seats_up v u k s r e j = seats_at v (record u { sites = slice_set v.sites k (Site.Up r) }) k s r e refl j

pub moment_held : (n : ℕ) (w : World) (m : Moment) → Happens w m → Held n w → IsWell n m.after → Held n m.after
unfolding silent begun_at
moment_held n w m (Nothing v p) h well = held_marked n w v p h
moment_held n w m (Steps v p k r e input reading lt c z ends) h well = held_step n w v p (held_marked n w v p h) k r e input reading c z ends well
moment_held n w m (Junk k r e z ends) h well = held_junk n w h k r e z ends
moment_held n w m (Stops k) h well = held_stop n w k h
moment_held n w m (Joins f) h well = held_room n w (length w.sites) h
moment_held n w m (Starts k d f) h well = held_start n w k h f well

-- ---- the first world

get_range : {A : Type 0} (f : ℕ → A) (a n i : ℕ) → i < n → slice_get (map f (range_with_len a n)) i ≡ Some (f (a + i))
get_range f a zero i lt = absurd (omega (arith, lt))
get_range f a (suc n) zero lt = ap (λ j. Some (f j)) (omega arith)
get_range f a (suc n) (suc i) lt = get_range f (a + 1) n i (omega (arith, lt)) ∙ ap (λ j. Some (f j)) (omega arith)

get_past : {A : Type 0} (f : ℕ → A) (a n i : ℕ) → n ≤ i → slice_get (map f (range_with_len a n)) i ≡ None
get_past f a zero i le = refl
get_past f a (suc n) zero le = absurd (omega (arith, le))
get_past f a (suc n) (suc i) le = get_past f (a + 1) n i (omega (arith, le))

abbrev founded : ℕ → ℕ → Replica
founded n k = (founding_boot k n).replica

begin_site : (n k : ℕ) → ((k < n) × (slice_get (begin n).sites k ≡ Some (Site.Up (founded n k)))) ⊎ (slice_get (begin n).sites k ≡ None)
unfolding begin numbers_below
begin_site n k = elim (cases_lt k n) [
  | inl lt ↦ inl (lt, get_range (λ k. Site.Up (founding_boot k n).replica) 0 n k lt ∙ ap (λ j. Some (Site.Up (founding_boot j n).replica)) (omega arith))
  | inr ge ↦ inr (get_past (λ k. Site.Up (founding_boot k n).replica) 0 n k ge)
]

-- each seat of the first world
pub begin_seats : (n : ℕ) (P : ℕ → Seat → Type 0) → ((k : ℕ) → P k (seat_up (founded n k))) → ((k : ℕ) → P k (seat_down [])) → (k : ℕ) → P k (seats (begin n) k)
unfolding seats seat_of
begin_seats n P up down k = elim (begin_site n k) [
  | inl w ↦ subst (P k) (sym (ap seat_of w.1)) (up k)
  | inr w ↦ subst (P k) (sym (ap seat_of w)) (down k)
]

no_first_entry : (n k : ℕ) (f : Entry) → Logged (founded n k).log f → ⊥
unfolding founding_boot boot_again keep begun fresh
no_first_entry n k f h = elim h [ inl e ↦ absurd (cc) | inr w ↦ elim w [ inl e ↦ absurd (cc) | inr z ↦ z ] ]

no_entry : (n k : ℕ) (f : Entry) → Logged (seats (begin n) k).log f → ⊥
unfolding seat_up seat_down
no_entry n k f = begin_seats n (λ j s. Logged s.log f → ⊥) (λ j h. no_first_entry n j f h) (λ j h. h) k

first_sender : (n k : ℕ) (d : List Datagram) → ((j i : ℕ) (p : InEpoch) → Among d (Datagram.Frame k j (known (founded n k).log) i p) → ⊥) → Sender n k (seat_up (founded n k)) d
unfolding founding_boot boot_again keep begun fresh seat_up pushed_to
first_sender n k d quiet_link = record {
  own = λ f h o e. absurd (no_first_entry n k f h);
  top = tt;
  told = λ f h o e j q. absurd (no_first_entry n k f h);
  rising = λ j i i' p q a b le. absurd (none-some p a);
  times = λ j i p a. absurd (none-some p a);
  peers = λ j i p a. absurd (none-some p a);
  only = λ j i p h. absurd (quiet_link j i p h);
  sent = λ j i p a. absurd (none-some p a);
}

first_receiver : (n k : ℕ) (logs : ℕ → Log) (d : List Datagram) → Receiver k (seat_up (founded n k)) logs d
unfolding founding_boot boot_again keep begun fresh seat_up taken_of
first_receiver n k logs d = record {
  has_it = λ m i f lt h. absurd (omega (arith, lt));
  came = λ m i lt. absurd (omega (arith, lt));
  times = λ m t h. absurd h;
  others = λ m t h. absurd h;
  votes = λ t j h. absurd h;
  owed = λ t h. absurd h;
}

first_seated : (n : ℕ) → AreSeated n (begin n)
unfolding founding_boot boot_again keep begun fresh
first_seated n k r e = elim (begin_site n k) [
  | inl w ↦ (let s = up_same (founded n k) r (same_Some _ _ (sym w.1 ∙ e)) in (ap (λ y. y.me) (sym s), ap (λ y. y.n) (sym s)))
  | inr w ↦ absurd (none-some _ (sym w ∙ e))
]

down_off : IsTrue (seat_down []).running → ⊥
unfolding seat_down
down_off r = false≢true r

first_held : (n : ℕ) → IsWell n (begin n) → Held n (begin n)
unfolding sent_in begin
first_held n well = record {
  size = refl;
  seated = first_seated n;
  facts = record {
    fit = λ k. subst (AllFit k n) (sym (seat_log_at (begin n) k)) (well.fit k);
    own = λ k f h. absurd (no_entry n k f h);
    one = λ k f g h. absurd (no_entry n k f h);
    says = λ m j e i f h. absurd h;
    says_ok = λ m j e i s t h. absurd h;
    same = λ m j e i p q h. absurd h;
    low = λ m j e i p y h. absurd h;
    first = λ m f j i p h. absurd (no_entry n m f h);
    entered = λ m j e i p h. absurd h;
    stamped = λ m f h. absurd (no_entry n m f h);
    sender = begin_seats n (λ k s. IsTrue s.running → Sender n k s []) (λ k r. first_sender n k [] (λ j i p h. h)) (λ k r. absurd (down_off r));
    receiver = begin_seats n (λ k s. IsTrue s.running → Receiver k s (logs_of (seats (begin n))) []) (λ k r. first_receiver n k (logs_of (seats (begin n))) []) (λ k r. absurd (down_off r));
  };
}

-- ---- every world

pub all_held : (n : ℕ) (w : World) → IsReached n w → IsWell n w → Held n w
all_held n w first well = first_held n well
all_held n w (next {w = u} {m = m} r h) well = moment_held n u m h (all_held n u r (well_before n u m.after (moment_goes_on u m h) well)) well

pub epochs_hold : EpochsHold
epochs_hold n w r well = (all_held n w r well).facts
