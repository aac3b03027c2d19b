-- Properties of every log of every world reached.
use Rattle.std.proofs.Common.{◌≡◌, ℕ, zero, suc, ◌+◌, ◌<◌, ◌≤◌, List, [], ◌∷◌, ◌++◌, length, refl, sym, ◌∙◌, ap, subst, inl, inr, Bool, true, false, cond, arith, take, map}
use Rattle.std.specs.Prelude.{◌⊎◌, Option, Some, None, slice_get, slice_set, ◌==◌}
use Rattle.std.specs.Option.{option_map_or}
use Rattle.std.specs.List.{range_with_len}
use Rattle.std.proofs.lemmas.Option.{none-some, same_Some}
use Rattle.crsm_base.specs.Members.{IsMembers}
use Rattle.crsm_spec.specs.Clock.{u64_max}
use Rattle.crsm_spec.specs.Types.{Datagram}
use Rattle.crsm_spec.specs.Lists.{Among, numbers_below}
use Rattle.crsm_spec.specs.Log.{Log, boots}
use Rattle.crsm_spec.specs.Replica.{Replica}
use Rattle.crsm_spec.specs.Draft.{Draft, begun}
use Rattle.crsm_spec.specs.Step.{Input, step, boot, founding_boot}
use Rattle.crsm_spec.specs.World.{Site, Packet, World, Moment, begin, log_of, log_at, with_site, packet_of, whole_step, cut_step, lost_step, down, after_step, then_down}
use Rattle.crsm_spec.specs.Moments.{use_up, silent, begun_at, with_room, start_at}
use Rattle.crsm_fact_log.specs.Logs.{AllFit, Extends}
use Rattle.crsm_law_steps.specs.Happenings.{Marks, CanCome, Ends, Happens, IsReached}
use Rattle.crsm_law_steps.specs.Happenings.Marks.{none, mark}
use Rattle.crsm_law_steps.specs.Happenings.CanCome.{IsPacket, IsCommand, IsReply, IsTick, IsSuspicion}
use Rattle.crsm_law_steps.specs.Happenings.Ends.{IsWhole, IsCut, IsLost}
use Rattle.crsm_law_steps.specs.Happenings.Happens.{Nothing, Steps, Junk, Stops, Joins, Starts}
use Rattle.crsm_law_steps.specs.Happenings.IsReached.{first, next}
use Rattle.crsm_fact_step.specs.Changes.{AsksFor}
use Rattle.crsm_fact_step.proofs.Logs.{steps_grow, steps_fit, changes_numbers}
use Rattle.crsm_fact_step.proofs.Fitted.{step_changes}
use Rattle.crsm_law_steps.proofs.Moments.{set_case}
use Rattle.crsm_law_steps.proofs.Happen.{sent_before}
use Rattle.crsm_law_epoch.specs.Worlds.{IsWell}
use Rattle.crsm_fact_log.proofs.Lists.{among_either}
use Rattle.crsm_law_epoch.proofs.Words.{get_either}
use Rattle.crsm_law_epoch.proofs.Worlds as epochs
use Rattle.crsm_law_epoch.specs.Ordered.{AreOrdered}
use Rattle.crsm_law_epoch.specs.LogWorlds.{HasFewBoots, LogsFit, DecisionsAreOrdered, EpochsHoldAlways}
use Rattle.crsm_law_epoch.proofs.LogSteps.{IsOrderedCoordinator, IsBetween, AreBetween, step_ordered}
use Rattle.crsm_law_epoch.proofs.LogMembers.{known_members_distinct, ordered_end}
use Rattle.crsm_law_epoch.proofs.LogBoots.{HasBooted, boots_grow, has_booted, founding_booted}

-- ---- what holds

-- of a log of replica k
pub record LogHolds (n k : ℕ) (log : Log) : Type 0 where
  pub ordered : AreOrdered log
  pub fit : boots log ≤ u64_max → AllFit k n log

pub record UpHolds (n k : ℕ) (r : Replica) : Type 0 where
  pub number : r.me ≡ k
  pub size : r.n ≡ n
  pub coordinator : IsOrderedCoordinator r.coordinator
  pub log : LogHolds n k r.log

abbrev SiteHolds : ℕ → ℕ → Site → Type 0
SiteHolds n k (Site.Up r) = UpHolds n k r
SiteHolds n k (Site.Down log) = LogHolds n k log

abbrev SitesHold : ℕ → List Site → Type 0
SitesHold n ss = (k : ℕ) (s : Site) → slice_get ss k ≡ Some s → SiteHolds n k s

abbrev PacketsHold : List Packet → Type 0
PacketsHold ms = (m : Packet) → Among ms m → IsBetween m.datagram

pub record Held (n : ℕ) (w : World) : Type 0 where
  pub size : w.n ≡ n
  pub sites : SitesHold n w.sites
  pub packets : PacketsHold w.packets

no_log : (n k : ℕ) → LogHolds n k []
no_log n k = record { ordered = tt; fit = λ few. tt }

site_log : (n k : ℕ) (s : Site) → SiteHolds n k s → LogHolds n k (log_of s)
unfolding log_of
site_log n k (Site.Up r) h = h.log
site_log n k (Site.Down log) h = h

log_holds : (n : ℕ) (w : World) (k : ℕ) → SitesHold n w.sites → LogHolds n k (log_at w k)
unfolding log_at
log_holds n w k h = go (slice_get w.sites k) refl
  where
    go : (o : Option Site) → slice_get w.sites k ≡ o → LogHolds n k (option_map_or log_of o [])
    go None e = no_log n k
    go (Some s) e = site_log n k s (h k s e)

sites_set : (n : ℕ) (ss : List Site) (k : ℕ) (t : Site) → SitesHold n ss → SiteHolds n k t → SitesHold n (slice_set ss k t)
sites_set n ss k t h g j s e = go (set_case ss k t j)
  where
    go : (slice_get (slice_set ss k t) j ≡ slice_get ss j) ⊎ ((j ≡ k) × (slice_get (slice_set ss k t) j ≡ Some t) × (x : Site) × (slice_get ss j ≡ Some x)) → SiteHolds n j s
    go (inl q) = h j s (sym q ∙ e)
    go (inr c) = subst (λ i. SiteHolds n i s) (sym c.0) (subst (SiteHolds n k) (same_Some t s (sym c.1 ∙ e)) g)

-- ---- mail

packets_between : (k : ℕ) (sends : List (ℕ × Datagram)) → AreBetween sends → PacketsHold (map (packet_of k) sends)
unfolding packet_of
packets_between k [] h m a = absurd a
packets_between k (s ∷ ss) h m (inl e) = subst (λ (q : Packet). IsBetween q.datagram) e h.0
packets_between k (s ∷ ss) h m (inr a) = packets_between k ss h.1 m a

packets_then : (ms ns : List Packet) → PacketsHold ms → PacketsHold ns → PacketsHold (ms ++ ns)
packets_then ms ns h g m a = elim (among_either ms ns m a) [ inl b ↦ h m b | inr b ↦ g m b ]

some_between : (c : ℕ) (sends : List (ℕ × Datagram)) → AreBetween sends → AreBetween (take c sends)
some_between zero sends h = tt
some_between (suc c) [] h = tt
some_between (suc c) (s ∷ ss) h = (h.0, some_between c ss h.1)

-- ---- marks

marked_n : {w v : World} → Marks w v → v.n ≡ w.n
unfolding use_up
marked_n none = refl
marked_n (mark i p) = marked_n p

marked_sites : {w v : World} → Marks w v → v.sites ≡ w.sites
unfolding use_up
marked_sites none = refl
marked_sites (mark i p) = marked_sites p

held_marked : (n : ℕ) (w v : World) → Marks w v → Held n w → Held n v
held_marked n w v p h = record {
  size = marked_n p ∙ h.size;
  sites = subst (SitesHold n) (sym (marked_sites p)) h.sites;
  packets = λ m a. let t = sent_before p m.from m.to m.datagram (m.used, a) in h.packets (record { from = m.from; to = m.to; datagram = m.datagram; used = t.0 }) t.1;
}

-- ---- moments

module _ (n : ℕ) (w : World) (h : Held n w) (k : ℕ) where
  went_down : Held n (down w k).after
  unfolding down with_site
  went_down = record { size = h.size; sites = sites_set n w.sites k (Site.Down (log_at w k)) h.sites (log_holds n w k h.sites); packets = h.packets }

  ended : (x : Draft) → UpHolds n k x.replica → AreBetween x.sends → (m : Moment) → Ends w k x m → Held n m.after
  unfolding whole_step cut_step lost_step then_down after_step
  ended x up sends m IsWhole = record {
    size = h.size;
    sites = sites_set n w.sites k (Site.Up x.replica) h.sites up;
    packets = packets_then w.packets (map (packet_of k) x.sends) h.packets (packets_between k x.sends sends);
  }
  ended x up sends m (IsCut count) = record {
    size = h.size;
    sites = sites_set n w.sites k (Site.Down x.replica.log) h.sites up.log;
    packets = packets_then w.packets (map (packet_of k) (take count x.sends)) h.packets (packets_between k (take count x.sends) (some_between count x.sends sends));
  }
  ended x up sends m IsLost = went_down

-- who an input asks for
pub wished : (n : ℕ) (w : World) → Held n w → (k : ℕ) (input : Input) → CanCome w k input → (ms : List ℕ) → AsksFor input ms → IsMembers ms
wished n w h k input (IsPacket from d s) ms (inl e) = absurd (cc)
wished n w h k input (IsPacket from d s) ms (inr a) = absurd (subst IsBetween (came_is from a.0 d (Datagram.Operate ms) a.1) (h.packets (record { from = from; to = k; datagram = d; used = s.0 }) s.1))
  where
    came_is : (a b : ℕ) (c d : Datagram) → Input.Came a c ≡ Input.Came b d → c ≡ d
    came_is a b c d h = cc
wished n w h k input (IsReply b c d t) ms (inl e) = absurd (cc)
wished n w h k input (IsReply b c d t) ms (inr a) = absurd (not_so a.1)
  where
    not_so : Input.Came b (Datagram.Reply c d t) ≡ Input.Came a.0 (Datagram.Operate ms) → ⊥
    not_so e = cc
wished n w h k input (IsCommand b c f) ms (inl e) = absurd (cc)
wished n w h k input (IsCommand b c f) ms (inr a) = absurd (not_so a.1)
  where
    not_so : Input.Came b (Datagram.Request c) ≡ Input.Came a.0 (Datagram.Operate ms) → ⊥
    not_so e = cc
wished n w h k input IsTick ms (inl e) = absurd (cc)
wished n w h k input IsTick ms (inr a) = absurd (not_so a.1)
  where
    not_so : Input.Ticked ≡ Input.Came a.0 (Datagram.Operate ms) → ⊥
    not_so e = cc
wished n w h k input (IsSuspicion ns f) ms (inl e) = subst IsMembers (same_wish ns ms e) f
  where
    same_wish : (a b : List ℕ) → Input.Suspected a ≡ Input.Suspected b → a ≡ b
    same_wish a b h = cc
wished n w h k input (IsSuspicion ns f) ms (inr a) = absurd (not_so a.1)
  where
    not_so : Input.Suspected ns ≡ Input.Came a.0 (Datagram.Operate ms) → ⊥
    not_so e = cc

fewer : (a b : Log) → Extends a b → boots b ≤ u64_max → boots a ≤ u64_max
fewer a b e few = let t = boots_grow a b e in omega (arith, few, t)

-- a step of a replica that is up
step_up : (n k : ℕ) (r : Replica) (input : Input) (reading : ℕ) → ((ms : List ℕ) → AsksFor input ms → IsMembers ms) → UpHolds n k r → UpHolds n k (step r input reading).replica × AreBetween (step r input reading).sends
unfolding begun
step_up n k r input reading asks up =
    let z = step r input reading in
    let o = step_ordered r input reading asks up.log.ordered up.coordinator in
    let e = changes_numbers (step_changes r input reading) in
    let few_before : (boots z.replica.log ≤ u64_max → boots r.log ≤ u64_max) = λ few. fewer r.log z.replica.log (steps_grow r input reading) few in (
      record {
        number = e.0 ∙ up.number;
        size = e.1 ∙ up.size;
        coordinator = o.coordinator;
        log = record {
          ordered = o.log;
          fit = λ few. subst (λ i. AllFit i n z.replica.log) up.number (subst (λ i. AllFit r.me i z.replica.log) up.size
              (steps_fit r input reading (subst (λ i. AllFit i r.n r.log) (sym up.number) (subst (λ i. AllFit k i r.log) (sym up.size) (up.log.fit (few_before few))))));
        };
      },
      o.sends,
    )

-- ---- starts

held_room : (n : ℕ) (w : World) (k : ℕ) → Held n w → Held n (with_room w k)
unfolding with_room
held_room n w k h = go (k == length w.sites)
  where
    room : SitesHold n (w.sites ++ Site.Down [] ∷ [])
    room j s e = elim (get_either w.sites (Site.Down []) j s e) [ inl q ↦ h.sites j s q | inr q ↦ subst (SiteHolds n j) q.1 (no_log n j) ]

    go : (c : Bool) → Held n (cond c (record w { sites = w.sites ++ Site.Down [] ∷ [] }) w)
    go true = record { size = h.size; sites = room; packets = h.packets }
    go false = h

booted_up : (n k : ℕ) (x : Draft) → HasBooted k n x → UpHolds n k x.replica
booted_up n k x b = record { number = b.number; size = b.size; coordinator = b.coordinator; log = record { ordered = b.ordered; fit = b.fit } }

held_start : (n : ℕ) (w : World) (k : ℕ) → Held n w → Held n (start_at w k).after
unfolding start_at begun_at
held_start n w k h =
    let v = with_room w k in
    let hv = held_room n w k h in
    let l = log_holds n v k hv.sites in
    let b = subst (λ i. HasBooted k n (boot k i (log_at v k))) (sym hv.size) (has_booted k n (log_at v k) l.ordered l.fit) in
    ended n v hv k (boot k v.n (log_at v k)) (booted_up n k _ b) b.sends (whole_step v k (boot k v.n (log_at v k))) IsWhole

moment_held : (n : ℕ) (w : World) (m : Moment) → Happens w m → Held n w → Held n m.after
unfolding silent begun_at begun
moment_held n w m (Nothing v p) h = held_marked n w v p h
moment_held n w m (Steps v p k r e input reading lt c z ends) h =
    let hv = held_marked n w v p h in
    let t = step_up n k r input reading (wished n w h k input c) (hv.sites k (Site.Up r) e) in
    ended n v hv k (step r input reading) t.0 t.1 z ends
moment_held n w m (Junk k r e z ends) h = ended n w h k (begun r) (h.sites k (Site.Up r) e) tt z ends
moment_held n w m (Stops k) h = went_down n w h k
moment_held n w m (Joins f) h = held_room n w (length w.sites) h
moment_held n w m (Starts k d f) h = held_start n w k h

-- ---- every world

pub get_range : (f : ℕ → Site) (a n i : ℕ) (s : Site) → slice_get (map f (range_with_len a n)) i ≡ Some s → (i < n) × (f (a + i) ≡ s)
get_range f a zero i s h = absurd (none-some s h)
get_range f a (suc n) zero s h = (omega arith, ap f (omega arith) ∙ same_Some (f a) s h)
get_range f a (suc n) (suc i) s h = let t = get_range f (a + 1) n i s h in (omega (arith, t.0), ap f (omega arith) ∙ t.1)

pub from_zero : (n k : ℕ) (s : Site) → Site.Up (founding_boot (0 + k) n).replica ≡ s → Site.Up (founding_boot k n).replica ≡ s
from_zero n k s e = ap (λ i. Site.Up (founding_boot i n).replica) (omega arith) ∙ e

first_held : (n : ℕ) → Held n (begin n)
unfolding begin numbers_below
first_held n = record {
  size = refl;
  sites = λ k s e. let t = get_range (λ k. Site.Up (founding_boot k n).replica) 0 n k s e in subst (SiteHolds n k) (from_zero n k s t.1) (booted_up n k (founding_boot k n) (founding_booted k n t.0));
  packets = λ m a. absurd a;
}

pub all_held : (n : ℕ) (w : World) → IsReached n w → Held n w
all_held n w first = first_held n
all_held n w (next {w = u} {m = m} r h) = moment_held n u m h (all_held n u r)

pub logs_fit : LogsFit
logs_fit n w r few k = (log_holds n w k (all_held n w r).sites).fit (few k)

pub decisions_are_ordered : DecisionsAreOrdered
decisions_are_ordered n w r k = (log_holds n w k (all_held n w r).sites).ordered

pub is_well : (n : ℕ) (w : World) → IsReached n w → HasFewBoots w → IsWell n w
is_well n w r few = record {
  fit = logs_fit n w r few;
  distinct = λ k log e. known_members_distinct n log (ordered_end log (log_at w k) e (decisions_are_ordered n w r k));
}

pub epochs_hold_always : EpochsHoldAlways
epochs_hold_always n w r few = epochs.epochs_hold n w r (is_well n w r few)

-- a replica that is up has its number, and knows how many the cluster began with
pub up_numbers : (n : ℕ) (w : World) → IsReached n w → (k : ℕ) (r : Replica) → slice_get w.sites k ≡ Some (Site.Up r) → (r.me ≡ k) × (r.n ≡ n)
up_numbers n w q k r e = let u : UpHolds n k r = (all_held n w q).sites k (Site.Up r) e in (u.number, u.size)
