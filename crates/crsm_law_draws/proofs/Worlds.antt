-- In every world that the first n replicas reach by themselves no decision names a replica set.
use Rattle.std.proofs.Common.{◌≡◌, ℕ, zero, suc, ◌<◌, List, [], ◌∷◌, length, refl, sym, ◌∙◌, ap, subst, inl, inr, Bool, true, false, arith}
use Rattle.std.specs.Prelude.{◌⊎◌, Option, Some, None, slice_get, slice_set, ◌==◌, nat_lt}
use Rattle.std.specs.Option.{option_map_or}
use Rattle.std.specs.List.{range_with_len}
use Rattle.std.proofs.lemmas.Bool.{ne_eqb}
use Rattle.std.proofs.lemmas.List.{length-map}
use Rattle.std.proofs.lemmas.List.FromFn.{length-range_with_len}
use Rattle.std.proofs.lemmas.Option.{same_Some}
use Rattle.crsm_spec.specs.Choice.{when◌then◌otherwise◌}
use Rattle.crsm_spec.specs.Types.{Datagram, Control}
use Rattle.crsm_spec.specs.Lists.{numbers_below}
use Rattle.crsm_spec.specs.Log.{Log}
use Rattle.crsm_spec.specs.Replica.{Replica, fresh}
use Rattle.crsm_spec.specs.Draft.{Draft, begun, keep}
use Rattle.crsm_spec.specs.Step.{Input, step, boot, boot_again, first_boot, founding_boot}
use Rattle.crsm_spec.specs.World.{Site, World, Moment, begin, log_of, log_at, with_site, whole_step, cut_step, lost_step, down, after_step, then_down}
use Rattle.crsm_spec.specs.Moments.{silent, begun_at, with_room, start_at}
use Rattle.crsm_fact_step.specs.Messages.{ReceivesControl}
use Rattle.crsm_fact_step.specs.Changes.{AsksFor}
use Rattle.crsm_fact_step.proofs.Fitted.{step_changes}
use Rattle.crsm_law_steps.specs.Happenings.{Marks, CanCome, Ends, Happens, IsReached}
use Rattle.crsm_law_steps.specs.Happenings.CanCome.{IsPacket, IsCommand, IsReply, IsTick, IsSuspicion}
use Rattle.crsm_law_steps.specs.Happenings.Ends.{IsWhole, IsCut, IsLost}
use Rattle.crsm_law_steps.specs.Happenings.Happens.{Nothing, Steps, Junk, Stops, Joins, Starts}
use Rattle.crsm_law_steps.specs.Happenings.IsReached.{first, next}
use Rattle.crsm_law_steps.proofs.Moments.{set_case}
use Rattle.crsm_law_epoch.proofs.LogSteps.{IsBetween}
use Rattle.crsm_law_epoch.proofs.LogWorlds as logs
use Rattle.crsm_law_messages.specs.SentMessages.{SentMessage}
use Rattle.crsm_law_messages.specs.Laws.{ReceivesIn}
use Rattle.crsm_law_messages.specs.Counted.{AllSpelt}
use Rattle.crsm_law_messages.proofs.History.{SendsIn, WasSentIn}
use Rattle.crsm_law_messages.proofs.Worlds.{marked_sites, received_is_sent_in, was_on}
use Rattle.crsm_law_draws.proofs.Decisions.{AreFounders, ControlKeeps, CoordinatorKeeps, DraftKeeps, LogKeeps, changes_keep, sends_keep}
use Rattle.crsm_law_draws.proofs.Happenings.{AsksFounders, HasHistory, IsOfFounders}

abbrev SiteKeeps : ℕ → Site → Type 0
SiteKeeps n (Site.Up r) = LogKeeps r.log × CoordinatorKeeps n r.coordinator
SiteKeeps n (Site.Down log) = LogKeeps log

abbrev SitesKeep : ℕ → List Site → Type 0
SitesKeep n ss = (k : ℕ) (s : Site) → slice_get ss k ≡ Some s → SiteKeeps n s

-- the replicas are the first n, and none of their decisions names a replica set
pub record Keep (n : ℕ) (ss : List Site) : Type 0 where
  pub count : length ss ≡ n
  pub sites : SitesKeep n ss

-- nor does any that was sent
pub record Held (n : ℕ) (w : World) (history : IsReached n w) : Type 0 where
  pub keep : Keep n w.sites
  pub told : (s : SentMessage) → WasSentIn history s → ControlKeeps s.message

site_log : (n : ℕ) (s : Site) → SiteKeeps n s → LogKeeps (log_of s)
unfolding log_of
site_log n (Site.Up r) h = h.0
site_log n (Site.Down log) h = h

pub log_keeps : (n : ℕ) (w : World) (k : ℕ) → SitesKeep n w.sites → LogKeeps (log_at w k)
unfolding log_at
log_keeps n w k h = go (slice_get w.sites k) refl
  where
    go : (o : Option Site) → slice_get w.sites k ≡ o → LogKeeps (option_map_or log_of o [])
    go None e = tt
    go (Some s) e = site_log n s (h k s e)

pub set_length : (ss : List Site) (k : ℕ) (t : Site) → length (slice_set ss k t) ≡ length ss
set_length [] k t = refl
set_length (s ∷ ss) zero t = refl
set_length (s ∷ ss) (suc k) t = ap suc (set_length ss k t)

set_keep : (n : ℕ) (ss : List Site) (k : ℕ) (t : Site) → Keep n ss → SiteKeeps n t → Keep n (slice_set ss k t)
set_keep n ss k t h g = record { count = set_length ss k t ∙ h.count; sites = λ j s e. go j s e (set_case ss k t j) }
  where
    go : (j : ℕ) (s : Site) → slice_get (slice_set ss k t) j ≡ Some s → (slice_get (slice_set ss k t) j ≡ slice_get ss j) ⊎ ((j ≡ k) × (slice_get (slice_set ss k t) j ≡ Some t) × (x : Site) × (slice_get ss j ≡ Some x)) → SiteKeeps n s
    go j s e (inl q) = h.sites j s (sym q ∙ e)
    go j s e (inr c) = subst (SiteKeeps n) (same_Some t s (sym c.1 ∙ e)) g

-- ---- inputs

came_is : (a b : ℕ) (c d : Datagram) → Input.Came a c ≡ Input.Came b d → c ≡ d
came_is a b c d h = cc

wish_is : (a b : List ℕ) → Input.Suspected a ≡ Input.Suspected b → a ≡ b
wish_is a b h = cc

wished : (n : ℕ) (w : World) → logs.Held n w → (k : ℕ) (input : Input) (c : CanCome w k input) → AsksFounders n c → (ms : List ℕ) → AsksFor input ms → AreFounders n ms
wished n w h k input (IsPacket from d s) b ms (inl e) = absurd (cc)
wished n w h k input (IsPacket from d s) b ms (inr a) = absurd (subst IsBetween (came_is from a.0 d (Datagram.Operate ms) a.1) (h.packets (record { from = from; to = k; datagram = d; used = s.0 }) s.1))
wished n w h k input (IsReply from c number told) b ms (inl e) = absurd (cc)
wished n w h k input (IsReply from c number told) b ms (inr a) = absurd (not_so a.1)
  where
    not_so : Input.Came from (Datagram.Reply c number told) ≡ Input.Came a.0 (Datagram.Operate ms) → ⊥
    not_so e = cc
wished n w h k input (IsCommand from c f) b ms (inl e) = absurd (cc)
wished n w h k input (IsCommand from c f) b ms (inr a) = absurd (not_so a.1)
  where
    not_so : Input.Came from (Datagram.Request c) ≡ Input.Came a.0 (Datagram.Operate ms) → ⊥
    not_so e = cc
wished n w h k input IsTick b ms (inl e) = absurd (cc)
wished n w h k input IsTick b ms (inr a) = absurd (not_so a.1)
  where
    not_so : Input.Ticked ≡ Input.Came a.0 (Datagram.Operate ms) → ⊥
    not_so e = cc
wished n w h k input (IsSuspicion ns f) b ms (inl e) = subst (AreFounders n) (wish_is ns ms e) b
wished n w h k input (IsSuspicion ns f) b ms (inr a) = absurd (not_so a.1)
  where
    not_so : Input.Suspected ns ≡ Input.Came a.0 (Datagram.Operate ms) → ⊥
    not_so e = cc

-- ---- moments

ended : (n : ℕ) (v : World) (k : ℕ) (x : Draft) → Keep n v.sites → LogKeeps x.replica.log → CoordinatorKeeps n x.replica.coordinator → (m : Moment) → Ends v k x m → Keep n m.after.sites
unfolding whole_step cut_step lost_step then_down after_step down with_site
ended n v k x h log coordinator m IsWhole = set_keep n v.sites k (Site.Up x.replica) h (log, coordinator)
ended n v k x h log coordinator m (IsCut count) = set_keep n v.sites k (Site.Down x.replica.log) h log
ended n v k x h log coordinator m IsLost = set_keep n v.sites k (Site.Down (log_at v k)) h (log_keeps n v k h.sites)

marked_keep : (n : ℕ) (w v : World) → Marks w v → Keep n w.sites → Keep n v.sites
marked_keep n w v p h = subst (Keep n) (sym (marked_sites p)) h

booted : (n me size : ℕ) (log : Log) → LogKeeps log → LogKeeps (boot me size log).replica.log × CoordinatorKeeps n (boot me size log).replica.coordinator
unfolding boot first_boot founding_boot boot_again keep begun fresh when◌then◌otherwise◌
booted n me size (rec ∷ log) h = ((tt, h), tt)
booted n me size [] h = go (nat_lt me size)
  where
    go : (c : Bool) → LogKeeps (when c then founding_boot me size otherwise boot_again me size []).replica.log × CoordinatorKeeps n (when c then founding_boot me size otherwise boot_again me size []).replica.coordinator
    go true = ((tt, (tt, tt)), tt)
    go false = ((tt, tt), tt)

pub no_room : (w : World) (k : ℕ) → k < length w.sites → with_room w k ≡ w
unfolding with_room
no_room w k lt = let apart : (k == length w.sites) ≡ false = ne_eqb k (length w.sites) (λ e. omega (arith, lt, e)) in rw (apart) refl

started : (n : ℕ) (w : World) (k : ℕ) → k < n → Keep n w.sites → Keep n (start_at w k).after.sites
unfolding start_at begun_at
started n w k lt h =
    let v = with_room w k in
    let same : v ≡ w = no_room w k (let c = h.count in omega (arith, lt, c)) in
    let there : Keep n v.sites = subst (λ (u : World). Keep n u.sites) (sym same) h in
    let b = booted n k v.n (log_at v k) (log_keeps n v k there.sites) in
    ended n v k (boot k v.n (log_at v k)) there b.0 b.1 (whole_step v k (boot k v.n (log_at v k))) IsWhole

-- ---- histories

spelt_before : (n : ℕ) (w : World) (m : Moment) → Happens w m → AllSpelt n m.after → AllSpelt n w
spelt_before n w m h spelt s told = spelt s (was_on n w m h s told)

module _ (n : ℕ) (w v : World) (q : IsReached n w) (held : Held n w q) (spelt : AllSpelt n w) (p : Marks w v) (k : ℕ) (r : Replica) (up : slice_get v.sites k ≡ Some (Site.Up r)) (input : Input) (reading : ℕ)
    (c : CanCome w k input) (b : AsksFounders n c) where
  received : (j : ℕ) (d : Control) → ReceivesControl r input j d → ControlKeeps d
  received j d h =
      let here : ReceivesIn n w j k d = record { reached = q; marked = v; marks = p; replica = r; up = up; input = input; can_come = c; receives = h } in
      let s = received_is_sent_in n w j k d here spelt in
      subst ControlKeeps s.1 (held.told s.0 s.2)

  asks : (ms : List ℕ) → AsksFor input ms → AreFounders n ms
  asks = wished n w (logs.all_held n w q) k input c b

  begun_keeps : DraftKeeps n (begun r)
  unfolding begun
  begun_keeps =
      let up_before = subst (λ ss. slice_get ss k ≡ Some (Site.Up r)) (marked_sites p) up in
      let here : SiteKeeps n (Site.Up r) = held.keep.sites k (Site.Up r) up_before in
      record { size = (logs.up_numbers n w q k r up_before).1; log = here.0; coordinator = here.1 }

  step_keeps : DraftKeeps n (step r input reading)
  step_keeps = changes_keep n r input reading asks received (step_changes r input reading) begun_keeps

  step_held : (m : Moment) → Ends v k (step r input reading) m → Keep n m.after.sites
  step_held m ends = ended n v k (step r input reading) (marked_keep n w v p held.keep) step_keeps.log step_keeps.coordinator m ends

  step_tells : (s : SentMessage) → SendsIn (step_changes r input reading) s → ControlKeeps s.message
  step_tells s h = sends_keep n r input reading asks received (step_changes r input reading) begun_keeps s h

moment_held : (n : ℕ) (w : World) (m : Moment) (q : IsReached n w) (h : Happens w m) → IsOfFounders n h → AllSpelt n w → Held n w q → Held n m.after (next q h)
unfolding silent begun_at down with_site begun
moment_held n w m q (Nothing v p) b spelt g = record { keep = marked_keep n w v p g.keep; told = λ s t. elim t [ inl x ↦ absurd x | inr x ↦ g.told s x ] }
moment_held n w m q (Steps v p k r e input reading lt c z ends) b spelt g = record {
  keep = step_held n w v q g spelt p k r e input reading c b z ends;
  told = λ s t. elim t [ inl x ↦ step_tells n w v q g spelt p k r e input reading c b s x.1 | inr x ↦ g.told s x ];
}
moment_held n w m q (Junk k r e z ends) b spelt g =
    let here : SiteKeeps n (Site.Up r) = g.keep.sites k (Site.Up r) e in
    record { keep = ended n w k (begun r) g.keep here.0 here.1 z ends; told = λ s t. elim t [ inl x ↦ absurd x | inr x ↦ g.told s x ] }
moment_held n w m q (Stops k) b spelt g = record {
  keep = set_keep n w.sites k (Site.Down (log_at w k)) g.keep (log_keeps n w k g.keep.sites);
  told = λ s t. elim t [ inl x ↦ absurd x | inr x ↦ g.told s x ];
}
moment_held n w m q (Joins f) b spelt g = absurd b
moment_held n w m q (Starts k d f) b spelt g = record { keep = started n w k b g.keep; told = λ s t. elim t [ inl x ↦ absurd x | inr x ↦ g.told s x ] }

founding_keeps : (n k : ℕ) → SiteKeeps n (Site.Up (founding_boot k n).replica)
unfolding founding_boot boot_again keep begun fresh
founding_keeps n k = ((tt, (tt, tt)), tt)

first_held : (n : ℕ) → Held n (begin n) first
unfolding begin numbers_below
first_held n = record {
  keep = record {
    count = length-map (range_with_len 0 n) (λ k. Site.Up (founding_boot k n).replica) ∙ length-range_with_len 0 n;
    sites = λ k s e. let t = logs.get_range (λ k. Site.Up (founding_boot k n).replica) 0 n k s e in subst (SiteKeeps n) (logs.from_zero n k s t.1) (founding_keeps n k);
  };
  told = λ s t. absurd t;
}

pub all_held : (n : ℕ) (w : World) (q : IsReached n w) → HasHistory q → AllSpelt n w → Held n w q
all_held n w first b spelt = first_held n
all_held n w (next {w = u} {m = m} q h) b spelt =
    let before = spelt_before n u m h spelt in
    moment_held n u m q h b.1 before (all_held n u q b.0 before)
