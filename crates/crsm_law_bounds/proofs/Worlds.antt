-- In every world with short logs, all records and all messages sent can be encoded.
use Rattle.std.proofs.Common.{◌≡◌, ℕ, suc, ◌+◌, ◌<◌, ◌≤◌, List, [], ◌∷◌, ◌++◌, length, refl, sym, ◌∙◌, subst, inl, inr, Bool, true, false, cond, arith}
use Rattle.std.specs.Prelude.{◌⊎◌, ◌^◌, Option, Some, None, slice_get, slice_set, nat_lt, ◌==◌, count_by}
use Rattle.std.specs.Option.{option_map_or}
use Rattle.std.proofs.lemmas.Option.{same_Some}
use Rattle.std.proofs.lemmas.Bool.{eqb-true}
use Rattle.std.proofs.lemmas.List.Sums.{sum_by-cons}
use Rattle.crsm_base.specs.Spelling.{FitsCommand, FitsEntry}
use Rattle.crsm_base.specs.Messages.{FitsControl}
use Rattle.crsm_base.proofs.ControlLaws.{control_of-bytes}
use Rattle.crsm_spec.specs.Choice.{when◌then◌otherwise◌}
use Rattle.crsm_spec.specs.Types.{Entry, Command, Rec, InEpoch, Datagram, Control}
use Rattle.crsm_spec.specs.Lists.{Among, numbers_below}
use Rattle.crsm_spec.specs.Log.{Log, boots, is_boot, known, start, decision}
use Rattle.crsm_spec.specs.Replica.{Replica, fresh}
use Rattle.crsm_spec.specs.Draft.{Draft, begun, keep}
use Rattle.crsm_spec.specs.Step.{Input, step, boot, boot_again, founding_boot, first_boot}
use Rattle.crsm_spec.specs.World.{Site, World, Moment, begin, log_of, log_at, with_site, whole_step, cut_step, lost_step, down, after_step, then_down}
use Rattle.crsm_spec.specs.Moments.{silent, begun_at, with_room, start_at}
use Rattle.crsm_fact_log.specs.Logs.{AllFit, Extends, same, Logged, AreSpelt}
use Rattle.crsm_law_steps.specs.Laws.{LogsGoOn}
use Rattle.crsm_fact_step.specs.Messages.{ReceivesControl}
use Rattle.crsm_fact_step.specs.Changes.{Changes, stay, and_then}
use Rattle.crsm_law_steps.specs.Happenings.{Marks, CanCome, Ends, Happens, IsReached}
use Rattle.crsm_law_steps.specs.Happenings.CanCome.{IsPacket, IsCommand, IsReply, IsTick, IsSuspicion}
use Rattle.crsm_law_steps.specs.Happenings.Marks.{none}
use Rattle.crsm_law_steps.specs.Happenings.Ends.{IsWhole, IsCut, IsLost}
use Rattle.crsm_law_steps.specs.Happenings.Happens.{Nothing, Steps, Junk, Stops, Joins, Starts}
use Rattle.crsm_law_steps.specs.Happenings.IsReached.{first, next}
use Rattle.crsm_fact_log.proofs.Logged.{extends_trans}
use Rattle.crsm_fact_step.proofs.Logs.{log_change, change_grows, changes_grow}
use Rattle.crsm_fact_step.proofs.Fitted.{step_changes}
use Rattle.crsm_law_steps.proofs.Moments.{set_case, moment_goes_on}
use Rattle.crsm_law_epoch.specs.Worlds.{sent_in}
use Rattle.crsm_law_epoch.proofs.Words.{get_either, among_map}
use Rattle.crsm_law_epoch.proofs.Worlds.{marked_sites, seat_log_at, room_there}
use Rattle.crsm_law_epoch.specs.LogWorlds.{HasFewBoots}
use Rattle.crsm_law_epoch.proofs.LogSteps.{IsBetween}
use Rattle.crsm_law_epoch.proofs.LogWorlds.{all_held, wished, get_range, from_zero, logs_fit, epochs_hold_always}
use Rattle.crsm_law_messages.specs.SentMessages.{SentMessage, IsSentBy, WasSentBefore}
use Rattle.crsm_law_messages.specs.Laws.{ReceivesIn}
use Rattle.crsm_law_messages.proofs.Truth.{logs_carried}
use Rattle.crsm_law_messages.proofs.History.{Sends, SendsIn, SendsAt, WasSentIn}
use Rattle.crsm_law_messages.proofs.Worlds.{all_known, received_was_sent_in, kept_whole, kept_cut}
use Rattle.crsm_law_bounds.specs.Bounds.{most_records, HasShortLogs, ShortLogsAreSpelt}
use Rattle.crsm_fact_log.proofs.Lists.{all_at}
use Rattle.crsm_law_bounds.proofs.Steps.{Fit, Comes, changes_fit, sent_fits, extends_length}

-- ---- short logs

count_short : (test : Rec → Bool) (log : Log) → count_by test log ≤ length log
count_short test [] = omega arith
count_short test (rec ∷ log) = go (test rec) (sum_by-cons (λ r. cond (test r) 1 0) rec log) (count_short test log)
  where
    go : (c : Bool) → count_by test (rec ∷ log) ≡ cond c 1 0 + count_by test log → count_by test log ≤ length log → count_by test (rec ∷ log) ≤ suc (length log)
    go true e le = omega (arith, e, le)
    go false e le = omega (arith, e, le)

boots_short : (log : Log) → boots log ≤ length log
unfolding boots
boots_short log = count_short is_boot log

pub short_few : (w : World) → HasShortLogs w → HasFewBoots w
short_few w short k = let a = boots_short (log_at w k) in let b = short k in omega (arith, a, b)

pub short_before : (w u : World) → LogsGoOn w u → HasShortLogs u → HasShortLogs w
short_before w u grows short k = let a = extends_length (log_at w k) (log_at u k) (grows k) in let b = short k in omega (arith, a, b)

-- ---- what holds of each site

abbrev pub SiteFits : Site → Type 0
SiteFits (Site.Up r) = Fit (begun r)
SiteFits (Site.Down log) = AreSpelt log

abbrev pub SitesFit : List Site → Type 0
SitesFit ss = (k : ℕ) (s : Site) → slice_get ss k ≡ Some s → (k < 15) × SiteFits s

site_log : (s : Site) → SiteFits s → AreSpelt (log_of s)
unfolding log_of begun
site_log (Site.Up r) f = f.log
site_log (Site.Down log) f = f

log_spelt : (w : World) (k : ℕ) → SitesFit w.sites → AreSpelt (log_at w k)
unfolding log_at
log_spelt w k h = go (slice_get w.sites k) refl
  where
    go : (o : Option Site) → slice_get w.sites k ≡ o → AreSpelt (option_map_or log_of o [])
    go None e = tt
    go (Some s) e = site_log s (h k s e).1

sites_set : (ss : List Site) (k : ℕ) (t : Site) → SitesFit ss → SiteFits t → SitesFit (slice_set ss k t)
sites_set ss k t h g j s e = go (set_case ss k t j)
  where
    go : (slice_get (slice_set ss k t) j ≡ slice_get ss j) ⊎ ((j ≡ k) × (slice_get (slice_set ss k t) j ≡ Some t) × (x : Site) × (slice_get ss j ≡ Some x)) → (j < 15) × SiteFits s
    go (inl q) = h j s (sym q ∙ e)
    go (inr c) = ((h j c.2 c.3).0, subst SiteFits (same_Some t s (sym c.1 ∙ e)) g)

-- ---- what holds of a world

pub record Fine (n : ℕ) (w : World) (history : IsReached n w) : Type 0 where
  pub sites : SitesFit w.sites
  pub messages : (s : SentMessage) → WasSentIn history s → FitsControl s.message

same_came : (a b : ℕ) (c d : Datagram) → Input.Came a c ≡ Input.Came b d → c ≡ d
same_came a b c d h = cc

-- ---- what comes to a replica

module _ (n : ℕ) (w : World) (reached : IsReached n w) (few : HasFewBoots w) (f : Fine n w reached) (v : World) (p : Marks w v) (k : ℕ) (r : Replica)
    (up : slice_get v.sites k ≡ Some (Site.Up r)) (input : Input) (can : CanCome w k input) where
  received_fits : (j : ℕ) (c : Control) → ReceivesControl r input j c → FitsControl c
  received_fits j c h =
      let it : ReceivesIn n w j k c = record { reached = reached; marked = v; marks = p; replica = r; up = up; input = input; can_come = can; receives = h } in
      let t = received_was_sent_in n w j k c it in
      let s = t.source in
      let fits = f.messages s.sent_message t.was_sent in
      subst FitsControl (same_Some s.sent_message.message c (sym (control_of-bytes s.sent_message.message fits) ∙ s.reads)) fits

  frame_fits : (a j me e i : ℕ) (g : Entry) → input ≡ Input.Came a (Datagram.Frame j me e i (InEpoch.Prepare g)) → FitsEntry g
  unfolding sent_in
  frame_fits a j me e i g is = go input can is
    where
      go : (z : Input) → CanCome w k z → z ≡ Input.Came a (Datagram.Frame j me e i (InEpoch.Prepare g)) → FitsEntry g
      go z (IsPacket from d s) q =
          let was = subst (Among (sent_in w)) (same_came from a d (Datagram.Frame j me e i (InEpoch.Prepare g)) q) (among_map (λ m. m.datagram) w.packets (record { from = from; to = k; datagram = d; used = s.0 }) s.1) in
          let logged = ((epochs_hold_always n w reached few).says j me e i g was).0 in
          all_at _ (log_at w j) (Rec.Prepare g) (log_spelt w j f.sites) (subst (λ l. Logged l g) (seat_log_at w j) logged)
      go z (IsCommand b c x) q = absurd (cc)
      go z (IsReply b c d t) q = absurd (cc)
      go z IsTick q = absurd (cc)
      go z (IsSuspicion ms x) q = absurd (cc)

  command_fits : (a : ℕ) (c : Command) → input ≡ Input.Came a (Datagram.Request c) → FitsCommand c
  command_fits a c is = go input can is
    where
      same_request : (c d : Command) → Datagram.Request c ≡ Datagram.Request d → c ≡ d
      same_request c d e = cc

      go : (z : Input) → CanCome w k z → z ≡ Input.Came a (Datagram.Request c) → FitsCommand c
      go z (IsPacket from d s) q = absurd (subst IsBetween (same_came from a d (Datagram.Request c) q) ((all_held n w reached).packets (record { from = from; to = k; datagram = d; used = s.0 }) s.1))
      go z (IsReply b e d t) q = absurd (cc)
      go z (IsCommand b d x) q = subst FitsCommand (same_request d c (same_came b a (Datagram.Request d) (Datagram.Request c) q)) x
      go z IsTick q = absurd (cc)
      go z (IsSuspicion ms x) q = absurd (cc)

  up_there : slice_get w.sites k ≡ Some (Site.Up r)
  up_there = subst (λ ss. slice_get ss k ≡ Some (Site.Up r)) (marked_sites p) up

  comes : (reading : ℕ) → reading < 2 ^ 64 → (last : Log) → AllFit k n last → length last ≤ most_records → Comes n k last r input reading
  comes reading lt last fit short = record {
    fit = fit;
    short = short;
    number = ((all_held n w reached).sites k (Site.Up r) up_there).number;
    small = (f.sites k (Site.Up r) up_there).0;
    reading_small = lt;
    received = received_fits;
    framed = λ a j e i g q. frame_fits a j r.me e i g q;
    asked = command_fits;
    wished = wished n w (all_held n w reached) k input can;
  }

  -- the draft of a step whose records are kept
  draft_fits : (reading : ℕ) → reading < 2 ^ 64 → (last : Log) → AllFit k n last → length last ≤ most_records → (x : Draft) → Changes r input reading (begun r) x → Extends x.replica.log last → Fit x
  unfolding begun
  draft_fits reading lt last fit short x path ext =
      (changes_fit n k last r input reading (comes reading lt last fit short) path ext refl (f.sites k (Site.Up r) up_there).1).0

-- ---- after a moment

module _ (n : ℕ) (w : World) (reached : IsReached n w) (f : Fine n w reached) (u : World) (few : HasFewBoots w)
    (fits : (k : ℕ) → AllFit k n (log_at u k)) (short : HasShortLogs u) where
  -- what a draft sends whose step is kept
  draft_sends : (v : World) → Marks w v → (k : ℕ) (r : Replica) → slice_get v.sites k ≡ Some (Site.Up r) → (input : Input) → CanCome w k input → (reading : ℕ) → reading < 2 ^ 64 →
      log_at u k ≡ (step r input reading).replica.log → (x : Draft) → Changes r input reading (begun r) x → Extends x.replica.log (step r input reading).replica.log →
      (s : SentMessage) → IsSentBy r input x s → FitsControl s.message
  draft_sends v p k r up input can reading lt kept x path ext s t =
      let last = (step r input reading).replica.log in
      let fit = subst (AllFit k n) kept (fits k) in
      let small = subst (λ l. length l ≤ most_records) kept (short k) in
      sent_fits n k last r input reading (comes n w reached few f v p k r up input can reading lt last fit small) x s.message ext
      (draft_fits n w reached few f v p k r up input can reading lt last fit small x path ext) t.is t.answers

  -- what was sent in a step
  step_sends : (v : World) → Marks w v → (k : ℕ) (r : Replica) → slice_get v.sites k ≡ Some (Site.Up r) → (input : Input) → CanCome w k input → (reading : ℕ) → reading < 2 ^ 64 →
      log_at u k ≡ (step r input reading).replica.log → {x : Draft} (path : Changes r input reading (begun r) x) → Extends x.replica.log (step r input reading).replica.log →
      (s : SentMessage) → SendsIn path s → FitsControl s.message
  step_sends v p k r up input can reading lt kept stay ext s t = absurd t
  step_sends v p k r up input can reading lt kept (and_then {y = y} {z = z} path c fitting) ext s t =
      let e = extends_trans (change_grows y z (log_change r input reading y z c)) ext in
      elim t [
        | inl here ↦ draft_sends v p k r up input can reading lt kept y path e s here
        | inr old ↦ step_sends v p k r up input can reading lt kept path e s old
      ]

  -- the step of a replica whose records are kept
  step_fits : (v : World) → Marks w v → (k : ℕ) (r : Replica) → slice_get v.sites k ≡ Some (Site.Up r) → (input : Input) → CanCome w k input → (reading : ℕ) → reading < 2 ^ 64 →
      log_at u k ≡ (step r input reading).replica.log → Fit (step r input reading)
  step_fits v p k r up input can reading lt kept =
      draft_fits n w reached few f v p k r up input can reading lt (step r input reading).replica.log
      (subst (AllFit k n) kept (fits k)) (subst (λ l. length l ≤ most_records) kept (short k)) (step r input reading) (step_changes r input reading) same

down_sites : (w : World) (k : ℕ) → SitesFit w.sites → SitesFit (down w k).after.sites
unfolding down with_site
down_sites w k h = sites_set w.sites k (Site.Down (log_at w k)) h (log_spelt w k h)

up_fits : (x : Draft) → Fit x → SiteFits (Site.Up x.replica)
unfolding begun
up_fits x f = record { log = f.log; coordinator = f.coordinator; issued = f.issued }

step_sites : (n : ℕ) (w v : World) → Marks w v → (g : IsReached n w) → (k : ℕ) (r : Replica) (e : slice_get v.sites k ≡ Some (Site.Up r)) (x : Draft) (m : Moment) → Ends v k x m → SitesFit v.sites → (log_at m.after k ≡ x.replica.log → Fit x) → SitesFit m.after.sites
unfolding whole_step cut_step lost_step then_down after_step
step_sites n w v p g k r e x m IsWhole h fit = sites_set v.sites k (Site.Up x.replica) h (up_fits x (fit (kept_whole n w v p g (all_known n w g) k r e x)))
step_sites n w v p g k r e x m (IsCut count) h fit = sites_set v.sites k (Site.Down x.replica.log) h (fit (kept_cut n w v p g (all_known n w g) k r e x count)).log
step_sites n w v p g k r e x m IsLost h fit = down_sites v k h

-- ---- starts

room_sites : (w : World) (k : ℕ) → (k < length w.sites) ⊎ ((k ≡ length w.sites) × (k < 15)) → SitesFit w.sites → SitesFit (with_room w k).sites
unfolding with_room
room_sites w k small h = go (k == length w.sites) refl
  where
    is_small : k ≡ length w.sites → k < 15
    is_small e = elim small [ inl lt ↦ absurd (omega (arith, lt, e)) | inr t ↦ t.1 ]

    room : k ≡ length w.sites → SitesFit (w.sites ++ Site.Down [] ∷ [])
    room is j s e = elim (get_either w.sites (Site.Down []) j s e) [
      | inl q ↦ h j s q
      | inr q ↦ (let t = is_small is in let i = q.0 in omega (arith, t, i, is), subst SiteFits q.1 tt)
    ]

    go : (c : Bool) → (k == length w.sites) ≡ c → SitesFit (cond c (record w { sites = w.sites ++ Site.Down [] ∷ [] }) w).sites
    go true e = room (eqb-true k (length w.sites) e)
    go false e = h

boot_fits : (k n : ℕ) (log : Log) → k < 15 → n ≤ 15 → AreSpelt log → Fit (boot k n log)
unfolding boot first_boot founding_boot boot_again keep begun fresh when◌then◌otherwise◌ known start decision
boot_fits k n (rec ∷ log) small most h = record { log = ((small, omega (arith, most)), h); coordinator = tt; issued = tt }
boot_fits k n [] small most h = go (nat_lt k n)
  where
    go : (c : Bool) → Fit (when c then founding_boot k n otherwise boot_again k n [])
    go true = record { log = (omega arith, ((small, omega (arith, most)), tt)); coordinator = tt; issued = tt }
    go false = record { log = ((small, omega (arith, most)), tt); coordinator = tt; issued = tt }

founding_fits : (k n : ℕ) → k < 15 → n ≤ 15 → Fit (founding_boot k n)
unfolding founding_boot boot_again keep begun fresh known start decision
founding_fits k n small most = record { log = (omega arith, ((small, omega (arith, most)), tt)); coordinator = tt; issued = tt }

room_n : (w : World) (k : ℕ) → (with_room w k).n ≡ w.n
unfolding with_room
room_n w k = go (k == length w.sites)
  where
    go : (c : Bool) → (cond c (record w { sites = w.sites ++ Site.Down [] ∷ [] }) w).n ≡ w.n
    go true = refl
    go false = refl

start_sites : (n : ℕ) (w : World) (k : ℕ) → n ≤ 15 → w.n ≡ n → (k < length w.sites) ⊎ ((k ≡ length w.sites) × (k < 15)) → SitesFit w.sites → SitesFit (start_at w k).after.sites
unfolding start_at begun_at whole_step after_step
start_sites n w k most size small h =
    let v = with_room w k in
    let hv = room_sites w k small h in
    let t = room_there w k small in
    let is = room_n w k in
    sites_set v.sites k (Site.Up (boot k v.n (log_at v k)).replica) hv
    (up_fits (boot k v.n (log_at v k)) (boot_fits k v.n (log_at v k) (hv k t.0 t.1).0 (omega (arith, is, size, most)) (log_spelt v k hv)))

-- ---- every world

moment_sites : (n : ℕ) (w : World) (m : Moment) → n ≤ 15 → (g : IsReached n w) (h : Happens w m) → HasFewBoots m.after → HasShortLogs m.after → HasFewBoots w → Fine n w g → SitesFit m.after.sites
unfolding silent begun_at begun
moment_sites n w m most g (Nothing v p) few' short few f = subst SitesFit (sym (marked_sites p)) f.sites
moment_sites n w m most g (Steps v p k r e input reading lt c z ends) few' short few f =
    step_sites n w v p g k r e (step r input reading) z ends (subst SitesFit (sym (marked_sites p)) f.sites)
    (λ kept. step_fits n w g f z.after few (logs_fit n z.after (next g (Steps v p k r e input reading lt c z ends)) few') short v p k r e input c reading lt kept)
moment_sites n w m most g (Junk k r e z ends) few' short few f = step_sites n w w none g k r e (begun r) z ends f.sites (λ kept. (f.sites k (Site.Up r) e).1)
moment_sites n w m most g (Stops k) few' short few f = down_sites w k f.sites
moment_sites n w m most g (Joins lt) few' short few f = room_sites w (length w.sites) (inr (refl, lt)) f.sites
moment_sites n w m most g (Starts k d small) few' short few f = start_sites n w k most (all_held n w g).size small f.sites

first_sites : (n : ℕ) → n ≤ 15 → SitesFit (begin n).sites
unfolding begin numbers_below
first_sites n most k s e =
    let t = get_range (λ i. Site.Up (founding_boot i n).replica) 0 n k s e in
    let lt = t.0 in
    let small : k < 15 = omega (arith, lt, most) in
    (small, subst SiteFits (from_zero n k s t.1) (up_fits (founding_boot k n) (founding_fits k n small most)))

kept_by : (n : ℕ) (w v : World) (p : Marks w v) (g : IsReached n w) (k : ℕ) (r : Replica) (e : slice_get v.sites k ≡ Some (Site.Up r)) (x : Draft) (z : Moment) (q : Ends v k x z) → Sends q → log_at z.after k ≡ x.replica.log
kept_by n w v p g k r e x z IsWhole sends = kept_whole n w v p g (all_known n w g) k r e x
kept_by n w v p g k r e x z (IsCut count) sends = kept_cut n w v p g (all_known n w g) k r e x count
kept_by n w v p g k r e x z IsLost sends = absurd sends

-- what is sent at a moment
moment_sends : (n : ℕ) (w : World) (m : Moment) (g : IsReached n w) (h : Happens w m) → HasFewBoots m.after → HasShortLogs m.after → HasFewBoots w → Fine n w g →
    (s : SentMessage) → SendsAt h s → FitsControl s.message
unfolding begun_at
moment_sends n w m g (Nothing v p) few' short few f s t = absurd t
moment_sends n w m g (Steps v p k r e input reading lt c z ends) few' short few f s t =
    step_sends n w g f z.after few (logs_fit n z.after (next g (Steps v p k r e input reading lt c z ends)) few') short v p k r e input c reading lt (kept_by n w v p g k r e (step r input reading) z ends t.0) (step_changes r input reading) same s t.1
moment_sends n w m g (Junk k r e z ends) few' short few f s t = absurd t
moment_sends n w m g (Stops k) few' short few f s t = absurd t
moment_sends n w m g (Joins lt) few' short few f s t = absurd t
moment_sends n w m g (Starts k d small) few' short few f s t = absurd t

pub fine : (n : ℕ) (w : World) → n ≤ 15 → (g : IsReached n w) → HasShortLogs w → Fine n w g
fine n w most first short = record { sites = first_sites n most; messages = λ s a. absurd a }
fine n w most (next {w = u} {m = m} g h) short =
    let before = short_before u m.after (moment_goes_on u m h) short in
    let f = fine n u most g before in
    record {
      sites = moment_sites n u m most g h (short_few m.after short) short (short_few u before) f;
      messages = λ s a. elim a [
        | inl t ↦ moment_sends n u m g h (short_few m.after short) short (short_few u before) f s t
        | inr o ↦ f.messages s o
      ];
    }

-- what was sent was sent in a step whose records are kept
sent_before : (n : ℕ) (w : World) → n ≤ 15 → HasShortLogs w → (s : SentMessage) → WasSentBefore n w s → FitsControl s.message
unfolding begun_at
sent_before n w most short s t =
    let p = t.past in
    let u = p.moment.after in
    let after = short_before u w (logs_carried u w p.since) short in
    let before = short_before p.world u (moment_goes_on p.world (begun_at p.world p.moment) p.happens) after in
    draft_sends n p.world p.reached (fine n p.world most p.reached before) u (short_few p.world before) (logs_fit n u (next p.reached p.happens) (short_few u after)) after
    p.marked p.marks s.from p.replica p.up p.input p.can_come p.reading p.small p.kept p.draft p.before (changes_grow p.after) s t.sent

pub short_logs_are_spelt : ShortLogsAreSpelt
short_logs_are_spelt n w most reached short = record {
  numbers = λ k s e. ((fine n w most reached short).sites k s e).0;
  few = short_few w short;
  records = λ k. log_spelt w k (fine n w most reached short).sites;
  messages = sent_before n w most short;
}
