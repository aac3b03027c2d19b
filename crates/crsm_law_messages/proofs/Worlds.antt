-- In every world reached each part was sent, and each message received was sent.
use Rattle.std.proofs.Common.{◌≡◌, ℕ, zero, suc, ◌+◌, ◌<◌, ◌≤◌, List, [], ◌∷◌, ◌++◌, length, refl, sym, ◌∙◌, ap, subst, inl, inr, Bool, true, false, cond, arith, take, map, get_or}
use Rattle.std.specs.Prelude.{◌⊎◌, IsTrue, Some, slice_get, slice_set, ◌==◌, ◌^◌, nat_lt}
use Rattle.std.specs.Option.{option_map_or}
use Rattle.std.specs.List.{range_with_len}
use Rattle.std.proofs.lemmas.Option.{none-some, same_Some}
use Rattle.crsm_base.specs.Messages.{control_bytes, FitsControl}
use Rattle.crsm_base.specs.MessageReading.{control_of}
use Rattle.crsm_base.proofs.ControlLaws.{control_of-bytes}
use Rattle.crsm_spec.specs.Types.{Rec, Datagram, Control}
use Rattle.crsm_spec.specs.Choice.{when◌then◌otherwise◌}
use Rattle.crsm_spec.specs.Lists.{Among, numbers_below}
use Rattle.crsm_spec.specs.Log.{Log, boots, is_boot}
use Rattle.crsm_spec.specs.Parts.{Piece, is_same_message, cut}
use Rattle.crsm_spec.specs.Replica.{Replica, fresh}
use Rattle.crsm_spec.specs.Draft.{Draft, begun, keep}
use Rattle.crsm_spec.specs.Step.{Input, step, boot, boot_again, founding_boot, first_boot}
use Rattle.crsm_spec.specs.World.{Site, Packet, World, Moment, begin, log_of, log_at, with_site, packet_of, whole_step, cut_step, lost_step, down, after_step, then_down}
use Rattle.crsm_spec.specs.Moments.{use_up, silent, begun_at, with_room, start_at}
use Rattle.crsm_fact_log.specs.Logs.{Extends, same, more}
use Rattle.crsm_fact_step.specs.Changes.{stay}
use Rattle.crsm_law_steps.specs.Happenings.{Marks, WasSent, CanCome, Ends, Happens, IsReached}
use Rattle.crsm_law_steps.specs.Happenings.Marks.{none, mark}
use Rattle.crsm_law_steps.specs.Happenings.CanCome.{IsPacket, IsCommand, IsReply, IsTick, IsSuspicion}
use Rattle.crsm_law_steps.specs.Happenings.Ends.{IsWhole, IsCut, IsLost}
use Rattle.crsm_law_steps.specs.Happenings.Happens.{Nothing, Steps, Junk, Stops, Joins, Starts}
use Rattle.crsm_law_steps.specs.Happenings.IsReached.{first, next}
use Rattle.crsm_fact_step.proofs.Fitted.{step_changes}
use Rattle.crsm_law_steps.proofs.Happen.{sent_before}
use Rattle.crsm_law_messages.specs.SentMessages.{SentMessage, here, on, Past, WasSentBefore}
use Rattle.crsm_law_messages.specs.Laws.{IsSource, ReceivesIn, ReceivedWasSent, ReceivedIsSent}
use Rattle.crsm_law_messages.proofs.Words.{among_unmap}
use Rattle.crsm_law_messages.proofs.Gathered.{IsOnce, same_keys, with_among, whole_is}
use Rattle.crsm_law_messages.proofs.Effects.{boots_skip, boots_more}
use Rattle.crsm_law_messages.proofs.SendingControls.{IsFor, IsSaid, AreApart, Here, Mid, said_more, here_more, IsNew, Told, sent_along}
use Rattle.crsm_law_messages.proofs.History.{Sends, SendsIn, SendsAt, WasSentIn}
use Rattle.crsm_law_messages.proofs.Truth.{past_extends}
use Rattle.crsm_fact_log.proofs.Lists.{among_either, among_take}

-- ---- boots rise

boots_of_more : (rec : Rec) (log : Log) → boots log ≤ boots (rec ∷ log)
unfolding is_boot
boots_of_more rec log = go rec
  where
    go : (q : Rec) → boots log ≤ boots (q ∷ log)
    go (Rec.Boot me n) = let e = boots_more me n log in omega (arith, e)
    go (Rec.Prepare f) = let e = boots_skip (Rec.Prepare f) log refl in omega (arith, e)
    go (Rec.Commit s) = let e = boots_skip (Rec.Commit s) log refl in omega (arith, e)
    go (Rec.Adopt p es) = let e = boots_skip (Rec.Adopt p es) log refl in omega (arith, e)
    go (Rec.Suspend x) = let e = boots_skip (Rec.Suspend x) log refl in omega (arith, e)
    go (Rec.Promise i b) = let e = boots_skip (Rec.Promise i b) log refl in omega (arith, e)
    go (Rec.Accept i b d) = let e = boots_skip (Rec.Accept i b d) log refl in omega (arith, e)
    go (Rec.Decide d) = let e = boots_skip (Rec.Decide d) log refl in omega (arith, e)
    go (Rec.Enter x) = let e = boots_skip (Rec.Enter x) log refl in omega (arith, e)

boots_rise : (a b : Log) → Extends a b → boots a ≤ boots b
boots_rise a b same = omega arith
boots_rise a b (more {new = c} rec p) = omega (arith, boots_rise a c p, boots_of_more rec c)

-- ---- what holds of a world

pub record Known (n : ℕ) (w : World) (history : IsReached n w) : Type 0 where
  pub sent : List SentMessage
  pub apart : AreApart sent
  pub was : (s : SentMessage) → Among sent s → WasSentBefore n w s
  pub was_in : (s : SentMessage) → Among sent s → WasSentIn history s
  pub up : (k : ℕ) (r : Replica) → slice_get w.sites k ≡ Some (Site.Up r) → Here sent k r
  pub packets : (from to : ℕ) (d : Datagram) → WasSent w from to d → IsSaid sent d

-- what was sent is of no later boot than the newest
sent_boot : (n : ℕ) (w : World) (s : SentMessage) → WasSentBefore n w s → s.boot ≤ boots (log_at w s.from)
sent_boot n w s t =
    let e = boots_rise t.past.draft.replica.log (log_at w s.from) (past_extends n w s.from t.past) in
    let b = t.sent.boot in omega (arith, e, b)

abbrev pub past_on : (n : ℕ) (w : World) (m : Moment) → Happens w m → (k : ℕ) → Past n w k → Past n m.after k
past_on n w m h k p = record {
  world = p.world;
  reached = p.reached;
  marked = p.marked;
  marks = p.marks;
  replica = p.replica;
  up = p.up;
  input = p.input;
  reading = p.reading;
  small = p.small;
  can_come = p.can_come;
  draft = p.draft;
  before = p.before;
  after = p.after;
  moment = p.moment;
  happens = p.happens;
  ends = p.ends;
  kept = p.kept;
  since = on p.since h;
}

pub was_on : (n : ℕ) (w : World) (m : Moment) → Happens w m → (s : SentMessage) → WasSentBefore n w s → WasSentBefore n m.after s
was_on n w m h s t = record { past = past_on n w m h s.from t.past; sent = t.sent }

-- ---- sites and mail

pub set_up : (xs : List Site) (k : ℕ) (t : Site) (j : ℕ) (r : Replica) → slice_get (slice_set xs k t) j ≡ Some (Site.Up r) →
    ((j ≡ k → ⊥) × (slice_get xs j ≡ Some (Site.Up r))) ⊎ ((j ≡ k) × (t ≡ Site.Up r))
set_up [] k t j r h = absurd (none-some (Site.Up r) h)
set_up (x ∷ xs) zero t zero r h = inr (refl, same_Some t (Site.Up r) h)
set_up (x ∷ xs) zero t (suc j) r h = inl (λ e. absurd (omega (arith, e)), h)
set_up (x ∷ xs) (suc k) t zero r h = inl (λ e. absurd (omega (arith, e)), h)
set_up (x ∷ xs) (suc k) t (suc j) r h = elim (set_up xs k t j r h) [ inl w ↦ inl (λ e. w.0 (omega (arith, e)), w.1) | inr w ↦ inr (ap suc w.0, w.1) ]

get_set : (xs : List Site) (k : ℕ) (s t : Site) → slice_get xs k ≡ Some s → slice_get (slice_set xs k t) k ≡ Some t
get_set [] k s t h = absurd (none-some s h)
get_set (x ∷ xs) zero s t h = refl
get_set (x ∷ xs) (suc k) s t h = get_set xs k s t h

pub up_same : (a b : Replica) → Site.Up a ≡ Site.Up b → a ≡ b
up_same a b h = cc

pub not_up : (log : Log) (r : Replica) → Site.Down log ≡ Site.Up r → ⊥
not_up log r h = absurd (cc)

pub marked_sites : {w v : World} → Marks w v → v.sites ≡ w.sites
unfolding use_up
marked_sites none = refl
marked_sites (mark i p) = marked_sites p

-- the datagram is in the mail
abbrev IsAmongPackets : List Packet → ℕ → ℕ → Datagram → Type 0
IsAmongPackets packets from to d = (used : Bool) × Among packets (record { from = from; to = to; datagram = d; used = used })

sent_after : (packets : List Packet) (k : ℕ) (sends : List (ℕ × Datagram)) (from to : ℕ) (d : Datagram) → IsAmongPackets (packets ++ map (packet_of k) sends) from to d →
    IsAmongPackets packets from to d ⊎ ((s : ℕ × Datagram) × Among sends s × (s.1 ≡ d))
unfolding packet_of
sent_after packets k sends from to d s = elim (among_either packets (map (packet_of k) sends) _ s.1) [
  | inl a ↦ inl (s.0, a)
  | inr b ↦ (let t = among_unmap (packet_of k) sends _ b in inr (t.0, t.1, ap (λ (q : Packet). q.datagram) t.2))
]

-- ---- after a moment at k

module _ (n : ℕ) (w : World) (q : IsReached n w) (g : Known n w q) (m : Moment) (h : Happens w m) (k : ℕ) (sent : List SentMessage) (apart : AreApart sent)
    (more_told : (s : SentMessage) → Among g.sent s → Among sent s)
    (new : (s : SentMessage) → Among sent s → Among g.sent s ⊎ ((s.from ≡ k) × WasSentBefore n m.after s))
    (new_in : (s : SentMessage) → Among sent s → Among g.sent s ⊎ SendsAt h s) where
  known_after : ((j : ℕ) (r : Replica) → slice_get m.after.sites j ≡ Some (Site.Up r) → ((j ≡ k → ⊥) × (slice_get w.sites j ≡ Some (Site.Up r))) ⊎ Here sent j r) →
      ((from to : ℕ) (d : Datagram) → WasSent m.after from to d → WasSent w from to d ⊎ IsSaid sent d) → Known n m.after (next q h)
  known_after up packets = record {
    sent = sent;
    apart = apart;
    was = λ s a. elim (new s a) [ inl o ↦ was_on n w m h s (g.was s o) | inr z ↦ z.1 ];
    was_in = λ s a. elim (new_in s a) [ inl o ↦ inr (g.was_in s o) | inr z ↦ inl z ];
    up = λ j r e. elim (up j r e) [
      | inl q ↦ here_more g.sent sent more_told j (λ s a f. elim (new s a) [ inl o ↦ o | inr z ↦ absurd (q.0 (sym f ∙ z.0)) ]) r (g.up j r q.1)
      | inr z ↦ z
    ];
    packets = λ from to d s. elim (packets from to d s) [ inl o ↦ said_more g.sent sent more_told d (g.packets from to d o) | inr z ↦ z ];
  }

-- nothing was sent at it
module _ (n : ℕ) (w : World) (q : IsReached n w) (g : Known n w q) (m : Moment) (h : Happens w m) (k : ℕ) where
  known_quietly : ((j : ℕ) (r : Replica) → slice_get m.after.sites j ≡ Some (Site.Up r) → ((j ≡ k → ⊥) × (slice_get w.sites j ≡ Some (Site.Up r))) ⊎ Here g.sent j r) →
      ((from to : ℕ) (d : Datagram) → WasSent m.after from to d → WasSent w from to d ⊎ IsSaid g.sent d) → Known n m.after (next q h)
  known_quietly = known_after n w q g m h k g.sent g.apart (λ s a. a) (λ s a. inl a) (λ s a. inl a)

  -- the site at k is down from then on
  known_down : (log : Log) → m.after.sites ≡ slice_set w.sites k (Site.Down log) → ((from to : ℕ) (d : Datagram) → WasSent m.after from to d → WasSent w from to d) → Known n m.after (next q h)
  known_down log is packets = known_quietly
      (λ j r e. elim (set_up w.sites k (Site.Down log) j r (subst (λ ss. slice_get ss j ≡ Some (Site.Up r)) is e)) [ inl q ↦ inl q | inr q ↦ absurd (not_up log r q.1) ])
      (λ from to d s. inl (packets from to d s))

-- ---- the end of a step

module _ (n : ℕ) (w v : World) (p : Marks w v) (past : IsReached n w) (g : Known n w past) (k : ℕ) (r : Replica) (e : slice_get v.sites k ≡ Some (Site.Up r)) (x : Draft) where
  old_packets : (from to : ℕ) (d : Datagram) → WasSent v from to d → WasSent w from to d
  old_packets = sent_before p

  pub kept_whole : log_at (whole_step v k x).after k ≡ x.replica.log
  unfolding whole_step after_step log_at log_of
  kept_whole = ap (λ o. option_map_or log_of o []) (get_set v.sites k (Site.Up r) (Site.Up x.replica) e)

  pub kept_cut : (count : ℕ) → log_at (cut_step count v k x).after k ≡ x.replica.log
  unfolding cut_step then_down after_step log_at log_of
  kept_cut count = ap (λ o. option_map_or log_of o []) (get_set v.sites k (Site.Up r) (Site.Down x.replica.log) e)

  ended : (m : Moment) (ends : Ends v k x m) (h : Happens w (begun_at w m)) → (sent : List SentMessage) → Mid sent k x → ((s : SentMessage) → Among g.sent s → Among sent s) →
      (log_at m.after k ≡ x.replica.log → (s : SentMessage) → Among sent s → Among g.sent s ⊎ ((s.from ≡ k) × WasSentBefore n m.after s)) →
      (Sends ends → (s : SentMessage) → Among sent s → Among g.sent s ⊎ SendsAt h s) → Known n (begun_at w m).after (next past h)
  unfolding whole_step cut_step lost_step then_down after_step down with_site begun_at
  ended m IsWhole h sent mid more_told new new_in =
      known_after n w past g (begun_at w (whole_step v k x)) h k sent mid.apart more_told (new kept_whole) (new_in tt)
      (λ j q f. elim (set_up v.sites k (Site.Up x.replica) j q f) [
        | inl z ↦ inl (z.0, subst (λ ss. slice_get ss j ≡ Some (Site.Up q)) (marked_sites p) z.1)
        | inr z ↦ inr (subst (Here sent j) (up_same x.replica q z.1) (subst (λ i. Here sent i x.replica) (sym z.0) mid.here))
      ])
      (λ from to d s. elim (sent_after v.packets k x.sends from to d s) [
        | inl o ↦ inl (old_packets from to d o)
        | inr z ↦ inr (subst (IsSaid sent) z.2 (mid.sends z.0 z.1))
      ])
  ended m (IsCut count) h sent mid more_told new new_in =
      known_after n w past g (begun_at w (cut_step count v k x)) h k sent mid.apart more_told (new (kept_cut count)) (new_in tt)
      (λ j q f. elim (set_up v.sites k (Site.Down x.replica.log) j q f) [
        | inl z ↦ inl (z.0, subst (λ ss. slice_get ss j ≡ Some (Site.Up q)) (marked_sites p) z.1)
        | inr z ↦ absurd (not_up x.replica.log q z.1)
      ])
      (λ from to d s. elim (sent_after v.packets k (take count x.sends) from to d s) [
        | inl o ↦ inl (old_packets from to d o)
        | inr z ↦ inr (subst (IsSaid sent) z.2 (mid.sends z.0 (among_take count x.sends z.0 z.1)))
      ])
  ended m IsLost h sent mid more_told new new_in =
      known_down n w past g (begun_at w (lost_step v k x)) h k (log_at v k) (ap (λ ss. slice_set ss k (Site.Down (log_at v k))) (marked_sites p)) old_packets

-- ---- a step

same_input : (a b : ℕ) (c d : Datagram) → Input.Came a c ≡ Input.Came b d → c ≡ d
same_input a b c d h = cc

-- a part that can come was sent
part_sent : (n : ℕ) (w : World) (q : IsReached n w) (g : Known n w q) (k : ℕ) (input : Input) → CanCome w k input → (me address : ℕ) (p : Piece) →
    input ≡ Input.Came address (Datagram.Part p.from me p.boot p.number p.index p.count p.bytes) → IsFor g.sent me p
part_sent n w q g k input (IsPacket from d s) me address p e = g.packets from k d s p.from me p.boot p.number p.index p.count p.bytes (same_input from address d _ e)
part_sent n w q g k input (IsCommand a c f) me address p e = absurd (cc)
part_sent n w q g k input (IsReply a c d t) me address p e = absurd (cc)
part_sent n w q g k input IsTick me address p e = absurd (cc)
part_sent n w q g k input (IsSuspicion ms f) me address p e = absurd (cc)

mid_begun : (sent : List SentMessage) (k : ℕ) (r : Replica) → AreApart sent → Here sent k r → Mid sent k (begun r)
unfolding begun
mid_begun sent k r apart h = record { apart = apart; here = h; sends = λ s a. absurd a }

module _ (n : ℕ) (w v : World) (reached : IsReached n w) (p : Marks w v) (g : Known n w reached) (k : ℕ) (r : Replica) (e : slice_get v.sites k ≡ Some (Site.Up r))
    (input : Input) (reading : ℕ) (c : CanCome w k input) where
  here_now : Here g.sent k r
  here_now = g.up k r (subst (λ ss. slice_get ss k ≡ Some (Site.Up r)) (marked_sites p) e)

  parts_come : (address : ℕ) (q : Piece) → input ≡ Input.Came address (Datagram.Part q.from r.me q.boot q.number q.index q.count q.bytes) → IsFor g.sent k q
  parts_come address q i = subst (λ j. IsFor g.sent j q) here_now.me (part_sent n w reached g k input c r.me address q i)

  all_told : Told k g.sent r input reading (step r input reading) here_now.me parts_come (step r input reading) (SendsIn (step_changes r input reading))
  all_told = sent_along k g.sent r input reading (step r input reading) here_now.me parts_come (step_changes r input reading) stay
      (record { sent = g.sent; mid = mid_begun g.sent k r g.apart here_now; more = λ s a. a; new = λ s a. inl a; sends_control = λ s a. inl a })

  is_sent : reading < 2 ^ 64 → (m : Moment) → Ends v k (step r input reading) m → Happens w (begun_at w m) → log_at m.after k ≡ (step r input reading).replica.log → (s : SentMessage) →
      IsNew k g.sent r input reading (step r input reading) here_now.me parts_come s → WasSentBefore n m.after s
  is_sent lt m ends h kept s new = record {
    past = record {
      world = w;
      reached = reached;
      marked = v;
      marks = p;
      replica = r;
      up = subst (λ j. slice_get v.sites j ≡ Some (Site.Up r)) (sym new.from) e;
      input = input;
      reading = reading;
      small = lt;
      can_come = subst (λ j. CanCome w j input) (sym new.from) c;
      draft = new.draft;
      before = new.before;
      after = new.after;
      moment = m;
      happens = h;
      ends = subst (λ j. Ends v j (step r input reading) m) (sym new.from) ends;
      kept = subst (λ j. log_at m.after j ≡ (step r input reading).replica.log) (sym new.from) kept;
      since = here;
    };
    sent = new.sent;
  }

  stepped : (lt : reading < 2 ^ 64) (m : Moment) (ends : Ends v k (step r input reading) m) → Known n (begun_at w m).after (next reached (Steps v p k r e input reading lt c m ends))
  stepped lt m ends =
      let h = Steps v p k r e input reading lt c m ends in
      ended n w v p reached g k r e (step r input reading) m ends h all_told.sent all_told.mid all_told.more
      (λ kept s a. elim (all_told.new s a) [ inl o ↦ inl o | inr z ↦ inr (z.from, is_sent lt m ends h kept s z) ])
      (λ sends s a. elim (all_told.sends_control s a) [ inl o ↦ inl o | inr z ↦ inr (sends, z) ])

-- ---- starts

pub room_up : (w : World) (k j : ℕ) (r : Replica) → slice_get (with_room w k).sites j ≡ Some (Site.Up r) → slice_get w.sites j ≡ Some (Site.Up r)
unfolding with_room
room_up w k j r = go (k == length w.sites)
  where
    at_end : (ss : List Site) (i : ℕ) → slice_get (ss ++ Site.Down [] ∷ []) i ≡ Some (Site.Up r) → slice_get ss i ≡ Some (Site.Up r)
    at_end [] zero h = absurd (not_up [] r (same_Some (Site.Down []) (Site.Up r) h))
    at_end [] (suc i) h = absurd (none-some (Site.Up r) h)
    at_end (s ∷ ss) zero h = h
    at_end (s ∷ ss) (suc i) h = at_end ss i h

    go : (c : Bool) → slice_get (cond c (record w { sites = w.sites ++ Site.Down [] ∷ [] }) w).sites j ≡ Some (Site.Up r) → slice_get w.sites j ≡ Some (Site.Up r)
    go true h = at_end w.sites j h
    go false h = h

room_log : (w : World) (k : ℕ) → log_at (with_room w k) k ≡ log_at w k
unfolding with_room log_at log_of
room_log w k = go (k == length w.sites)
  where
    at_end : (ss : List Site) (j : ℕ) → option_map_or log_of (slice_get (ss ++ Site.Down [] ∷ []) j) [] ≡ option_map_or log_of (slice_get ss j) []
    at_end [] zero = refl
    at_end [] (suc j) = refl
    at_end (s ∷ ss) zero = refl
    at_end (s ∷ ss) (suc j) = at_end ss j

    go : (c : Bool) → option_map_or log_of (slice_get (cond c (record w { sites = w.sites ++ Site.Down [] ∷ [] }) w).sites k) [] ≡ option_map_or log_of (slice_get w.sites k) []
    go true = at_end w.sites k
    go false = refl

room_packets : (w : World) (k : ℕ) → (with_room w k).packets ≡ w.packets
unfolding with_room
room_packets w k = go (k == length w.sites)
  where
    go : (c : Bool) → (cond c (record w { sites = w.sites ++ Site.Down [] ∷ [] }) w).packets ≡ w.packets
    go true = refl
    go false = refl

-- what a boot leaves: it has sent nothing, and its boot is later than all before
record IsFresh (k : ℕ) (log : Log) (x : Draft) : Type 0 where
  pub me : x.replica.me ≡ k
  pub later : boots log < boots x.replica.log
  pub parts : x.replica.parts ≡ []
  pub sends : x.sends ≡ []

again_fresh : (k n : ℕ) (log : Log) → IsFresh k log (boot_again k n log)
unfolding boot_again keep begun fresh
again_fresh k n log = record { me = refl; later = (let b = boots_more k n log in omega (arith, b)); parts = refl; sends = refl }

founding_fresh : (k n : ℕ) → IsFresh k [] (founding_boot k n)
unfolding founding_boot boot_again keep begun fresh is_boot
founding_fresh k n = record {
  me = refl;
  later = (let b = boots_more k n [] in let s = boots_skip (Rec.Enter 0) (Rec.Boot k n ∷ []) refl in omega (arith, b, s));
  parts = refl;
  sends = refl;
}

boot_fresh : (k n : ℕ) (log : Log) → IsFresh k log (boot k n log)
unfolding boot first_boot when◌then◌otherwise◌
boot_fresh k n (rec ∷ log) = again_fresh k n (rec ∷ log)
boot_fresh k n [] = go (nat_lt k n)
  where
    go : (c : Bool) → IsFresh k [] (when c then founding_boot k n otherwise boot_again k n [])
    go true = founding_fresh k n
    go false = again_fresh k n []

fresh_here : (sent : List SentMessage) (k : ℕ) (log : Log) (x : Draft) → ((s : SentMessage) → Among sent s → s.from ≡ k → s.boot ≤ boots log) → IsFresh k log x → Here sent k x.replica
fresh_here sent k log x low f = record {
  me = f.me;
  below = λ s a e. inl (let b = low s a e in let l = f.later in omega (arith, b, l));
  parts = λ p a. absurd (subst (λ l. Among l p) f.parts a);
  once = subst IsOnce (sym f.parts) tt;
}

started : (n : ℕ) (w : World) (k : ℕ) (q : IsReached n w) (g : Known n w q) (h : Happens w (start_at w k)) → Known n (start_at w k).after (next q h)
unfolding start_at begun_at whole_step after_step
started n w k q g h =
    let v = with_room w k in
    let x = boot k v.n (log_at v k) in
    let f = boot_fresh k v.n (log_at v k) in
    let low : (s : SentMessage) → Among g.sent s → s.from ≡ k → s.boot ≤ boots (log_at v k) =
    λ s a e. subst (λ l. s.boot ≤ boots l) (sym (room_log w k)) (subst (λ j. s.boot ≤ boots (log_at w j)) e (sent_boot n w s (g.was s a))) in
    known_quietly n w q g (start_at w k) h k
    (λ j q z. elim (set_up v.sites k (Site.Up x.replica) j q z) [
      | inl t ↦ inl (t.0, room_up w k j q t.1)
      | inr t ↦ inr (subst (Here g.sent j) (up_same x.replica q t.1) (subst (λ i. Here g.sent i x.replica) (sym t.0) (fresh_here g.sent k (log_at v k) x low f)))
    ])
    (λ from to d s. elim (sent_after v.packets k x.sends from to d s) [
      | inl o ↦ inl (subst (λ l. IsAmongPackets l from to d) (room_packets w k) o)
      | inr z ↦ absurd (subst (λ l. Among l z.0) f.sends z.1)
    ])

stopped : (n : ℕ) (w : World) (k : ℕ) (q : IsReached n w) (g : Known n w q) (h : Happens w (down w k)) → Known n (down w k).after (next q h)
unfolding down with_site
stopped n w k q g h = known_down n w q g (down w k) h k (log_at w k) refl (λ from to d s. s)

-- ---- every world

known_moment : (n : ℕ) (w : World) (m : Moment) (q : IsReached n w) (h : Happens w m) → Known n w q → Known n m.after (next q h)
unfolding silent begun_at
known_moment n w m r (Nothing v p) g = known_quietly n w r g (silent w v) (Nothing v p) 0
    (λ j q e. inr (g.up j q (subst (λ ss. slice_get ss j ≡ Some (Site.Up q)) (marked_sites p) e))) (λ from to d s. inl (sent_before p from to d s))
known_moment n w m r (Steps v p k q e input reading lt c z ends) g = stepped n w v r p g k q e input reading c lt z ends
known_moment n w m r (Junk k q e z ends) g =
    ended n w w none r g k q e (begun q) z ends (Junk k q e z ends) g.sent (mid_begun g.sent k q g.apart (g.up k q e)) (λ s a. a) (λ kept s a. inl a) (λ sends s a. inl a)
known_moment n w m r (Stops k) g = stopped n w k r g (Stops k)
known_moment n w m r (Joins f) g = known_quietly n w r g (silent w (with_room w (length w.sites))) (Joins f) 0
    (λ j q e. inr (g.up j q (room_up w (length w.sites) j q e))) (λ from to d s. inl (subst (λ l. IsAmongPackets l from to d) (room_packets w (length w.sites)) s))
known_moment n w m r (Starts k d f) g = started n w k r g (Starts k d f)

at_number : (n a c i : ℕ) (r : Replica) → slice_get (map (λ k. Site.Up (founding_boot k n).replica) (range_with_len a c)) i ≡ Some (Site.Up r) → Site.Up (founding_boot (a + i) n).replica ≡ Site.Up r
at_number n a zero i r h = absurd (none-some (Site.Up r) h)
at_number n a (suc c) zero r h = ap (λ i. Site.Up (founding_boot i n).replica) (omega arith) ∙ same_Some _ (Site.Up r) h
at_number n a (suc c) (suc i) r h = ap (λ i. Site.Up (founding_boot i n).replica) (omega arith) ∙ at_number n (a + 1) c i r h

pub founded_is : (n k : ℕ) (r : Replica) → slice_get (begin n).sites k ≡ Some (Site.Up r) → (founding_boot k n).replica ≡ r
unfolding begin numbers_below
founded_is n k r h = up_same (founding_boot k n).replica r (ap (λ i. Site.Up (founding_boot i n).replica) (omega arith) ∙ at_number n 0 n k r h)

founded : (n k : ℕ) (r : Replica) → slice_get (begin n).sites k ≡ Some (Site.Up r) → Here [] k r
founded n k r h = subst (Here [] k) (founded_is n k r h) (fresh_here [] k [] (founding_boot k n) (λ s a f. absurd a) (founding_fresh k n))

known_first : (n : ℕ) → Known n (begin n) first
unfolding begin
known_first n = record { sent = []; apart = λ s t a. absurd a; was = λ s a. absurd a; was_in = λ s a. absurd a; up = founded n; packets = λ from to d s. absurd s.1 }

pub all_known : (n : ℕ) (w : World) (q : IsReached n w) → Known n w q
all_known n w first = known_first n
all_known n w (next {w = u} {m = m} r h) = known_moment n u m r h (all_known n u r)

-- ---- what is received

-- k sent j a message whose bytes are read as c, on the way of this history
pub record IsSourceIn (n : ℕ) (w : World) (history : IsReached n w) (k j : ℕ) (c : Control) : Type 0 where
  pub source : IsSource n w k j c
  pub was_sent : WasSentIn history source.sent_message

pub received_was_sent_in : (n : ℕ) (w : World) (k j : ℕ) (c : Control) (h : ReceivesIn n w k j c) → IsSourceIn n w h.reached k j c
received_was_sent_in n w k j c h =
    let g = all_known n w h.reached in
    let r = h.replica in
    let p = h.receives.piece in
    let here = g.up j r (subst (λ ss. slice_get ss j ≡ Some (Site.Up r)) (marked_sites h.marks) h.up) in
    let f : IsFor g.sent j p = subst (λ i. IsFor g.sent i p) here.me (part_sent n w h.reached g j h.input h.can_come r.me h.receives.address p h.receives.came) in
    let m = control_bytes f.sent_message.message in
    let one : (q : Piece) → IsTrue (is_same_message p q) → IsFor g.sent j q → q.bytes ≡ get_or (cut m) q.index [] = λ q same o.
    (let keys = same_keys p q same in
    let is : o.sent_message ≡ f.sent_message = g.apart o.sent_message f.sent_message o.was f.was
    (o.piece.from ∙ sym keys.0 ∙ sym f.piece.from) (o.piece.boot ∙ sym keys.1 ∙ sym f.piece.boot) (o.piece.number ∙ sym keys.2 ∙ sym f.piece.number) in
    o.piece.bytes ∙ ap (λ s. get_or (cut (control_bytes s.message)) q.index []) is) in
    let is : h.receives.message ≡ m = whole_is m p r.parts h.receives.message here.once f.piece.count
    (λ q a same. elim (with_among p r.parts q a) [ inl b ↦ one q same (here.parts q b) | inr e ↦ one q same (subst (IsFor g.sent j) e f) ]) h.receives.whole in
    record {
      source = record {
        sent_message = f.sent_message;
        from = f.piece.from ∙ h.receives.from;
        to = f.to;
        was_sent = g.was f.sent_message f.was;
        reads = ap control_of (sym is) ∙ h.receives.is;
      };
      was_sent = g.was_in f.sent_message f.was;
    }

pub received_was_sent : ReceivedWasSent
received_was_sent n w k j c h = (received_was_sent_in n w k j c h).source

pub received_is_sent : ReceivedIsSent
received_is_sent n w k j c h fit =
    let s = received_was_sent n w k j c h in
    (s.sent_message, s.from, s.to, same_Some s.sent_message.message c (sym (control_of-bytes s.sent_message.message (fit s.sent_message s.was_sent)) ∙ s.reads), s.was_sent)

-- and in the history that led there
pub received_is_sent_in : (n : ℕ) (w : World) (k j : ℕ) (c : Control) (h : ReceivesIn n w k j c) → ((s : SentMessage) → WasSentBefore n w s → FitsControl s.message) →
    (s : SentMessage) × (s.message ≡ c) × WasSentIn h.reached s
received_is_sent_in n w k j c h fit =
    let t = received_was_sent_in n w k j c h in
    let s = t.source in
    (s.sent_message, same_Some s.sent_message.message c (sym (control_of-bytes s.sent_message.message (fit s.sent_message s.was_sent)) ∙ s.reads), t.was_sent)
