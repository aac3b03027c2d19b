-- In a calm round no control messages are sent but known decisions and RETRIEVE.
use Rattle.std.proofs.Common.{◌≡◌, ℕ, zero, suc, ◌+◌, ◌<◌, ◌≤◌, List, [], ◌∷◌, length, refl, sym, ◌∙◌, ap, subst, inl, inr, true, false, arith, map, get_or}
use Rattle.std.specs.Prelude.{◌⊎◌, ◌^◌, IsTrue, Option, Some, None, slice_get, slice_set}
use Rattle.std.specs.List.{enumerate_from}
use Rattle.std.specs.Option.{option_map_or}
use Rattle.std.proofs.lemmas.Bool.{cases_eq, false≢true}
use Rattle.std.proofs.lemmas.Option.{same_Some}
use Rattle.crsm_base.specs.Messages.{control_bytes, FitsControl}
use Rattle.crsm_spec.specs.Types.{Decision, Datagram, Control}
use Rattle.crsm_spec.specs.Lists.{Among}
use Rattle.crsm_spec.specs.Log.{known, decision, boots, active}
use Rattle.crsm_spec.specs.Parts.{Piece, cut}
use Rattle.crsm_spec.specs.Replica.{Replica}
use Rattle.crsm_spec.specs.Draft.{Draft, begun, parts_to}
use Rattle.crsm_spec.specs.Step.{Input, step}
use Rattle.crsm_spec.specs.World.{Site, Packet, World, is_full, packet_of, whole_step}
use Rattle.crsm_spec.specs.Moments.{use_up}
use Rattle.crsm_spec.specs.Calm.{IsPart}
use Rattle.crsm_fact_log.proofs.Lists.{among_right, among_either}
use Rattle.crsm_fact_step.specs.Changes.{stay as no_change}
use Rattle.crsm_fact_step.specs.Messages.{IsSent, Answers}
use Rattle.crsm_fact_step.proofs.Fitted.{step_changes}
use Rattle.crsm_law_steps.specs.Laws.{LogsGoOn}
use Rattle.crsm_law_steps.specs.Happenings.{Marks, CanCome, Ends, IsReached, WasSent}
use Rattle.crsm_law_steps.proofs.Happen.{got_among, among_set}
use Rattle.crsm_law_epoch.specs.Numbers.{Distinct}
use Rattle.crsm_law_epoch.proofs.LogSteps.{IsBetween}
use Rattle.crsm_law_epoch.proofs.LogWorlds.{all_held, up_numbers}
use Rattle.crsm_law_epoch.proofs.Words.{among_unmap, among_map}
use Rattle.crsm_law_epoch.proofs.Worlds.{log_there}
use Rattle.crsm_law_messages.specs.SentMessages.{SentMessage, here}
use Rattle.crsm_law_bounds.specs.Bounds.{IsSpelt}
use Rattle.crsm_law_runs.proofs.DurableLists.{among_place}
use Rattle.crsm_law_active.specs.Staying.{IsMild, IsCalmInput}
use Rattle.crsm_law_active.specs.Telling.{IsOfLink, IsKnown, TellsLittle}
use Rattle.crsm_law_active.specs.Telling.TellsLittle.{OfLinks, OneMessage}
use Rattle.crsm_law_active.proofs.Staying.{steps_stay}
use Rattle.crsm_law_active.proofs.Telling.{links_tell_little}
use Rattle.crsm_law_rounds.specs.Rounds.{GoesCalmly}
use Rattle.crsm_law_rounds.specs.Rounds.GoesCalmly.{stay, marks, by_tick, by_packet}
use Rattle.crsm_law_rounds.proofs.Growing.{grows_decision}
use Rattle.crsm_law_rounds.proofs.Going.{IsAt, up_one, calm_reached, calm_at, site_after, other_site, packets_after, mark_sites, packet_happens}
use Rattle.crsm_law_rounds.proofs.Ticks.{tick, tick_up, tick_other, ticks, AllActive, IsUpOrNot, Up, Off, up_or_not}
use Rattle.crsm_law_rounds.proofs.Settling.{after_go, go_up, go_off, mark_up, mark_sent, go_logs, logs_then, settled, settle_logs, go_calmly, room, on, off}
use Rattle.crsm_law_rounds.proofs.Hearing.{ToldMildly, whole_is_mild}

-- ---- what was sent stays sent

pub sent_calm : (C : ℕ → Type 0) (u w : World) (ts : List ℕ) → GoesCalmly C u ts w → (from to : ℕ) (d : Datagram) → WasSent u from to d → WasSent w from to d
sent_calm C u w ts g from to d h =
    let m : Packet = record { from = from; to = to; datagram = d; used = h.0 } in
    let at = among_place u.packets m h.1 in
    let now = calm_at C u g at.0 m at.1 in
    (now.0, got_among w.packets at.0 _ now.1)

pub told_calm : (e : ℕ) (C : ℕ → Type 0) (u w : World) (ts : List ℕ) → GoesCalmly C u ts w → (from to boot number count : ℕ) → ToldMildly e u from to boot number count → ToldMildly e w from to boot number count
told_calm e C u w ts g from to boot number count h =
    record { message = h.message; mild = h.mild; fits = h.fits; count_is = h.count_is; parts = λ i lt. sent_calm C u w ts g from to _ (h.parts i lt) }

-- each part that was not delivered yet is one of a mild message
abbrev pub MildPackets : ℕ → World → Type 0
MildPackets e w =
    (m : Packet) → Among w.packets m → m.used ≡ false → (from to boot number index count : ℕ) (bytes : List ℕ) → m.datagram ≡ Datagram.Part from to boot number index count bytes →
    (m.to ≡ to) × ToldMildly e w from to boot number count

-- the decision of each replica that is up is of no later epoch
abbrev pub LowDecisions : ℕ → World → Type 0
LowDecisions e w = (k : ℕ) (r : Replica) → slice_get w.sites k ≡ Some (Site.Up r) → (d : Decision) → decision r.log ≡ Some d → d.epoch ≤ e

-- a datagram that is fresh after a mark was fresh before
fresh_before : (i : ℕ) (u : World) (m : Packet) → Among (use_up i u).packets m → m.used ≡ false → Among u.packets m
unfolding use_up
fresh_before i u m a f = go (slice_get u.packets i) a
  where
    go : (o : Option Packet) → Among (option_map_or (λ n. slice_set u.packets i (record n { used = true })) o u.packets) m → Among u.packets m
    go None h = h
    go (Some n) h = elim (among_set u.packets i (record n { used = true }) m h) [
      | inl e ↦ absurd (false≢true (sym f ∙ ap (λ (z : Packet). z.used) (sym e)))
      | inr o ↦ o
    ]

-- ---- the parts of a message

number_in : (a i : ℕ) (xs : List (List ℕ)) → i < length xs → Among (enumerate_from a xs) (a + i, get_or xs i [])
number_in a i [] lt = absurd (omega (arith, lt))
number_in a zero (x ∷ xs) lt = inl (ap {B = ℕ × List ℕ} (λ (z : ℕ). (z, x)) (omega arith))
number_in a (suc i) (x ∷ xs) lt = inr (subst (λ z. Among (enumerate_from (a + 1) xs) (z, get_or xs i [])) (omega arith) (number_in (a + 1) i xs (omega (arith, lt))))

part_in : (r : Replica) (k : ℕ) (c : Control) (i : ℕ) → i < length (cut (control_bytes c)) →
    Among (parts_to r k c) (k, Datagram.Part r.me k (boots r.log) r.made i (length (cut (control_bytes c))) (get_or (cut (control_bytes c)) i []))
unfolding parts_to
part_in r k c i lt =
    let pieces = cut (control_bytes c) in
    let form : ((p : ℕ × List ℕ) → ℕ × Datagram) = λ p. (k, Datagram.Part r.me k (boots r.log) r.made p.0 (length pieces) p.1) in
    subst (λ z. Among (map form (enumerate_from 0 pieces)) (form (z, get_or pieces i []))) (omega arith) (among_map form (enumerate_from 0 pieces) (0 + i, get_or pieces i []) (number_in 0 i pieces lt))

part_form : (r : Replica) (k : ℕ) (c : Control) (s : ℕ × Datagram) → Among (parts_to r k c) s →
    (p : ℕ × List ℕ) × ((k, Datagram.Part r.me k (boots r.log) r.made p.0 (length (cut (control_bytes c))) p.1) ≡ s)
unfolding parts_to
part_form r k c s m =
    let t = among_unmap (λ (p : ℕ × List ℕ). (k, Datagram.Part r.me k (boots r.log) r.made p.0 (length (cut (control_bytes c))) p.1)) (enumerate_from 0 (cut (control_bytes c))) s m in
    (t.0, t.2)

pub not_part : (d : Datagram) → IsOfLink d → (from to boot number index count : ℕ) (bytes : List ℕ) → d ≡ Datagram.Part from to boot number index count bytes → ⊥
not_part d h from to boot number index count bytes e = subst IsOfLink e h

packet_is : (k : ℕ) (s : ℕ × Datagram) → packet_of k s ≡ record { from = k; to = s.0; datagram = s.1; used = false }
unfolding packet_of
packet_is k s = refl

-- ---- a step

told_now : (r : Replica) (c : Control) → IsKnown r c → IsSent (begun r) c
unfolding begun
told_now r (Control.Decide d) k = k
told_now r (Control.Retrieve e from) k = k
told_now r (Control.Suspend e after) k = absurd k
told_now r (Control.SuspendOk e done last after whole es) k = absurd k
told_now r (Control.P1a i b) k = absurd k
told_now r (Control.P1b i b v) k = absurd k
told_now r (Control.P1no i b top) k = absurd k
told_now r (Control.P2a i b d) k = absurd k
told_now r (Control.P2b i b) k = absurd k
told_now r (Control.Page e from es) k = absurd k

answers_nothing : (r : Replica) (input : Input) (c : Control) → IsKnown r c → Answers r input c
answers_nothing r input (Control.Decide d) k = tt
answers_nothing r input (Control.Retrieve e from) k = tt
answers_nothing r input (Control.Suspend e after) k = absurd k
answers_nothing r input (Control.SuspendOk e done last after whole es) k = absurd k
answers_nothing r input (Control.P1a i b) k = absurd k
answers_nothing r input (Control.P1b i b v) k = absurd k
answers_nothing r input (Control.P1no i b top) k = absurd k
answers_nothing r input (Control.P2a i b d) k = absurd k
answers_nothing r input (Control.P2b i b) k = absurd k
answers_nothing r input (Control.Page e from es) k = absurd k

known_mild : (e : ℕ) (r : Replica) (c : Control) → ((d : Decision) → decision r.log ≡ Some d → d.epoch ≤ e) → IsKnown r c → IsMild e c
known_mild e r (Control.Decide d) low k = low d k
known_mild e r (Control.Retrieve x from) low k = tt
known_mild e r (Control.Suspend x after) low k = absurd k
known_mild e r (Control.SuspendOk x done last after whole es) low k = absurd k
known_mild e r (Control.P1a i b) low k = absurd k
known_mild e r (Control.P1b i b v) low k = absurd k
known_mild e r (Control.P1no i b top) low k = absurd k
known_mild e r (Control.P2a i b d) low k = absurd k
known_mild e r (Control.P2b i b) low k = absurd k
known_mild e r (Control.Page x from es) low k = absurd k

begun_me : (r : Replica) → ((begun r).replica.me ≡ r.me) × (boots (begun r).replica.log ≡ boots r.log) × ((begun r).replica.made ≡ r.made)
unfolding begun
begun_me r = (refl, refl, refl)

-- a step of replica k, which is r, on a datagram
module _ (n e t : ℕ) (w : World) (reached : IsReached n w) (k : ℕ) (r : Replica) (up : slice_get w.sites k ≡ Some (Site.Up r)) (lt : t < 2 ^ 64) (from : ℕ) (d : Datagram)
    (came : WasSent w from k d) where
  abbrev x : Draft
  x = step r (Input.Came from d) t

  abbrev after : World
  after = (whole_step w k x).after

  me : r.me ≡ k
  me = (up_numbers n w reached k r up).0

  fits_known : IsSpelt n after → (c : Control) → IsKnown r c → FitsControl c
  fits_known spelt c known =
      let s : SentMessage = record { from = k; to = 0; boot = boots r.log; number = r.made; message = c } in
      let b = begun_me r in
      spelt.messages s (record {
        past = record {
          world = w;
          reached = reached;
          marked = w;
          marks = Marks.none;
          replica = r;
          up = up;
          input = Input.Came from d;
          reading = t;
          small = lt;
          can_come = CanCome.IsPacket from d came;
          draft = begun r;
          before = no_change;
          after = step_changes r (Input.Came from d) t;
          moment = whole_step w k x;
          happens = packet_happens t w k r from d lt up came;
          ends = Ends.IsWhole;
          kept = log_there after k x.replica (site_after w k (Site.Up r) x up);
          since = here;
        };
        sent = record { from = b.0 ∙ me; boot = b.1; number = b.2; is = told_now r c known; answers = answers_nothing r (Input.Came from d) c known };
      })

  goes : GoesCalmly (λ j. ⊥) w [] after
  goes = by_packet k t r from d lt stay up came (λ c. absurd c)

  -- what the step has sent was sent
  sent_now : (s : ℕ × Datagram) → Among x.sends s → WasSent after k s.0 s.1
  sent_now s a = (
    false,
    subst (λ l. Among l (record { from = k; to = s.0; datagram = s.1; used = false })) (sym (packets_after w k x))
        (among_right w.packets (map (packet_of k) x.sends) _ (subst (Among (map (packet_of k) x.sends)) (packet_is k s) (among_map (packet_of k) x.sends s a))),
  )

  new_told : IsSpelt n after → ((v : Decision) → decision r.log ≡ Some v → v.epoch ≤ e) → TellsLittle r x → (s : ℕ × Datagram) → Among x.sends s →
      (a b boot number index count : ℕ) (bytes : List ℕ) → s.1 ≡ Datagram.Part a b boot number index count bytes → (s.0 ≡ b) × ToldMildly e after a b boot number count
  new_told spelt low (OfLinks h) s m a b boot number index count bytes is = absurd (not_part s.1 (h s m) a b boot number index count bytes is)
  new_told spelt low (OneMessage j c known h g) s m a b boot number index count bytes is = elim (h s m) [
    | inl link ↦ absurd (not_part s.1 link a b boot number index count bytes is)
    | inr part ↦ (let f = part_form r j c s part in
        let same = same_part r.me j (boots r.log) r.made f.0.0 (length (cut (control_bytes c))) f.0.1 a b boot number index count bytes (ap (λ (z : ℕ × Datagram). z.1) f.1 ∙ is) in
        let told : ToldMildly e after k j (boots r.log) r.made (length (cut (control_bytes c))) = record {
          message = c;
          mild = known_mild e r c low known;
          fits = fits_known spelt c known;
          count_is = refl;
          parts = λ y within. subst (λ z. WasSent after k j (Datagram.Part z j (boots r.log) r.made y (length (cut (control_bytes c))) (get_or (cut (control_bytes c)) y []))) me
              (sent_now (j, Datagram.Part r.me j (boots r.log) r.made y (length (cut (control_bytes c))) (get_or (cut (control_bytes c)) y [])) (g _ (part_in r j c y within)));
        } in (
          ap (λ (z : ℕ × Datagram). z.0) (sym f.1) ∙ same.1,
          subst (λ z. ToldMildly e after z b boot number count) (sym me ∙ same.0) (subst (λ z. ToldMildly e after k z boot number count) same.1
              (subst (λ z. ToldMildly e after k j z number count) same.2 (subst (λ z. ToldMildly e after k j (boots r.log) z count) same.3 (subst (ToldMildly e after k j (boots r.log) r.made) same.4 told)))),
        ))
  ]
    where
      same_part : (a b c y i l : ℕ) (ps : List ℕ) (a2 b2 c2 y2 i2 l2 : ℕ) (ps2 : List ℕ) → Datagram.Part a b c y i l ps ≡ Datagram.Part a2 b2 c2 y2 i2 l2 ps2 →
          (a ≡ a2) × (b ≡ b2) × (c ≡ c2) × (y ≡ y2) × (l ≡ l2)
      same_part a b c y i l ps a2 b2 c2 y2 i2 l2 ps2 h = (cc, cc, cc, cc, cc)

  pub packets_stay_mild : IsSpelt n after → LowDecisions e w → TellsLittle r x → MildPackets e w → MildPackets e after
  packets_stay_mild spelt low tells mild m a fresh fr to boot number index count bytes is =
      elim (among_either w.packets (map (packet_of k) x.sends) m (subst (λ l. Among l m) (packets_after w k x) a)) [
        | inl old ↦ (let t1 = mild m old fresh fr to boot number index count bytes is in
            (t1.0, told_calm e (λ j. ⊥) w after [] goes fr to boot number count t1.1))
        | inr new ↦ (let s = among_unmap (packet_of k) x.sends m new in
            let form = sym (packet_is k s.0) ∙ s.2 in
            let d1 : s.0.1 ≡ Datagram.Part fr to boot number index count bytes = ap (λ (z : Packet). z.datagram) form ∙ is in
            let t1 = new_told spelt (low k r up) tells s.0 s.1 fr to boot number index count bytes d1 in
            (ap (λ (z : Packet). z.to) (sym form) ∙ t1.0, t1.1))
      ]

-- ---- decisions

pub low_after : (e : ℕ) (w : World) (k : ℕ) (r : Replica) (x : Draft) → slice_get w.sites k ≡ Some (Site.Up r) → decision x.replica.log ≡ decision r.log → LowDecisions e w → LowDecisions e (whole_step w k x).after
low_after e w k r x up kept low j q at d is = elim (cases_eq j k) [
  | inl at_k ↦ (let one = up_one x.replica q (same_Some _ _ (sym (site_after w k (Site.Up r) x up) ∙ subst (λ z. slice_get (whole_step w k x).after.sites z ≡ Some (Site.Up q)) at_k at)) in
      low k r up d (sym kept ∙ ap (λ (z : Replica). decision z.log) one ∙ is))
  | inr ne ↦ low j q (sym (other_site w k j x ne) ∙ at) d is
]

low_marked : (e i : ℕ) (u : World) → LowDecisions e u → LowDecisions e (use_up i u)
low_marked e i u low k r up d is = low k r (subst (λ ss. slice_get ss k ≡ Some (Site.Up r)) (mark_sites i u) up) d is

-- ---- ticks

-- nothing that is a part is under way
abbrev pub NoParts : World → Type 0
NoParts w = (m : Packet) → Among w.packets m → m.used ≡ false → IsPart m.datagram → ⊥

link_no_part : (d : Datagram) → IsOfLink d → IsPart d → ⊥
link_no_part (Datagram.Frame from to e seq p) h p2 = p2
link_no_part (Datagram.Ack from to e next) h p2 = p2
link_no_part (Datagram.Part from to boot number index count bytes) h p2 = h
link_no_part (Datagram.Request c) h p2 = h
link_no_part (Datagram.Reply client number told) h p2 = h
link_no_part (Datagram.Operate ms) h p2 = h

pub part_is : (d : Datagram) (from to boot number index count : ℕ) (bytes : List ℕ) → d ≡ Datagram.Part from to boot number index count bytes → IsPart d
part_is d from to boot number index count bytes e = subst IsPart (sym e) tt

tick_sends : (t : ℕ) (w : World) (k : ℕ) (r : Replica) → IsTrue (active r.log) → (m : Packet) → Among (whole_step w k (step r Input.Ticked t)).after.packets m → Among w.packets m ⊎ IsOfLink m.datagram
tick_sends t w k r a m h = elim (among_either w.packets (map (packet_of k) x.sends) m (subst (λ l. Among l m) (packets_after w k x) h)) [
  | inl old ↦ inl old
  | inr new ↦ (let s = among_unmap (packet_of k) x.sends m new in
      inr (subst IsOfLink (ap (λ (z : Packet). z.datagram) (sym (packet_is k s.0) ∙ s.2)) (links_tell_little.on_tick r t a s.0 s.1)))
]
  where
    x : Draft
    x = step r Input.Ticked t

pub no_parts_after : (t : ℕ) (w : World) (k : ℕ) (r : Replica) → IsTrue (active r.log) → NoParts w → NoParts (whole_step w k (step r Input.Ticked t)).after
no_parts_after t w k r a h m mem fresh p = elim (tick_sends t w k r a m mem) [ inl old ↦ h m old fresh p | inr link ↦ link_no_part m.datagram link p ]

pub mild_after_tick : (t e : ℕ) → t < 2 ^ 64 → (w : World) (k : ℕ) (r : Replica) → slice_get w.sites k ≡ Some (Site.Up r) → IsTrue (active r.log) → MildPackets e w → MildPackets e (whole_step w k (step r Input.Ticked t)).after
mild_after_tick t e lt w k r up a h m mem fresh from to boot number index count bytes is = elim (tick_sends t w k r a m mem) [
  | inl old ↦ (let o = h m old fresh from to boot number index count bytes is in (o.0, told_calm e (λ j. ⊥) w _ (k ∷ []) (by_tick k t r lt stay up a) from to boot number count o.1))
  | inr link ↦ absurd (not_part m.datagram link from to boot number index count bytes is)
]

pub low_after_tick : (t e : ℕ) (w : World) (k : ℕ) (r : Replica) → slice_get w.sites k ≡ Some (Site.Up r) → IsTrue (active r.log) → LowDecisions e w → LowDecisions e (whole_step w k (step r Input.Ticked t)).after
low_after_tick t e w k r up a low = low_after e w k r (step r Input.Ticked t) up (let s = steps_stay r Input.Ticked t a in grows_decision r.me s.log) low

-- all ticks
pub ticks_keep : (P : World → Type 0) (t : ℕ) (ks : List ℕ) (w : World) → Distinct ks → ((w : World) (k : ℕ) (r : Replica) → slice_get w.sites k ≡ Some (Site.Up r) → IsTrue (active r.log) → P w → P (whole_step w k (step r Input.Ticked t)).after) →
    AllActive ks w → P w → P (ticks t ks w)
unfolding ticks
ticks_keep P t [] w d one a p = p
ticks_keep P t (k ∷ ks) w d one a p =
    let here_up = a k (inl refl) in
    let is = tick_up t k w here_up.0 here_up.1 in
    ticks_keep P t ks (tick t k w) d.1 one
    (λ j m. let b = a j (inr m) in (b.0, tick_other t k w j (λ z. d.0 (subst (Among ks) z m)) ∙ b.1, b.2))
    (subst P (sym is) (one w k here_up.0 here_up.1 here_up.2 p))

-- ---- the settle of the first round

-- a datagram between replicas that is no part is a frame or an Ack
pub between_link : (d : Datagram) → IsBetween d → (IsPart d → ⊥) → IsOfLink d
between_link (Datagram.Frame from to e seq p) b n = tt
between_link (Datagram.Ack from to e next) b n = tt
between_link (Datagram.Part from to boot number index count bytes) b n = absurd (n tt)
between_link (Datagram.Request c) b n = absurd b
between_link (Datagram.Reply client number told) b n = absurd b
between_link (Datagram.Operate ms) b n = absurd b

pub fresh_link : (n : ℕ) (w : World) → IsReached n w → NoParts w → (m : Packet) → Among w.packets m → m.used ≡ false → IsOfLink m.datagram
fresh_link n w q none m a fresh = between_link m.datagram ((all_held n w q).packets m a) (none m a fresh)

pub link_calm : (r : Replica) (from : ℕ) (d : Datagram) → IsOfLink d → IsCalmInput r (Input.Came from d)
link_calm r a (Datagram.Frame from to e seq p) h = tt
link_calm r a (Datagram.Ack from to e next) h = tt
link_calm r a (Datagram.Part from to boot number index count bytes) h = absurd h
link_calm r a (Datagram.Request c) h = absurd h
link_calm r a (Datagram.Reply client number told) h = absurd h
link_calm r a (Datagram.Operate ms) h = absurd h

-- a datagram between replicas is calm input where it is a part only of a mild message
pub between_calm : (n e : ℕ) (w : World) → IsReached n w → (k : ℕ) (r : Replica) → slice_get w.sites k ≡ Some (Site.Up r) → known r.log ≡ e → (a : ℕ) (d : Datagram) → WasSent w a k d → IsBetween d →
    ((from to boot number index count : ℕ) (bytes : List ℕ) → d ≡ Datagram.Part from to boot number index count bytes → (k ≡ to) × ToldMildly e w from to boot number count) → IsCalmInput r (Input.Came a d)
between_calm n e w q k r up knows a (Datagram.Frame from to x seq p) came b h = tt
between_calm n e w q k r up knows a (Datagram.Ack from to x next) came b h = tt
between_calm n e w q k r up knows a (Datagram.Part from to boot number index count bytes) came b h =
    let told = h from to boot number index count bytes refl in
    let p : Piece = record { from = from; boot = boot; number = number; index = index; count = count; bytes = bytes } in
    λ message c whole read. subst (λ z. IsMild z c) (sym knows)
    (whole_is_mild n e w q to r (subst (λ z. slice_get w.sites z ≡ Some (Site.Up r)) told.0 up) a p (subst (λ z. WasSent w a z (Datagram.Part from to boot number index count bytes)) told.0 came) told.1 message c whole read)
between_calm n e w q k r up knows a (Datagram.Request c) came b h = absurd b
between_calm n e w q k r up knows a (Datagram.Reply client number told) came b h = absurd b
between_calm n e w q k r up knows a (Datagram.Operate ms) came b h = absurd b

-- what holds along that settle
pub record StaysMild (e : ℕ) (u : World) : Type 0 where
  pub packets : MildPackets e u
  pub low : LowDecisions e u

mild_marked : (e i : ℕ) (u : World) → MildPackets e u → MildPackets e (use_up i u)
mild_marked e i u mild m a fresh from to boot number index count bytes is =
    let o = mild m (fresh_before i u m a fresh) fresh from to boot number index count bytes is in
    (o.0, told_calm e (λ j. ⊥) u (use_up i u) [] (marks i stay) from to boot number count o.1)

module _ (n e t : ℕ) (lt : t < 2 ^ 64) (v end : World) (spelt_at : (w : World) → IsReached n w → LogsGoOn w end → IsSpelt n w) (reached : IsReached n v) (all : List ℕ)
    (packets : (i : ℕ) → Among all i → (m : Packet) × (slice_get v.packets i ≡ Some m) × IsOfLink m.datagram) where
  abbrev G : World → Type 0
  G u = GoesCalmly (λ k. Unit {0}) v [] u

  one_mild : (u : World) → G u → (i : ℕ) → Among all i → LogsGoOn (after_go t u i) end → StaysMild e u → StaysMild e (after_go t u i)
  one_mild u g i a ends h = (let p = packets i a in go p.0 p.2 (calm_at (λ k. Unit {0}) v g i p.0 p.1) (up_or_not u p.0.to))
    where
      go : (m : Packet) → IsOfLink m.datagram → IsAt u.packets i m → IsUpOrNot u m.to → StaysMild e (after_go t u i)
      go m link at (Off none) = subst (StaysMild e) (sym (go_off t u i (record m { used = at.0 }) at.1 none)) (record { packets = mild_marked e i u h.packets; low = low_marked e i u h.low })
      go m link at (Up r up) =
          let is = go_up t u i (record m { used = at.0 }) r at.1 up in
          let up2 = mark_up i u m.to r up in
          let came = mark_sent u i m at in
          let q = calm_reached (λ k. Unit {0}) v n reached (marks i g) in
          let x = step r (Input.Came m.from m.datagram) t in
          let next = (whole_step (use_up i u) m.to x).after in
          let q_next = calm_reached (λ j. ⊥) (use_up i u) n q (by_packet m.to t r m.from m.datagram lt stay up2 came (λ c. absurd c)) in
          let spelt = spelt_at next q_next (subst (λ z. LogsGoOn z end) is ends) in
          let s = steps_stay r (Input.Came m.from m.datagram) t (link_calm r m.from m.datagram link) in
          subst (StaysMild e) (sym is) (record {
            packets = packets_stay_mild n e t (use_up i u) q m.to r up2 lt m.from m.datagram came spelt (low_marked e i u h.low) (links_tell_little.on_link r (Input.Came m.from m.datagram) t link) (mild_marked e i u h.packets);
            low = low_after e (use_up i u) m.to r x up2 (grows_decision r.me s.log) (low_marked e i u h.low);
          })

  calm_all : (u : World) → G u → LogsGoOn u end → (i : ℕ) (m : Packet) → Among all i → slice_get v.packets i ≡ Some m → Unit {0} → (r : Replica) → slice_get u.sites m.to ≡ Some (Site.Up r) → IsCalmInput r (Input.Came m.from m.datagram)
  calm_all u g ends i m a at c r up = (let p = packets i a in link_calm r m.from m.datagram (subst (λ (z : Packet). IsOfLink z.datagram) (same_Some p.0 m (sym p.1 ∙ at)) p.2))

  places : (i : ℕ) → Among all i → (m : Packet) × (slice_get v.packets i ≡ Some m)
  places i a = (let p = packets i a in (p.0, p.1))

  -- the settle leaves parts of mild messages alone
  pub settle_mild : (is : List ℕ) (u : World) → ((i : ℕ) → Among is i → Among all i) → G u → LogsGoOn (settled t is u) end → is_full (settled t is u) ≡ false → StaysMild e u → StaysMild e (settled t is u)
  settle_mild [] u sub g ends f h = subst (StaysMild e) (sym (off t u)) h
  settle_mild (i ∷ is) u sub g ends f h =
      let o = on t i is u (room t (i ∷ is) u f) in
      let ends2 = subst (λ z. LogsGoOn z end) o ends in
      let after_ends = logs_then (after_go t u i) (settled t is (after_go t u i)) end (settle_logs t lt is (after_go t u i)) ends2 in
      let before_ends = logs_then u (after_go t u i) end (go_logs t lt u i) after_ends in
      let g2 = go_calmly t (λ k. Unit {0}) v end lt all places calm_all u g before_ends i (sub i (inl refl)) in
      subst (StaysMild e) (sym o) (settle_mild is (after_go t u i) (λ j m. sub j (inr m)) g2 ends2 (ap is_full (sym o) ∙ f) (one_mild u g i (sub i (inl refl)) after_ends h))
