-- One calm round: each frame that was pushed before its settle is received in it.
use Rattle.std.proofs.Common.{◌≡◌, ℕ, zero, suc, ◌+◌, ◌<◌, ◌≤◌, List, [], ◌∷◌, ◌++◌, length, refl, sym, ◌∙◌, ap, subst, inl, inr, Bool, true, false, arith, map, drop}
use Rattle.std.specs.Prelude.{◌^◌, IsTrue, Some, slice_get, filter, not, ◌==◌}
use Rattle.std.specs.Option.{option_map_or}
use Rattle.std.specs.List.{enumerate_from}
use Rattle.std.proofs.lemmas.Bool.{cases_eq, eq-eqb, ne_eqb, eqb-true, false≢true}
use Rattle.std.proofs.lemmas.Option.{same_Some}
use Rattle.std.proofs.lemmas.List.{length-drop}
use Rattle.crsm_spec.specs.Types.{InEpoch, Datagram}
use Rattle.crsm_spec.specs.Lists.{Among}
use Rattle.crsm_spec.specs.Log.{known, members}
use Rattle.crsm_spec.specs.Replica.{Replica, members_of, other_members, frames_to, next_from, acked_by, unacked}
use Rattle.crsm_spec.specs.Draft.{Draft}
use Rattle.crsm_spec.specs.Step.{Input, step}
use Rattle.crsm_spec.specs.World.{Site, Packet, World, is_full, is_up, is_up_at, packet_of, whole_step}
use Rattle.crsm_spec.specs.Moments.{use_up, deliverable}
use Rattle.crsm_fact_log.proofs.Lists.{kept_from, kept_in}
use Rattle.crsm_fact_log.proofs.Logged.{extends_trans}
use Rattle.crsm_law_steps.specs.Laws.{LogsGoOn}
use Rattle.crsm_law_steps.proofs.Happen.{got_among}
use Rattle.crsm_law_epoch.specs.Numbers.{Distinct}
use Rattle.crsm_law_epoch.specs.LogWorlds.{HasFewBoots}
use Rattle.crsm_law_epoch.specs.Worlds.{sent_in}
use Rattle.crsm_law_epoch.proofs.Words.{among_map, among_unmap, distinct_filter}
use Rattle.crsm_law_active.specs.Again.{sent_to, frame_of}
use Rattle.crsm_law_active.specs.Staying.{IsCalmInput}
use Rattle.crsm_law_active.proofs.Again.{steps_send_again}
use Rattle.crsm_law_active.proofs.Staying.{steps_stay}
use Rattle.crsm_law_active.proofs.Worlds.{few_before}
use Rattle.crsm_law_rounds.specs.Rounds.{GoesCalmly, IsFrameAt, Carries}
use Rattle.crsm_law_rounds.specs.Rounds.GoesCalmly.{stay}
use Rattle.crsm_law_rounds.specs.Members.{IsMemberUp, AllUp}
use Rattle.crsm_law_rounds.proofs.Growing.{grows_known, grows_active, grows_members, next_later, greatest_among}
use Rattle.crsm_law_rounds.proofs.Going.{IsAt, StaysUp, up_one, calm_reached, calm_at, calm_later, site_after, other_site, mark_sites}
use Rattle.crsm_law_rounds.proofs.Ticks.{ticks, TickOf, tick_of, HaveTicked, have_ticked, passing, passing_then, passing_at, can_go, deliverable_is, carries_behind, carries_before, carries_sends, IsUpOrNot, Up, Off, up_or_not}
use Rattle.crsm_law_rounds.proofs.Settling.{after_go, go_up, go_off, settled, settle_logs, settle_goes, all_come, next_at, next_is, next_same, mark_up}
use Rattle.crsm_law_rounds.proofs.Links.{counted, numbers, next_is_taken, next_rises}

-- ---- a member stays one

pub later_member : (e count k : ℕ) (ms : List ℕ) (v w : World) (r : Replica) → IsMemberUp e ms v k r → (s : StaysUp count k r w) → IsMemberUp e ms w k s.replica
unfolding members_of
later_member e count k ms v w r m s =
    let l = s.later in
    record {
      up = s.up;
      knows = grows_known r.me l.log ∙ m.knows;
      runs = grows_active r.me l.log ∙ m.runs;
      counts = ap (λ i. members i s.replica.log) l.n ∙ grows_members r.me r.n l.log ∙ m.counts;
    }

-- numbers before what was dropped
drop_numbers : {A : Type 0} (a b : ℕ) (xs : List A) → drop a (enumerate_from b xs) ≡ enumerate_from (b + a) (drop a xs)
drop_numbers zero b xs = ap (λ i. enumerate_from i xs) (omega arith)
drop_numbers (suc a) b [] = refl
drop_numbers (suc a) b (x ∷ xs) = drop_numbers a (b + 1) xs ∙ ap (λ i. enumerate_from i (drop a xs)) (omega arith)

module _ (n e : ℕ) (ms : List ℕ) (distinct : Distinct ms) (small : (k : ℕ) → Among ms k → k ≤ 14) where
  abbrev pub C : ℕ → Type 0
  C k = Among ms k

  pub up_later : (v w : World) → AllUp n e ms v → {ts : List ℕ} → GoesCalmly C v ts w → HasFewBoots w → AllUp n e ms w
  up_later v w h g few = record {
    reached = calm_reached C v n h.reached g;
    few = few;
    member = λ k m. let o = h.member k m in let s = calm_later C v k o.0 m o.1.up g in (s.replica, later_member e _ k ms v w o.0 o.1 s);
  }

  -- the other members of a member
  pub others_distinct : (w : World) (k : ℕ) (r : Replica) → IsMemberUp e ms w k r → Distinct (other_members r)
  unfolding other_members
  others_distinct w k r m = distinct_filter (λ i. not (i == r.me)) (members_of r) (subst Distinct (sym m.counts) distinct)

  pub is_other : (w : World) (k j : ℕ) (r : Replica) → IsMemberUp e ms w k r → r.me ≡ k → Among ms j → (k ≡ j → ⊥) → Among (other_members r) j
  unfolding other_members
  is_other w k j r m me a ne =
      kept_in (λ i. not (i == r.me)) (members_of r) j (subst (λ l. Among l j) (sym m.counts) a) (ap not (ne_eqb j r.me (λ q. ne (sym (q ∙ me)))))

  pub other_is : (w : World) (k j : ℕ) (r : Replica) → IsMemberUp e ms w k r → r.me ≡ k → Among (other_members r) j → Among ms j × (k ≡ j → ⊥)
  unfolding other_members
  other_is w k j r m me a =
      let t = kept_from (λ i. not (i == r.me)) (members_of r) j a in
      (subst (λ l. Among l j) m.counts t.0, λ q. not_self (j == r.me) (eq-eqb j r.me (sym (me ∙ q))) t.1)
    where
      not_self : (b : Bool) → b ≡ true → IsTrue (not b) → ⊥
      not_self true q h = false≢true h
      not_self false q h = false≢true q

  -- ---- one link, from k to j

  module _ (u : World) (h : AllUp n e ms u) (k j : ℕ) (in_k : Among ms k) (in_j : Among ms j) (ne : k ≡ j → ⊥) where
    -- a frame of the next number, or of a lower one, leaves the link beyond it
    pub frame_taken : (q : Replica) → IsMemberUp e ms u j q → (a from t : ℕ) (p : InEpoch) → Among (sent_in u) (Datagram.Frame k j e a p) → a ≤ next_from q k →
        a + 1 ≤ next_from (step q (Input.Came from (Datagram.Frame k j e a p)) t).replica k
    frame_taken q mj a from t p sent le =
        let mk = h.member k in_k in
        let x = step q (Input.Came from (Datagram.Frame k j e a p)) t in
        let stays = steps_stay q (Input.Came from (Datagram.Frame k j e a p)) t tt in
        let never = next_later q x.replica k stays.taken in
        elim (cases_eq a (next_from q k)) [
          | inr less ↦ omega (arith, never, le, less)
          | inl next ↦ (let sent2 = subst (λ z. Among (sent_in u) (Datagram.Frame k j e z p)) next sent in
              let taken = next_is_taken n e ms u h k j mk.0 q mk.1 mj in_k ne t from p (small k in_k) sent2 in
              let same_input : step q (Input.Came from (Datagram.Frame k j e (next_from q k) p)) t ≡ x = ap (λ z. step q (Input.Came from (Datagram.Frame k j e z p)) t) (sym next) in
              let rises = next_rises n e ms u h k j mk.0 q mk.1 mj in_k ne x.replica (sym (ap (λ (d : Draft). d.replica.taken) same_input) ∙ taken) in
              omega (arith, rises, next))
        ]

    -- what was acknowledged has been taken
    pub acked_taken : (r q : Replica) → IsMemberUp e ms u k r → IsMemberUp e ms u j q → acked_by r j ≤ next_from q k
    unfolding acked_by
    acked_taken r q mk mj =
        let ck = counted n e ms u h k r mk in
        let cj = counted n e ms u h j q mj in
        elim (greatest_among (map (λ (z : ℕ × ℕ). z.1) (filter (λ z. z.0 == j) r.acked))) [
          | inl none ↦ omega (arith, none)
          | inr m ↦ (let y = among_unmap (λ (z : ℕ × ℕ). z.1) (filter (λ z. z.0 == j) r.acked) _ m in
              let f = kept_from (λ (z : ℕ × ℕ). z.0 == j) r.acked y.0 y.1 in
              let here : Among r.acked (j, y.0.1) = subst (λ z. Among r.acked (z, y.0.1)) (eqb-true y.0.0 j f.1) f.0 in
              let ack = subst (λ z. Among (sent_in u) (Datagram.Ack j k z y.0.1)) (mk.knows ∙ sym mj.knows) (ck.acks j y.0.1 here) in
              let le = cj.told k y.0.1 ack in
              let same_number = y.2 in
              omega (arith, le, same_number))
        ]

    -- a tick sends all that is not acknowledged, in order
    pub sent_again : (t : ℕ) (r : Replica) → IsMemberUp e ms u k r → length (unacked r j) ≤ 64 →
        sent_to j (step r Input.Ticked t).sends
        ≡ map (frame_of k e j) (enumerate_from (acked_by (step r Input.Ticked t).replica j) (drop (acked_by (step r Input.Ticked t).replica j) (frames_to (step r Input.Ticked t).replica j)))
    unfolding unacked
    sent_again t r mk few_frames =
        let x = step r Input.Ticked t in
        let a = acked_by x.replica j in
        let nums = numbers n e ms u h k r mk in
        let other = is_other u k j r mk nums.0 in_j ne in
        let pushed = (counted n e ms u h k r mk).pushed j in
        steps_send_again r t j mk.runs (others_distinct u k r mk) other few_frames pushed
        ∙ ap (λ z. map (frame_of z (known r.log) j) (drop a (enumerate_from 0 (frames_to x.replica j)))) nums.0
        ∙ ap (λ z. map (frame_of k z j) (drop a (enumerate_from 0 (frames_to x.replica j)))) mk.knows
        ∙ ap (map (frame_of k e j)) (drop_numbers a 0 (frames_to x.replica j) ∙ ap (λ i. enumerate_from i (drop a (frames_to x.replica j))) (omega arith))

  -- from what was acknowledged to the end
  pub frames_left : (w : World) (h : AllUp n e ms w) (k j : ℕ) (r : Replica) → IsMemberUp e ms w k r → acked_by r j + length (drop (acked_by r j) (frames_to r j)) ≡ length (frames_to r j)
  frames_left w h k j r mk = (let l = length-drop (acked_by r j) (frames_to r j) in let p = (counted n e ms w h k r mk).pushed j in omega (arith, l, p))

  module _ (t : ℕ) (lt : t < 2 ^ 64) (v end : World) (h : AllUp n e ms v) (few : HasFewBoots end) (ends : LogsGoOn (settled t (deliverable (ticks t ms v)) (ticks t ms v)) end)
      (free : is_full (settled t (deliverable (ticks t ms v)) (ticks t ms v)) ≡ false)
      (short : (k j : ℕ) (r : Replica) → IsMemberUp e ms v k r → Among (other_members r) j → length (unacked r j) ≤ 64)
      (calm : (u : World) → GoesCalmly (λ k. Among ms k) (ticks t ms v) [] u → LogsGoOn u end → (i : ℕ) (m : Packet) → Among (deliverable (ticks t ms v)) i →
      slice_get (ticks t ms v).packets i ≡ Some m → Among ms m.to → (r : Replica) → slice_get u.sites m.to ≡ Some (Site.Up r) → IsCalmInput r (Input.Came m.from m.datagram)) where
    abbrev w1 : World
    w1 = ticks t ms v

    abbrev w2 : World
    w2 = settled t (deliverable w1) w1

    ticked : HaveTicked t C v ms v
    ticked = have_ticked t C v ms [] v lt distinct stay (λ k m. let o = h.member k m in (o.0, o.1.up, o.1.runs))

    logs1 : LogsGoOn w1 end
    logs1 = λ k. extends_trans (settle_logs t lt (deliverable w1) w1 k) (ends k)

    pub up1 : AllUp n e ms w1
    up1 = up_later v w1 h ticked.goes (few_before w1 end logs1 few)

    packets : (i : ℕ) → Among (deliverable w1) i → (m : Packet) × (slice_get w1.packets i ≡ Some m)
    packets i a =
        let p = passing_at (can_go w1) 0 w1.packets i (subst (λ l. Among l i) (deliverable_is w1) a) in
        (p.1, subst (λ z. slice_get w1.packets z ≡ Some p.1) (let z = p.2 in omega (arith, z)) p.3)

    pub goes2 : GoesCalmly C w1 [] w2
    goes2 = settle_goes t C w1 end lt (deliverable w1) packets calm (deliverable w1) w1 (λ i m. m) stay ends free

    pub up_at : (u : World) → GoesCalmly C w1 [] u → LogsGoOn u end → AllUp n e ms u
    up_at u g on_end = up_later w1 u up1 g (few_before u end on_end few)

    pub up2 : AllUp n e ms w2
    up2 = up_at w2 goes2 ends

    -- what a member is when all have ticked
    tick_at : (k : ℕ) (r : Replica) → Among ms k → IsMemberUp e ms v k r → TickOf t ms v k r
    tick_at k r in_k mk = tick_of t ms v k r distinct in_k mk.up

    pub ticked_at : (k : ℕ) (r : Replica) → Among ms k → IsMemberUp e ms v k r → IsMemberUp e ms w1 k (step r Input.Ticked t).replica
    ticked_at k r in_k mk =
        let o = up1.member k in_k in
        subst (IsMemberUp e ms w1 k) (up_one o.0 (step r Input.Ticked t).replica (same_Some _ _ (sym o.1.up ∙ (tick_at k r in_k mk).up))) o.1

    -- ---- one link

    module _ (k j : ℕ) (in_k : Among ms k) (in_j : Among ms j) (ne : k ≡ j → ⊥) where
      -- a delivery never takes a frame back
      never_back : (u : World) → GoesCalmly C w1 [] u → LogsGoOn u end → (i : ℕ) → Among (deliverable w1) i → next_at k j u ≤ next_at k j (after_go t u i)
      never_back u g on_end i a =
          let p = packets i a in
          let o = (up_at u g on_end).member j in_j in
          go p.0 p.1 (calm_at C w1 g i p.0 p.1) o.0 o.1 (up_or_not u p.0.to)
        where
          go : (m : Packet) → slice_get w1.packets i ≡ Some m → IsAt u.packets i m → (q : Replica) → IsMemberUp e ms u j q → IsUpOrNot u m.to → next_at k j u ≤ next_at k j (after_go t u i)
          go m e1 at q mj (Off none) =
              let is = go_off t u i (record m { used = at.0 }) at.1 none in
              let same_next = next_same k j u (after_go t u i) (ap (λ (z : World). slice_get z.sites j) is ∙ ap (λ ss. slice_get ss j) (mark_sites i u)) in
              omega (arith, same_next)
          go m e1 at q mj (Up r up) =
              let x = step r (Input.Came m.from m.datagram) t in
              let is = go_up t u i (record m { used = at.0 }) r at.1 up in
              elim (cases_eq j m.to) [
                | inr other ↦ (let same_next = next_same k j u (after_go t u i)
                    (ap (λ (z : World). slice_get z.sites j) is ∙ other_site (use_up i u) m.to j x other ∙ ap (λ ss. slice_get ss j) (mark_sites i u)) in
                    omega (arith, same_next))
                | inl here ↦ (let one : r ≡ q = up_one r q (same_Some _ _ (sym (subst (λ z. slice_get u.sites z ≡ Some (Site.Up r)) (sym here) up) ∙ mj.up)) in
                    let now : slice_get (after_go t u i).sites j ≡ Some (Site.Up x.replica) =
                    ap (λ (z : World). slice_get z.sites j) is ∙ subst (λ z. slice_get (whole_step (use_up i u) m.to x).after.sites z ≡ Some (Site.Up x.replica)) (sym here) (site_after (use_up i u) m.to (Site.Up r) x (mark_up i u m.to r up)) in
                    let stays = steps_stay r (Input.Came m.from m.datagram) t (calm u g on_end i m a e1 (subst (Among ms) here in_j) r up) in
                    let le = next_later r x.replica k stays.taken in
                    let old = next_is k j u q mj.up in
                    let same_q = ap (λ z. next_from z k) one in
                    let new = next_is k j (after_go t u i) x.replica now in
                    omega (arith, le, old, same_q, new))
              ]

      -- a frame of the next number, or of a lower one, leaves the link beyond it
      takes : (u : World) → GoesCalmly C w1 [] u → LogsGoOn u end → (i a : ℕ) → Among (deliverable w1) i → IsFrameAt w1.packets i k j e a → a ≤ next_at k j u → a + 1 ≤ next_at k j (after_go t u i)
      unfolding sent_in
      takes u g on_end i a in_all frame le =
          let up = up_at u g on_end in
          let mj = up.member j in_j in
          let m = frame.0 in
          let at = calm_at C w1 g i m frame.2 in
          let here : slice_get u.sites m.to ≡ Some (Site.Up mj.0) = subst (λ z. slice_get u.sites z ≡ Some (Site.Up mj.0)) (sym frame.3) mj.1.up in
          let is = go_up t u i (record m { used = at.0 }) mj.0 at.1 here in
          let x = step mj.0 (Input.Came m.from m.datagram) t in
          let now : slice_get (after_go t u i).sites j ≡ Some (Site.Up x.replica) =
          ap (λ (z : World). slice_get z.sites j) is ∙ subst (λ z. slice_get (whole_step (use_up i u) m.to x).after.sites z ≡ Some (Site.Up x.replica)) frame.3 (site_after (use_up i u) m.to (Site.Up mj.0) x (mark_up i u m.to mj.0 here)) in
          let old = next_is k j u mj.0 mj.1.up in
          let new = next_is k j (after_go t u i) x.replica now in
          let sent : Among (sent_in u) (Datagram.Frame k j e a frame.1) = subst (Among (sent_in u)) frame.4 (was_sent u i m at) in
          let beyond = frame_taken u up k j in_k in_j ne mj.0 mj.1 a m.from t frame.1 sent (omega (arith, le, old)) in
          let same_input = ap (λ d. next_from (step mj.0 (Input.Came m.from d) t).replica k) frame.4 in
          omega (arith, beyond, same_input, new)
        where
          was_sent : (u : World) (i : ℕ) (m : Packet) → IsAt u.packets i m → Among (sent_in u) m.datagram
          was_sent u i m at = among_map (λ (z : Packet). z.datagram) u.packets (record m { used = at.0 }) (got_among u.packets i _ at.1)

      -- ---- what is carried

      module _ (r : Replica) (mk : IsMemberUp e ms v k r) where
        abbrev x : Draft
        x = step r Input.Ticked t

        abbrev a : ℕ
        a = acked_by x.replica j

        of_tick : TickOf t ms v k r
        of_tick = tick_at k r in_k mk

        now_k : IsMemberUp e ms w1 k x.replica
        now_k = ticked_at k r in_k mk

        few_frames : length (unacked r j) ≤ 64
        few_frames = short k j r mk (is_other v k j r mk (numbers n e ms v h k r mk).0 in_j ne)

        can_come : (m : Packet) → m.used ≡ false → m.to ≡ j → can_go w1 m ≡ true
        unfolding can_go is_up_at is_up
        can_come m fresh to = rw (fresh, to) (ap (λ o. option_map_or is_up o false) ((up1.member j in_j).1.up))

        carried : Carries w1.packets k j e (length (frames_to x.replica j)) (deliverable w1) a
        carried =
            let P = can_go w1 in
            let sends = map (packet_of k) x.sends in
            let b = of_tick.before in
            let c = carries_sends w1.packets k j e P can_come k x.sends b of_tick.more a (drop a (frames_to x.replica j)) of_tick.packets (sent_again v h k j in_k in_j ne t r mk few_frames) in
            let q = length (frames_to x.replica j) in
            let c2 : Carries w1.packets k j e q (passing P (0 + length b) sends) a =
            subst (λ i. Carries w1.packets k j e q (passing P i sends) a) (omega arith) (subst (λ z. Carries w1.packets k j e z (passing P (length b) sends) a) (frames_left w1 up1 k j x.replica now_k) c) in
            let all : deliverable w1 ≡ passing P 0 b ++ (passing P (0 + length b) sends ++ passing P (0 + length b + length sends) of_tick.more) =
            deliverable_is w1 ∙ ap (passing P 0) of_tick.packets ∙ passing_then P 0 b (sends ++ of_tick.more) ∙ ap (λ l. passing P 0 b ++ l) (passing_then P (0 + length b) sends of_tick.more) in
            subst (λ l. Carries w1.packets k j e q l a) (sym all)
            (carries_behind w1.packets k j e q (passing P 0 b) _ a (carries_before w1.packets k j e q (passing P (0 + length b) sends) (passing P (0 + length b + length sends) of_tick.more) a c2))

        -- what was acknowledged has been taken
        begins : a ≤ next_at k j w1
        begins =
            let mj = up1.member j in_j in
            let is = next_is k j w1 mj.0 mj.1.up in
            let le = acked_taken w1 up1 k j in_k in_j ne x.replica mj.0 now_k mj.1 in
            omega (arith, le, is)

        -- the link is taken to its end
        come_all : length (frames_to x.replica j) ≤ next_at k j w2
        come_all = all_come t C w1 end lt (deliverable w1) packets calm k j e never_back takes (deliverable w1) w1 a (length (frames_to x.replica j)) (λ i m. m) stay ends free carried begins

    -- Each frame that a member had pushed to another when the settle began is taken when it ends.
    pub come : (k j : ℕ) (r q : Replica) → Among ms k → Among ms j → (k ≡ j → ⊥) → IsMemberUp e ms w1 k r → IsMemberUp e ms w2 j q → length (frames_to r j) ≤ next_from q k
    come k j r q in_k in_j ne mk mj =
        let o = h.member k in_k in
        let is = now_k k j in_k in_j ne o.0 o.1 in
        let one : (step o.0 Input.Ticked t).replica ≡ r = up_one _ r (same_Some _ _ (sym is.up ∙ mk.up)) in
        let le = come_all k j in_k in_j ne o.0 o.1 in
        let at = next_is k j w2 q mj.up in
        let frames = ap (λ (z : Replica). length (frames_to z j)) one in
        omega (arith, le, at, frames)

-- ---- what a round has done

-- From v by the ticks to w1, each member's at its reading, and by what is received to w2: the members stay up, each
-- ticks once, and each frame of a link between them that was pushed by w1 is received by w2.
pub record RoundDone (n e : ℕ) (t : ℕ → ℕ) (ms : List ℕ) (v w1 w2 : World) : Type 0 where
  pub up1 : AllUp n e ms w1
  pub up2 : AllUp n e ms w2
  pub goes2 : GoesCalmly (λ k. Among ms k) w1 [] w2
  pub ticked : (k : ℕ) (r : Replica) → Among ms k → IsMemberUp e ms v k r → IsMemberUp e ms w1 k (step r Input.Ticked (t k)).replica
  pub come : (k j : ℕ) (r q : Replica) → Among ms k → Among ms j → (k ≡ j → ⊥) → IsMemberUp e ms w1 k r → IsMemberUp e ms w2 j q → length (frames_to r j) ≤ next_from q k

pub round_done : (n e t : ℕ) (ms : List ℕ) (lt : t < 2 ^ 64) → Distinct ms → ((k : ℕ) → Among ms k → k ≤ 14) → (v end : World) → AllUp n e ms v → HasFewBoots end →
    LogsGoOn (settled t (deliverable (ticks t ms v)) (ticks t ms v)) end → is_full (settled t (deliverable (ticks t ms v)) (ticks t ms v)) ≡ false →
    ((k j : ℕ) (r : Replica) → IsMemberUp e ms v k r → Among (other_members r) j → length (unacked r j) ≤ 64) →
    ((u : World) → GoesCalmly (λ k. Among ms k) (ticks t ms v) [] u → LogsGoOn u end → (i : ℕ) (m : Packet) → Among (deliverable (ticks t ms v)) i →
    slice_get (ticks t ms v).packets i ≡ Some m → Among ms m.to → (r : Replica) → slice_get u.sites m.to ≡ Some (Site.Up r) → IsCalmInput r (Input.Came m.from m.datagram)) →
    RoundDone n e (λ k. t) ms v (ticks t ms v) (settled t (deliverable (ticks t ms v)) (ticks t ms v))
round_done n e t ms lt distinct small v end h few ends free short calm = record {
  up1 = up1 n e ms distinct small t lt v end h few ends free short calm;
  up2 = up2 n e ms distinct small t lt v end h few ends free short calm;
  goes2 = goes2 n e ms distinct small t lt v end h few ends free short calm;
  ticked = ticked_at n e ms distinct small t lt v end h few ends free short calm;
  come = come n e ms distinct small t lt v end h few ends free short calm;
}
