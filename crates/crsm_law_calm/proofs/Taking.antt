-- The second half of a round: members receive what was sent to them by its beginning.
use Rattle.std.proofs.Common.{◌≡◌, ℕ, ◌+◌, ◌<◌, ◌≤◌, List, [], ◌∷◌, ◌++◌, length, sym, ◌∙◌, ap, subst, inl, inr, arith}
use Rattle.std.specs.Prelude.{◌^◌, Some, slice_get, option_to_list}
use Rattle.std.proofs.lemmas.Option.{same_Some}
use Rattle.crsm_base.specs.MessageReading.{datagram_of}
use Rattle.crsm_spec.specs.Types.{Datagram}
use Rattle.crsm_spec.specs.Lists.{Among}
use Rattle.crsm_spec.specs.Replica.{Replica, Waiting, frames_to, next_from}
use Rattle.crsm_spec.specs.Draft.{Draft}
use Rattle.crsm_spec.specs.Node.{Turn, turn}
use Rattle.crsm_spec.specs.Step.{Input, step}
use Rattle.crsm_spec.specs.World.{Site, Packet, World, whole_step}
use Rattle.crsm_law_steps.specs.Happenings.{IsReached, WasSent}
use Rattle.crsm_law_epoch.specs.Numbers.{Distinct}
use Rattle.crsm_law_epoch.specs.Worlds.{sent_in}
use Rattle.crsm_law_epoch.proofs.LogSteps.{IsBetween}
use Rattle.crsm_law_epoch.proofs.Words.{among_map}
use Rattle.crsm_law_bounds.specs.Bounds.{IsSpelt, HasShortLogs as AreShort}
use Rattle.crsm_law_bounds.proofs.Worlds.{short_logs_are_spelt}
use Rattle.crsm_law_active.specs.Staying.{IsCalmInput}
use Rattle.crsm_law_active.proofs.Staying.{steps_stay}
use Rattle.crsm_law_rounds.specs.Rounds.GoesCalmly.{by_packet}
use Rattle.crsm_law_rounds.specs.Members.{IsMemberUp, AllUp}
use Rattle.crsm_law_rounds.proofs.Growing.{next_later}
use Rattle.crsm_law_rounds.proofs.Going.{up_one, calm_reached}
use Rattle.crsm_law_rounds.proofs.Links.{numbers}
use Rattle.crsm_law_rounds.proofs.Hearing.{ToldMildly}
use Rattle.crsm_law_rounds.proofs.Parts.{sent_calm, told_calm, between_calm}
use Rattle.crsm_law_rounds.proofs.Round.{frame_taken}
use Rattle.crsm_law_cluster.specs.Clusters.{Outgoing}
use Rattle.crsm_law_cluster.proofs.Same.{frame_from, ack_from, part_from}
use Rattle.crsm_law_calm.specs.Rounds.{datagram_in, received_in}
use Rattle.crsm_law_calm.proofs.Events.{datagram_turn}
use Rattle.crsm_law_calm.proofs.Halves.{Turned, Turns}
use Rattle.crsm_law_calm.proofs.Carrying.{Carried, carried_done}
use Rattle.crsm_law_calm.proofs.Serving.{AreServed, served_on}

-- the address of a datagram between replicas does not count
between_from : (r : Replica) (a b : ℕ) (d : Datagram) (t : ℕ) → IsBetween d → step r (Input.Came a d) t ≡ step r (Input.Came b d) t
between_from r a b (Datagram.Frame from to x seq p) t h = frame_from r a b from to x seq p t
between_from r a b (Datagram.Ack from to x next) t h = ack_from r a b from to x next t
between_from r a b (Datagram.Part from to boot number index count bytes) t h = part_from r a b from to boot number index count bytes t
between_from r a b (Datagram.Request c) t h = absurd h
between_from r a b (Datagram.Reply client number told) t h = absurd h
between_from r a b (Datagram.Operate ms) t h = absurd h

-- In this turn replica k receives a datagram that was sent to it in world v, a part only of a mild message, and of
-- this kind.
pub record IsTake (e : ℕ) (Kind : Datagram → Type 0) (v : World) (k : ℕ) (t : Turn × ℕ) : Type 0 where
  pub address : ℕ
  pub bytes : List ℕ
  pub reading : ℕ
  pub is : t ≡ (Turn.In address bytes, reading)
  pub lt : reading < 2 ^ 64
  pub datagram : Datagram
  pub reads : datagram_of bytes ≡ Some datagram
  pub from : ℕ
  pub sent : WasSent v from k datagram
  pub between : IsBetween datagram
  pub told : (a to boot number index count : ℕ) (bytes : List ℕ) → datagram ≡ Datagram.Part a to boot number index count bytes → (k ≡ to) × ToldMildly e v a to boot number count
  pub kind : Kind datagram

take_turn : (e : ℕ) (Kind : Datagram → Type 0) (v : World) (k : ℕ) (t : Turn × ℕ) (r : Replica) (o : IsTake e Kind v k t) → turn r t ≡ step r (Input.Came o.from o.datagram) o.reading
take_turn e Kind v k t r o = ap (turn r) o.is ∙ datagram_turn r o.address o.bytes o.reading o.datagram o.reads ∙ between_from r o.address o.from o.datagram o.reading o.between

take_datagram : (e : ℕ) (Kind : Datagram → Type 0) (v : World) (k : ℕ) (t : Turn × ℕ) (o : IsTake e Kind v k t) → datagram_in t ≡ o.datagram ∷ []
unfolding datagram_in
take_datagram e Kind v k t o = ap datagram_in o.is ∙ ap option_to_list o.reads

module _ (n e : ℕ) (ms : List ℕ) (most : n ≤ 15) (distinct : Distinct ms) (small : (k : ℕ) → Among ms k → k ≤ 14) (base : List (ℕ × Datagram)) (v : World) (h : AllUp n e ms v)
    (asked : ℕ → List Waiting) (epochs : (k : ℕ) → Among ms k → (c : Waiting) → Among (asked k) c → c.entry.epoch ≡ e) (Kind : Datagram → Type 0) (M : World → Type 0)
    (takes_keep : (w : World) (k t : ℕ) (r : Replica) (from : ℕ) (d : Datagram) → IsReached n w → t < 2 ^ 64 → slice_get w.sites k ≡ Some (Site.Up r) → WasSent w from k d → Kind d →
    IsSpelt n (whole_step w k (step r (Input.Came from d) t)).after → M w → M (whole_step w k (step r (Input.Came from d) t)).after) where
  -- the frames that members had pushed to j in v come in these turns, or have come
  abbrev pub Comes : ℕ → Replica → List (Turn × ℕ) → Type 0
  Comes j r todo =
      (i : ℕ) (q : Replica) → Among ms i → (i ≡ j → ⊥) → IsMemberUp e ms v i q → (a : ℕ) × (a ≤ next_from r i) × Carried i j e (length (frames_to q j)) (received_in todo) a

  abbrev pub NoTicks : List ℕ → World → Type 0
  NoTicks ts w = (ts ≡ []) × M w

  abbrev pub Takes : ℕ → Replica → List (Turn × ℕ) → List Outgoing → Type 0
  Takes k r todo made = AreServed (asked k) k r made × Comes k r todo

  module _ (w : World) (up : AllUp n e ms w) (k : ℕ) (in_k : Among ms k) (r : Replica) (mk : IsMemberUp e ms w k r) (from : ℕ) (d : Datagram) (t : ℕ) (sent : WasSent w from k d) (calm : IsCalmInput r (Input.Came from d)) where
    abbrev x : Draft
    x = step r (Input.Came from d) t

    was_sent : Among (sent_in w) d
    unfolding sent_in
    was_sent = among_map (λ (z : Packet). z.datagram) w.packets (record { from = from; to = k; datagram = d; used = sent.0 }) sent.1

    come_on : (i q a : ℕ) (ds : List Datagram) → Among ms i → (i ≡ k → ⊥) → a ≤ next_from r i → Carried i k e q (d ∷ ds) a → (b : ℕ) × (b ≤ next_from x.replica i) × Carried i k e q ds b
    come_on i q a ds in_i ne le c = elim c [
      | inl done ↦ (a, (let l = never in omega (arith, le, l)), carried_done i k e q ds a done)
      | inr more ↦ elim more [
        | inl frame ↦ (
          a + 1,
          subst (λ z. a + 1 ≤ next_from (step r (Input.Came from z) t).replica i) (sym frame.0.1)
              (frame_taken n e ms distinct small w up i k in_i in_k ne r mk a from t frame.0.0 (subst (Among (sent_in w)) frame.0.1 was_sent) le),
          frame.1,
        )
        | inr skip ↦ (a, (let l = never in omega (arith, le, l)), skip)
      ]
    ]
      where
        never : next_from r i ≤ next_from x.replica i
        never = next_later r x.replica i (steps_stay r (Input.Came from d) t calm).taken

  pub taking : Turns n e ms most distinct small base v h (IsTake e Kind v) NoTicks Takes
  unfolding received_in
  taking w ts g up spelt m k in_k r r_up t ok rest made q short =
      let o = up.member k in_k in
      let one = up_one o.0 r (same_Some _ _ (sym o.1.up ∙ r_up)) in
      let mk : IsMemberUp e ms w k r = subst (IsMemberUp e ms w k) one o.1 in
      let me : r.me ≡ k = (numbers n e ms w up k r mk).0 in
      let d = ok.datagram in
      let sent : WasSent w ok.from k d = sent_calm (λ k. Among ms k) v w ts g ok.from k d ok.sent in
      let calm = between_calm n e w up.reached k r r_up mk.knows ok.from d sent ok.between
      (λ a to boot number index count bytes is. let t = ok.told a to boot number index count bytes is in (t.0, told_calm e (λ k. Among ms k) v w ts g a to boot number count t.1)) in
      let is = take_turn e Kind v k t r ok in
      let goes = by_packet k ok.reading r ok.from d ok.lt g r_up sent (λ c. calm) in
      let spelt_after = short_logs_are_spelt n (whole_step w k (step r (Input.Came ok.from d) ok.reading)).after most (calm_reached (λ k. Among ms k) v n h.reached goes)
      (subst (λ x. AreShort (whole_step w k x).after) is short) in
      let first : received_in (t ∷ rest) ≡ d ∷ received_in rest = ap (λ z. z ++ received_in rest) (take_datagram e Kind v k t ok) in
      subst (λ x. Turned n e ms most distinct small base v h (IsTake e Kind v) NoTicks Takes w k x rest made) (sym is) (record {
        ticks = ts;
        goes = goes;
        holds = (m.0, takes_keep w k ok.reading r ok.from d up.reached ok.lt r_up sent ok.kind spelt_after m.1);
        now = (
          served_on (asked k) k e r (Input.Came ok.from d) ok.reading made calm me mk.knows (epochs k in_k) q.0,
          λ i s in_i ne mi. let b = q.1 i s in_i ne mi in
              come_on w up k in_k r mk ok.from d ok.reading sent calm i (length (frames_to s k)) b.0 (received_in rest) in_i ne b.1 (subst (λ z. Carried i k e (length (frames_to s k)) z b.0) first b.2),
        );
      })
