-- Each kind of change of a replica keeps what it has counted.
use Rattle.std.proofs.Common.{◌≡◌, ℕ, ◌+◌, ◌<◌, ◌≤◌, List, [], ◌∷◌, ◌++◌, length, refl, sym, ◌∙◌, ap, subst, inl, inr, Bool, true, false, cond, arith, map, length-append}
use Rattle.std.specs.Prelude.{◌⊎◌, filter, not, ◌==◌, count_by}
use Rattle.std.proofs.lemmas.Bool.{cases_eq, cases_lt, eqb-true}
use Rattle.std.proofs.lemmas.List.{map-append}
use Rattle.std.proofs.lemmas.List.Elements.{filter-append}
use Rattle.crsm_spec.specs.Types.{Stamp, Entry, Rec, InEpoch, Datagram}
use Rattle.crsm_spec.specs.Lists.{Among, greatest}
use Rattle.crsm_spec.specs.Log.{known, decision, members}
use Rattle.crsm_spec.specs.Replica.{Replica, Coordinator, Waiting, members_of, other_members, frames_to, next_from, acked_by}
use Rattle.crsm_spec.specs.Parts.{Piece}
use Rattle.crsm_spec.specs.Frames.{time_of, with_stamp}
use Rattle.crsm_base.specs.Order.{stamp_lt}
use Rattle.crsm_spec.specs.Choice.{when◌then◌otherwise◌}
use Rattle.crsm_fact_log.proofs.Lists.{among_left}
use Rattle.crsm_law_epoch.specs.Numbers.{Distinct}
use Rattle.crsm_law_epoch.proofs.CommitEffects.{same_entry}
use Rattle.crsm_law_epoch.proofs.Quiet.{IsNoEntry, strip}
use Rattle.crsm_law_epoch.proofs.Words.{count_same, count_other}
use Rattle.crsm_law_active.proofs.Again.{pair_one}
use Rattle.crsm_law_active.specs.Counted.{IsOf, HasVote, IsPaidTo, Counted}

-- ---- more was sent

pub more_sent : (k : ℕ) (r : Replica) (all after : List Datagram) → ((d : Datagram) → Among all d → Among after d) →
    ((m a : ℕ) → Among after (Datagram.Ack k m (known r.log) a) → a ≤ next_from r m) → Counted k r all → Counted k r after
more_sent k r all after grow told c = record {
  taken = λ m i lt. let t = c.taken m i lt in (t.0, grow _ t.1, t.2, t.3);
  voted = c.voted;
  heard = c.heard;
  paid = c.paid;
  even = c.even;
  later = c.later;
  pushed = c.pushed;
  acks = λ j a h. grow _ (c.acks j a h);
  told = told;
}

-- ---- what is counted stays

pub record IsAlike (r q : Replica) : Type 0 where
  pub me : q.me ≡ r.me
  pub n : q.n ≡ r.n
  pub log : q.log ≡ r.log
  pub issued : q.issued ≡ r.issued
  pub received : q.received ≡ r.received
  pub votes : q.votes ≡ r.votes
  pub owed : q.owed ≡ r.owed
  pub pushed : q.pushed ≡ r.pushed
  pub acked : q.acked ≡ r.acked
  pub taken : q.taken ≡ r.taken

module _ (k : ℕ) (all : List Datagram) where
  rest : (r : Replica) (ps : List Piece) (c : Coordinator) (made : ℕ) (ws : List Waiting) → Counted k r all →
      Counted k (record r { parts = ps; coordinator = c; made = made; waiting = ws }) all
  unfolding next_from frames_to acked_by other_members members_of
  rest r ps c made ws h = record { taken = h.taken; voted = h.voted; heard = h.heard; paid = h.paid; even = h.even; later = h.later; pushed = h.pushed; acks = h.acks; told = h.told }

  rebuilt : (r q : Replica) → q.me ≡ r.me → q.n ≡ r.n → q.log ≡ r.log → q.issued ≡ r.issued → q.received ≡ r.received → q.votes ≡ r.votes → q.owed ≡ r.owed → q.pushed ≡ r.pushed →
      q.acked ≡ r.acked → q.taken ≡ r.taken → record r { parts = q.parts; coordinator = q.coordinator; made = q.made; waiting = q.waiting } ≡ q
  rebuilt r q me n log issued received votes owed pushed acked taken =
      let same : record r { parts = q.parts; coordinator = q.coordinator; made = q.made; waiting = q.waiting }
      ≡ record q {
        me = q.me;
        n = q.n;
        log = q.log;
        issued = q.issued;
        received = q.received;
        votes = q.votes;
        owed = q.owed;
        pushed = q.pushed;
        acked = q.acked;
        taken = q.taken;
      } = rw (me, n, log, issued, received, votes, owed, pushed, acked, taken) refl in
      same

  pub alike : (r q : Replica) → IsAlike r q → Counted k r all → Counted k q all
  alike r q a h = subst (λ z. Counted k z all) (rebuilt r q a.me a.n a.log a.issued a.received a.votes a.owed a.pushed a.acked a.taken) (rest r q.parts q.coordinator q.made q.waiting h)

  -- what stands outside of the epoch is not counted
  pub like : (r : Replica) (ps : List Piece) (c : Coordinator) (made : ℕ) (ws : List Waiting) → IsAlike r (record r { parts = ps; coordinator = c; made = made; waiting = ws })
  like r ps c made ws = record { me = refl; n = refl; log = refl; issued = refl; received = refl; votes = refl; owed = refl; pushed = refl; acked = refl; taken = refl }

  -- ---- a record that is no entry, within the epoch

  pub recorded : (r : Replica) (rec : Rec) → IsNoEntry rec → known (rec ∷ r.log) ≡ known r.log → members r.n (rec ∷ r.log) ≡ members r.n r.log → Counted k r all →
      Counted k (record r { log = rec ∷ r.log }) all
  unfolding next_from frames_to acked_by other_members members_of
  recorded r rec none kn ms c =
      let back : ((f : Entry) → IsOf (rec ∷ r.log) f → IsOf r.log f) = λ f h. (strip rec r.log f none h.0, h.1 ∙ kn) in
      let peer = λ (j : ℕ) (m : Among (filter (λ i. not (i == r.me)) (members r.n (rec ∷ r.log))) j). subst (λ ks. Among (filter (λ i. not (i == r.me)) ks) j) ms m in
      record {
        taken = λ m i lt. let t = c.taken m i lt in (t.0, subst (λ e. Among all (Datagram.Frame m k e i t.0)) (sym kn) t.1, t.2, t.3);
        voted = λ f h. c.voted f (back f h);
        heard = λ f h o. c.heard f (back f h) o;
        paid = λ f h o. elim (c.paid f (back f h) o) [ inl w ↦ inl w | inr w ↦ inr (λ j m. w j (peer j m)) ];
        even = λ j m. c.even j (peer j m);
        later = c.later;
        pushed = c.pushed;
        acks = λ j a h. subst (λ e. Among all (Datagram.Ack j k e a)) (sym kn) (c.acks j a h);
        told = λ m a h. c.told m a (subst (λ e. Among all (Datagram.Ack k m e a)) kn h);
      }

  -- ---- an own entry

  pub own_entry : (r : Replica) (f : Entry) → f.stamp.origin ≡ k → r.me ≡ k → Counted k r all → Counted k (record r { log = Rec.Prepare f ∷ r.log; votes = (f.stamp, r.me) ∷ r.votes }) all
  unfolding next_from frames_to acked_by other_members members_of known members decision
  own_entry r f own me c = record {
    taken = λ m i lt. let t = c.taken m i lt in (t.0, t.1, t.2, more_votes m t.0 t.3);
    voted = λ g h. elim h.0 [
      | inl e ↦ (let q = same_entry f g e in
          (inl (ap (λ z. (z.stamp, r.me)) q ∙ ap (λ i. (g.stamp, i)) me), inl (ap (λ z. (z.stamp, r.me)) q ∙ ap (λ i. (g.stamp, i)) (me ∙ sym own ∙ ap (λ z. z.stamp.origin) q))))
      | inr o ↦ (let t = c.voted g (o, h.1) in (inr t.0, inr t.1))
    ];
    heard = λ g h o. elim h.0 [ inl e ↦ absurd (o (sym (ap (λ z. z.stamp.origin) (same_entry f g e)) ∙ own)) | inr q ↦ c.heard g (q, h.1) o ];
    paid = λ g h o. elim h.0 [ inl e ↦ absurd (o (sym (ap (λ z. z.stamp.origin) (same_entry f g e)) ∙ own)) | inr q ↦ c.paid g (q, h.1) o ];
    even = c.even;
    later = c.later;
    pushed = c.pushed;
    acks = c.acks;
    told = c.told;
  }
    where
      more_votes : (m : ℕ) (p : InEpoch) → HasVote r m p → HasVote (record r { log = Rec.Prepare f ∷ r.log; votes = (f.stamp, r.me) ∷ r.votes }) m p
      more_votes m (InEpoch.PrepareOk s t) v = inr v
      more_votes m (InEpoch.Prepare g) v = tt
      more_votes m (InEpoch.ClockTime t) v = tt

  -- ---- an entry of another, whose time was heard

  with_stamp_here : (s : Stamp) (ss : List Stamp) → Among (with_stamp s ss) s
  unfolding with_stamp when◌then◌otherwise◌
  with_stamp_here s [] = inl refl
  with_stamp_here s (u ∷ us) = go (stamp_lt s u) (with_stamp_here s us)
    where
      go : (b : Bool) → Among (with_stamp s us) s → Among (when b then s ∷ u ∷ us otherwise u ∷ with_stamp s us) s
      go true h = inl refl
      go false h = inr h

  with_stamp_keeps : (s : Stamp) (ss : List Stamp) (t : Stamp) → Among ss t → Among (with_stamp s ss) t
  unfolding with_stamp when◌then◌otherwise◌
  with_stamp_keeps s [] t h = absurd h
  with_stamp_keeps s (u ∷ us) t h = go (stamp_lt s u) (λ q. with_stamp_keeps s us t q) h
    where
      go : (b : Bool) → (Among us t → Among (with_stamp s us) t) → Among (u ∷ us) t → Among (when b then s ∷ u ∷ us otherwise u ∷ with_stamp s us) t
      go true f q = inr q
      go false f (inl e) = inl e
      go false f (inr q) = inr (f q)

  pub others_entry : (r : Replica) (g : Entry) (m : ℕ) → g.stamp.origin ≡ m → r.me ≡ k → Among r.received (m, g.stamp.time) → Counted k r all →
      Counted k (record r { log = Rec.Prepare g ∷ r.log; votes = (g.stamp, r.me) ∷ (g.stamp, m) ∷ r.votes; owed = with_stamp g.stamp r.owed }) all
  unfolding next_from frames_to acked_by other_members members_of known members decision
  others_entry r g m from me heard c = record {
    taken = λ j i lt. let t = c.taken j i lt in (t.0, t.1, t.2, more_votes j t.0 t.3);
    voted = λ f h. elim h.0 [
      | inl e ↦ (let q = same_entry g f e in
          (inl (ap (λ z. (z.stamp, r.me)) q ∙ ap (λ i. (f.stamp, i)) me), inr (inl (ap (λ z. (z.stamp, m)) q ∙ ap (λ i. (f.stamp, i)) (sym from ∙ ap (λ z. z.stamp.origin) q)))))
      | inr o ↦ (let t = c.voted f (o, h.1) in (inr (inr t.0), inr (inr t.1)))
    ];
    heard = λ f h o. elim h.0 [
      | inl e ↦ (let q = same_entry g f e in subst (λ z. Among r.received (z.stamp.origin, z.stamp.time)) q (subst (λ i. Among r.received (i, g.stamp.time)) (sym from) heard))
      | inr q ↦ c.heard f (q, h.1) o
    ];
    paid = λ f h o. elim h.0 [
      | inl e ↦ inl (subst (λ z. Among (with_stamp g.stamp r.owed) z.stamp) (same_entry g f e) (with_stamp_here g.stamp r.owed))
      | inr q ↦ elim (c.paid f (q, h.1) o) [ inl w ↦ inl (with_stamp_keeps g.stamp r.owed f.stamp w) | inr w ↦ inr w ]
    ];
    even = c.even;
    later = c.later;
    pushed = c.pushed;
    acks = c.acks;
    told = c.told;
  }
    where
      more_votes : (j : ℕ) (p : InEpoch) → HasVote r j p → HasVote (record r { log = Rec.Prepare g ∷ r.log; votes = (g.stamp, r.me) ∷ (g.stamp, m) ∷ r.votes; owed = with_stamp g.stamp r.owed }) j p
      more_votes j (InEpoch.PrepareOk s t) v = inr (inr v)
      more_votes j (InEpoch.Prepare f) v = tt
      more_votes j (InEpoch.ClockTime t) v = tt

  -- ---- a frame that is taken

  more_taken : (r : Replica) (m j : ℕ) → next_from r j ≤ count_by (λ i. i == j) (m ∷ r.taken)
  unfolding next_from
  more_taken r m j = elim (cases_eq m j) [
    | inl e ↦ (let t = subst (λ i. count_by (λ z. z == j) (i ∷ r.taken) ≡ count_by (λ z. z == j) r.taken + 1) (sym e) (count_same j r.taken) in omega (arith, t))
    | inr ne ↦ (let t = count_other m j r.taken ne in omega (arith, t))
  ]

  pub frame : (r : Replica) (m : ℕ) (p : InEpoch) (vs : List (Stamp × ℕ)) → ((v : Stamp × ℕ) → Among r.votes v → Among vs v) →
      Among all (Datagram.Frame m k (known r.log) (next_from r m) p) → HasVote (record r { votes = vs }) m p → Counted k r all →
      Counted k (record r { taken = m ∷ r.taken; received = (m, time_of p) ∷ r.received; votes = vs }) all
  unfolding next_from frames_to acked_by other_members members_of
  frame r m p vs keeps sent vote c = record {
    taken = λ j i lt. elim (cases_eq m j) [
      | inl e ↦ elim (cases_lt i (next_from r j)) [
        | inl old ↦ was j i old
        | inr ge ↦ (let n1 = subst (λ z. count_by (λ y. y == j) (z ∷ r.taken) ≡ count_by (λ y. y == j) r.taken + 1) (sym e) (count_same j r.taken) in
            let is : next_from r m ≡ i = ap (next_from r) e ∙ omega (arith, lt, ge, n1) in
            (p, subst (λ z. Among all (Datagram.Frame z k (known r.log) i p)) e (subst (λ z. Among all (Datagram.Frame m k (known r.log) z p)) is sent), inl (ap (λ z. (z, time_of p)) e), moved m j p e vote))
      ]
      | inr ne ↦ (let n0 = count_other m j r.taken ne in was j i (omega (arith, lt, n0)))
    ];
    voted = λ f h. let t = c.voted f h in (keeps _ t.0, keeps _ t.1);
    heard = λ f h o. inr (c.heard f h o);
    paid = c.paid;
    even = c.even;
    later = c.later;
    pushed = c.pushed;
    acks = c.acks;
    told = λ j a h. let le = c.told j a h in let up = more_taken r m j in omega (arith, le, up);
  }
    where
      more_votes : (j : ℕ) (q : InEpoch) → HasVote r j q → HasVote (record r { taken = m ∷ r.taken; received = (m, time_of p) ∷ r.received; votes = vs }) j q
      more_votes j (InEpoch.PrepareOk s t) v = keeps _ v
      more_votes j (InEpoch.Prepare f) v = tt
      more_votes j (InEpoch.ClockTime t) v = tt

      moved : (m j : ℕ) (q : InEpoch) → m ≡ j → HasVote (record r { votes = vs }) m q → HasVote (record r { taken = m ∷ r.taken; received = (m, time_of p) ∷ r.received; votes = vs }) j q
      moved m j (InEpoch.PrepareOk s t) e v = subst (λ z. Among vs (s, z)) e v
      moved m j (InEpoch.Prepare f) e v = tt
      moved m j (InEpoch.ClockTime t) e v = tt

      was : (j i : ℕ) → i < next_from r j → (q : InEpoch) × Among all (Datagram.Frame j k (known r.log) i q) × Among ((m, time_of p) ∷ r.received) (j, time_of q)
          × HasVote (record r { taken = m ∷ r.taken; received = (m, time_of p) ∷ r.received; votes = vs }) j q
      was j i lt = let t = c.taken j i lt in (t.0, t.1, inr t.2, more_votes j t.0 t.3)

  -- ---- pushes, debts, Acks

  push_frames : (r : Replica) (p : InEpoch) (j : ℕ) → map (λ f. f.1) (filter (λ f. f.0 == j) (r.pushed ++ map (λ i. (i, p)) (other_members r)))
      ≡ frames_to r j ++ map (λ (f : ℕ × InEpoch). f.1) (filter (λ f. f.0 == j) (map (λ i. (i, p)) (other_members r)))
  unfolding frames_to
  push_frames r p j =
      ap (map (λ f. f.1)) (filter-append (λ f. f.0 == j) r.pushed (map (λ i. (i, p)) (other_members r)))
      ∙ map-append (λ f. f.1) (filter (λ f. f.0 == j) r.pushed) (filter (λ f. f.0 == j) (map (λ i. (i, p)) (other_members r)))

  pub push : (r : Replica) (p : InEpoch) → Distinct (other_members r) → 1 ≤ time_of p → Counted k r all →
      Counted k (record r { issued = time_of p ∷ r.issued; pushed = r.pushed ++ map (λ j. (j, p)) (other_members r) }) all
  unfolding next_from frames_to acked_by other_members members_of
  push r p distinct late c = record {
    taken = λ m i lt. let t = c.taken m i lt in (t.0, t.1, t.2, same_votes m t.0 t.3);
    voted = c.voted;
    heard = c.heard;
    paid = λ f h o. elim (c.paid f h o) [
      | inl w ↦ inl w
      | inr w ↦ inr (λ j m. let t = w j m in (t.0, subst (λ l. Among l (InEpoch.PrepareOk f.stamp t.0)) (sym (push_frames r p j)) (among_left (frames_to r j) _ _ t.1), t.2))
    ];
    even = λ j m.
        let one = pair_one p j (other_members r) distinct m in
        let e = ap (λ (l : List InEpoch). length l) (push_frames r p j ∙ ap (λ l. frames_to r j ++ l) one) ∙ length-append (frames_to r j) (p ∷ []) in
        let old = c.even j m in
        omega (arith, e, old);
    later = λ t h. elim h [ inl e ↦ subst (λ z. 1 ≤ z) e late | inr q ↦ c.later t q ];
    pushed = λ j.
        let more = map (λ (f : ℕ × InEpoch). f.1) (filter (λ f. f.0 == j) (map (λ i. (i, p)) (other_members r))) in
        let e = ap (λ (l : List InEpoch). length l) (push_frames r p j) ∙ length-append (frames_to r j) more in
        let le = c.pushed j in
        omega (arith, e, le);
    acks = c.acks;
    told = c.told;
  }
    where
      same_votes : (j : ℕ) (q : InEpoch) → HasVote r j q → HasVote (record r { issued = time_of p ∷ r.issued; pushed = r.pushed ++ map (λ j. (j, p)) (other_members r) }) j q
      same_votes j (InEpoch.PrepareOk s t) v = v
      same_votes j (InEpoch.Prepare f) v = tt
      same_votes j (InEpoch.ClockTime t) v = tt

  pub owes : (r : Replica) (ss : List Stamp) → ((s : Stamp) → Among r.owed s → Among ss s ⊎ IsPaidTo r s) → Counted k r all → Counted k (record r { owed = ss }) all
  unfolding next_from frames_to acked_by other_members members_of
  owes r ss left c = record {
    taken = c.taken;
    voted = c.voted;
    heard = c.heard;
    paid = λ f h o. elim (c.paid f h o) [ inl w ↦ left f.stamp w | inr w ↦ inr w ];
    even = c.even;
    later = c.later;
    pushed = c.pushed;
    acks = c.acks;
    told = c.told;
  }

  pub acked : (r : Replica) (j a : ℕ) → a ≤ length (frames_to r j) → Among all (Datagram.Ack j k (known r.log) a) → Counted k r all → Counted k (record r { acked = (j, a) ∷ r.acked }) all
  unfolding next_from frames_to acked_by other_members members_of greatest
  acked r j a le sent c = record {
    taken = c.taken;
    voted = c.voted;
    heard = c.heard;
    paid = c.paid;
    even = c.even;
    later = c.later;
    pushed = λ i. below i (j == i) refl;
    acks = λ i b h. elim h [ inl e ↦ subst (λ (z : ℕ × ℕ). Among all (Datagram.Ack z.0 k (known r.log) z.1)) e sent | inr q ↦ c.acks i b q ];
    told = c.told;
  }
    where
      below : (i : ℕ) (b : Bool) → (j == i) ≡ b → greatest (map (λ (q : ℕ × ℕ). q.1) (cond b ((j, a) ∷ filter (λ q. q.0 == i) r.acked) (filter (λ q. q.0 == i) r.acked))) ≤ length (frames_to r i)
      below i true e = let old = c.pushed i in let here = subst (λ z. a ≤ length (frames_to r z)) (eqb-true j i e) le in omega (arith, old, here)
      below i false e = c.pushed i

  -- ---- an epoch that is entered

  pub entered : (r : Replica) → r.issued ≡ [] → r.received ≡ [] → r.votes ≡ [] → r.owed ≡ [] → r.pushed ≡ [] → r.acked ≡ [] → r.taken ≡ [] →
      ((f : Entry) → IsOf r.log f → ⊥) → ((m a : ℕ) → Among all (Datagram.Ack k m (known r.log) a) → ⊥) → Counted k r all
  unfolding next_from frames_to acked_by greatest
  entered r issued received votes owed pushed acked taken no_entry no_ack = record {
    taken = λ m i lt. absurd (let e = ap (count_by (λ j. j == m)) taken in omega (arith, lt, e));
    voted = λ f h. absurd (no_entry f h);
    heard = λ f h o. absurd (no_entry f h);
    paid = λ f h o. absurd (no_entry f h);
    even = λ j m. ap (λ l. length (map (λ (f : ℕ × InEpoch). f.1) (filter (λ f. f.0 == j) l))) pushed ∙ ap (λ (l : List ℕ). length l) (sym issued);
    later = λ t h. absurd (subst (λ l. Among l t) issued h);
    pushed = λ j. (let e = ap (λ l. greatest (map (λ (a : ℕ × ℕ). a.1) (filter (λ a. a.0 == j) l))) acked in omega (arith, e));
    acks = λ j a h. absurd (subst (λ l. Among l (j, a)) acked h);
    told = λ m a h. absurd (no_ack m a h);
  }
