-- A change at one replica: the conditions under which it keeps the invariant.
use Rattle.std.proofs.Common.{◌≡◌, ◌≢◌, ℕ, ◌⊎◌, Bool, true, false, nat_eq, List, inl, inr, refl, sym, subst, ◌∙◌, Some}
use Rattle.std.specs.List.{Contains}
use Rattle.crsm_base.specs.Order.{ballot_lt}
use Rattle.crsm_base.proofs.Orders.{le_trans}
use Rattle.crsm_spec.specs.Paxos.{Proposal, Promise, Vote, Instance, IsChosen}
use Rattle.crsm_spec.specs.Following.{IsReached, IsUsed}
use Rattle.crsm_safety.proofs.Paxos.Majority.{nat_eq_is}
use Rattle.crsm_safety.proofs.Paxos.Basics.{nat_eq_not}
use Rattle.crsm_mpspec.specs.declared.MpMessage.{MpMessage}
use Rattle.crsm_mpspec.specs.Types.{Ballot, Command, Value}
use Rattle.crsm_mpspec.specs.Replica.{Report, Note}
use Rattle.crsm_law_mp.specs.Slots.{Seat, Sent, Slots, AreChosen, NoteHolds, HasAsked, IsTrueMessage, Holds, Past}

-- Instances with more steps: what was said of them stays so.
pub record Grows (spec : List ℕ) (slots more : Slots) : Type 0 where
  pub reached : (s : ℕ) → IsReached spec (more s)
  pub promises : (s : ℕ) (p : Promise Value) → Contains (slots s).promises p → Contains (more s).promises p
  pub votes : (s : ℕ) (v : Vote Value) → Contains (slots s).votes v → Contains (more s).votes v
  pub proposals : (s : ℕ) (q : Proposal Value) → Contains (slots s).proposals q → Contains (more s).proposals q
  pub chosen : (s : ℕ) (v : Value) → IsChosen spec (slots s) v → IsChosen spec (more s) v

-- a replica that asks in a ballot asked in no message of this ballot from another slot on
abbrev pub AsksAsSent : Sent → Seat → Type 0
AsksAsSent sent x =
    (b : Ballot) (start : ℕ) (reports : List Report) → x.note ≡ Note.Asking b start reports →
    (k from : ℕ) → sent k (MpMessage.Prep b from) → start ≡ from

-- a proposal is one of these, or was made by replica r in a ballot that is not above its promise, of an own command
abbrev pub IsOldOrBy : Past → ℕ → Seat → Instance Value → Proposal Value → Type 0
IsOldOrBy past r x s q =
    Contains s.proposals q
    ⊎ ((q.ballot.by ≡ r) × (ballot_lt x.promised q.ballot ≡ false) × ((c : Command) → q.value ≡ Some c → Contains past.submitted c))

module _ (spec : List ℕ) (past : Past) where
  pub used_grows : (slots more : Slots) → Grows spec slots more → (s : ℕ) (b : Ballot) → IsUsed (slots s) b → IsUsed (more s) b
  used_grows slots more g s b u = (u.0, g.proposals s u.0 u.1, u.2)

  pub chosen_grow : (slots more : Slots) → Grows spec slots more → (y : Report) → AreChosen spec slots y → AreChosen spec more y
  chosen_grow slots more g y are c there = g.chosen c.slot c.value (are c there)

  module _ (slots more : Slots) (g : Grows spec slots more) (r : ℕ) (x' : Seat)
      (proposed : (s : ℕ) (q : Proposal Value) → Contains (more s).proposals q → IsOldOrBy past r x' (slots s) q) where
    -- what another replica is at stays true
    pub other_note : (k : ℕ) → k ≢ r → (x : Seat) (note : Note) → NoteHolds spec slots k x note → NoteHolds spec more k x note
    other_note k apart x Note.Idle h = tt
    other_note k apart x (Note.Asking b start reports) h = record {
      by = h.by;
      high = h.high;
      current = h.current;
      unused = λ s q c same. elim (proposed s q c) [
        | inl old ↦ h.unused s q old same
        | inr new ↦ apart (sym h.by ∙ subst (λ z. z.by ≡ r) same new.0)
      ];
      answered = λ s late y there. g.promises s _ (h.answered s late y there);
      chosen = λ y there. chosen_grow slots more g y (h.chosen y there);
      distinct = h.distinct;
      of_spec = h.of_spec;
    }
    other_note k apart x (Note.Leading b start next reports votes) h = record {
      by = h.by;
      current = h.current;
      used = λ s u. elim (proposed s u.0 u.1) [
        | inl old ↦ h.used s (u.0, old, u.2)
        | inr new ↦ absurd (apart (sym h.by ∙ subst (λ z. z.by ≡ r) u.2 new.0))
      ];
      answered = λ s late y there. g.promises s _ (h.answered s late y there);
      majority = h.majority;
      above = h.above;
      below = h.below;
      voted = λ s j there. let (member, v, accepted, vote) = h.voted s j there in (member, v, accepted, g.votes s _ vote);
      once = h.once;
    }

  module _ (seats seats' : ℕ → Seat) (sent sent' : Sent) (slots more : Slots) (h : Holds spec past seats sent slots) (g : Grows spec slots more)
      (r : ℕ) (x' : Seat) (here : seats' r ≡ x') (elsewhere : (k : ℕ) → k ≢ r → seats' k ≡ seats k)
      (raised : ballot_lt x'.promised (seats r).promised ≡ false)
      (same_here : (s : ℕ) → (more s).acceptor r ≡ record { promised = x'.promised; accepted = x'.accepted s })
      (same_elsewhere : (s k : ℕ) → k ≢ r → (more s).acceptor k ≡ (slots s).acceptor k)
      (proposed : (s : ℕ) (q : Proposal Value) → Contains (more s).proposals q → IsOldOrBy past r x' (slots s) q)
      (chosen : (s : ℕ) (v : Value) → x'.chosen s ≡ Some v → IsChosen spec (more s) v)
      (noted : NoteHolds spec more r x' x'.note)
      (asks : AsksAsSent sent x')
      (kept : (k : ℕ) (m : MpMessage) → sent k m → sent' k m)
      (new : (k : ℕ) (m : MpMessage) → sent' k m → sent k m ⊎ IsTrueMessage spec seats' sent' more k m) where
    -- a fact of each seat, by the replica that changed and the others
    by_seat : (P : ℕ → Seat → Type 0) → P r x' → ((k : ℕ) → k ≢ r → P k (seats k)) → (k : ℕ) → P k (seats' k)
    by_seat P changed others k = go (nat_eq k r) refl
      where
        go : (t : Bool) → nat_eq k r ≡ t → P k (seats' k)
        go true e = subst (λ j. P j (seats' j)) (sym (nat_eq_is k r e)) (subst (P r) (sym here) changed)
        go false e = let apart : k ≢ r = nat_eq_not k r e in subst (P k) (sym (elsewhere k apart)) (others k apart)

    not_above : (b : Ballot) (k : ℕ) → ballot_lt (seats k).promised b ≡ false → ballot_lt (seats' k).promised b ≡ false
    not_above b k is =
        by_seat (λ j x. ballot_lt (seats j).promised b ≡ false → ballot_lt x.promised b ≡ false)
        (λ was. le_trans b (seats r).promised x'.promised was raised) (λ j apart was. was) k is

    asked : (b : Ballot) (start from k : ℕ) → sent from (MpMessage.Prep b start) → HasAsked (seats k) b start → HasAsked (seats' k) b start
    asked b start from k was_sent is =
        by_seat (λ j x. HasAsked (seats j) b start → HasAsked x b start)
        (λ was. record {
          promised = le_trans b (seats r).promised x'.promised was.promised raised;
          same = λ at reports e. asks b at reports e from start was_sent;
        })
        (λ j apart was. was) k is

    old_message : (k : ℕ) (m : MpMessage) → sent k m → IsTrueMessage spec seats sent slots k m → IsTrueMessage spec seats' sent' more k m
    old_message k (MpMessage.Prep b start) there t = (t.0, asked b start k b.by there t.1)
    old_message k (MpMessage.Prom b accepted choices) there t =
        let (member, j, start, was_sent, reported) = t in (
          member,
          j,
          start,
          kept j (MpMessage.Prep b start) was_sent,
          record {
            answered = λ s late. elim (reported.answered s late) [
              | inl promised ↦ inl (g.promises s _ promised)
              | inr used ↦ inr (used_grows slots more g s b used)
            ];
            chosen = chosen_grow slots more g (record { from = k; accepted = accepted; chosen = choices }) reported.chosen;
          },
        )
    old_message k (MpMessage.No p) there t = tt
    old_message k (MpMessage.Acc b s v) there t = g.proposals s _ t
    old_message k (MpMessage.Accd b s) there t = (t.0, t.1, g.votes s _ t.2)
    old_message k (MpMessage.Learn s v) there t = g.chosen s v t
    old_message k (MpMessage.Ask start) there t = tt

    pub turn : Holds spec past seats' sent' more
    turn = record {
      reached = g.reached;
      same = λ s. by_seat (λ k x. (more s).acceptor k ≡ record { promised = x.promised; accepted = x.accepted s })
          (same_here s) (λ k apart. same_elsewhere s k apart ∙ h.same s k);
      owners = λ s q c. elim (proposed s q c) [
        | inl old ↦ not_above q.ballot q.ballot.by (h.owners s q old)
        | inr new ↦ subst (λ k. ballot_lt (seats' k).promised q.ballot ≡ false) (sym new.0)
            (subst (λ x. ballot_lt x.promised q.ballot ≡ false) (sym here) new.1)
      ];
      owned = λ s q c there is. elim (proposed s q there) [
        | inl old ↦ h.owned s q c old is
        | inr new ↦ new.2 c is
      ];
      stays = λ s v c. g.chosen s v (h.stays s v c);
      chosen = λ s. by_seat (λ k x. (v : Value) → x.chosen s ≡ Some v → IsChosen spec (more s) v)
          (chosen s) (λ k apart v is. g.chosen s v (h.chosen s k v is));
      notes = by_seat (λ k x. NoteHolds spec more k x x.note) noted
          (λ k apart. other_note slots more g r x' proposed k apart (seats k) (seats k).note (h.notes k));
      sound = λ k m there. elim (new k m there) [
        | inl old ↦ old_message k m old (h.sound k m old)
        | inr true_one ↦ true_one
      ];
    }
