-- Votes: a replica accepts what a leader proposed, a leader proposes and counts votes, and a majority of them chooses.
use Rattle.std.proofs.Common.{◌≡◌, ◌≢◌, ℕ, ◌<◌, ◌≤◌, ◌⊎◌, true, false, List, [], ◌∷◌, ◌++◌, inl, inr, refl, sym, subst, ap, ◌∙◌, Some}
use Rattle.std.specs.List.{Contains}
use Rattle.std.specs.Option.{ForSome}
use Rattle.std.proofs.lemmas.List.Elements.{Contains-append_left, Contains-push, Contains-push_cases}
use Rattle.crsm_base.specs.Order.{ballot_lt}
use Rattle.crsm_base.proofs.Orders.{below-irrefl, compare}
use Rattle.crsm_spec.specs.Paxos.{Held, Acceptance, Proposal, Instance, MayTake, MayAccept, MayPropose, after_step, after_accept, value_of, IsMajority}
use Rattle.crsm_spec.specs.Paxos.PaxosStep.{Accepts, Proposes}
use Rattle.crsm_spec.specs.Following.{IsReached, IsUnused, IsUsed}
use Rattle.crsm_safety.proofs.Paxos.Basics.{changed, changed_at, changed_cases, clash}
use Rattle.crsm_safety.proofs.Paxos.Instances.{with_cases, with_same}
use Rattle.crsm_safety.proofs.Paxos.Repeats.{reached_more, chosen_more, held_is_vote}
use Rattle.crsm_mpspec.specs.declared.MpMessage.{MpMessage}
use Rattle.crsm_mpspec.specs.Types.{Ballot, Command, Value}
use Rattle.crsm_mpspec.specs.Replica.{Report, Note}
use Rattle.crsm_mpspec.specs.Electing.{answers_at}
use Rattle.crsm_law_mp.specs.Slots.{Seat, Sent, Slots, HasVoted, HasProposed, IsLeading, NoteHolds, Past}
use Rattle.crsm_law_mp.proofs.Turns.{Grows, AsksAsSent}
use Rattle.crsm_law_mp.proofs.Changes.{Stands, acceptor_is, stepped, grows-slot}
use Rattle.crsm_law_mp.proofs.Agree.{invariant}
use Rattle.crsm_law_mp.proofs.Held.{IsLow, held_low}
use Rattle.crsm_law_mp.proofs.Lists.{voters_push, replicas_of_answers, answer_of_report}

-- a replica that is at nothing asks for nothing
pub idle_asks : (sent : Sent) (x : Seat) → x.note ≡ Note.Idle → AsksAsSent sent x
idle_asks sent x idle b start reports is = absurd (no (sym idle ∙ is))
  where
    no : Note.Idle ≡ Note.Asking b start reports → ⊥
    no e = cc

pub leader_asks : (sent : Sent) (x : Seat) (b : Ballot) (start next : ℕ) (reports : List Report) (votes : List (ℕ × ℕ)) →
    x.note ≡ Note.Leading b start next reports votes → AsksAsSent sent x
leader_asks sent x b start next reports votes leads c from others is = absurd (no (sym leads ∙ is))
  where
    no : Note.Leading b start next reports votes ≡ Note.Asking c from others → ⊥
    no e = cc

-- an acceptor of which both are known
pub acceptor_of : (p q : Ballot) (a c : Held Value) → p ≡ q → a ≡ c → Path (Acceptance Value) (record { promised = p; accepted = a }) (record { promised = q; accepted = c })
acceptor_of p q a c same_p same_a =
    subst (λ z. Path (Acceptance Value) (record { promised = p; accepted = a }) (record { promised = z; accepted = c })) same_p
    (ap (λ z. record { promised = p; accepted = z }) same_a)

-- an accepted value is one alone
pub same_some : {X : Type 0} (x y : X) → Some x ≡ Some y → x ≡ y
same_some x y e = cc

module _ (spec : List ℕ) (past : Past) (base : ℕ → Seat) (sent : Sent) (r : ℕ) (x : Seat) (sends : List (ℕ × MpMessage)) (slots : Slots)
    (h : Stands spec past base sent r x sends slots) where
  -- what r accepted at a slot is its vote
  pub held_voted : (s : ℕ) (b : Ballot) (v : Value) → x.accepted s ≡ Some (b, v) → HasVoted (slots s) b r v
  held_voted s b v is =
      held_is_vote Value spec (slots s) r (h.reached s) (b, v) (ap (λ a. a.accepted) (acceptor_is spec past base sent r x sends slots h s) ∙ is)

  -- it is in no greater ballot than its promise
  pub held_below : (s : ℕ) (held : Ballot × Value) → x.accepted s ≡ Some held → ballot_lt x.promised held.0 ≡ false
  held_below s = subst (λ a. IsLow Value spec a) (acceptor_is spec past base sent r x sends slots h s) (held_low Value spec (slots s) r (h.reached s))

  -- a ballot with a vote has proposed its value, and no other
  pub voted_proposed : (s : ℕ) (b : Ballot) (k : ℕ) (v : Value) → HasVoted (slots s) b k v → HasProposed (slots s) b v
  voted_proposed s b k v c = (invariant spec (slots s) (h.reached s)).vote_proposed (record { ballot = b; acceptor = k; value = v }) c

  pub one_proposed : (s : ℕ) (b : Ballot) (v w : Value) → HasProposed (slots s) b v → HasProposed (slots s) b w → v ≡ w
  one_proposed s b v w c d = (invariant spec (slots s) (h.reached s)).one_each (record { ballot = b; value = v }) (record { ballot = b; value = w }) c d refl

  -- ---- a vote

  module _ (s : ℕ) (b : Ballot) (v : Value) (current : x.promised ≡ b) (proposed : HasProposed (slots s) b v)
      (above : ForSome (x.accepted s) (λ held. ballot_lt held.0 b ≡ true)) where
    may_accept : MayTake spec (slots s) (Accepts r b v)
    may_accept =
        subst (λ a. MayAccept a (slots s).proposals b v) (sym (acceptor_is spec past base sent r x sends slots h s)) (record {
          takes = record { not_below = subst (λ c. ballot_lt b c ≡ false) (sym current) (below-irrefl b); above = above };
          proposed = proposed;
        })

    -- the slots with the vote
    pub voted_more : Slots
    voted_more = changed slots s (after_step (slots s) (Accepts r b v))

    pub has_voted : HasVoted (voted_more s) b r v
    unfolding voted_more
    has_voted = changed_at slots s (after_step (slots s) (Accepts r b v)) (λ z. HasVoted z b r v) (Contains-push (slots s).votes _)

    -- a replica that is at nothing accepts
    pub vote : (x' : Seat) → x'.promised ≡ b → x'.accepted s ≡ Some (b, v) → ((t : ℕ) → t ≢ s → x'.accepted t ≡ x.accepted t) →
        ((t : ℕ) (w : Value) → x'.chosen t ≡ Some w → x.chosen t ≡ Some w) → x'.note ≡ Note.Idle → Stands spec past base sent r x' sends voted_more
    unfolding voted_more
    vote x' promise here elsewhere chosen idle =
        stepped spec past base sent r x sends slots h s (after_step (slots s) (Accepts r b v)) x'
        (reached_more Value spec (slots s) (Accepts r b v) (h.reached s) may_accept)
        (λ p c. c) (λ w c. Contains-append_left (slots s).votes _ _ c) (λ q c. c)
        (λ w c. chosen_more Value spec (slots s) (Accepts r b v) w c)
        (promise ∙ sym current)
        (with_same Value (λ a. a ≡ record { promised = x'.promised; accepted = x'.accepted s }) (slots s).acceptor r (after_accept ((slots s).acceptor r) b v)
        (acceptor_of b x'.promised (Some (b, v)) (x'.accepted s) (sym promise) (sym here)))
        (λ k apart. with_cases Value (λ a. a ≡ (slots s).acceptor k) (slots s).acceptor r (after_accept ((slots s).acceptor r) b v) k (λ is. absurd (apart is)) refl)
        elsewhere (λ q c. inl c) chosen
        (subst (λ n. NoteHolds spec (changed slots s (after_step (slots s) (Accepts r b v))) r x' n) (sym idle) tt)
        (idle_asks (λ k m. sent k m ⊎ ((k ≡ r) × (to : ℕ) × Contains sends (to, m))) x' idle)

  -- ---- a proposal

  module _ (member : Contains spec r) (b : Ballot) (start next : ℕ) (reports : List Report) (votes : List (ℕ × ℕ))
      (leads : IsLeading spec slots r x b start next reports votes) (s : ℕ) (late : start ≤ s) (below : s < next)
      (unvoted : Contains votes (s, r) → ⊥) (own : Value) (owned : (c : Command) → value_of own (answers_at s reports) ≡ Some c → Contains past.submitted c) where
    -- what the ballot proposes at the slot
    abbrev v : Value
    v = value_of own (answers_at s reports)

    unused : IsUnused (slots s) b
    unused q c same = unvoted (leads.used s (q, c, same))

    may_propose : MayPropose spec (slots s) b (answers_at s reports)
    may_propose = record {
      first = unused;
      promised = λ a c.
          let (y, there, is) = answer_of_report s reports a c in
          subst (λ z. Contains (slots s).promises (record { ballot = b; answer = z })) is (leads.answered s late y there);
      majority = subst (λ ks. IsMajority spec ks) (sym (replicas_of_answers s reports)) leads.majority;
    }

    offered : Instance Value
    offered = after_step (slots s) (Proposes b own (answers_at s reports))

    reached-offered : IsReached spec offered
    unfolding offered
    reached-offered = reached_more Value spec (slots s) (Proposes b own (answers_at s reports)) (h.reached s) may_propose

    -- what r accepted at the slot is of a lesser ballot
    lesser : (held : Ballot × Value) → x.accepted s ≡ Some held → ballot_lt held.0 b ≡ true
    lesser held is = go (compare held.0 b)
      where
        go : (ballot_lt held.0 b ≡ true) ⊎ ((held.0 ≡ b) ⊎ (ballot_lt b held.0 ≡ true)) → ballot_lt held.0 b ≡ true
        go (inl lower) = lower
        go (inr (inl same)) =
            let proposed : HasProposed (slots s) held.0 held.1 = voted_proposed s held.0 r held.1 (held_voted s held.0 held.1 is) in
            absurd (unused (record { ballot = held.0; value = held.1 }) proposed same)
        go (inr (inr above)) =
            absurd (clash _ above (subst (λ c. ballot_lt c held.0 ≡ false) leads.current (held_below s held is)))

    may_vote : MayTake spec offered (Accepts r b v)
    unfolding offered
    may_vote =
        subst (λ a. MayAccept a offered.proposals b v) (sym (acceptor_is spec past base sent r x sends slots h s)) (record {
          takes = record { not_below = subst (λ c. ballot_lt b c ≡ false) (sym leads.current) (below-irrefl b); above = lesser };
          proposed = Contains-push (slots s).proposals _;
        })

    -- the instance of the slot with the proposal and the leader's own vote
    voted : Instance Value
    voted = after_step offered (Accepts r b v)

    pub proposed_more : Slots
    proposed_more = changed slots s voted

    pub has_proposed : HasProposed (proposed_more s) b v
    unfolding proposed_more voted offered
    has_proposed = changed_at slots s voted (λ z. HasProposed z b v) (Contains-push (slots s).proposals _)

    grows-proposed : Grows spec slots proposed_more
    unfolding proposed_more voted offered
    grows-proposed =
        grows-slot spec past base sent r x sends slots h s voted x
        (reached_more Value spec offered (Accepts r b v) reached-offered may_vote)
        (λ p c. c) (λ w c. Contains-append_left (slots s).votes _ _ c) (λ q c. Contains-append_left (slots s).proposals _ _ c)
        (λ w c. chosen_more Value spec offered (Accepts r b v) w (chosen_more Value spec (slots s) (Proposes b own (answers_at s reports)) w c))

    new_proposal : (q : Proposal Value) → Contains voted.proposals q → Contains (slots s).proposals q ⊎ (record { ballot = b; value = v } ≡ q)
    unfolding voted offered
    new_proposal q c = Contains-push_cases (slots s).proposals _ q c

    module _ (x' : Seat) (promise : x'.promised ≡ b) (here : x'.accepted s ≡ Some (b, v)) (elsewhere : (t : ℕ) → t ≢ s → x'.accepted t ≡ x.accepted t) where
      used_votes : (t : ℕ) → IsUsed (proposed_more t) b → Contains (votes ++ (s, r) ∷ []) (t, r)
      unfolding proposed_more
      used_votes t = changed_cases slots s voted t (λ z. IsUsed z b → Contains (votes ++ (s, r) ∷ []) (t, r))
          (λ is u. subst (λ a. Contains (votes ++ (s, r) ∷ []) (a, r)) (sym is) (Contains-push votes (s, r)))
          (λ other u. Contains-append_left votes _ _ (leads.used t u))

      old_vote : (t j : ℕ) → Contains votes (t, j) →
          Contains spec j × (w : Value) × (x'.accepted t ≡ Some (b, w)) × HasVoted (proposed_more t) b j w
      old_vote t j c =
          let (of_spec, w, accepted, vote) = leads.voted t j c in
          let apart : t ≢ s = λ is. unused (record { ballot = b; value = w })
          (subst (λ a. HasProposed (slots a) b w) is (voted_proposed t b j w vote)) refl in
          (of_spec, w, elsewhere t apart ∙ accepted, grows-proposed.votes t _ vote)

      own_vote : Contains spec r × (w : Value) × (x'.accepted s ≡ Some (b, w)) × HasVoted (proposed_more s) b r w
      unfolding proposed_more voted offered
      own_vote = (member, v, here, changed_at slots s voted (λ z. HasVoted z b r v) (Contains-push (slots s).votes _))

      pub still_leads : IsLeading spec proposed_more r x' b start next reports (votes ++ (s, r) ∷ [])
      still_leads = record {
        by = leads.by;
        current = promise;
        used = used_votes;
        answered = λ t from y there. grows-proposed.promises t _ (leads.answered t from y there);
        majority = leads.majority;
        above = leads.above;
        below = λ t j c. elim (Contains-push_cases votes (s, r) (t, j) c) [
          | inl old ↦ leads.below t j old
          | inr new ↦ subst (λ a. a < next) (ap (λ p. p.0) new) below
        ];
        voted = λ t j c. elim (Contains-push_cases votes (s, r) (t, j) c) [
          | inl old ↦ old_vote t j old
          | inr new ↦
              subst (λ p. Contains spec p.1 × (w : Value) × (x'.accepted p.0 ≡ Some (b, w)) × HasVoted (proposed_more p.0) b p.1 w) new own_vote
        ];
        once = λ t. voters_push t s r votes unvoted (leads.once t);
      }

      -- a leader proposes and accepts its own proposal
      pub propose : ((t : ℕ) (w : Value) → x'.chosen t ≡ Some w → x.chosen t ≡ Some w) →
          x'.note ≡ Note.Leading b start next reports (votes ++ (s, r) ∷ []) → Stands spec past base sent r x' sends proposed_more
      unfolding proposed_more voted offered
      propose chosen note =
          stepped spec past base sent r x sends slots h s voted x'
          (reached_more Value spec offered (Accepts r b v) reached-offered may_vote)
          (λ p c. c) (λ w c. Contains-append_left (slots s).votes _ _ c) (λ q c. Contains-append_left (slots s).proposals _ _ c)
          (λ w c. chosen_more Value spec offered (Accepts r b v) w (chosen_more Value spec (slots s) (Proposes b own (answers_at s reports)) w c))
          (promise ∙ sym leads.current)
          (with_same Value (λ a. a ≡ record { promised = x'.promised; accepted = x'.accepted s }) (slots s).acceptor r (after_accept ((slots s).acceptor r) b v)
          (acceptor_of b x'.promised (Some (b, v)) (x'.accepted s) (sym promise) (sym here)))
          (λ k apart. with_cases Value (λ a. a ≡ (slots s).acceptor k) (slots s).acceptor r (after_accept ((slots s).acceptor r) b v) k (λ is. absurd (apart is)) refl)
          elsewhere
          (λ q c. elim (new_proposal q c) [
            | inl old ↦ inl old
            | inr new ↦ inr (
              subst (λ z. z.ballot.by ≡ r) new leads.by,
              subst (λ z. ballot_lt x'.promised z.ballot ≡ false) new (subst (λ a. ballot_lt a b ≡ false) (sym promise) (below-irrefl b)),
              λ d is. owned d (subst (λ z. z.value ≡ Some d) (sym new) is),
            )
          ])
          chosen
          (subst (λ n. NoteHolds spec (changed slots s voted) r x' n) (sym note) still_leads)
          (leader_asks (λ k m. sent k m ⊎ ((k ≡ r) × (to : ℕ) × Contains sends (to, m))) x' b start next reports (votes ++ (s, r) ∷ []) note)
