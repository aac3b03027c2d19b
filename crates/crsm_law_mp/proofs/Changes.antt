-- Each change that a replica makes in a step keeps the invariant.
use Rattle.std.proofs.Common.{◌≡◌, ◌≢◌, ℕ, ◌⊎◌, true, false, List, [], ◌∷◌, ◌++◌, inl, inr, refl, sym, subst, ap, ◌∙◌, Some}
use Rattle.std.specs.List.{Contains}
use Rattle.std.proofs.lemmas.List.Elements.{Contains-append_left, Contains-push_cases}
use Rattle.crsm_base.specs.Order.{ballot_lt}
use Rattle.crsm_base.proofs.Orders.{below-irrefl, below_not_back}
use Rattle.crsm_spec.specs.Paxos.{Acceptance, Proposal, Promise, Vote, Instance, MayTake, after_step, after_promise, IsChosen}
use Rattle.crsm_spec.specs.Paxos.PaxosStep.{Promises}
use Rattle.crsm_spec.specs.Following.{IsReached, IsUnused}
use Rattle.crsm_safety.proofs.Paxos.Basics.{changed, changed_at, changed_cases, more_promises}
use Rattle.crsm_safety.proofs.Paxos.Instances.{with_cases, with_same}
use Rattle.crsm_safety.proofs.Paxos.Repeats.{reached_more, chosen_more}
use Rattle.crsm_mpspec.specs.declared.MpMessage.{MpMessage}
use Rattle.crsm_mpspec.specs.Types.{Ballot, Value}
use Rattle.crsm_mpspec.specs.Replica.{Report, Note}
use Rattle.crsm_law_mp.specs.Slots.{Seat, Sent, Slots, HasAsked, IsAsking, NoteHolds, IsTrueMessage, Holds, Past}
use Rattle.crsm_law_mp.proofs.Turns.{Grows, IsOldOrBy, AsksAsSent, turn}

-- what was sent before, and these messages of replica r
abbrev pub with_sends : Sent → ℕ → List (ℕ × MpMessage) → Sent
with_sends sent r sends k m = sent k m ⊎ ((k ≡ r) × (to : ℕ) × Contains sends (to, m))

module _ (spec : List ℕ) (past : Past) (base : ℕ → Seat) (sent : Sent) (r : ℕ) where
  -- all holds in the middle of a step of replica r
  abbrev pub Stands : Seat → List (ℕ × MpMessage) → Slots → Type 0
  Stands x sends slots = Holds spec past (changed base r x) (with_sends sent r sends) slots

  -- what a message of r would say is true in the middle of a step
  abbrev pub IsTrueNow : Seat → List (ℕ × MpMessage) → Slots → MpMessage → Type 0
  IsTrueNow x sends slots m = IsTrueMessage spec (changed base r x) (with_sends sent r sends) slots r m

  -- so many messages more
  abbrev pub MoreSends : List (ℕ × MpMessage) → List (ℕ × MpMessage) → Type 0
  MoreSends sends sends' = (p : ℕ × MpMessage) → Contains sends p → Contains sends' p

  -- the seat of r
  pub seat : (x : Seat) → changed base r x r ≡ x
  seat x = changed_at base r x (λ y. y ≡ x) refl

  pub holds_here : (x : Seat) (P : Seat → Type 0) → P (changed base r x r) → P x
  holds_here x P h = subst P (seat x) h

  -- a change of r, where it is known which messages are new
  module _ (x x' : Seat) (sends sends' : List (ℕ × MpMessage)) (slots more : Slots) (h : Stands x sends slots) (g : Grows spec slots more)
      (raised : ballot_lt x'.promised x.promised ≡ false)
      (same_here : (s : ℕ) → (more s).acceptor r ≡ record { promised = x'.promised; accepted = x'.accepted s })
      (same_elsewhere : (s k : ℕ) → k ≢ r → (more s).acceptor k ≡ (slots s).acceptor k)
      (proposed : (s : ℕ) (q : Proposal Value) → Contains (more s).proposals q → IsOldOrBy past r x' (slots s) q)
      (chosen : (s : ℕ) (v : Value) → x'.chosen s ≡ Some v → IsChosen spec (more s) v)
      (noted : NoteHolds spec more r x' x'.note)
      (asks : AsksAsSent (with_sends sent r sends) x')
      (kept : MoreSends sends sends')
      (new : (p : ℕ × MpMessage) → Contains sends' p → Contains sends p ⊎ IsTrueNow x' sends' more p.1) where
    pub change : Stands x' sends' more
    change =
        turn spec past (changed base r x) (changed base r x') (with_sends sent r sends) (with_sends sent r sends') slots more h g
        r x' (seat x')
        (λ k apart. changed_cases base r x' k (λ y. y ≡ changed base r x k) (λ is. absurd (apart is))
        (λ other. changed_cases base r x k (λ y. base k ≡ y) (λ is. absurd (apart is)) (λ also. refl)))
        (subst (λ y. ballot_lt x'.promised y.promised ≡ false) (sym (seat x)) raised)
        same_here same_elsewhere proposed chosen noted asks
        (λ k m there. elim there [ inl before ↦ inl before | inr now ↦ inr (now.0, now.1, kept (now.1, m) now.2) ])
        (λ k m there. elim there [
          | inl before ↦ inl (inl before)
          | inr now ↦ elim (new (now.1, m) now.2) [
            | inl old ↦ inl (inr (now.0, now.1, old))
            | inr is ↦ inr (subst (λ j. IsTrueMessage spec (changed base r x') (with_sends sent r sends') more j m) (sym now.0) is)
          ]
        ])

  -- ---- what is known of r itself

  module _ (x : Seat) (sends : List (ℕ × MpMessage)) (slots : Slots) (h : Stands x sends slots) where
    pub acceptor_is : (s : ℕ) → (slots s).acceptor r ≡ record { promised = x.promised; accepted = x.accepted s }
    acceptor_is s = holds_here x (λ y. (slots s).acceptor r ≡ record { promised = y.promised; accepted = y.accepted s }) (h.same s r)

    pub note_holds : NoteHolds spec slots r x x.note
    note_holds = holds_here x (λ y. NoteHolds spec slots r y y.note) (h.notes r)

    pub chosen_here : (s : ℕ) (v : Value) → x.chosen s ≡ Some v → IsChosen spec (slots s) v
    chosen_here s v is = h.chosen s r v (subst (λ y. y.chosen s ≡ Some v) (sym (seat x)) is)

    -- a ballot of r above its promise proposed nothing, and was asked for in no message
    pub not_proposed : (b : Ballot) → b.by ≡ r → ballot_lt x.promised b ≡ true → (s : ℕ) → IsUnused (slots s) b
    not_proposed b by above s q there is =
        let owner : ballot_lt (changed base r x q.ballot.by).promised q.ballot ≡ false = h.owners s q there in
        let mine : q.ballot.by ≡ r = subst (λ z. z.by ≡ r) (sym is) by in
        let low : ballot_lt x.promised q.ballot ≡ false =
        subst (λ y. ballot_lt y.promised q.ballot ≡ false) (seat x) (subst (λ k. ballot_lt (changed base r x k).promised q.ballot ≡ false) mine owner) in
        let high : ballot_lt x.promised q.ballot ≡ true = subst (λ z. ballot_lt x.promised z ≡ true) (sym is) above in
        cc

    pub not_asked : (b : Ballot) → b.by ≡ r → ballot_lt x.promised b ≡ true → (k start : ℕ) → with_sends sent r sends k (MpMessage.Prep b start) → ⊥
    not_asked b by above k start there =
        let asked : HasAsked (changed base r x b.by) b start = (h.sound k (MpMessage.Prep b start) there).1 in
        let low : ballot_lt x.promised b ≡ false =
        subst (λ y. ballot_lt y.promised b ≡ false) (seat x) (subst (λ j. ballot_lt (changed base r x j).promised b ≡ false) by asked.promised) in
        cc

    -- a replica that asks has asked so in its messages
    pub asks_as_sent : AsksAsSent (with_sends sent r sends) x
    asks_as_sent b start reports is k from there =
        let holds : IsAsking spec slots r x b start reports = subst (λ n. NoteHolds spec slots r x n) is note_holds in
        let asked : HasAsked (changed base r x b.by) b from = (h.sound k (MpMessage.Prep b from) there).1 in
        let here : HasAsked x b from = subst (λ y. HasAsked y b from) (seat x) (subst (λ j. HasAsked (changed base r x j) b from) holds.by asked) in
        here.same start reports is

    pub grows_not : Grows spec slots slots
    grows_not = record {
      reached = h.reached;
      promises = λ s p c. c;
      votes = λ s v c. c;
      proposals = λ s q c. c;
      chosen = λ s v c. c;
    }

    -- ---- changes with no step of an instance

    -- what r knows and what it is at
    pub noted : (x' : Seat) → x'.promised ≡ x.promised → ((s : ℕ) → x'.accepted s ≡ x.accepted s) →
        ((s : ℕ) (v : Value) → x'.chosen s ≡ Some v → IsChosen spec (slots s) v) → NoteHolds spec slots r x' x'.note →
        AsksAsSent (with_sends sent r sends) x' → Stands x' sends slots
    noted x' same_promise same_accepted chosen holds asks =
        change x x' sends sends slots slots h grows_not
        (subst (λ b. ballot_lt b x.promised ≡ false) (sym same_promise) (below-irrefl x.promised))
        (λ s. acceptor_is s ∙ subst (λ b. Path (Acceptance Value) (record { promised = x.promised; accepted = x.accepted s }) (record { promised = b; accepted = x'.accepted s })) (sym same_promise)
        (ap (λ a. record { promised = x.promised; accepted = a }) (sym (same_accepted s))))
        (λ s k apart. refl) (λ s q c. inl c) chosen holds asks (λ p c. c) (λ p c. inl c)

    -- a message
    pub sent_too : (to : ℕ) (m : MpMessage) → IsTrueNow x (sends ++ (to, m) ∷ []) slots m → Stands x (sends ++ (to, m) ∷ []) slots
    sent_too to m is =
        change x x sends (sends ++ (to, m) ∷ []) slots slots h grows_not (below-irrefl x.promised) acceptor_is
        (λ s k apart. refl) (λ s q c. inl c) chosen_here note_holds asks_as_sent
        (λ p c. Contains-append_left sends _ p c)
        (λ p c. elim (Contains-push_cases sends (to, m) p c) [
          | inl old ↦ inl old
          | inr now ↦ inr (subst (λ z. IsTrueNow x (sends ++ (to, m) ∷ []) slots z.1) now is)
        ])

    -- ---- a promise of a greater ballot

    module _ (b : Ballot) (above : ballot_lt x.promised b ≡ true) where
      unfoldable pub promised_more : Slots
      promised_more s = after_step (slots s) (Promises r b)

      may_promise : (s : ℕ) → MayTake spec (slots s) (Promises r b)
      may_promise s = subst (λ a. ballot_lt a.promised b ≡ true) (sym (acceptor_is s)) above

      grows-promised : Grows spec slots promised_more
      unfolding promised_more
      grows-promised = record {
        reached = λ s. reached_more Value spec (slots s) (Promises r b) (h.reached s) (may_promise s);
        promises = λ s p c. more_promises (slots s) (Promises r b) p c;
        votes = λ s v c. c;
        proposals = λ s q c. c;
        chosen = λ s v c. chosen_more Value spec (slots s) (Promises r b) v c;
      }

      -- the seat with the promise; what is under way in a lesser ballot ends
      abbrev pub promising : Seat
      promising = record { promised = b; accepted = x.accepted; chosen = x.chosen; note = Note.Idle }

      pub promise : Stands promising sends promised_more
      unfolding promised_more
      promise =
          change x promising sends sends slots promised_more h grows-promised (below_not_back x.promised b above)
          (λ s. with_same Value (λ a. a ≡ record { promised = b; accepted = x.accepted s }) (slots s).acceptor r (after_promise ((slots s).acceptor r) b)
          (ap (λ a. after_promise a b) (acceptor_is s)))
          (λ s k apart. with_cases Value (λ a. a ≡ (slots s).acceptor k) (slots s).acceptor r (after_promise ((slots s).acceptor r) b) k (λ is. absurd (apart is)) refl)
          (λ s q c. inl c) (λ s v is. chosen_more Value spec (slots s) (Promises r b) v (chosen_here s v is))
          tt (λ c start reports is. absurd (no_note is)) (λ p c. c) (λ p c. inl c)
        where
          no_note : {c : Ballot} {start : ℕ} {reports : List Report} → Note.Idle ≡ Note.Asking c start reports → ⊥
          no_note e = cc

    -- ---- steps at one slot

    module _ (s : ℕ) (z : Instance Value) (x' : Seat) (reached : IsReached spec z)
        (promises : (p : Promise Value) → Contains (slots s).promises p → Contains z.promises p)
        (votes : (v : Vote Value) → Contains (slots s).votes v → Contains z.votes v)
        (proposals : (q : Proposal Value) → Contains (slots s).proposals q → Contains z.proposals q)
        (choices : (v : Value) → IsChosen spec (slots s) v → IsChosen spec z v) where
      pub grows-slot : Grows spec slots (changed slots s z)
      grows-slot = record {
        reached = λ t. changed_cases slots s z t (λ y. IsReached spec y) (λ is. reached) (λ other. h.reached t);
        promises = λ t p. changed_cases slots s z t (λ y. Contains (slots t).promises p → Contains y.promises p)
            (λ is c. promises p (subst (λ j. Contains (slots j).promises p) is c)) (λ other c. c);
        votes = λ t v. changed_cases slots s z t (λ y. Contains (slots t).votes v → Contains y.votes v)
            (λ is c. votes v (subst (λ j. Contains (slots j).votes v) is c)) (λ other c. c);
        proposals = λ t q. changed_cases slots s z t (λ y. Contains (slots t).proposals q → Contains y.proposals q)
            (λ is c. proposals q (subst (λ j. Contains (slots j).proposals q) is c)) (λ other c. c);
        chosen = λ t v. changed_cases slots s z t (λ y. IsChosen spec (slots t) v → IsChosen spec y v)
            (λ is c. choices v (subst (λ j. IsChosen spec (slots j) v) is c)) (λ other c. c);
      }

      module _ (same_promise : x'.promised ≡ x.promised)
          (acceptor_here : z.acceptor r ≡ record { promised = x'.promised; accepted = x'.accepted s })
          (acceptor_elsewhere : (k : ℕ) → k ≢ r → z.acceptor k ≡ (slots s).acceptor k)
          (accepted_elsewhere : (t : ℕ) → t ≢ s → x'.accepted t ≡ x.accepted t)
          (proposed : (q : Proposal Value) → Contains z.proposals q → IsOldOrBy past r x' (slots s) q)
          (chosen : (t : ℕ) (v : Value) → x'.chosen t ≡ Some v → x.chosen t ≡ Some v)
          (holds : NoteHolds spec (changed slots s z) r x' x'.note)
          (asks : AsksAsSent (with_sends sent r sends) x') where
        elsewhere_is : (t : ℕ) → t ≢ s → (slots t).acceptor r ≡ record { promised = x'.promised; accepted = x'.accepted t }
        elsewhere_is t other =
            acceptor_is t
            ∙ subst (λ b. Path (Acceptance Value) (record { promised = x.promised; accepted = x.accepted t }) (record { promised = b; accepted = x'.accepted t })) (sym same_promise)
            (ap (λ a. record { promised = x.promised; accepted = a }) (sym (accepted_elsewhere t other)))

        pub stepped : Stands x' sends (changed slots s z)
        stepped =
            change x x' sends sends slots (changed slots s z) h grows-slot
            (subst (λ b. ballot_lt b x.promised ≡ false) (sym same_promise) (below-irrefl x.promised))
            (λ t. changed_cases slots s z t (λ y. y.acceptor r ≡ record { promised = x'.promised; accepted = x'.accepted t })
            (λ is. subst (λ j. z.acceptor r ≡ record { promised = x'.promised; accepted = x'.accepted j }) (sym is) acceptor_here)
            (λ other. elsewhere_is t other))
            (λ t k apart. changed_cases slots s z t (λ y. y.acceptor k ≡ (slots t).acceptor k)
            (λ is. subst (λ j. z.acceptor k ≡ (slots j).acceptor k) (sym is) (acceptor_elsewhere k apart)) (λ other. refl))
            (λ t q. changed_cases slots s z t (λ y. Contains y.proposals q → IsOldOrBy past r x' (slots t) q)
            (λ is c. subst (λ j. IsOldOrBy past r x' (slots j) q) (sym is) (proposed q c)) (λ other c. inl c))
            (λ t v is. grows-slot.chosen t v (chosen_here t v (chosen t v is)))
            holds asks (λ p c. c) (λ p c. inl c)
