-- Replicas agree on each of a sequence of instances.
use Rattle.std.proofs.Common.{◌≡◌, ◌≢◌, ℕ, ◌+◌, ◌<◌, ◌⊎◌, Bool, true, false, cond, not, ◌&&◌, ◌||◌, ◌==◌, nat_lt, nat_le, List, [], ◌∷◌, ◌++◌, length, arith, inl, inr, refl, sym, subst, ap, ◌∙◌, Option, Some, None}
use Rattle.std.specs.List.{Contains, slice_get}
use Rattle.std.proofs.lemmas.Bool.Decides.{nat_tests}
use Rattle.std.proofs.lemmas.List.Elements.{Contains-push_cases, Contains-append_cases, Contains-push}
use Rattle.crsm_base.specs.declared.stamp.Ballot.{Ballot}
use Rattle.crsm_base.specs.Order.{ballot_lt}
use Rattle.crsm_base.proofs.Orders.{ballot_eq_is, below-irrefl, le_trans, below_not_back, same_from_both}
use Rattle.crsm_spec.specs.Paxos.{Held, Acceptance, Proposal, Instance, fresh_acceptance, after_promise, after_accept, PaxosStep, MayTake, MayAccept, after_step, fresh, IsChosen, majority}
use Rattle.crsm_spec.specs.Paxos.PaxosStep.{Promises, Accepts, Proposes}
use Rattle.crsm_spec.specs.Proposing.{Proposing, start_proposing, value_proposed, is_received, counts_answer, counts_vote, after_answer, makes_majority}
use Rattle.crsm_spec.specs.Following.{IsReached, IsUnused, IsUsed, IsOther, Follows, lowest}
use Rattle.crsm_safety.proofs.Paxos.Instances.{with_cases, with_same}
use Rattle.crsm_spec.specs.Epochs.{Replica, World, Message, Event, start_world, with_replica, next_ballot, begins, asked, offered, sent_coordinator, voted_coordinator, with_coordinator, decided, is_counted, is_held_below, is_held_in, comes, happens, world_after}
use Rattle.crsm_spec.specs.Epochs.Message.{Ask, Promise, Offer, Voted, Decide}
use Rattle.crsm_spec.specs.Epochs.Event.{Begin, Comes, Crash}
use Rattle.crsm_safety.proofs.Paxos.Laws.{Laws}
use Rattle.crsm_safety.proofs.Paxos.Majority.{nat_eq_is}
use Rattle.crsm_safety.proofs.Paxos.Basics.{changed, changed_at, changed_cases, either_false, not_false, clash, both, not_true, le_from, held_in, no_coordinator, received_contains, got, next_above, next_high, held_below, more_promises, more_votes, more_proposals, more_used, in_one, in_two, in_none}

module _ (D : Type 0) (spec_of : ℕ → List ℕ) (laws : Laws D) where
  -- what a message says holds of its instance
  abbrev IsSound : (ℕ → Instance D) → Message D → Type 0
  IsSound s (Ask i b) = ballot_lt lowest b ≡ true
  IsSound s (Promise i b from h) = Contains (s i).promises (record { ballot = b; answer = record { replica = from; accepted = h } }) ⊎ IsUsed (s i) b
  IsSound s (Offer i b d) = Contains (s i).proposals (record { ballot = b; value = d })
  IsSound s (Voted i b from) = (d : D) × Contains (s i).votes (record { ballot = b; acceptor = from; value = d })
  IsSound s (Decide i d) = IsChosen (spec_of i) (s i) d

  -- the ballot of this instance is behind the replica
  abbrev IsBehind : Replica D → ℕ → Ballot → Type 0
  IsBehind x i b = (i < x.known + 1) ⊎ ((i ≡ x.known + 1) × (ballot_lt x.held.promised b ≡ false))

  record HasCoordinator (s : Instance D) (i r : ℕ) (promised : Ballot) (p : Proposing D) : Type 0 where
    pub follows : Follows (spec_of i) s p
    pub by : p.ballot.by ≡ r
    pub behind : ballot_lt promised p.ballot ≡ false

  record Inv (w : World D) (s : ℕ → Instance D) : Type 0 where
    pub reached : (i : ℕ) → IsReached (spec_of i) (s i)
    pub present : (r : ℕ) → (s ((w.replica r).known + 1)).acceptor r ≡ (w.replica r).held
    pub future : (r i : ℕ) → (w.replica r).known + 1 < i → (s i).acceptor r ≡ fresh_acceptance
    pub behind : (i : ℕ) (q : Proposal D) → Contains (s i).proposals q → IsBehind (w.replica q.ballot.by) i q.ballot
    pub coordinators : (r : ℕ) (p : Proposing D) → (w.replica r).coordinator ≡ Some p → HasCoordinator (s ((w.replica r).known + 1)) ((w.replica r).known + 1) r (w.replica r).held.promised p
    pub sound : (m : Message D) → Contains w.sent m → IsSound s m

  -- ---- a replica changes with no step of its instance

  module _ (w : World D) (s : ℕ → Instance D) (inv : Inv w s) (r : ℕ) (coordinator : Option (Proposing D)) (ms : List (Message D))
      (noted : (p : Proposing D) → coordinator ≡ Some p → HasCoordinator (s ((w.replica r).known + 1)) ((w.replica r).known + 1) r (w.replica r).held.promised p)
      (new : (m : Message D) → Contains ms m → IsSound s m) where
    still : Inv (with_coordinator w r coordinator ms) s
    unfolding changed
    still = record {
      reached = inv.reached;
      present = λ q. changed_cases w.replica r _ q (λ x. (s (x.known + 1)).acceptor q ≡ x.held)
          (λ same. subst (λ z. (s ((w.replica r).known + 1)).acceptor z ≡ (w.replica r).held) (sym same) (inv.present r))
          (λ other. inv.present q);
      future = λ q i. changed_cases w.replica r _ q (λ x. x.known + 1 < i → (s i).acceptor q ≡ fresh_acceptance)
          (λ same. subst (λ z. (w.replica r).known + 1 < i → (s i).acceptor z ≡ fresh_acceptance) (sym same) (inv.future r i))
          (λ other. inv.future q i);
      behind = λ i q c. changed_cases w.replica r _ q.ballot.by (λ x. IsBehind x i q.ballot)
          (λ same. subst (λ z. IsBehind (w.replica z) i q.ballot) same (inv.behind i q c))
          (λ other. inv.behind i q c);
      coordinators = λ q p. changed_cases w.replica r _ q (λ x. x.coordinator ≡ Some p → HasCoordinator (s (x.known + 1)) (x.known + 1) q x.held.promised p)
          (λ same e. subst (λ z. HasCoordinator (s ((w.replica r).known + 1)) ((w.replica r).known + 1) z (w.replica r).held.promised p) (sym same) (noted p e))
          (λ other. inv.coordinators q p);
      sound = λ m c. elim (Contains-append_cases w.sent ms m c) [ inl old ↦ inv.sound m old | inr fresh ↦ new m fresh ];
    }

  -- ---- a replica takes a step of its instance

  module _ (w : World D) (s : ℕ → Instance D) (inv : Inv w s) (r : ℕ) (held : Acceptance D) (coordinator : Option (Proposing D)) (ms : List (Message D)) (e : PaxosStep D)
      (may : MayTake (spec_of ((w.replica r).known + 1)) (s ((w.replica r).known + 1)) e)
      (elsewhere : (q : ℕ) → q ≢ r → (after_step (s ((w.replica r).known + 1)) e).acceptor q ≡ (s ((w.replica r).known + 1)).acceptor q)
      (here : (after_step (s ((w.replica r).known + 1)) e).acceptor r ≡ held)
      (raised : ballot_lt held.promised (w.replica r).held.promised ≡ false)
      (proposed : (q : Proposal D) → Contains (after_step (s ((w.replica r).known + 1)) e).proposals q →
      Contains (s ((w.replica r).known + 1)).proposals q ⊎ ((q.ballot.by ≡ r) × (ballot_lt held.promised q.ballot ≡ false)))
      (noted : (p : Proposing D) → coordinator ≡ Some p → HasCoordinator (after_step (s ((w.replica r).known + 1)) e) ((w.replica r).known + 1) r held.promised p)
      (others : (p : Proposing D) → p.ballot.by ≢ r → IsOther e p.ballot)
      (new : (m : Message D) → Contains ms m → IsSound (changed s ((w.replica r).known + 1) (after_step (s ((w.replica r).known + 1)) e)) m) where
    at : ℕ
    at = (w.replica r).known + 1

    stepped : Instance D
    stepped = after_step (s at) e

    s' : ℕ → Instance D
    s' = changed s at stepped

    x' : Replica D
    x' = record { known = (w.replica r).known; held = held; coordinator = coordinator }

    grown : (m : Message D) → IsSound s m → IsSound s' m
    unfolding s' stepped at
    grown (Ask i b) h = h
    grown (Promise i b from a) h =
        changed_cases s at stepped i (λ z. Contains z.promises (record { ballot = b; answer = record { replica = from; accepted = a } }) ⊎ IsUsed z b)
        (λ same. subst (λ j. Contains (s j).promises (record { ballot = b; answer = record { replica = from; accepted = a } }) ⊎ IsUsed (s j) b →
        Contains stepped.promises (record { ballot = b; answer = record { replica = from; accepted = a } }) ⊎ IsUsed stepped b) (sym same)
        (λ k. elim k [ inl c ↦ inl (more_promises (s at) e _ c) | inr u ↦ inr (more_used (s at) e b u) ]) h)
        (λ other. h)
    grown (Offer i b d) h =
        changed_cases s at stepped i (λ z. Contains z.proposals (record { ballot = b; value = d }))
        (λ same. more_proposals (s at) e _ (subst (λ j. Contains (s j).proposals (record { ballot = b; value = d })) same h))
        (λ other. h)
    grown (Voted i b from) h = (
      h.0,
      changed_cases s at stepped i (λ z. Contains z.votes (record { ballot = b; acceptor = from; value = h.0 }))
          (λ same. more_votes (s at) e _ (subst (λ j. Contains (s j).votes (record { ballot = b; acceptor = from; value = h.0 })) same h.1))
          (λ other. h.1),
    )
    grown (Decide i d) h =
        changed_cases s at stepped i (λ z. IsChosen (spec_of i) z d)
        (λ same. subst (λ j. IsChosen (spec_of j) (s j) d → IsChosen (spec_of j) stepped d) (sym same) (laws.chosen (spec_of at) (s at) e d) h)
        (λ other. h)

    behind_old : (i : ℕ) (q : Proposal D) → Contains (s i).proposals q → IsBehind (changed w.replica r x' q.ballot.by) i q.ballot
    unfolding x'
    behind_old i q c =
        changed_cases w.replica r x' q.ballot.by (λ x. IsBehind x i q.ballot)
        (λ same. elim (subst (λ z. IsBehind (w.replica z) i q.ballot) same (inv.behind i q c)) [
          | inl past ↦ inl past
          | inr now ↦ inr (now.0, le_trans q.ballot (w.replica r).held.promised held.promised now.1 raised)
        ])
        (λ other. inv.behind i q c)

    other_coordinator : (q : ℕ) (p : Proposing D) (pr : Ballot) (j : ℕ) → q ≢ r → HasCoordinator (s j) j q pr p → HasCoordinator (s' j) j q pr p
    unfolding s' stepped at
    other_coordinator q p pr j apart n =
        changed_cases s at stepped j (λ z. HasCoordinator z j q pr p)
        (λ same. subst (λ k. HasCoordinator (s k) k q pr p → HasCoordinator stepped k q pr p) (sym same)
        (λ m. record { follows = laws.others (spec_of at) (s at) p e (others p (λ is. apart (sym m.by ∙ is))) m.follows; by = m.by; behind = m.behind }) n)
        (λ other. n)

    turn : Inv (with_replica w r (record { known = (w.replica r).known; held = held; coordinator = coordinator }) ms) (changed s ((w.replica r).known + 1) (after_step (s ((w.replica r).known + 1)) e))
    unfolding s' stepped at changed x'
    turn = record {
      reached = λ i. changed_cases s at stepped i (λ z. IsReached (spec_of i) z)
          (λ same. subst (λ j. IsReached (spec_of j) stepped) (sym same) (laws.reached (spec_of at) (s at) e (inv.reached at) may))
          (λ other. inv.reached i);
      present = λ q. changed_cases w.replica r x' q (λ x. (s' (x.known + 1)).acceptor q ≡ x.held)
          (λ same. subst (λ z. (s' at).acceptor z ≡ held) (sym same) (changed_at s at stepped (λ z. z.acceptor r ≡ held) here))
          (λ apart. changed_cases s at stepped ((w.replica q).known + 1) (λ z. z.acceptor q ≡ (w.replica q).held)
          (λ same. elsewhere q apart ∙ subst (λ j. (s j).acceptor q ≡ (w.replica q).held) same (inv.present q))
          (λ other. inv.present q));
      future = λ q i. changed_cases w.replica r x' q (λ x. x.known + 1 < i → (s' i).acceptor q ≡ fresh_acceptance)
          (λ same late. changed_cases s at stepped i (λ z. z.acceptor q ≡ fresh_acceptance)
          (λ is. absurd (omega arith))
          (λ other. subst (λ z. (s i).acceptor z ≡ fresh_acceptance) (sym same) (inv.future r i late)))
          (λ apart late. changed_cases s at stepped i (λ z. z.acceptor q ≡ fresh_acceptance)
          (λ is. elsewhere q apart ∙ subst (λ j. (s j).acceptor q ≡ fresh_acceptance) is (inv.future q i late))
          (λ other. inv.future q i late));
      behind = λ i q. changed_cases s at stepped i (λ z. Contains z.proposals q → IsBehind (changed w.replica r x' q.ballot.by) i q.ballot)
          (λ same c. elim (proposed q c) [
            | inl old ↦ behind_old i q (subst (λ j. Contains (s j).proposals q) (sym same) old)
            | inr own ↦ subst (λ z. IsBehind (changed w.replica r x' z) i q.ballot) (sym own.0)
                (changed_at w.replica r x' (λ x. IsBehind x i q.ballot) (inr (same, own.1)))
          ])
          (λ other c. behind_old i q c);
      coordinators = λ q p. changed_cases w.replica r x' q (λ x. x.coordinator ≡ Some p → HasCoordinator (s' (x.known + 1)) (x.known + 1) q x.held.promised p)
          (λ same is. subst (λ z. HasCoordinator (s' at) at z held.promised p) (sym same) (changed_at s at stepped (λ z. HasCoordinator z at r held.promised p) (noted p is)))
          (λ apart is. other_coordinator q p (w.replica q).held.promised ((w.replica q).known + 1) apart (inv.coordinators q p is));
      sound = λ m c. elim (Contains-append_cases w.sent ms m c) [ inl old ↦ grown m (inv.sound m old) | inr fresh ↦ new m fresh ];
    }

  -- ---- the events

  Good : World D → Type 0
  Good w = (s : ℕ → Instance D) × Inv w s

  module _ (w : World D) (s : ℕ → Instance D) (inv : Inv w s) (r : ℕ) where
    held_is : (s ((w.replica r).known + 1)).acceptor r ≡ (w.replica r).held
    held_is = inv.present r

    -- a promise of r, above its promise
    module _ (b : Ballot) (coordinator : Option (Proposing D)) (ms : List (Message D)) (higher : ballot_lt (w.replica r).held.promised b ≡ true)
        (noted : (p : Proposing D) → coordinator ≡ Some p → HasCoordinator (after_step (s ((w.replica r).known + 1)) (Promises r b)) ((w.replica r).known + 1) r b p)
        (new : (m : Message D) → Contains ms m → IsSound (changed s ((w.replica r).known + 1) (after_step (s ((w.replica r).known + 1)) (Promises r b))) m) where
      promise_good : Good (with_replica w r (record { known = (w.replica r).known; held = after_promise (w.replica r).held b; coordinator = coordinator }) ms)
      unfolding Good
      promise_good =
          let f : ℕ → Acceptance D = (s ((w.replica r).known + 1)).acceptor in (
            changed s ((w.replica r).known + 1) (after_step (s ((w.replica r).known + 1)) (Promises r b)),
            turn w s inv r (after_promise (w.replica r).held b) coordinator ms (Promises r b)
                (subst (λ z. ballot_lt z.promised b ≡ true) (sym held_is) higher)
                (λ q apart. with_cases D (λ a. a ≡ f q) f r (after_promise (f r) b) q (λ same. absurd (apart same)) refl)
                (with_same D (λ a. a ≡ after_promise (w.replica r).held b) f r (after_promise (f r) b) (ap (λ z. after_promise z b) held_is))
                (below_not_back (w.replica r).held.promised b higher)
                (λ q c. inl c) noted (λ p apart. tt) new,
          )

    sent_now : (b : Ballot) → IsSound (changed s ((w.replica r).known + 1) (after_step (s ((w.replica r).known + 1)) (Promises r b))) (Promise ((w.replica r).known + 1) b r (w.replica r).held.accepted)
    sent_now b =
        let z : Instance D = s ((w.replica r).known + 1) in
        inl (changed_at s ((w.replica r).known + 1) (after_step z (Promises r b)) (λ y. Contains y.promises (record { ballot = b; answer = record { replica = r; accepted = (w.replica r).held.accepted } }))
        (subst (λ a. Contains (z.promises ++ record { ballot = b; answer = record { replica = r; accepted = (z.acceptor r).accepted } } ∷ []) (record { ballot = b; answer = record { replica = r; accepted = a.accepted } }))
        held_is (Contains-push z.promises _)))

    unused_next : IsUnused (s ((w.replica r).known + 1)) (next_ballot r (w.replica r))
    unused_next q c is =
        let by : q.ballot.by ≡ r = ap (λ z. z.by) is in
        elim (subst (λ z. IsBehind (w.replica z) ((w.replica r).known + 1) q.ballot) by (inv.behind ((w.replica r).known + 1) q c)) [
          | inl past ↦ omega arith
          | inr now ↦
              let low : ballot_lt (w.replica r).held.promised q.ballot ≡ true = subst (λ z. ballot_lt (w.replica r).held.promised z ≡ true) (sym is) (next_above r (w.replica r)) in
              clash _ low now.1
        ]

    good_begin : (own : D) → Good (begins (spec_of ((w.replica r).known + 1)) w r own)
    good_begin own =
        promise_good (next_ballot r (w.replica r)) (Some (start_proposing (next_ballot r (w.replica r)) own (length (spec_of ((w.replica r).known + 1)))))
        (Ask ((w.replica r).known + 1) (next_ballot r (w.replica r)) ∷ Promise ((w.replica r).known + 1) (next_ballot r (w.replica r)) r (w.replica r).held.accepted ∷ [])
        (next_above r (w.replica r))
        (λ p e.
        let b : Ballot = next_ballot r (w.replica r) in
        let is : start_proposing b own (length (spec_of ((w.replica r).known + 1))) ≡ p = cc in
        subst (λ z. HasCoordinator (after_step (s ((w.replica r).known + 1)) (Promises r b)) ((w.replica r).known + 1) r b z) is
        (record { follows = laws.starts (spec_of ((w.replica r).known + 1)) (after_step (s ((w.replica r).known + 1)) (Promises r b)) b own unused_next; by = refl; behind = below-irrefl b }))
        (λ m c. elim (in_two _ _ m c) [
          | inl is ↦ subst (λ z. IsSound (changed s ((w.replica r).known + 1) (after_step (s ((w.replica r).known + 1)) (Promises r (next_ballot r (w.replica r))))) z) is (next_high r (w.replica r))
          | inr is ↦ subst (λ z. IsSound (changed s ((w.replica r).known + 1) (after_step (s ((w.replica r).known + 1)) (Promises r (next_ballot r (w.replica r))))) z) is (sent_now (next_ballot r (w.replica r)))
        ])

    -- the coordinator of r after a step that does not propose
    old_coordinator : (e : PaxosStep D) (held : Acceptance D) → ((p : Proposing D) → IsOther e p.ballot) → ballot_lt held.promised (w.replica r).held.promised ≡ false →
        (p : Proposing D) → (w.replica r).coordinator ≡ Some p → HasCoordinator (after_step (s ((w.replica r).known + 1)) e) ((w.replica r).known + 1) r held.promised p
    old_coordinator e held other raised p is =
        let n = inv.coordinators r p is in
        record {
          follows = laws.others (spec_of ((w.replica r).known + 1)) (s ((w.replica r).known + 1)) p e (other p) n.follows;
          by = n.by;
          behind = le_trans p.ballot (w.replica r).held.promised held.promised n.behind raised;
        }

    good_asked : (i : ℕ) (b : Ballot) → ballot_lt lowest b ≡ true → Good (asked w r i b)
    unfolding Good
    good_asked i b high = go (not (i == (w.replica r).known + 1) || ballot_lt b (w.replica r).held.promised) refl
      where
        x : Replica D
        x = w.replica r

        go : (t : Bool) → (not (i == x.known + 1) || ballot_lt b x.held.promised) ≡ t →
            Good (cond t w (cond (ballot_lt x.held.promised b)
            (with_replica w r (record { known = x.known; held = after_promise x.held b; coordinator = x.coordinator }) (Promise i b r x.held.accepted ∷ []))
            (with_coordinator w r x.coordinator (Promise i b r x.held.accepted ∷ []))))
        go true e = (s, inv)
        go false e = elim_below (ballot_lt x.held.promised b) refl
          where
            now : i ≡ x.known + 1
            now = nat_eq_is i (x.known + 1) (not_false _ (either_false _ _ e).0)

            elim_below : (t : Bool) → ballot_lt x.held.promised b ≡ t →
                Good (cond t
                (with_replica w r (record { known = x.known; held = after_promise x.held b; coordinator = x.coordinator }) (Promise i b r x.held.accepted ∷ []))
                (with_coordinator w r x.coordinator (Promise i b r x.held.accepted ∷ [])))
            elim_below true up =
                subst (λ j. Good (with_replica w r (record { known = x.known; held = after_promise x.held b; coordinator = x.coordinator }) (Promise j b r x.held.accepted ∷ []))) (sym now)
                (promise_good b x.coordinator (Promise (x.known + 1) b r x.held.accepted ∷ []) up
                (old_coordinator (Promises r b) (after_promise x.held b) (λ p. tt) (below_not_back x.held.promised b up))
                (λ m c. subst (λ z. IsSound (changed s (x.known + 1) (after_step (s (x.known + 1)) (Promises r b))) z) (in_one _ m c) (sent_now b)))
            elim_below false level =
                let same : x.held.promised ≡ b = same_from_both x.held.promised b level (either_false _ _ e).1 in
                let again = laws.repeated (spec_of (x.known + 1)) (s (x.known + 1)) r (inv.reached (x.known + 1))
                (subst (λ a. ballot_lt lowest a.promised ≡ true) (sym held_is) (subst (λ z. ballot_lt lowest z ≡ true) (sym same) high)) in
                let told : IsSound s (Promise (x.known + 1) b r x.held.accepted) =
                subst (λ z. Contains (s (x.known + 1)).promises (record { ballot = z; answer = record { replica = r; accepted = x.held.accepted } }) ⊎ IsUsed (s (x.known + 1)) z) same
                (subst (λ a. Contains (s (x.known + 1)).promises (record { ballot = a.promised; answer = record { replica = r; accepted = a.accepted } }) ⊎ IsUsed (s (x.known + 1)) a.promised) held_is again) in (
                  s,
                  still w s inv r x.coordinator (Promise i b r x.held.accepted ∷ []) (inv.coordinators r)
                      (λ m c. subst (λ z. IsSound s z) (in_one _ m c) (subst (λ j. IsSound s (Promise j b r x.held.accepted)) (sym now) told)),
                )

    -- ---- a proposal comes

    good_offered : (i : ℕ) (b : Ballot) (d : D) → Contains (s i).proposals (record { ballot = b; value = d }) → Good (offered w r i b d)
    unfolding Good
    good_offered i b d there = go (not (i == (w.replica r).known + 1) || ballot_lt b (w.replica r).held.promised) refl
      where
        x : Replica D
        x = w.replica r

        f : ℕ → Acceptance D
        f = (s (x.known + 1)).acceptor

        go : (t : Bool) → (not (i == x.known + 1) || ballot_lt b x.held.promised) ≡ t →
            Good (cond t w (cond (is_held_below x.held.accepted b)
            (with_replica w r (record { known = x.known; held = after_accept x.held b d; coordinator = x.coordinator }) (Voted i b r ∷ [])) (cond (is_held_in x.held.accepted b) (with_coordinator w r x.coordinator (Voted i b r ∷ [])) w)))
        go true e = (s, inv)
        go false e = by_held (is_held_below x.held.accepted b) refl
          where
            now : i ≡ x.known + 1
            now = nat_eq_is i (x.known + 1) (not_false _ (either_false _ _ e).0)

            by_held : (t : Bool) → is_held_below x.held.accepted b ≡ t →
                Good (cond t (with_replica w r (record { known = x.known; held = after_accept x.held b d; coordinator = x.coordinator }) (Voted i b r ∷ [])) (cond (is_held_in x.held.accepted b) (with_coordinator w r x.coordinator (Voted i b r ∷ [])) w))
            by_held false high = again (is_held_in x.held.accepted b) refl
              where
                again : (t : Bool) → is_held_in x.held.accepted b ≡ t → Good (cond t (with_coordinator w r x.coordinator (Voted i b r ∷ [])) w)
                again false other = (s, inv)
                again true same =
                    let h = held_in x.held.accepted b same in
                    let vote : Contains (s (x.known + 1)).votes (record { ballot = h.0.0; acceptor = r; value = h.0.1 }) =
                    laws.voted (spec_of (x.known + 1)) (s (x.known + 1)) r (inv.reached (x.known + 1)) h.0 (ap (λ a. a.accepted) held_is ∙ h.1) in
                    let sound : IsSound s (Voted (x.known + 1) b r) = (h.0.1, subst (λ z. Contains (s (x.known + 1)).votes (record { ballot = z; acceptor = r; value = h.0.1 })) h.2 vote) in (
                      s,
                      still w s inv r x.coordinator (Voted i b r ∷ []) (inv.coordinators r)
                          (λ m c. subst (λ z. IsSound s z) (in_one _ m c) (subst (λ j. IsSound s (Voted j b r)) (sym now) sound)),
                    )
            by_held true low =
                let z : Instance D = s (x.known + 1) in
                let may : MayAccept x.held z.proposals b d = record {
                  takes = record { not_below = (either_false _ _ e).1; above = held_below x.held.accepted b low };
                  proposed = subst (λ j. Contains (s j).proposals (record { ballot = b; value = d })) now there;
                } in
                subst (λ j. Good (with_replica w r (record { known = x.known; held = after_accept x.held b d; coordinator = x.coordinator }) (Voted j b r ∷ []))) (sym now) (
                  changed s (x.known + 1) (after_step z (Accepts r b d)),
                  turn w s inv r (after_accept x.held b d) x.coordinator (Voted (x.known + 1) b r ∷ []) (Accepts r b d)
                      (subst (λ a. MayAccept a z.proposals b d) (sym held_is) may)
                      (λ q apart. with_cases D (λ a. a ≡ f q) f r (after_accept (f r) b d) q (λ same. absurd (apart same)) refl)
                      (with_same D (λ a. a ≡ after_accept x.held b d) f r (after_accept (f r) b d) (ap (λ a. after_accept a b d) held_is))
                      (either_false _ _ e).1
                      (λ q c. inl c)
                      (old_coordinator (Accepts r b d) (after_accept x.held b d) (λ p. tt) (either_false _ _ e).1)
                      (λ p apart. tt)
                      (λ m c. subst (λ y. IsSound (changed s (x.known + 1) (after_step z (Accepts r b d))) y) (in_one _ m c)
                      (d, changed_at s (x.known + 1) (after_step z (Accepts r b d)) (λ y. Contains y.votes (record { ballot = b; acceptor = r; value = d })) (Contains-push z.votes _))),
                )

    -- ---- an answer comes

    same_coordinator : (p q : Proposing D) (z : Instance D) → Some p ≡ Some q → HasCoordinator z ((w.replica r).known + 1) r (w.replica r).held.promised p → HasCoordinator z ((w.replica r).known + 1) r (w.replica r).held.promised q
    same_coordinator p q z e n = let is : p ≡ q = cc in subst (λ y. HasCoordinator z ((w.replica r).known + 1) r (w.replica r).held.promised y) is n

    module _ (b : Ballot) (from : ℕ) (h : Held D) (sound : IsSound s (Promise ((w.replica r).known + 1) b from h)) (member : Contains (spec_of ((w.replica r).known + 1)) from)
        (p : Proposing D) (n : HasCoordinator (s ((w.replica r).known + 1)) ((w.replica r).known + 1) r (w.replica r).held.promised p) (counts : counts_answer p from b ≡ true) where
      sent_open : p.has_proposed ≡ false
      sent_open = not_true _ (both _ _ (both _ _ counts).1).0

      sent_in : Contains (s ((w.replica r).known + 1)).promises (record { ballot = b; answer = record { replica = from; accepted = h } })
      sent_in = elim sound [
        | inl is ↦ is
        | inr used ↦ absurd (n.follows.unused sent_open used.0 used.1 (used.2 ∙ ballot_eq_is b p.ballot (both _ _ counts).0))
      ]

      sent_waits : nat_le (majority p.size) (length p.received + 1) ≡ false → Good (with_coordinator w r (Some (after_answer p from h)) [])
      unfolding Good
      sent_waits few =
          let kept : Follows (spec_of ((w.replica r).known + 1)) (s ((w.replica r).known + 1)) (after_answer p from h) =
          subst (λ c. Follows (spec_of ((w.replica r).known + 1)) (s ((w.replica r).known + 1)) (cond c (after_answer p from h) p)) counts
          (laws.waits (spec_of ((w.replica r).known + 1)) (s ((w.replica r).known + 1)) p from b h n.follows member sent_in
          (subst (λ c. (cond c (after_answer p from h) p).has_proposed ≡ p.has_proposed) (sym counts) (few ∙ sym sent_open))) in (
            s,
            still w s inv r (Some (after_answer p from h)) []
                (λ q e. same_coordinator (after_answer p from h) q _ e (record { follows = kept; by = n.by; behind = n.behind }))
                (λ m c. absurd (in_none m c)),
          )

      sent_proposes : nat_le (majority p.size) (length p.received + 1) ≡ true →
          Good (with_coordinator w r (Some (after_answer p from h)) (Offer ((w.replica r).known + 1) p.ballot (value_proposed (after_answer p from h)) ∷ []))
      unfolding Good
      sent_proposes enough =
          let z : Instance D = s ((w.replica r).known + 1) in
          let made = laws.proposes (spec_of ((w.replica r).known + 1)) z p from b h n.follows member sent_in counts (le_from _ _ enough) in (
            changed s ((w.replica r).known + 1) (after_step z (Proposes p.ballot p.own made.0)),
            turn w s inv r (w.replica r).held (Some (after_answer p from h)) (Offer ((w.replica r).known + 1) p.ballot (value_proposed (after_answer p from h)) ∷ []) (Proposes p.ballot p.own made.0)
                made.1
                (λ q apart. refl) held_is (below-irrefl (w.replica r).held.promised)
                (λ q c. elim (Contains-push_cases z.proposals _ q c) [
                  | inl old ↦ inl old
                  | inr new ↦ inr (sym (ap (λ y. y.ballot.by) new) ∙ n.by, subst (λ y. ballot_lt (w.replica r).held.promised y.ballot ≡ false) new n.behind)
                ])
                (λ q e. same_coordinator (after_answer p from h) q _ e (record { follows = made.3; by = n.by; behind = n.behind }))
                (λ q apart same. apart (sym (ap (λ y. y.by) same) ∙ n.by))
                (λ m c. subst (λ y. IsSound (changed s ((w.replica r).known + 1) (after_step z (Proposes p.ballot p.own made.0))) y) (in_one _ m c)
                (changed_at s ((w.replica r).known + 1) (after_step z (Proposes p.ballot p.own made.0))
                (λ y. Contains y.proposals (record { ballot = p.ballot; value = value_proposed (after_answer p from h) })) (made.3.proposed enough))),
          )

    unchanged_coordinator : (p : Proposing D) → HasCoordinator (s ((w.replica r).known + 1)) ((w.replica r).known + 1) r (w.replica r).held.promised p → Good (with_coordinator w r (Some p) [])
    unfolding Good
    unchanged_coordinator p n = (s, still w s inv r (Some p) [] (λ q e. same_coordinator p q _ e n) (λ m c. absurd (in_none m c)))

    good_sent : (i : ℕ) (b : Ballot) (from : ℕ) (h : Held D) → IsSound s (Promise i b from h) → i ≡ (w.replica r).known + 1 → Contains (spec_of i) from →
        (coordinator : Option (Proposing D)) → (w.replica r).coordinator ≡ coordinator → Good (sent_coordinator w r coordinator i b from h)
    unfolding Good
    good_sent i b from h sound now member None is = (s, inv)
    good_sent i b from h sound now member (Some p) is =
        subst (λ j. Good (sent_coordinator w r (Some p) j b from h)) (sym now) (go (counts_answer p from b) refl (nat_le (majority p.size) (length p.received + 1)) refl)
      where
        n : HasCoordinator (s ((w.replica r).known + 1)) ((w.replica r).known + 1) r (w.replica r).held.promised p
        n = inv.coordinators r p is

        sound' : IsSound s (Promise ((w.replica r).known + 1) b from h)
        sound' = subst (λ j. IsSound s (Promise j b from h)) now sound

        member' : Contains (spec_of ((w.replica r).known + 1)) from
        member' = subst (λ j. Contains (spec_of j) from) now member

        go : (c : Bool) → counts_answer p from b ≡ c → (m : Bool) → nat_le (majority p.size) (length p.received + 1) ≡ m →
            Good (with_coordinator w r (Some (cond c (after_answer p from h) p)) (cond (c && m) (Offer ((w.replica r).known + 1) p.ballot (value_proposed (after_answer p from h)) ∷ []) []))
        go false e m k = unchanged_coordinator p n
        go true e true k = sent_proposes b from h sound' member' p n e k
        go true e false k = sent_waits b from h sound' member' p n e k

    -- ---- a vote comes

    good_voted : (i : ℕ) (b : Ballot) (from : ℕ) → IsSound s (Voted i b from) → i ≡ (w.replica r).known + 1 → Contains (spec_of i) from →
        (coordinator : Option (Proposing D)) → (w.replica r).coordinator ≡ coordinator → Good (voted_coordinator w r coordinator i b from)
    unfolding Good
    good_voted i b from sound now member None is = (s, inv)
    good_voted i b from sound now member (Some p) is =
        subst (λ j. Good (voted_coordinator w r (Some p) j b from)) (sym now) (go (counts_vote p from b) refl (makes_majority p) refl)
      where
        n : HasCoordinator (s ((w.replica r).known + 1)) ((w.replica r).known + 1) r (w.replica r).held.promised p
        n = inv.coordinators r p is

        cast : IsSound s (Voted ((w.replica r).known + 1) b from)
        cast = subst (λ j. IsSound s (Voted j b from)) now sound

        member' : Contains (spec_of ((w.replica r).known + 1)) from
        member' = subst (λ j. Contains (spec_of j) from) now member

        more : Proposing D
        more = record p { voters = p.voters ++ from ∷ [] }

        counted : counts_vote p from b ≡ true → HasCoordinator (s ((w.replica r).known + 1)) ((w.replica r).known + 1) r (w.replica r).held.promised more
        counted e = record {
          follows = subst (λ c. Follows (spec_of ((w.replica r).known + 1)) (s ((w.replica r).known + 1)) (cond c more p)) e
              (laws.votes (spec_of ((w.replica r).known + 1)) (s ((w.replica r).known + 1)) p from b cast.0 (inv.reached _) n.follows member' cast.1);
          by = n.by;
          behind = n.behind;
        }

        go : (c : Bool) → counts_vote p from b ≡ c → (m : Bool) → makes_majority p ≡ m →
            Good (with_coordinator w r (Some (cond c more p)) (cond (c && m) (Decide ((w.replica r).known + 1) (value_proposed p) ∷ []) []))
        go false e m k = unchanged_coordinator p n
        go true e false k = unchanged_coordinator more (counted e)
        go true e true k = (
          s,
          still w s inv r (Some more) (Decide ((w.replica r).known + 1) (value_proposed p) ∷ [])
              (λ q is. same_coordinator more q _ is (counted e))
              (λ m c. subst (λ y. IsSound s y) (in_one _ m c)
              (laws.chooses (spec_of ((w.replica r).known + 1)) (s ((w.replica r).known + 1)) p from b cast.0 (inv.reached _) n.follows member' cast.1 e k)),
        )

    -- ---- a decision comes

    good_decided : (i : ℕ) → Good (decided w r i)
    unfolding Good changed
    good_decided i = go (nat_lt (w.replica r).known i) refl
      where
        go : (t : Bool) → nat_lt (w.replica r).known i ≡ t → Good (cond t (with_replica w r (record { known = i; held = fresh_acceptance; coordinator = None }) []) w)
        go false e = (s, inv)
        go true e =
            let late : (w.replica r).known < i = grind (arith, nat_tests) in (
              s,
              record {
                reached = inv.reached;
                present = λ q. changed_cases w.replica r _ q (λ x. (s (x.known + 1)).acceptor q ≡ x.held)
                    (λ same. subst (λ z. (s (i + 1)).acceptor z ≡ fresh_acceptance) (sym same) (inv.future r (i + 1) (omega arith)))
                    (λ other. inv.present q);
                future = λ q j. changed_cases w.replica r _ q (λ x. x.known + 1 < j → (s j).acceptor q ≡ fresh_acceptance)
                    (λ same after. subst (λ z. (s j).acceptor z ≡ fresh_acceptance) (sym same) (inv.future r j (omega arith)))
                    (λ other. inv.future q j);
                behind = λ j q c. changed_cases w.replica r _ q.ballot.by (λ x. IsBehind x j q.ballot)
                    (λ same. elim (subst (λ z. IsBehind (w.replica z) j q.ballot) same (inv.behind j q c)) [
                      | inl past ↦ inl (omega arith)
                      | inr now ↦ inl (let at : j ≡ (w.replica r).known + 1 = now.0 in omega arith)
                    ])
                    (λ other. inv.behind j q c);
                coordinators = λ q p. changed_cases w.replica r _ q (λ x. x.coordinator ≡ Some p → HasCoordinator (s (x.known + 1)) (x.known + 1) q x.held.promised p)
                    (λ same is. absurd (no_coordinator p is))
                    (λ other. inv.coordinators q p);
                sound = λ m c. elim (Contains-append_cases w.sent [] m c) [ inl old ↦ inv.sound m old | inr none ↦ absurd (in_none m none) ];
              },
            )

    -- ---- any event

    good_counted : (t : Bool) (i from : ℕ) → (i == (w.replica r).known + 1 && is_received (spec_of i) from) ≡ t → (w' : World D) →
        (i ≡ (w.replica r).known + 1 → Contains (spec_of i) from → Good w') → Good (cond t w' w)
    unfolding Good
    good_counted false i from e w' good = (s, inv)
    good_counted true i from e w' good = good (nat_eq_is _ _ (both _ _ e).0) (received_contains (spec_of i) from (both _ _ e).1)

    good_comes : (m : Option (Message D)) → ((x : Message D) → m ≡ Some x → Contains w.sent x) → Good (comes spec_of w r m)
    unfolding Good
    good_comes None there = (s, inv)
    good_comes (Some (Ask i b)) there = good_asked i b (inv.sound (Ask i b) (there _ refl))
    good_comes (Some (Promise i b from h)) there =
        good_counted (is_counted spec_of w r i from) i from refl _ (λ now member. good_sent i b from h (inv.sound (Promise i b from h) (there _ refl)) now member (w.replica r).coordinator refl)
    good_comes (Some (Offer i b d)) there = good_offered i b d (inv.sound (Offer i b d) (there _ refl))
    good_comes (Some (Voted i b from)) there =
        good_counted (is_counted spec_of w r i from) i from refl _ (λ now member. good_voted i b from (inv.sound (Voted i b from) (there _ refl)) now member (w.replica r).coordinator refl)
    good_comes (Some (Decide i d)) there = good_decided i

    good_crash : Good (with_coordinator w r None [])
    unfolding Good
    good_crash = (s, still w s inv r None [] (λ p is. absurd (no_coordinator p is)) (λ m c. absurd (in_none m c)))

  good_happens : (w : World D) (e : Event D) → Good w → Good (happens spec_of w e)
  unfolding Good
  good_happens w (Begin r own) g = good_begin w g.0 g.1 r own
  good_happens w (Comes r which) g = good_comes w g.0 g.1 r (slice_get w.sent which) (λ x e. got w.sent which x e)
  good_happens w (Crash r) g = good_crash w g.0 g.1 r

  good_after : (w : World D) (es : List (Event D)) → Good w → Good (world_after spec_of w es)
  good_after w [] g = g
  good_after w (e ∷ es) g = good_after (happens spec_of w e) es (good_happens w e g)

  good_start : Good start_world
  unfolding Good
  good_start = (
    λ _. fresh,
    record {
      reached = λ i. record { steps = []; run = tt; is = refl };
      present = λ r. refl;
      future = λ r i late. refl;
      behind = λ i q c. absurd (let h = c.1 in let n : ⊥ = omega arith in n);
      coordinators = λ r p is. absurd (no_coordinator p is);
      sound = λ m c. absurd (in_none m c);
    },
  )

  pub agree : (events : List (Event D)) (i : ℕ) (d e : D) → Contains (world_after spec_of start_world events).sent (Decide i d) → Contains (world_after spec_of start_world events).sent (Decide i e) → d ≡ e
  unfolding Good
  agree events i d e c k =
      let g = good_after start_world events good_start in
      let r = g.1.reached i in
      laws.choice (spec_of i) r.steps d e r.run
      (subst (λ z. IsChosen (spec_of i) z d) r.is (g.1.sound (Decide i d) c))
      (subst (λ z. IsChosen (spec_of i) z e) r.is (g.1.sound (Decide i e) k))
