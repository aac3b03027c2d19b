-- In one instance no two different decisions are chosen.
use Rattle.std.proofs.Common.{◌≡◌, ◌≢◌, ℕ, ◌⊎◌, Bool, true, false, cond, nat_eq, List, [], ◌∷◌, map, length, get_or, ◌<◌, zero, suc, arith, inl, inr, refl, sym, subst, ap, ◌∙◌, Option, Some, None}
use Rattle.std.specs.List.{Contains}
use Rattle.std.specs.Option.{ForSome}
use Rattle.std.proofs.lemmas.List.Elements.{Contains-push_cases, Contains-append_left, Contains-append_right}
use Rattle.std.proofs.lemmas.Bool.Decides.{nat_tests}
use Rattle.crsm_base.specs.declared.stamp.Ballot.{Ballot}
use Rattle.crsm_base.specs.Order.{ballot_lt}
use Rattle.crsm_spec.specs.Paxos.{Held, Acceptance, Answer, Promise, Vote, Proposal, Instance, Found, best_of, value_of, value_of_best, IsMajority, PaxosStep, MayPromise, MayAccept, MayPropose, MayTake, with_acceptor, after_promise, after_accept, after_step, after_steps, fresh, IsRun, IsChosen}
use Rattle.crsm_spec.specs.Paxos.PaxosStep.{Promises, Accepts, Proposes}
use Rattle.crsm_base.proofs.Orders.{below-irrefl, below_trans, le_trans, below_le, le_below, below_not_back, compare}
use Rattle.crsm_safety.proofs.Paxos.Majority.{nat_eq_is, majorities_share, majority_has}
use Rattle.crsm_safety.proofs.Paxos.Best.{IsBest, best_is}

module _ (D : Type 0) where
  -- an element of a mapped list comes from one of the list
  unmap : (f : Answer D → ℕ) (xs : List (Answer D)) (y : ℕ) (k : ℕ) → k < length (map f xs) → get_or (map f xs) k y ≡ y →
      (x : Answer D) × Contains xs x × (f x ≡ y)
  unmap f [] y k h e = absurd (omega arith)
  unmap f (x ∷ xs) y zero h e = (x, (0, omega arith, refl), e)
  unmap f (x ∷ xs) y (suc k) h e =
      let (z, c, is) = unmap f xs y k (omega arith) e in
      (z, Contains-append_right (x ∷ []) xs z c, is)

  -- the changed acceptor, or another
  pub with_cases : (P : Acceptance D → Type 0) (f : ℕ → Acceptance D) (r : ℕ) (a : Acceptance D) (q : ℕ) →
      (q ≡ r → P a) → P (f q) → P (with_acceptor f r a q)
  with_cases P f r a q same other = go (nat_eq q r) refl
    where
      go : (b : Bool) → nat_eq q r ≡ b → P (cond b a (f q))
      go true e = same (nat_eq_is q r e)
      go false e = other

  pub with_same : (P : Acceptance D → Type 0) (f : ℕ → Acceptance D) (r : ℕ) (a : Acceptance D) → P a → P (with_acceptor f r a r)
  with_same P f r a h =
      let e : nat_eq r r ≡ true = grind (arith, nat_tests) in
      subst (λ b. P (cond b a (f r))) (sym e) h

module _ (D : Type 0) (spec : List ℕ) where
  -- the replica has promised a ballot above b, and has not voted in b
  pub record Passed (s : Instance D) (r : ℕ) (b : Ballot) : Type 0 where
    pub promised : ballot_lt b (s.acceptor r).promised ≡ true
    pub no_vote : (v : Vote D) → Contains s.votes v → v.acceptor ≡ r → v.ballot ≢ b

  -- nothing is chosen in b any more
  pub record Blocked (s : Instance D) (b : Ballot) : Type 0 where
    pub replicas : List ℕ
    pub majority : IsMajority spec replicas
    pub passed : (r : ℕ) → Contains replicas r → Passed s r b

  -- whatever is or can still be chosen in b is d
  abbrev pub Safe : Instance D → Ballot → D → Type 0
  Safe s b d = Contains s.proposals (record { ballot = b; value = d }) ⊎ Blocked s b

  -- what is held tells of a vote in b: it has a ballot that is not below b
  pub record SendsControl (h : Held D) (b : Ballot) : Type 0 where
    pub held : Ballot × D
    pub is : h ≡ Some held
    pub not_below : ballot_lt held.0 b ≡ false

  abbrev pub WasProposed : Instance D → Held D → Type 0
  WasProposed s h = ForSome h (λ held. Contains s.proposals (record { ballot = held.0; value = held.1 }))

  pub record Invariant (s : Instance D) : Type 0 where
    pub promise_kept : (p : Promise D) → Contains s.promises p → ballot_lt (s.acceptor p.answer.replica).promised p.ballot ≡ false
    pub vote_held : (v : Vote D) → Contains s.votes v → SendsControl (s.acceptor v.acceptor).accepted v.ballot
    pub held_proposed : (r : ℕ) → WasProposed s (s.acceptor r).accepted
    pub vote_proposed : (v : Vote D) → Contains s.votes v → Contains s.proposals (record { ballot = v.ballot; value = v.value })
    pub one_each : (p q : Proposal D) → Contains s.proposals p → Contains s.proposals q → p.ballot ≡ q.ballot → p.value ≡ q.value
    pub answer_sends : (p : Promise D) → Contains s.promises p → (v : Vote D) → Contains s.votes v →
        v.acceptor ≡ p.answer.replica → ballot_lt v.ballot p.ballot ≡ true → SendsControl p.answer.accepted v.ballot
    pub answer_proposed : (p : Promise D) → Contains s.promises p → WasProposed s p.answer.accepted
    pub safe : (p : Proposal D) → Contains s.proposals p → (b : Ballot) → ballot_lt b p.ballot ≡ true → Safe s b p.value

  -- ---- two decisions are the same

  pub proposed : (s : Instance D) → Invariant s → (d : D) (c : IsChosen spec s d) → Contains s.proposals (record { ballot = c.ballot; value = d })
  proposed s i d c =
      let (r, here) = majority_has spec c.voters c.majority in
      i.vote_proposed (record { ballot = c.ballot; acceptor = r; value = d }) (c.voted r here)

  earlier : (s : Instance D) → Invariant s → (d e : D) (c : IsChosen spec s d) (k : IsChosen spec s e) → ballot_lt c.ballot k.ballot ≡ true → d ≡ e
  earlier s i d e c k lower =
      elim (i.safe (record { ballot = k.ballot; value = e }) (proposed s i e k) c.ballot lower) [
        | inl also ↦ i.one_each (record { ballot = c.ballot; value = d }) (record { ballot = c.ballot; value = e }) (proposed s i d c) also refl
        | inr blocked ↦
            let (r, voted, passed) = majorities_share spec c.voters blocked.replicas c.majority blocked.majority in
            absurd ((blocked.passed r passed).no_vote (record { ballot = c.ballot; acceptor = r; value = d }) (c.voted r voted) refl refl)
      ]

  pub agree : (s : Instance D) → Invariant s → (d e : D) → IsChosen spec s d → IsChosen spec s e → d ≡ e
  agree s i d e c k =
      elim (compare c.ballot k.ballot) [
        | inl lower ↦ earlier s i d e c k lower
        | inr (inl same) ↦ i.one_each (record { ballot = c.ballot; value = d }) (record { ballot = k.ballot; value = e }) (proposed s i d c) (proposed s i e k) same
        | inr (inr higher) ↦ sym (earlier s i e d k c higher)
      ]

  -- ---- a fresh instance

  none_in : {X : Type 0} (x : X) → Contains [] x → ⊥
  none_in x c = let h = c.1 in omega arith

  pub start : Invariant fresh
  start = record {
    promise_kept = λ p c. absurd (none_in p c);
    vote_held = λ v c. absurd (none_in v c);
    held_proposed = λ r held e. cc;
    vote_proposed = λ v c. absurd (none_in v c);
    one_each = λ p q c k e. absurd (none_in p c);
    answer_sends = λ p c v k e l. absurd (none_in p c);
    answer_proposed = λ p c. absurd (none_in p c);
    safe = λ p c b l. absurd (none_in p c);
  }

  -- ---- a promise

  module _ (s : Instance D) (r : ℕ) (b : Ballot) (may : MayPromise (s.acceptor r) b) (i : Invariant s) where
    made : Promise D
    made = record { ballot = b; answer = record { replica = r; accepted = (s.acceptor r).accepted } }

    by_promise : Instance D
    by_promise = after_step s (Promises r b)

    promise_kept-promise : (p : Promise D) → Contains by_promise.promises p → ballot_lt (by_promise.acceptor p.answer.replica).promised p.ballot ≡ false
    unfolding by_promise made
    promise_kept-promise p c =
        elim (Contains-push_cases s.promises made p c) [
          | inl old ↦ with_cases D (λ a. ballot_lt a.promised p.ballot ≡ false) s.acceptor r (after_promise (s.acceptor r) b) p.answer.replica
              (λ same.
              let was : ballot_lt (s.acceptor r).promised p.ballot ≡ false = subst (λ q. ballot_lt (s.acceptor q).promised p.ballot ≡ false) same (i.promise_kept p old) in
              below_not_back p.ballot b (le_below p.ballot (s.acceptor r).promised b was may))
              (i.promise_kept p old)
          | inr new ↦ subst (λ z. ballot_lt (by_promise.acceptor z.answer.replica).promised z.ballot ≡ false) new
              (with_same D (λ a. ballot_lt a.promised b ≡ false) s.acceptor r (after_promise (s.acceptor r) b) (below-irrefl b))
        ]

    passed-promise : (q : ℕ) (a : Ballot) → Passed s q a → Passed by_promise q a
    unfolding by_promise
    passed-promise q a p = record {
      promised = with_cases D (λ z. ballot_lt a z.promised ≡ true) s.acceptor r (after_promise (s.acceptor r) b) q
          (λ same. below_trans a (s.acceptor r).promised b (subst (λ z. ballot_lt a (s.acceptor z).promised ≡ true) same p.promised) may)
          p.promised;
      no_vote = p.no_vote;
    }

    kept-promise : Invariant by_promise
    unfolding by_promise made
    kept-promise = record {
      promise_kept = promise_kept-promise;
      vote_held = λ v c. with_cases D (λ a. SendsControl a.accepted v.ballot) s.acceptor r (after_promise (s.acceptor r) b) v.acceptor
          (λ same. subst (λ q. SendsControl (s.acceptor q).accepted v.ballot) same (i.vote_held v c))
          (i.vote_held v c);
      held_proposed = λ q. with_cases D (λ a. WasProposed s a.accepted) s.acceptor r (after_promise (s.acceptor r) b) q
          (λ same. i.held_proposed r)
          (i.held_proposed q);
      vote_proposed = i.vote_proposed;
      one_each = i.one_each;
      answer_sends = λ p c v k same lower. elim (Contains-push_cases s.promises made p c) [
        | inl old ↦ i.answer_sends p old v k same lower
        | inr new ↦ subst (λ z. v.acceptor ≡ z.answer.replica → SendsControl z.answer.accepted v.ballot) new
            (λ by. subst (λ q. SendsControl (s.acceptor q).accepted v.ballot) by (i.vote_held v k)) same
      ];
      answer_proposed = λ p c. elim (Contains-push_cases s.promises made p c) [
        | inl old ↦ i.answer_proposed p old
        | inr new ↦ subst (λ z. WasProposed s z.answer.accepted) new (i.held_proposed r)
      ];
      safe = λ p c a lower. elim (i.safe p c a lower) [
        | inl also ↦ inl also
        | inr blocked ↦ inr (record { replicas = blocked.replicas; majority = blocked.majority; passed = λ q k. passed-promise q a (blocked.passed q k) })
      ];
    }

  -- ---- an accept

  module _ (s : Instance D) (r : ℕ) (b : Ballot) (d : D) (may : MayAccept (s.acceptor r) s.proposals b d) (i : Invariant s) where
    cast : Vote D
    cast = record { ballot = b; acceptor = r; value = d }

    by_accept : Instance D
    by_accept = after_step s (Accepts r b d)

    -- no promise of r is above b
    not_above : (p : Promise D) → Contains s.promises p → p.answer.replica ≡ r → ballot_lt b p.ballot ≡ false
    not_above p c same =
        le_trans p.ballot (s.acceptor r).promised b
        (subst (λ q. ballot_lt (s.acceptor q).promised p.ballot ≡ false) same (i.promise_kept p c))
        may.takes.not_below

    vote_held-accept : (v : Vote D) → Contains by_accept.votes v → SendsControl (by_accept.acceptor v.acceptor).accepted v.ballot
    unfolding by_accept cast
    vote_held-accept v c =
        elim (Contains-push_cases s.votes cast v c) [
          | inl old ↦ with_cases D (λ a. SendsControl a.accepted v.ballot) s.acceptor r (after_accept (s.acceptor r) b d) v.acceptor
              (λ same.
              let t : SendsControl (s.acceptor r).accepted v.ballot = subst (λ q. SendsControl (s.acceptor q).accepted v.ballot) same (i.vote_held v old) in
              record {
                held = (b, d);
                is = refl;
                not_below = below_not_back v.ballot b (le_below v.ballot t.held.0 b t.not_below (may.takes.above t.held t.is));
              })
              (i.vote_held v old)
          | inr new ↦ subst (λ z. SendsControl (by_accept.acceptor z.acceptor).accepted z.ballot) new
              (with_same D (λ a. SendsControl a.accepted b) s.acceptor r (after_accept (s.acceptor r) b d)
              (record { held = (b, d); is = refl; not_below = below-irrefl b }))
        ]

    passed-accept : (q : ℕ) (a : Ballot) → Passed s q a → Passed by_accept q a
    unfolding by_accept cast
    passed-accept q a p =
        let up : q ≡ r → ballot_lt a b ≡ true = λ same. below_le a (s.acceptor r).promised b (subst (λ z. ballot_lt a (s.acceptor z).promised ≡ true) same p.promised) may.takes.not_below in
        record {
          promised = with_cases D (λ z. ballot_lt a z.promised ≡ true) s.acceptor r (after_accept (s.acceptor r) b d) q up p.promised;
          no_vote = λ v c of_q in_a. elim (Contains-push_cases s.votes cast v c) [
            | inl old ↦ p.no_vote v old of_q in_a
            | inr new ↦
                let by_r : r ≡ v.acceptor = ap (λ z. z.acceptor) new in
                let in_b : b ≡ v.ballot = ap (λ z. z.ballot) new in
                let low : ballot_lt a b ≡ true = up (sym (by_r ∙ of_q)) in
                let not_low : ballot_lt a a ≡ false = below-irrefl a in
                let same : b ≡ a = in_b ∙ in_a in
                let low' : ballot_lt a a ≡ true = subst (λ z. ballot_lt a z ≡ true) same low in
                cc
          ];
        }

    kept-accept : Invariant by_accept
    unfolding by_accept cast
    kept-accept = record {
      promise_kept = λ p c. with_cases D (λ a. ballot_lt a.promised p.ballot ≡ false) s.acceptor r (after_accept (s.acceptor r) b d) p.answer.replica
          (λ same. not_above p c same)
          (i.promise_kept p c);
      vote_held = vote_held-accept;
      held_proposed = λ q. with_cases D (λ a. WasProposed s a.accepted) s.acceptor r (after_accept (s.acceptor r) b d) q
          (λ same held e. let is : (b, d) ≡ held = cc in subst (λ z. Contains s.proposals (record { ballot = z.0; value = z.1 })) is may.proposed)
          (i.held_proposed q);
      vote_proposed = λ v c. elim (Contains-push_cases s.votes cast v c) [
        | inl old ↦ i.vote_proposed v old
        | inr new ↦ subst (λ z. Contains s.proposals (record { ballot = z.ballot; value = z.value })) new may.proposed
      ];
      one_each = i.one_each;
      answer_sends = λ p c v k same lower. elim (Contains-push_cases s.votes cast v k) [
        | inl old ↦ i.answer_sends p c v old same lower
        | inr new ↦
            let by_r : r ≡ v.acceptor = ap (λ z. z.acceptor) new in
            let in_b : b ≡ v.ballot = ap (λ z. z.ballot) new in
            let late : ballot_lt b p.ballot ≡ false = not_above p c (sym (by_r ∙ same)) in
            let early : ballot_lt b p.ballot ≡ true = subst (λ z. ballot_lt z p.ballot ≡ true) (sym in_b) lower in
            cc
      ];
      answer_proposed = i.answer_proposed;
      safe = λ p c a lower. elim (i.safe p c a lower) [
        | inl also ↦ inl also
        | inr blocked ↦ inr (record { replicas = blocked.replicas; majority = blocked.majority; passed = λ q k. passed-accept q a (blocked.passed q k) })
      ];
    }

  -- ---- a proposal

  module _ (s : Instance D) (b : Ballot) (own : D) (answers : List (Answer D)) (may : MayPropose spec s b answers) (i : Invariant s) where
    offered : Proposal D
    offered = record { ballot = b; value = value_of own answers }

    by_propose : Instance D
    by_propose = after_step s (Proposes b own answers)

    -- those who answered block each lower ballot of which no answer tells
    blocked_by_answers : (a : Ballot) → ballot_lt a b ≡ true →
        ((x : Answer D) → Contains answers x → SendsControl x.accepted a → ⊥) → Blocked s a
    blocked_by_answers a lower untold = record {
      replicas = map (λ x. x.replica) answers;
      majority = may.majority;
      passed = λ r k.
          let (x, here, is) = unmap D (λ x. x.replica) answers r k.0 k.1 k.2 in
          let p : Promise D = record { ballot = b; answer = x } in
          record {
            promised = subst (λ q. ballot_lt a (s.acceptor q).promised ≡ true) is
                (below_le a b (s.acceptor x.replica).promised lower (i.promise_kept p (may.promised x here)));
            no_vote = λ v c of_r in_a.
                let early : ballot_lt v.ballot b ≡ true = subst (λ z. ballot_lt z b ≡ true) (sym in_a) lower in
                let t : SendsControl x.accepted v.ballot = i.answer_sends p (may.promised x here) v c (of_r ∙ sym is) early in
                untold x here (subst (λ z. SendsControl x.accepted z) in_a t);
          };
    }

    safe_value : (a : Ballot) → ballot_lt a b ≡ true → Safe s a (value_of own answers)
    safe_value a lower = go (best_of answers) (best_is D answers)
      where
        go : (best : Option (Found D)) → IsBest D answers best → Safe s a (value_of_best own best)
        go None none = inr (blocked_by_answers a lower (λ x here t. let n = none x here in let e = t.is in cc))
        go (Some f) g =
            let there : Contains s.proposals (record { ballot = f.ballot; value = f.value }) =
            i.answer_proposed (record { ballot = b; answer = record { replica = f.replica; accepted = Some (f.ballot, f.value) } })
            (may.promised _ g.named) (f.ballot, f.value) refl in
            elim (compare a f.ballot) [
              | inl under ↦ i.safe (record { ballot = f.ballot; value = f.value }) there a under
              | inr (inl same) ↦ inl (subst (λ z. Contains s.proposals (record { ballot = z; value = f.value })) (sym same) there)
              | inr (inr over) ↦ inr (blocked_by_answers a lower (λ x here t.
                  let low : ballot_lt f.ballot t.held.0 ≡ true = below_le f.ballot a t.held.0 over t.not_below in
                  let not_low : ballot_lt f.ballot t.held.0 ≡ false = g.greatest x here t.held t.is in
                  cc))
            ]

    grow : (a : Ballot) (d : D) → Safe s a d → Safe by_propose a d
    unfolding by_propose
    grow a d (inl also) = inl (Contains-append_left s.proposals _ _ also)
    grow a d (inr blocked) = inr (record {
      replicas = blocked.replicas;
      majority = blocked.majority;
      passed = λ q k. let p = blocked.passed q k in record { promised = p.promised; no_vote = p.no_vote };
    })

    kept-propose : Invariant by_propose
    unfolding by_propose offered
    kept-propose = record {
      promise_kept = i.promise_kept;
      vote_held = i.vote_held;
      held_proposed = λ r held e. Contains-append_left s.proposals _ _ (i.held_proposed r held e);
      vote_proposed = λ v c. Contains-append_left s.proposals _ _ (i.vote_proposed v c);
      one_each = λ p q c k same. elim (Contains-push_cases s.proposals offered p c) [
        | inl old_p ↦ elim (Contains-push_cases s.proposals offered q k) [
          | inl old_q ↦ i.one_each p q old_p old_q same
          | inr new_q ↦ absurd (may.first p old_p (same ∙ sym (ap (λ z. z.ballot) new_q)))
        ]
        | inr new_p ↦ elim (Contains-push_cases s.proposals offered q k) [
          | inl old_q ↦ absurd (may.first q old_q (sym same ∙ sym (ap (λ z. z.ballot) new_p)))
          | inr new_q ↦ sym (ap (λ z. z.value) new_p) ∙ ap (λ z. z.value) new_q
        ]
      ];
      answer_sends = i.answer_sends;
      answer_proposed = λ p c held e. Contains-append_left s.proposals _ _ (i.answer_proposed p c held e);
      safe = λ p c a lower. elim (Contains-push_cases s.proposals offered p c) [
        | inl old ↦ grow a p.value (i.safe p old a lower)
        | inr new ↦
            let in_b : b ≡ p.ballot = ap (λ z. z.ballot) new in
            subst (λ z. Safe by_propose a z) (ap (λ z. z.value) new)
            (grow a (value_of own answers) (safe_value a (subst (λ z. ballot_lt a z ≡ true) (sym in_b) lower)))
      ];
    }

  -- ---- runs

  pub kept : (s : Instance D) (e : PaxosStep D) → MayTake spec s e → Invariant s → Invariant (after_step s e)
  unfolding by_promise by_accept by_propose
  kept s (Promises r b) may i = kept-promise s r b may i
  kept s (Accepts r b d) may i = kept-accept s r b d may i
  kept s (Proposes b own answers) may i = kept-propose s b own answers may i

  pub along : (s : Instance D) (es : List (PaxosStep D)) → IsRun spec s es → Invariant s → Invariant (after_steps s es)
  along s [] run i = i
  along s (e ∷ es) run i = along (after_step s e) es run.1 (kept s e run.0 i)

  pub one_decision : (es : List (PaxosStep D)) (d e : D) → IsRun spec fresh es → IsChosen spec (after_steps fresh es) d → IsChosen spec (after_steps fresh es) e → d ≡ e
  one_decision es d e run c k = agree (after_steps fresh es) (along fresh es run start) d e c k
