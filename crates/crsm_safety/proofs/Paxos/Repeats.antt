-- An acceptor that promises the same ballot again repeats its answer, until that ballot proposes.
use Rattle.std.proofs.Common.{◌≡◌, ℕ, ◌⊎◌, true, List, [], ◌∷◌, ◌++◌, inl, inr, refl, sym, subst, Some, None}
use Rattle.std.specs.List.{Contains}
use Rattle.std.specs.Option.{ForSome}
use Rattle.std.proofs.lemmas.List.Elements.{Contains-push, Contains-append_left}
use Rattle.crsm_base.specs.Order.{ballot_lt}
use Rattle.crsm_spec.specs.Paxos.{Acceptance, Instance, PaxosStep, MayTake, after_promise, after_accept, after_step, after_steps, fresh, IsRun, IsChosen}
use Rattle.crsm_spec.specs.Paxos.PaxosStep.{Promises, Accepts, Proposes}
use Rattle.crsm_spec.specs.Following.{IsReached, IsUsed, lowest}
use Rattle.crsm_safety.proofs.Paxos.Instances.{with_cases}

module _ (D : Type 0) (spec : List ℕ) where
  -- the acceptor's last promise was answered with what it holds now, unless its ballot is used
  abbrev IsSent : Instance D → ℕ → Acceptance D → Type 0
  IsSent s r a = ballot_lt lowest a.promised ≡ true → Contains s.promises (record { ballot = a.promised; answer = record { replica = r; accepted = a.accepted } }) ⊎ IsUsed s a.promised

  Repeats : Instance D → Type 0
  Repeats s = (r : ℕ) → IsSent s r (s.acceptor r)

  kept-repeats : (s : Instance D) (e : PaxosStep D) → MayTake spec s e → Repeats s → Repeats (after_step s e)
  unfolding Repeats
  kept-repeats s (Promises r b) may told q =
      with_cases D (λ a. IsSent (after_step s (Promises r b)) q a) s.acceptor r (after_promise (s.acceptor r) b) q
      (λ at high. inl (subst (λ z. Contains (s.promises ++ record { ballot = b; answer = record { replica = r; accepted = (s.acceptor r).accepted } } ∷ [])
      (record { ballot = b; answer = record { replica = z; accepted = (s.acceptor r).accepted } })) (sym at) (Contains-push s.promises _)))
      (λ high. elim (told q high) [ inl is ↦ inl (Contains-append_left s.promises _ _ is) | inr used ↦ inr used ])
  kept-repeats s (Accepts r b d) may told q =
      with_cases D (λ a. IsSent (after_step s (Accepts r b d)) q a) s.acceptor r (after_accept (s.acceptor r) b d) q
      (λ at high. inr (record { ballot = b; value = d }, may.proposed, refl))
      (told q)
  kept-repeats s (Proposes b own answers) may told q =
      λ high. elim (told q high) [
        | inl is ↦ inl is
        | inr used ↦ inr (used.0, Contains-append_left s.proposals _ _ used.1, used.2)
      ]

  along-repeats : (s : Instance D) (es : List (PaxosStep D)) → IsRun spec s es → Repeats s → Repeats (after_steps s es)
  along-repeats s [] run told = told
  along-repeats s (e ∷ es) run told = along-repeats (after_step s e) es run.1 (kept-repeats s e run.0 told)

  start-repeats : Repeats fresh
  unfolding Repeats ballot_lt
  start-repeats r high = cc

  pub repeated : (s : Instance D) (r : ℕ) → IsReached spec s → IsSent s r (s.acceptor r)
  unfolding Repeats
  repeated s r reached =
      let all : Repeats s = subst Repeats (sym reached.is) (along-repeats fresh reached.steps reached.run start-repeats) in
      all r

  -- ---- what an acceptor holds is its vote

  abbrev IsVote : Instance D → ℕ → Acceptance D → Type 0
  IsVote s r a = ForSome a.accepted (λ held. Contains s.votes (record { ballot = held.0; acceptor = r; value = held.1 }))

  HeldAreVotes : Instance D → Type 0
  HeldAreVotes s = (r : ℕ) → IsVote s r (s.acceptor r)

  kept-votes : (s : Instance D) (e : PaxosStep D) → HeldAreVotes s → HeldAreVotes (after_step s e)
  unfolding HeldAreVotes
  kept-votes s (Promises r b) held q =
      with_cases D (λ a. IsVote s q a) s.acceptor r (after_promise (s.acceptor r) b) q
      (λ at. subst (λ z. IsVote s q (after_promise (s.acceptor z) b)) at (held q)) (held q)
  kept-votes s (Accepts r b d) held q =
      with_cases D (λ a. IsVote (after_step s (Accepts r b d)) q a) s.acceptor r (after_accept (s.acceptor r) b d) q
      (λ at h is.
      let same : (b, d) ≡ h = cc in
      subst (λ z. Contains (s.votes ++ record { ballot = b; acceptor = r; value = d } ∷ []) (record { ballot = z.0; acceptor = q; value = z.1 })) same
      (subst (λ z. Contains (s.votes ++ record { ballot = b; acceptor = r; value = d } ∷ []) (record { ballot = b; acceptor = z; value = d })) (sym at) (Contains-push s.votes _)))
      (λ h is. Contains-append_left s.votes _ _ (held q h is))
  kept-votes s (Proposes b own answers) held q = held q

  along-votes : (s : Instance D) (es : List (PaxosStep D)) → HeldAreVotes s → HeldAreVotes (after_steps s es)
  along-votes s [] held = held
  along-votes s (e ∷ es) held = along-votes (after_step s e) es (kept-votes s e held)

  start-votes : HeldAreVotes fresh
  unfolding HeldAreVotes
  start-votes r h is = absurd (no is)
    where
      no : None ≡ Some h → ⊥
      no e = cc

  pub held_is_vote : (s : Instance D) (r : ℕ) → IsReached spec s → IsVote s r (s.acceptor r)
  unfolding HeldAreVotes
  held_is_vote s r reached = let all : HeldAreVotes s = subst HeldAreVotes (sym reached.is) (along-votes fresh reached.steps start-votes) in all r

  -- ---- one step more

  run_more : (s : Instance D) (es : List (PaxosStep D)) (e : PaxosStep D) → IsRun spec s es → MayTake spec (after_steps s es) e → IsRun spec s (es ++ e ∷ [])
  run_more s [] e run may = (may, tt)
  run_more s (x ∷ es) e run may = (run.0, run_more (after_step s x) es e run.1 may)

  after_more : (s : Instance D) (es : List (PaxosStep D)) (e : PaxosStep D) → after_steps s (es ++ e ∷ []) ≡ after_step (after_steps s es) e
  after_more s [] e = refl
  after_more s (x ∷ es) e = after_more (after_step s x) es e

  pub reached_more : (s : Instance D) (e : PaxosStep D) → IsReached spec s → MayTake spec s e → IsReached spec (after_step s e)
  reached_more s e r may = record {
    steps = r.steps ++ e ∷ [];
    run = run_more fresh r.steps e r.run (subst (λ z. MayTake spec z e) r.is may);
    is = subst (λ z. after_step s e ≡ z) (sym (after_more fresh r.steps e)) (let P : Instance D → Type 0 = λ z. after_step s e ≡ after_step z e in subst P r.is refl);
  }

  pub chosen_more : (s : Instance D) (e : PaxosStep D) (d : D) → IsChosen spec s d → IsChosen spec (after_step s e) d
  chosen_more s (Promises r b) d c = record { ballot = c.ballot; voters = c.voters; majority = c.majority; voted = c.voted }
  chosen_more s (Accepts r b v) d c = record { ballot = c.ballot; voters = c.voters; majority = c.majority; voted = λ q k. Contains-append_left s.votes _ _ (c.voted q k) }
  chosen_more s (Proposes b own answers) d c = record { ballot = c.ballot; voters = c.voters; majority = c.majority; voted = c.voted }
