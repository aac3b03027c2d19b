-- An acceptor's promise is not below what it has accepted.
use Rattle.std.proofs.Common.{◌≡◌, ℕ, false, List, [], ◌∷◌, sym, subst, Some, None}
use Rattle.std.specs.Option.{ForSome}
use Rattle.crsm_base.specs.declared.stamp.Ballot.{Ballot}
use Rattle.crsm_base.specs.Order.{ballot_lt}
use Rattle.crsm_base.proofs.Orders.{below-irrefl, le_below, below_not_back}
use Rattle.crsm_spec.specs.Paxos.{Acceptance, Instance, PaxosStep, MayTake, after_promise, after_accept, after_step, after_steps, fresh, IsRun}
use Rattle.crsm_spec.specs.Paxos.PaxosStep.{Promises, Accepts, Proposes}
use Rattle.crsm_spec.specs.Following.{IsReached}
use Rattle.crsm_safety.proofs.Paxos.Instances.{with_cases}

module _ (D : Type 0) (spec : List ℕ) where
  abbrev pub IsLow : Acceptance D → Type 0
  IsLow a = ForSome a.accepted (λ held. ballot_lt a.promised held.0 ≡ false)

  abbrev AreLow : Instance D → Type 0
  AreLow s = (r : ℕ) → IsLow (s.acceptor r)

  kept-low : (s : Instance D) (e : PaxosStep D) → MayTake spec s e → AreLow s → AreLow (after_step s e)
  kept-low s (Promises r b) may low q =
      with_cases D IsLow s.acceptor r (after_promise (s.acceptor r) b) q
      (λ at held is. below_not_back held.0 b (le_below held.0 (s.acceptor r).promised b (low r held is) may)) (low q)
  kept-low s (Accepts r b d) may low q =
      with_cases D IsLow s.acceptor r (after_accept (s.acceptor r) b d) q
      (λ at held is. let same : (b, d) ≡ held = cc in subst (λ z. ballot_lt b z.0 ≡ false) same (below-irrefl b)) (low q)
  kept-low s (Proposes b own answers) may low q = low q

  along-low : (s : Instance D) (es : List (PaxosStep D)) → IsRun spec s es → AreLow s → AreLow (after_steps s es)
  along-low s [] run low = low
  along-low s (e ∷ es) run low = along-low (after_step s e) es run.1 (kept-low s e run.0 low)

  pub held_low : (s : Instance D) (r : ℕ) → IsReached spec s → IsLow (s.acceptor r)
  held_low s r reached =
      let all : AreLow s = subst AreLow (sym reached.is) (along-low fresh reached.steps reached.run (λ q held is. absurd (none held is))) in
      all r
    where
      none : (held : Ballot × D) → None ≡ Some held → ⊥
      none held e = cc
