-- When an acceptor takes a vote.
use Rattle.std.proofs.Common.{◌≡◌, Some, None, true, false, inl, inr, subst, refl}
use Rattle.std.specs.Option.{ForSome, IsSomeAnd}
use Rattle.crsm_base.specs.declared.stamp.Ballot.{Ballot}
use Rattle.crsm_base.specs.Order.{ballot_lt}
use Rattle.crsm_base.proofs.Orders.{below-irrefl, le_trans, compare}
use Rattle.crsm_spec.specs.Paxos.{Acceptance, Held, TakesVote}
use Rattle.crsm_paxos.specs.Accepting.{NotAbove}

not_again_held : {D : Type 0} (h : Held D) (b : Ballot) → IsSomeAnd h (λ held. held.0 ≡ b) → ForSome h (λ held. ballot_lt held.0 b ≡ true) → ⊥
not_again_held None b is above = is
not_again_held (Some held) b is above =
    let low : ballot_lt held.0 b ≡ true = above held refl in
    let low' : ballot_lt b b ≡ true = subst (λ z. ballot_lt z b ≡ true) is low in
    let not_low : ballot_lt b b ≡ false = below-irrefl b in
    cc

-- a ballot that is accepted is not accepted again
pub not_again : {D : Type 0} (a : Acceptance D) (b : Ballot) → IsSomeAnd a.accepted (λ held. held.0 ≡ b) → TakesVote a b → ⊥
not_again a b is t = not_again_held a.accepted b is t.above

above_other : {D : Type 0} (h : Held D) (promised b : Ballot) → NotAbove h promised → ballot_lt b promised ≡ false →
    (IsSomeAnd h (λ held. held.0 ≡ b) → ⊥) → ForSome h (λ held. ballot_lt held.0 b ≡ true)
above_other None promised b kept not_below other held is = cc
above_other (Some h) promised b kept not_below other held is =
    elim (compare held.0 b) [
      | inl low ↦ low
      | inr (inl same) ↦ let e : held ≡ h = cc in absurd (other (subst (λ z. z.0 ≡ b) e same))
      | inr (inr high) ↦
          let low : ballot_lt b held.0 ≡ false = le_trans held.0 promised b (kept held is) not_below in
          cc
    ]

-- a ballot that is not below the promise is accepted, unless it is the accepted one
pub takes_other : {D : Type 0} (a : Acceptance D) (b : Ballot) → NotAbove a.accepted a.promised → ballot_lt b a.promised ≡ false →
    (IsSomeAnd a.accepted (λ held. held.0 ≡ b) → ⊥) → TakesVote a b
takes_other a b kept not_below other = record { not_below = not_below; above = above_other a.accepted a.promised b kept not_below other }

-- what is accepted in the ballot promised is not above it
pub not_above_itself : {D : Type 0} (b : Ballot) (d : D) → NotAbove (Some (b, d)) b
not_above_itself b d held is =
    let same : b ≡ held.0 = cc in
    subst (λ z. ballot_lt b z ≡ false) same (below-irrefl b)
