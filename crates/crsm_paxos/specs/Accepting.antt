-- The answers of an acceptor.
use Rattle.std.specs.Prelude.{◌≡◌, false}
use Rattle.std.specs.Option.{ForSome, IsSomeAnd}
use Rattle.crsm_base.specs.declared.stamp.Ballot.{Ballot}
use Rattle.crsm_base.specs.Order.{ballot_lt}
use Rattle.crsm_spec.specs.Paxos.{Acceptance, Held}

-- an accepted ballot is not above the promise
abbrev pub NotAbove : {D : Type 0} → Held D → Ballot → Type 0
NotAbove accepted promised = ForSome accepted (λ held. ballot_lt promised held.0 ≡ false)

-- the ballot is the accepted one, and not below the promise
pub record IsAcceptedNow {D : Type 0} (a : Acceptance D) (b : Ballot) : Type 0 where
  pub not_below : ballot_lt b a.promised ≡ false
  pub accepted : IsSomeAnd a.accepted (λ held. held.0 ≡ b)
