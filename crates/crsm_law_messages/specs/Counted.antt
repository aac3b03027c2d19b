-- The answers and votes that a coordinator counted are true of the logs of the replicas that sent them.
use Rattle.std.specs.Prelude.{◌≡◌, ℕ, ◌+◌, Some}
use Rattle.crsm_base.specs.Messages.{FitsControl}
use Rattle.crsm_spec.specs.Types.{Ballot, Decision}
use Rattle.crsm_spec.specs.Log.{Log, known, promised, accepted}
use Rattle.crsm_spec.specs.Paxos.{Answer}
use Rattle.crsm_spec.specs.World.{World, log_at}
use Rattle.crsm_fact_log.specs.Logs.{Extends}
use Rattle.crsm_law_messages.specs.SentMessages.{SentMessage, WasSentBefore}
use Rattle.crsm_law_messages.specs.Proposals.{Did, Counts, CountsVote}

-- each message sent on the way to w can be encoded
abbrev pub AllSpelt : ℕ → World → Type 0
AllSpelt n w = (s : SentMessage) → WasSentBefore n w s → FitsControl s.message

-- An earlier log of the replica that answered had promised the ballot, and had accepted the decision that the answer
-- names.
pub record IsPromise (w : World) (i : ℕ) (b : Ballot) (a : Answer Decision) : Type 0 where
  pub log : Log
  pub earlier : Extends log (log_at w a.replica)
  pub next : i ≡ known log + 1
  pub has_promised : promised log ≡ b
  pub had_accepted : a.accepted ≡ accepted log

-- An earlier log of replica j had accepted a decision in the ballot.
pub record IsAcceptance (w : World) (i : ℕ) (b : Ballot) (j : ℕ) : Type 0 where
  pub log : Log
  pub earlier : Extends log (log_at w j)
  pub next : i ≡ known log + 1
  pub decision : Decision
  pub had_accepted : accepted log ≡ Some (b, decision)

-- Each counted answer is a promise of the replica that answered.
abbrev pub AnswersAreTrue : Type 0
AnswersAreTrue =
    (n : ℕ) (w : World) (k i : ℕ) (b : Ballot) (a : Answer Decision) → AllSpelt n w → Did n w k (Counts i b a) → IsPromise w i b a

-- Each counted vote is an acceptance of the replica that voted.
abbrev pub VotesAreTrue : Type 0
VotesAreTrue =
    (n : ℕ) (w : World) (k i : ℕ) (b : Ballot) (j : ℕ) → AllSpelt n w → Did n w k (CountsVote i b j) → IsAcceptance w i b j
