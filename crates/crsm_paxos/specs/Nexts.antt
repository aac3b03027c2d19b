-- The next step of a proposer.
use Rattle.std.specs.Prelude.{ℕ, ◌+◌, ◌&&◌, nat_le, length, if◌then◌else◌}
use Rattle.crsm_base.specs.declared.stamp.Ballot.{Ballot}
use Rattle.crsm_base.specs.declared.decision.Decision.{Decision}
use Rattle.crsm_base.specs.Order.{ballot_lt, ballot_eq}
use Rattle.crsm_spec.specs.Paxos.{Held, majority}
use Rattle.crsm_spec.specs.Proposing.{Proposing, counts_answer, counts_vote, after_answer, value_proposed, makes_majority}
use Rattle.crsm_paxos.specs.declared.proposer.Next.{Next}
use Rattle.crsm_paxos.specs.declared.proposer.Next.TheVariants.{Wait, Propose, Chosen, Over}

-- an answer that makes the majority proposes the value that then counts
abbrev pub next_of_p1b : Proposing Decision → ℕ → Ballot → Held Decision → Next
next_of_p1b p from b accepted =
    if counts_answer p from b && nat_le (majority p.size) (length p.received + 1)
    then Propose p.ballot (value_proposed (after_answer p from accepted))
    else Wait

-- a vote that makes the majority has the proposed value chosen
abbrev pub next_of_p2b : Proposing Decision → ℕ → Ballot → Next
next_of_p2b p from b = if counts_vote p from b && makes_majority p then Chosen (value_proposed p) else Wait

-- a greater promise for this ballot ends it
abbrev pub next_of_no : Proposing Decision → Ballot → Ballot → Next
next_of_no p b promised = if ballot_eq b p.ballot && ballot_lt p.ballot promised then Over promised else Wait
