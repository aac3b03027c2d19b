-- Pages of reports, and acceptors' answers, that can be encoded.
use Rattle.std.proofs.Common.{◌≡◌, ℕ, ◌≤◌, List}
use Rattle.std.specs.List.{AllByRecursion}
use Rattle.crsm_base.specs.Spelling.{FitsOption, FitsEntry}
use Rattle.crsm_base.specs.Messages.{FitsVote}
use Rattle.crsm_spec.specs.Types.{Entry, Decision}
use Rattle.crsm_spec.specs.Lists.{Among}
use Rattle.crsm_spec.specs.Paxos.{Answer}
use Rattle.crsm_spec.specs.Replica.{LogPage}
use Rattle.crsm_spec.specs.Coordinate.{most_collected}

-- the decision in each answer, if there is one, can be encoded
abbrev pub AnswersFit : List (Answer Decision) → Type 0
AnswersFit answers = AllByRecursion (λ (a : Answer Decision). FitsOption FitsVote a.accepted) answers

-- a page of epoch x
pub record FitsPage (x : ℕ) (p : LogPage) : Type 0 where
  pub executed : p.executed ≤ most_collected
  pub entries : (z : Entry) → Among p.entries z → FitsEntry z × (z.epoch ≡ x)

abbrev pub FitPages : ℕ → List LogPage → Type 0
FitPages x pages = (p : LogPage) → Among pages p → FitsPage x p
