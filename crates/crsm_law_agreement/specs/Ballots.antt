-- The ballots of all instances, read off the logs of one moment: what was offered in them, accepted and chosen.
use Rattle.std.specs.Prelude.{◌≡◌, ◌⊎◌, ℕ, ◌+◌, IsTrue, List, [], ◌∷◌, map, Option, Some}
use Rattle.crsm_spec.specs.Types.{Ballot, Decision, Rec}
use Rattle.crsm_spec.specs.Lists.{Among}
use Rattle.crsm_spec.specs.Log.{Log, known, spec, promised, accepted}
use Rattle.crsm_spec.specs.Quorum.{has_majority}
use Rattle.crsm_spec.specs.Paxos.{Answer, value_of}
use Rattle.crsm_spec.specs.Replica.{LogPage}
use Rattle.crsm_spec.specs.Collect.{whole_ones, collected}
use Rattle.crsm_fact_log.specs.Logs.{Extends}
use Rattle.crsm_law_collection.specs.Paging.{AreParts}

-- The proposer of this ballot offers, as the decision after epoch `instance` - 1, the value that Paxos allows after the
-- answers.
pub record Offer : Type 0 where
  pub instance : ℕ
  pub ballot : Ballot
  pub own : Decision
  pub answers : List (Answer Decision)

-- d was offered in ballot b of instance i
pub record IsOffered (offers : List Offer) (i : ℕ) (b : Ballot) (d : Decision) : Type 0 where
  pub offer : Offer
  pub among : Among offers offer
  pub instance : offer.instance ≡ i
  pub ballot : offer.ballot ≡ b
  pub value : value_of offer.own offer.answers ≡ d

-- A coordinator made d, for instance i, of the complete reports of a majority of the Spec that it knew. The Spec after
-- it is the first one, that one, or these members.
pub record IsComplete (n : ℕ) (logs : ℕ → Log) (i : ℕ) (d : Decision) : Type 0 where
  pub by : ℕ
  pub log : Log
  pub earlier : Extends log (logs by)
  pub next : i ≡ known log + 1
  pub members : List ℕ
  pub named : Option (List ℕ)
  pub pages : List LogPage
  pub parts : AreParts (known log) logs pages
  pub many : IsTrue (has_majority (spec n log) (whole_ones (spec n log) pages))
  pub is : d ≡ collected (spec n log) named log members pages
  pub names : (s : List ℕ) → named ≡ Some s → (s ≡ spec n log) ⊎ (s ≡ members)

-- An earlier log of the replica that answered had promised the ballot, and had accepted the decision that the answer
-- names.
pub record HasPromised (logs : ℕ → Log) (i : ℕ) (b : Ballot) (a : Answer Decision) : Type 0 where
  pub log : Log
  pub earlier : Extends log (logs a.replica)
  pub next : i ≡ known log + 1
  pub has_promised : promised log ≡ b
  pub had_accepted : a.accepted ≡ accepted log

-- the decision that the answer names was offered
abbrev pub NamesOffered : List Offer → ℕ → Answer Decision → Type 0
NamesOffered offers i a = (b : Ballot) (d : Decision) → a.accepted ≡ Some (b, d) → IsOffered offers i b d

-- An offer made after the earlier ones: the only one of its ballot, over the promises of a majority.
pub record IsSound (n : ℕ) (logs : ℕ → Log) (earlier : List Offer) (o : Offer) : Type 0 where
  pub log : Log
  pub was : Extends log (logs o.ballot.by)
  pub next : o.instance ≡ known log + 1
  pub only : (p : Offer) → Among earlier p → p.instance ≡ o.instance → p.ballot ≡ o.ballot → ⊥
  pub complete : IsComplete n logs o.instance o.own
  pub many : IsTrue (has_majority (spec n log) (map (λ a. a.replica) o.answers))
  pub promised : (a : Answer Decision) → Among o.answers a → HasPromised logs o.instance o.ballot a
  pub named : (a : Answer Decision) → Among o.answers a → NamesOffered earlier o.instance a

-- offers that are sound, the newest first
abbrev pub AreSound : ℕ → (ℕ → Log) → List Offer → Type 0
AreSound n logs [] = Unit {0}
AreSound n logs (o ∷ os) = IsSound n logs os o × AreSound n logs os

-- A majority of the Spec that its proposer knew has accepted d in one ballot.
pub record IsChosen (n : ℕ) (logs : ℕ → Log) (d : Decision) : Type 0 where
  pub by : ℕ
  pub log : Log
  pub earlier : Extends log (logs by)
  pub next : d.epoch ≡ known log + 1
  pub ballot : Ballot
  pub voters : List ℕ
  pub many : IsTrue (has_majority (spec n log) voters)
  pub accepted : (k : ℕ) → Among voters k → Among (logs k) (Rec.Accept d.epoch ballot d)

-- Each accepted decision was offered, and each recorded decision was chosen.
pub record AreBallots (n : ℕ) (logs : ℕ → Log) : Type 0 where
  pub offers : List Offer
  pub sound : AreSound n logs offers
  pub accepted : (k i : ℕ) (b : Ballot) (d : Decision) → Among (logs k) (Rec.Accept i b d) → IsOffered offers i b d
  pub decided : (k : ℕ) (d : Decision) → Among (logs k) (Rec.Decide d) → IsChosen n logs d
