-- The decisions of a run: which replicas recorded them, which were chosen, and that they agree.
use Rattle.std.specs.Prelude.{◌≡◌, ℕ, ◌+◌, ◌≤◌, ◌⊎◌, ◌==◌, List, [], ◌∷◌, ◌++◌, length, take, find, flat_map, Contains, Option}
use Rattle.std.specs.List.{AllByRecursion}
use Rattle.crsm_spec.specs.Types.{Ballot, Entry, Decision, Rec}
use Rattle.crsm_spec.specs.Lists.{IsPrefixOf}
use Rattle.crsm_spec.specs.Log.{Log, executed}
use Rattle.crsm_spec.specs.Paxos.{IsMajority}
use Rattle.crsm_spec.specs.Quorum.{spec_decided}
use Rattle.crsm_spec.specs.World.{World, log_of, log_at}
use Rattle.crsm_spec.specs.Acts.{Act}
use Rattle.crsm_spec.specs.Run.{last_world, the_list}

-- ---- recorded decisions

-- the decisions of a log, the newest first
unfoldable pub decisions : Log → List Decision
decisions [] = []
decisions (Rec.Decide d ∷ log) = d ∷ decisions log
decisions (_ ∷ log) = decisions log

-- all decisions that some replica of the world has recorded
unfoldable pub decisions_in : World → List Decision
decisions_in w = flat_map (λ s. decisions (log_of s)) w.sites

-- the decision of epoch e, if some replica has recorded it
unfoldable pub decision_of : World → ℕ → Option Decision
decision_of w e = find (λ d. d.epoch == e) (decisions_in w)

-- The Spec of epoch e, over which its votes, its collection and the next decision are counted. Epoch 0 has no decision,
-- and its Spec is the first n replicas; no law speaks of a later epoch without a recorded decision.
unfoldable pub spec_at : World → ℕ → List ℕ
spec_at w e = spec_decided w.n (decision_of w e)

-- ---- chosen decisions

-- k accepted d in this ballot, as the decision after epoch e, and has executed d's base
pub record HasAccepted (w : World) (e : ℕ) (ballot : Ballot) (d : Decision) (k : ℕ) : Type 0 where
  pub kept : Contains (log_at w k) (Rec.Accept (e + 1) ballot d)
  pub base : d.base_len ≤ length (executed (log_at w k))

-- In one ballot a majority of the Spec of epoch e has accepted d, and all of that majority hold its base.
pub record IsChosenAfter (w : World) (e : ℕ) (d : Decision) : Type 0 where
  pub ballot : Ballot
  pub voters : List ℕ
  pub majority : IsMajority (spec_at w e) voters
  pub accepted : AllByRecursion (HasAccepted w e ballot d) voters

-- ---- decisions agree

-- all decisions that some replica has recorded by the end
unfoldable pub all_decisions : ℕ → List Act → List Decision
all_decisions n acts = decisions_in (last_world n acts)

-- the list that an epoch begins with: the base, from the one list, and the tail
unfoldable pub start_of : ℕ → List Act → Decision → List Entry
start_of n acts d = take d.base_len (the_list n acts) ++ d.tail

-- one of the lists is a prefix of the other
abbrev pub ArePrefixes : List Entry → List Entry → Type 0
ArePrefixes es fs = IsPrefixOf es fs ⊎ IsPrefixOf fs es

-- Decisions of one epoch are equal, and each start is a prefix of the one list or extends it.
pub record DecisionsAgree (n : ℕ) (acts : List Act) : Type 0 where
  pub one : (d e : Decision) → Contains (all_decisions n acts) d → Contains (all_decisions n acts) e → d.epoch ≡ e.epoch → d ≡ e
  pub base : AllByRecursion (λ d. d.base_len ≤ length (the_list n acts)) (all_decisions n acts)
  pub start : AllByRecursion (λ d. ArePrefixes (start_of n acts d) (the_list n acts)) (all_decisions n acts)
