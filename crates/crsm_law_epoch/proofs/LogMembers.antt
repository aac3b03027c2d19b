-- Members that rise are distinct.
use Rattle.std.proofs.Common.{ℕ, ◌+◌, ◌≤◌, List, [], ◌∷◌, inl, inr, arith}
use Rattle.std.specs.Prelude.{Option, Some, None}
use Rattle.std.specs.Option.{option_map_or}
use Rattle.crsm_base.specs.Members.{RisesWithin, IsMembers}
use Rattle.crsm_spec.specs.Types.{Decision, Rec}
use Rattle.crsm_spec.specs.Lists.{Among, numbers_below}
use Rattle.crsm_spec.specs.Log.{Log, decision, members}
use Rattle.crsm_fact_log.specs.Logs.{Extends, same, more}
use Rattle.crsm_law_epoch.specs.Numbers.{Distinct}
use Rattle.crsm_law_epoch.proofs.Words.{distinct_range}
use Rattle.crsm_law_epoch.specs.Ordered.{IsOrdered, AreOrdered}

rises_above : (low high : ℕ) (ks : List ℕ) → RisesWithin low high ks → (j : ℕ) → Among ks j → low ≤ j
rises_above low high [] h j a = absurd a
rises_above low high (k ∷ ks) h j (inl e) = omega (arith, h.0, e)
rises_above low high (k ∷ ks) h j (inr a) = let t = rises_above (k + 1) high ks h.2 j a in omega (arith, h.0, t)

rises_distinct : (low high : ℕ) (ks : List ℕ) → RisesWithin low high ks → Distinct ks
rises_distinct low high [] h = tt
rises_distinct low high (k ∷ ks) h = (λ a. let t = rises_above (k + 1) high ks h.2 k a in absurd (omega (arith, t)), rises_distinct (k + 1) high ks h.2)

pub members_distinct : (ks : List ℕ) → IsMembers ks → Distinct ks
members_distinct [] h = absurd h
members_distinct (k ∷ ks) h = rises_distinct 0 15 (k ∷ ks) h

-- the decision of the known epoch is in order, if there is one
abbrev IsOrderedDecision : Option Decision → Type 0
IsOrderedDecision None = Unit {0}
IsOrderedDecision (Some d) = IsOrdered d

decision_ordered : (log : Log) → AreOrdered log → IsOrderedDecision (decision log)
unfolding decision
decision_ordered [] h = tt
decision_ordered (Rec.Boot me n ∷ log) h = decision_ordered log h.1
decision_ordered (Rec.Prepare e ∷ log) h = decision_ordered log h.1
decision_ordered (Rec.Commit s ∷ log) h = decision_ordered log h.1
decision_ordered (Rec.Adopt place es ∷ log) h = decision_ordered log h.1
decision_ordered (Rec.Suspend e ∷ log) h = decision_ordered log h.1
decision_ordered (Rec.Promise i b ∷ log) h = decision_ordered log h.1
decision_ordered (Rec.Accept i b d ∷ log) h = decision_ordered log h.1
decision_ordered (Rec.Decide d ∷ log) h = h.0
decision_ordered (Rec.Enter e ∷ log) h = decision_ordered log h.1

pub known_members_distinct : (n : ℕ) (log : Log) → AreOrdered log → Distinct (members n log)
unfolding members numbers_below
known_members_distinct n log h = go (decision log) (decision_ordered log h)
  where
    go : (o : Option Decision) → IsOrderedDecision o → Distinct (option_map_or (λ d. d.members) o (numbers_below n))
    go None q = distinct_range 0 n
    go (Some d) q = members_distinct d.members q

pub ordered_end : (a b : Log) → Extends a b → AreOrdered b → AreOrdered a
ordered_end a b same h = h
ordered_end a b (more {new = c} rec p) h = ordered_end a c p h.1
