-- The laws of durability, over all possible runs.
use Rattle.std.specs.Prelude.{◌≡◌, ℕ, ◌+◌, ◌≤◌, List, Some, slice_get}
use Rattle.std.specs.List.{AllByRecursion}
use Rattle.crsm_spec.specs.Types.{Entry}
use Rattle.crsm_spec.specs.Lists.{Among}
use Rattle.crsm_spec.specs.Log.{executed}
use Rattle.crsm_spec.specs.World.{World, begin, log_at}
use Rattle.crsm_spec.specs.Acts.{Act}
use Rattle.crsm_spec.specs.Run.{ArePossible, all_worlds, last_world}
use Rattle.crsm_spec.specs.Decided.{all_decisions, IsChosenAfter, DecisionsAgree}
use Rattle.crsm_spec.specs.Durable.{IsDurable}

-- In every possible run of at most 15 replicas decisions of one epoch are equal, and the beginning of each epoch is a
-- prefix of the one list or extends it.
abbrev pub DecisionsAlwaysAgree : Type 0
DecisionsAlwaysAgree = (n : ℕ) (acts : List Act) → n ≤ 15 → ArePossible (begin n) acts → DecisionsAgree n acts

-- In such a run each recorded decision was chosen: a majority of the Spec of the epoch before it has accepted it in one
-- ballot, and each of that majority has executed its base.
abbrev pub DecisionsAreChosen : Type 0
DecisionsAreChosen =
    (n : ℕ) (acts : List Act) → n ≤ 15 → ArePossible (begin n) acts →
    AllByRecursion (λ d. (e : ℕ) → e + 1 ≡ d.epoch → IsChosenAfter (last_world n acts) e d) (all_decisions n acts)

-- In every world of such a run each entry that some replica has executed is durable: a majority of the Spec of its
-- epoch holds it in its records, and each later decision begins its epoch with it and is held with it by a majority.
abbrev pub ExecutedAreDurable : Type 0
ExecutedAreDurable =
    (n : ℕ) (acts : List Act) → n ≤ 15 → ArePossible (begin n) acts → (w : World) → Among (all_worlds n acts) w →
    (k place : ℕ) (e : Entry) → slice_get (executed (log_at w k)) place ≡ Some e → IsDurable n acts w e place
