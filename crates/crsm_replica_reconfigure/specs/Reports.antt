-- The effect of pages of frozen logs on a replica.
use Rattle.std.specs.Prelude.{◌≡◌, ℕ, Bool, true, false, List, [], Option, None, Some}
use Rattle.crsm_spec.specs.Types.{Control}
use Rattle.crsm_base.specs.declared.control.Control.TheVariants.{SuspendOk}
use Rattle.crsm_spec.specs.Log.{no_ballot}
use Rattle.crsm_spec.specs.Replica.{Coordinator, LogPage, spec_of, named_spec}
use Rattle.crsm_spec.specs.Draft.{Draft}
use Rattle.crsm_spec.specs.Choice.{when◌then◌otherwise◌}
use Rattle.crsm_spec.specs.Collect.{cursor, is_whole}
use Rattle.crsm_spec.specs.Step.{ask_page}
use Rattle.crsm_spec.specs.Coordinate.{begin_proposing, may_reconfigure}
use Rattle.crsm_suspend.specs.Collecting.{CollectStands}
use Rattle.crsm_suspend.specs.declared.collect.Collect.{Collect}
use Rattle.crsm_suspend.specs.declared.got.PageOutcome.{PageOutcome}
use Rattle.crsm_suspend.specs.declared.got.PageOutcome.TheVariants.{More, Complete}
use Rattle.crsm_replica_reconfigure.specs.Rules.{CanPropose}

-- the message is a page of a frozen log
abbrev pub IsReport : Control → Type 0
IsReport (SuspendOk e executed last after whole es) = Unit {0}
IsReport _ = ⊥

-- frozen logs are collected
unfoldable pub is_collecting : Coordinator → Bool
is_collecting (Coordinator.Collecting ms pages) = true
is_collecting _ = false

-- replica k is asked for its next page, unless its last page has come
unfoldable pub ask_missing : List LogPage → Draft → ℕ → Draft
ask_missing pages x k = when is_whole pages k then x otherwise ask_page pages x k

-- a decision that was got can be proposed
abbrev pub CanBegin : PageOutcome → Draft → Type 0
CanBegin (Complete d) x = CanPropose d no_ballot x
CanBegin _ x = Unit {0}

-- the records of its proposal fit
unfoldable pub begins_fitting : PageOutcome → Draft → Bool
begins_fitting (Complete d) x = (begin_proposing d no_ballot x).fitting
begins_fitting _ x = true

-- the page that is asked for next is the one of replica k above what came of it
abbrev pub AsksOn : ℕ → List LogPage → PageOutcome → Type 0
AsksOn k pages (More j after) = (j ≡ k) × (cursor pages k ≡ Some after)
AsksOn k pages _ = Unit {0}

-- the outcome of the pages can be acted on
pub record CanGoOn (k : ℕ) (pages : List LogPage) (got : PageOutcome) (x : Draft) : Type 0 where
  pub begins : CanBegin got x
  pub fits : begins_fitting got x ≡ true
  pub next : AsksOn k pages got

-- a collection without pages, where these may be the next members
abbrev pub Begun : Option Collect → List ℕ → Draft → Type 0
Begun None ms x = may_reconfigure x.replica ms ≡ false
Begun (Some c) ms x = (may_reconfigure x.replica ms ≡ true) × CollectStands x.replica.log (spec_of x.replica) (named_spec x.replica ms) ms [] c
