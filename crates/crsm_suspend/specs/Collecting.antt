-- The relation of a collection to the pages received, and the outcome of a page.
use Rattle.std.specs.Prelude.{◌≡◌, ℕ, ◌+◌, ◌≤◌, Bool, not, ◌&&◌, List, [], ◌∷◌, ◌++◌, length, Option, None, Some}
use Rattle.std.specs.List.{AllByRecursion}
use Rattle.crsm_base.specs.Spelling.{FitsEntry, FitsDecision}
use Rattle.crsm_base.specs.declared.control.Control.TheVariants.{SuspendOk}
use Rattle.crsm_spec.specs.Types.{Stamp, Entry, Decision, Control}
use Rattle.crsm_spec.specs.Choice.{when◌then◌otherwise◌}
use Rattle.crsm_spec.specs.Lists.{has}
use Rattle.crsm_spec.specs.Log.{Log, known, start}
use Rattle.crsm_spec.specs.Replica.{LogPage}
use Rattle.crsm_spec.specs.Collect.{is_whole, cursor, whole_ones, collected, is_within, size_of}
use Rattle.crsm_spec.specs.Quorum.{has_majority}
use Rattle.crsm_spec.specs.Controls.{is_page_of}
use Rattle.crsm_spec.specs.Coordinate.{most_collected}
use Rattle.crsm_suspend.specs.Reports.{ReportsStand}
use Rattle.crsm_suspend.specs.declared.collection.Collection.{Collection}
use Rattle.crsm_suspend.specs.declared.got.PageOutcome.{PageOutcome}
use Rattle.crsm_suspend.specs.declared.got.PageOutcome.TheVariants.{Stranger, More, Kept, Complete, TooMany}
use Rattle.crsm_ledger.specs.declared.ledger.Ledger.{Ledger}
use Rattle.crsm_ledger.specs.Ledger.{LedgerStands}

-- a page is of this epoch, and its entries can be sent
pub record CanSend (epoch : ℕ) (p : LogPage) : Type 0 where
  pub low : p.executed ≤ most_collected
  pub fit : AllByRecursion FitsEntry p.entries
  pub of_epoch : AllByRecursion (λ e. e.epoch ≡ epoch) p.entries

-- The collection of a replica with this log has these pages, in the order of their arrival. `spec` are the replicas
-- whose majority completes it; its decision names the counted replicas of the next epoch as `named`, and these members.
-- Of the log it uses only the epoch and its start.
pub record CollectStands (log : Log) (spec : List ℕ) (named : Option (List ℕ)) (members : List ℕ) (pages : List LogPage) (c : Collection) : Type 0 where
  pub epoch : c.epoch ≡ known log
  pub next : c.next ≡ known log + 1
  pub begins : c.start ≡ start log
  pub spec_is : c.spec ≡ spec
  pub named_is : c.named ≡ named
  pub members_are : c.members ≡ members
  pub reports : ReportsStand c.reports pages
  pub low_epoch : known log ≤ most_collected
  pub low_start : start log ≤ most_collected
  pub told : AllByRecursion (CanSend (known log)) pages

-- Some pages are those of the collection, and all can be sent: so the collection stands for them, after some log.
pub record IsSound (c : Collection) : Type 0 where
  pub pages : List LogPage
  pub next : c.next ≡ c.epoch + 1
  pub reports : ReportsStand c.reports pages
  pub low_epoch : c.epoch ≤ most_collected
  pub low_start : c.start ≤ most_collected
  pub told : AllByRecursion (CanSend c.epoch) pages

-- ---- what a page brings

-- the page is one that was asked for: of the Spec, of this epoch and at the cursor of a replica that is not whole
unfoldable pub is_asked : Log → List ℕ → List LogPage → ℕ → Option Stamp → LogPage → Bool
is_asked log spec pages e after p =
    has spec p.from && (is_page_of (known log) e (cursor pages p.from) after p && not (is_whole pages p.from))

-- the decision, unless its tail passes a limit
unfoldable pub got_decided : Decision → PageOutcome
got_decided d = when is_within d.tail then Complete d otherwise TooMany (length d.tail) (size_of d.tail)

-- once a report is whole: the decision, where a majority is
unfoldable pub got_whole : Log → List ℕ → Option (List ℕ) → List ℕ → List LogPage → PageOutcome
got_whole log spec named members pages =
    when has_majority spec (whole_ones spec pages) then got_decided (collected spec named log members pages) otherwise Kept

-- of a replica whose report is not whole the entries above the cursor are asked for
abbrev pub got_more : ℕ → Option Stamp → PageOutcome
got_more k None = Stranger
got_more k (Some after) = More k after

-- the outcome of the page just added, which was asked for and is the last of these
unfoldable pub got_page : Log → List ℕ → Option (List ℕ) → List ℕ → List LogPage → LogPage → PageOutcome
got_page log spec named members pages p =
    when p.whole then got_whole log spec named members pages otherwise got_more p.from (cursor pages p.from)

-- the page of a message from replica k
abbrev pub page_in : ℕ → ℕ → Option Stamp → Bool → List Entry → LogPage
page_in k executed last whole es = record { from = k; executed = executed; last = last; whole = whole; entries = es }

-- the outcome of a message from replica k
abbrev pub got_of : Log → List ℕ → Option (List ℕ) → List ℕ → List LogPage → ℕ → Control → PageOutcome
got_of log spec named members pages k (SuspendOk e executed last after whole es) =
    let p = page_in k executed last whole es in
    when is_asked log spec pages e after p then got_page log spec named members (pages ++ p ∷ []) p otherwise Stranger
got_of log spec named members pages k _ = Stranger

-- the pages after it
abbrev pub pages_after : Log → List ℕ → List LogPage → ℕ → Control → List LogPage
pages_after log spec pages k (SuspendOk e executed last after whole es) =
    let p = page_in k executed last whole es in
    when is_asked log spec pages e after p then pages ++ p ∷ [] otherwise pages
pages_after log spec pages k _ = pages

-- the outcome of these pages, the last one from replica k
unfoldable pub got_from : Log → List ℕ → Option (List ℕ) → List ℕ → List LogPage → ℕ → PageOutcome
got_from log spec named members pages k =
    when is_whole pages k then got_whole log spec named members pages otherwise got_more k (cursor pages k)

-- the decision can be sent
abbrev pub FitsGot : PageOutcome → Type 0
FitsGot (Complete d) = FitsDecision d
FitsGot _ = Unit {0}

-- for each log, Spec and pages that the collection stands for
abbrev pub WhereCollecting : Collection → (Log → List ℕ → Option (List ℕ) → List ℕ → List LogPage → Type 0) → Type 0
WhereCollecting c P =
    (log : Log) (spec : List ℕ) (named : Option (List ℕ)) (members : List ℕ) (pages : List LogPage) →
    CollectStands log spec named members pages c → P log spec named members pages

-- the same where a ledger stands for the log
abbrev pub WhereCollectingOver : ℕ → Ledger → Collection → (Log → List ℕ → Option (List ℕ) → List ℕ → List LogPage → Type 0) → Type 0
WhereCollectingOver me ledger c P =
    (n : ℕ) (log : Log) (spec : List ℕ) (named : Option (List ℕ)) (members : List ℕ) (pages : List LogPage) →
    LedgerStands me n ledger log → CollectStands log spec named members pages c → P log spec named members pages

-- the same where a replica of that epoch can send this page
abbrev pub WhereCanSend : Collection → LogPage → (Log → List ℕ → Option (List ℕ) → List ℕ → List LogPage → Type 0) → Type 0
WhereCanSend c p P =
    (log : Log) (spec : List ℕ) (named : Option (List ℕ)) (members : List ℕ) (pages : List LogPage) →
    CollectStands log spec named members pages c → CanSend (known log) p → P log spec named members pages
