-- The replica's steps on the outcome of a page.
use Rattle.std.specs.Prelude.{◌≡◌, ℕ, Bool, List, [], ◌∷◌, ◌++◌, Option, Some}
use Rattle.crsm_spec.specs.Types.{Stamp, Entry, Control, Line}
use Rattle.crsm_spec.specs.Log.{known, no_ballot}
use Rattle.crsm_spec.specs.Replica.{Coordinator, LogPage, spec_of, named_spec}
use Rattle.crsm_spec.specs.Draft.{Draft, noting, send_control}
use Rattle.crsm_spec.specs.Coordinate.{begin_proposing, on_whole}
use Rattle.crsm_spec.specs.Controls.{on_control}
use Rattle.crsm_suspend.specs.Collecting.{got_of, got_whole, pages_after}
use Rattle.crsm_suspend.specs.declared.got.PageOutcome.{PageOutcome}
use Rattle.crsm_suspend.specs.declared.got.PageOutcome.TheVariants.{Stranger, More, Kept, Complete, TooMany}

-- The step of a replica that collects for these members, with these pages: it asks for the next page, waits, begins to
-- propose the decision, or gives the collection up with a line that says why.
unfoldable pub on_got : List ℕ → List LogPage → PageOutcome → Draft → Draft
on_got ms pages Stranger x = x
on_got ms pages (More k after) x = send_control (Control.Suspend (known x.replica.log) (Some after)) (noting (Coordinator.Collecting ms pages) x) k
on_got ms pages Kept x = noting (Coordinator.Collecting ms pages) x
on_got ms pages (Complete d) x = begin_proposing d no_ballot (noting (Coordinator.Preempted d no_ballot) (noting (Coordinator.Collecting ms pages) x))
on_got ms pages (TooMany count bytes) x =
    let y = noting (Coordinator.Collecting ms pages) x in
    noting Coordinator.Idle (record y { excess = y.excess ++ Line.TooMany y.replica.me (known y.replica.log) count bytes ∷ [] })

-- That is the rule of a message that brings a page to a replica which collects, ..
abbrev pub PagesAreTaken : Type 0
PagesAreTaken =
    (k e executed : ℕ) (last after : Option Stamp) (whole : Bool) (es : List Entry) (ms : List ℕ) (pages : List LogPage) (x : Draft) →
    x.replica.coordinator ≡ Coordinator.Collecting ms pages →
    let answer = Control.SuspendOk e executed last after whole es in
    let log = x.replica.log in
    let spec = spec_of x.replica in
    on_control k answer x ≡ on_got ms (pages_after log spec pages k answer) (got_of log spec (named_spec x.replica ms) ms pages k answer) x

-- .. and the rule for pages whose last one makes a report whole.
abbrev pub ReportsAreCounted : Type 0
ReportsAreCounted =
    (ms : List ℕ) (pages : List LogPage) (x : Draft) →
    on_whole ms pages x ≡ on_got ms pages (got_whole x.replica.log (spec_of x.replica) (named_spec x.replica ms) ms pages) x
