-- The laws of what clients are shown, where their replies were sent by nodes of a lawful history and a number is used
-- for one command.
use Rattle.std.specs.Prelude.{◌≡◌, ◌≢◌, ◌⊎◌, ℕ, ◌<◌, List, Result}
use Rattle.crsm_spec.specs.Types.{Entry, Outcome}
use Rattle.crsm_client.specs.Commands.{Asked}
use Rattle.crsm_client.specs.declared.command.ClientOrder.{ClientOrder}
use Rattle.crsm_client.specs.declared.error.AskError.{AskError}
use Rattle.crsm_port.specs.Meaning.{Meaning}
use Rattle.crsm_lease.specs.declared.told.Told.{Told}
use Rattle.crsm_cmd_lock.specs.declared.command.LockOrder.{LockOrder}
use Rattle.crsm_law_cluster.specs.Clusters.{Event}
use Rattle.crsm_law_cluster.specs.OneList.{one_list}
use Rattle.crsm_law_cluster.specs.ClusterLaws.{IsHistory}
use Rattle.crsm_law_locks.specs.Grants.{IsGrant, IsLawful}
use Rattle.crsm_law_shown.specs.Heard.{ComeFromNodes, IsOnlyUseOf}
use Rattle.crsm_law_shown.specs.Shown.{IsKnown}
use Rattle.crsm_law_shown.specs.Locks.{IsShownTrue, IsTrue}

-- The answer that `client` writes is the store's at a place of the one list at which its command stands.
abbrev pub ClientsAreShownTheStore : Type 0
ClientsAreShownTheStore =
    (n : ℕ) (h : List Event) → IsHistory n h → (cluster : ℕ) (order : ClientOrder) (old new : Meaning)
    (result : Result Outcome AskError) (asked : Asked cluster order old new result) →
    ComeFromNodes n h asked.exchange.received → IsOnlyUseOf n h order.command → IsKnown n h order.command result

-- A grant, a release, a holder or a free lock that `lock` writes is one of the one list, if all commands on the key are
-- those of locks.
abbrev pub LocksAreShownAsTheyAre : Type 0
LocksAreShownAsTheyAre =
    (n : ℕ) (h : List Event) → IsHistory n h → (order : LockOrder) → IsLawful order.key (one_list n h) →
    (old new : Meaning) (told : Told) → IsShownTrue n h order old new told

-- Of two clients that were shown a grant of one key, one has the greater fencing token, and its grant stands later.
abbrev pub GrantsAreOrdered : Type 0
GrantsAreOrdered =
    (key : List ℕ) (es : List Entry) → IsLawful key es → (c d fence fence' : ℕ) → c ≢ d →
    (x : IsTrue key es c (Told.Granted fence)) (y : IsTrue key es d (Told.Granted fence')) →
    ((x.0 < y.0) × (fence < fence')) ⊎ ((y.0 < x.0) × (fence' < fence))
