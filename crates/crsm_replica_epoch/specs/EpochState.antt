-- The relation of an epoch's state in memory to the replica of the definitions.
use Rattle.std.specs.Prelude.{◌≡◌, ℕ, ◌≤◌, Bool, true, List, [], ◌∷◌, Option, None, Some}
use Rattle.std.specs.List.{AllByRecursion}
use Rattle.crsm_base.specs.Order.{stamp_lt}
use Rattle.crsm_spec.specs.Types.{Stamp, Rec}
use Rattle.crsm_spec.specs.Log.{Log, active, last_stamp, unexecuted}
use Rattle.crsm_spec.specs.Fits.{fits}
use Rattle.crsm_spec.specs.Replica.{Replica, last_issued, members_of}
use Rattle.crsm_spec.specs.Ready.{all_received}
use Rattle.crsm_commit.specs.Received.{LatestStands}
use Rattle.crsm_commit.specs.Pending.{PendingStands}
use Rattle.crsm_replica_epoch.specs.Linked.{LinksStand}
use Rattle.crsm_replica_epoch.specs.declared.state.EpochState.{EpochState}
use Rattle.crsm_spec.specs.Clock.{issue}

-- each record fits behind those before it
abbrev pub EachFits : ℕ → ℕ → Log → Type 0
EachFits me n [] = Unit {0}
EachFits me n (rec ∷ log) = (fits me n log rec ≡ true) × EachFits me n log

-- a record that is not of entering an epoch
abbrev pub IsNoEnter : Rec → Type 0
IsNoEnter (Rec.Enter x) = ⊥
IsNoEnter _ = Unit {0}

-- the replica with nothing of its epoch
abbrev pub forgotten : Replica → Replica
forgotten r = record r { issued = []; received = []; votes = []; owed = []; pushed = []; acked = []; taken = [] }

-- whether a stamp is above the last executed one
abbrev pub is_above : Option Stamp → Stamp → Bool
is_above None s = true
is_above (Some last) s = stamp_lt last s

pub record StandsInside (running : EpochState) (r : Replica) : Type 0 where
  pub fitting : EachFits r.me r.n r.log
  pub clock : running.clock ≡ last_issued r
  pub latest : LatestStands running.latest (all_received r)
  pub from_one : AllByRecursion (λ h. 1 ≤ h.1) (all_received r)
  pub owed : running.owed ≡ r.owed
  pub links : LinksStand running.links r
  pub waiting : active r.log ≡ true → PendingStands running.pending (is_above (last_stamp r.log)) (unexecuted r.log) r.votes

-- The state stands for the replica: for its times, votes, pending acknowledgements and links, and while it is active
-- for its unexecuted entries. Each record of its log fits.
unfoldable pub EpochStands : EpochState → Replica → Type 0
EpochStands running r = StandsInside running r

-- for each replica whose epoch this is the state of
abbrev pub WhereStands : EpochState → (Replica → Type 0) → Type 0
WhereStands running P = (r : Replica) → EpochStands running r → P r

-- at this reading of its clock the replica issues this time
abbrev pub IssuesAt : ℕ → ℕ → Replica → Type 0
IssuesAt reading time r = issue (last_issued r) reading ≡ Some time

-- for each replica whose epoch this is the state of, with these members, at a reading at which it issues this time
abbrev pub WhereIssuing : EpochState → (time me : ℕ) → List ℕ → (Replica → Type 0) → Type 0
WhereIssuing running time me members P =
    (r : Replica) (reading : ℕ) → EpochStands running r → me ≡ r.me → members ≡ members_of r → IssuesAt reading time r → P r
