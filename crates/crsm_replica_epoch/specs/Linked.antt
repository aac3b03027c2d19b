-- What the links stand for.
use Rattle.std.specs.Prelude.{◌≡◌, ℕ, ◌<◌, ◌≤◌, ◌==◌, not, List, length, filter, slice_index_or, ◌∷◌, ◌++◌, map}
use Rattle.crsm_spec.specs.Replica.{Replica, last_issued, latest_from, frames_to, acked_by, next_from}
use Rattle.crsm_link.specs.Sent.{OutStands}
use Rattle.crsm_replica_epoch.specs.declared.link.Link.{Link}
use Rattle.crsm_replica_epoch.specs.declared.links.Links.{Links}
use Rattle.crsm_spec.specs.Types.{InEpoch}

-- The links with k stand for the frames that were pushed to k, for those that k has acknowledged, and for how many were
-- taken of k. Each frame has a time of its own, so there are no more of them than the latest time says.
pub record LinkStands (link : Link) (r : Replica) (k : ℕ) : Type 0 where
  pub sent : OutStands link.sender (frames_to r k) (acked_by r k)
  pub next : link.receiver.next ≡ next_from r k
  pub few_sent : length (frames_to r k) ≤ last_issued r
  pub few_taken : next_from r k ≤ latest_from r.received k

-- and so do all of them
pub record LinksStand (links : Links) (r : Replica) : Type 0 where
  pub count : length links.links ≡ 15
  pub each : (k : ℕ) (none : Link) → k < 15 → LinkStands (slice_index_or links.links k none) r k

-- the members but me
abbrev pub others_of : ℕ → List ℕ → List ℕ
others_of me members = filter (λ k. not (k == me)) members

-- this time is issued, and the payload is pushed to each of these
abbrev pub pushed_at : ℕ → InEpoch → List ℕ → Replica → Replica
pushed_at time payload ks r = record r { issued = time ∷ r.issued; pushed = r.pushed ++ map (λ k. (k, payload)) ks }
