-- The commit rule, over plain lists and for a replica.
use Rattle.std.specs.Prelude.{ℕ, Bool, false, ◌==◌, ◌&&◌, nat_le, List, ◌++◌, length, map, count_by}
use Rattle.std.specs.List.{list_all, list_any}
use Rattle.std.specs.Option.{option_map_or}
use Rattle.crsm_spec.specs.Types.{Stamp, Entry}
use Rattle.crsm_base.specs.Order.{stamp_eq}
use Rattle.crsm_spec.specs.Lists.{first_of}
use Rattle.crsm_spec.specs.Log.{unexecuted}
use Rattle.crsm_spec.specs.Paxos.{majority}
use Rattle.crsm_spec.specs.Replica.{Replica, members_of, spec_of}

-- ---- of lists

-- some time received from k is at least this one
unfoldable pub reached : List (ℕ × ℕ) → ℕ → ℕ → Bool
reached received time k = list_any (λ h. h.0 == k && nat_le time h.1) received

-- whether k is known to have logged the stamp
unfoldable pub voted : List (Stamp × ℕ) → Stamp → ℕ → Bool
voted votes s k = list_any (λ v. stamp_eq v.0 s && v.1 == k) votes

-- the number of these replicas that have logged the stamp
unfoldable pub votes_for : List ℕ → List (Stamp × ℕ) → Stamp → ℕ
votes_for counted votes s = count_by (voted votes s) counted

-- majority replication: a majority of the Spec has logged it
unfoldable pub is_replicated : List ℕ → List (Stamp × ℕ) → Stamp → Bool
is_replicated spec votes s = nat_le (majority (length spec)) (votes_for spec votes s)

-- stable order: no member will issue a time that is not above the stamp's
unfoldable pub is_stable : List ℕ → List (ℕ × ℕ) → Stamp → Bool
is_stable members received s = list_all (reached received s.time) members

-- prefix replication: it is the first of the unexecuted entries
unfoldable pub is_next : List Entry → Stamp → Bool
is_next unexecuted s = option_map_or (λ e. stamp_eq e.stamp s) (first_of unexecuted) false

-- ---- of a replica

-- the times received in this epoch with their senders, and those that the replica issued itself
unfoldable pub all_received : Replica → List (ℕ × ℕ)
all_received r = map (λ t. (r.me, t)) r.issued ++ r.received

-- Whether the entry of this stamp can be executed now.
unfoldable pub is_ready : Replica → Stamp → Bool
is_ready r s =
    (is_replicated (spec_of r) r.votes s && is_stable (members_of r) (all_received r) s) && is_next (unexecuted r.log) s
