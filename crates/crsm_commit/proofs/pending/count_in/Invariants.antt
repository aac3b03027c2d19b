use Rattle.std.proofs.Common.{◌≡◌, ℕ, ◌≤◌, List, take}
use Rattle.crsm_base.specs.declared.Stamp.{Stamp}
use Rattle.crsm_spec.specs.Ready.{votes_for}
use Rattle.crsm_commit.specs.Masks.{mask_of}
use Rattle.crsm_commit.proofs.pending.count_in.Given as goal

abbrev pub invariant-loop-replica : goal.invariant-loop-replica
invariant-loop-replica l =
    (l.count ≤ l.replica-index)
    × ((votes : List (Stamp × ℕ)) (s : Stamp) → l.mask ≡ mask_of votes s → l.count ≡ votes_for (take l.replica-index l.replica-items) votes s)
