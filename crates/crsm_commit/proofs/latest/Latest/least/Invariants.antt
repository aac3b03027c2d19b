use Rattle.std.proofs.Common.{◌≡◌, ℕ, ◌^◌, ◌<◌, ◌≤◌, List, take}
use Rattle.std.specs.Prelude.{nat_le}
use Rattle.std.specs.List.{list_all}
use Rattle.crsm_spec.specs.Ready.{reached}
use Rattle.crsm_commit.specs.Received.{LatestStands}
use Rattle.crsm_commit.proofs.latest.Latest.least.Given as goal

abbrev pub invariant-loop-member : goal.invariant-loop-member
invariant-loop-member l =
    (received : List (ℕ × ℕ)) (time : ℕ) → LatestStands l.self received → 1 ≤ time → time < 2 ^ 64 →
    nat_le time l.least ≡ list_all (reached received time) (take l.member-index l.member-items)
