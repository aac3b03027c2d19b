-- What the recorded times stand for.
use Rattle.std.specs.Prelude.{◌≡◌, ℕ, ◌<◌, List, slice_index}
use Rattle.crsm_spec.specs.Replica.{latest_from}
use Rattle.crsm_commit.specs.declared.latest.Latest.{Latest}

-- These are all times that were received, each behind its sender.
abbrev pub LatestStands : Latest → List (ℕ × ℕ) → Type 0
LatestStands latest received = (k : ℕ) → k < 15 → slice_index latest.times k ≡ latest_from received k
