use Rattle.std.proofs.Common.{◌≡◌, ◌-◌, ◌++◌, ◌≤◌, length, take, drop}
use Rattle.std.specs.List.{flat_map}
use Rattle.crsm_mpspec.specs.Sends.{sends_of}
use Rattle.crsm_mpspec.proofs.sends.MpSends.truncate.Given as goal

-- The messages kept, and of the further ones those that are left to keep.
abbrev pub invariant-loop-left : goal.invariant-loop-left
invariant-loop-left l =
    let items = l.self-inside.items.items in
    let old = flat_map sends_of l.initial.self-inside.items.items in
    record {
      within : l.kept ≤ length items;
      kept : flat_map sends_of (take l.kept items) ++ take l.left (flat_map sends_of (drop l.kept items)) ≡ take l.count old;
      missing : l.left - length (flat_map sends_of (drop l.kept items)) ≡ l.count - length old;
    }

abbrev pub decreases-loop-left : goal.decreases-loop-left
decreases-loop-left l = length l.self-inside.items.items - l.kept
