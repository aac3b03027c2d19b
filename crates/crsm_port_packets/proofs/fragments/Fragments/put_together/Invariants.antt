use Rattle.std.proofs.Common.{◌≡◌, ◌<◌, ℕ, List, [], length}
use Rattle.std.specs.List.{concat}
use Rattle.std.specs.Prelude.{slice_index_or}
use Rattle.crsm_port_packets.specs.Format.{fields_of}
use Rattle.crsm_port_packets.specs.Kept.{kept_in}
use Rattle.crsm_port_packets.proofs.fragments.Fragments.put_together.Given as goal

-- the fragments up to here, one after another
abbrev pub invariant-loop-index : goal.invariant-loop-index
invariant-loop-index l =
    (pieces : List (List ℕ)) × (length pieces ≡ l.index) × (l.whole.items ≡ concat pieces)
    × ((i : ℕ) → i < length pieces → kept_in l.self.pieces.items l.from (record (fields_of l.fragment) { index = i; bytes = slice_index_or pieces i [] }))
