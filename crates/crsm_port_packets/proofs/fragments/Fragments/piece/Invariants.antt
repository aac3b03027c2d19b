use Rattle.std.proofs.Common.{◌≡◌, ◌<◌, ℕ, List}
use Rattle.std.specs.Prelude.{slice_index_or}
use Rattle.crsm_port_packets.specs.Format.{fields_of}
use Rattle.crsm_port_packets.specs.Kept.{arrived, fragment_of}
use Rattle.crsm_port_packets.specs.declared.fragments.Piece.{Piece}
use Rattle.crsm_port_packets.proofs.fragments.Fragments.piece.Given as goal

abbrev pub invariant-loop-piece : goal.invariant-loop-piece
invariant-loop-piece l = (k : ℕ) (d : Piece) → k < l.piece-index → (at : ℕ) (bytes : List ℕ) → arrived (slice_index_or l.piece-items k d) ≡ record { from = l.from; at = at; fragment = fragment_of (fields_of l.fragment) l.index bytes } → ⊥
