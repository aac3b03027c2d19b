use Rattle.std.proofs.Common.{◌≡◌, ◌<◌, ℕ}
use Rattle.std.specs.Prelude.{slice_index_or}
use Rattle.crsm_port_packets.specs.declared.fragments.Piece.{Piece}
use Rattle.crsm_port_packets.proofs.fragments.Fragments.make_room.Given as goal

abbrev pub invariant-loop-index : goal.invariant-loop-index
invariant-loop-index l = record {
  none : (k : ℕ) (d : Piece) → k < l.index → (slice_index_or l.self.pieces.items k d).from ≡ l.from → ⊥;
  same : l.self ≡ l.initial.self;
}
