-- What a packet that was taken leaves, and the datagram that it completes.
use Rattle.std.proofs.Common.{◌≡◌, ℕ, List, ◌∷◌, refl, ap, sym, subst, inl, inr}
use Rattle.crsm_port.specs.Passing.{Cut, IsOf, NoMore, Only}
use Rattle.crsm_port.specs.declared.port.Recv.{Recv}
use Rattle.crsm_port_packets.specs.Carrying.{put_together}
use Rattle.crsm_port_packets.specs.Format.{FragmentFields, IsFragment, StandsIn}
use Rattle.crsm_port_packets.specs.Held.{Opens, fragments_with}
use Rattle.crsm_port_packets.specs.Kept.{Arrived, GainsOnly, kept_in}
use Rattle.crsm_port_packets.specs.Waiting.{waiting_in}
use Rattle.crsm_port_packets.specs.declared.fragments.Fragments.{Fragments}
use Rattle.crsm_port_packets.specs.declared.fragments.Piece.{Piece}
use Rattle.crsm_port_packets.specs.declared.received.Received.{Received}
use Rattle.crsm_port_packets.specs.declared.unpacking.Unpacking.{Unpacking}
use Rattle.crsm_port_packets.proofs.Openings.{put_more}
use Rattle.crsm_port_packets.proofs.Unpackings.{cut_more, of_more}

module _ (from now : ℕ) (packet : List ℕ) (old new : Received) where
  pub bundle_opens : (entries : List ℕ) → packet ≡ 20 ∷ 0 ∷ entries → NoMore (λ address d. (address ≡ from) × StandsIn d entries) (waiting_in new.unpacking) → new.fragments ≡ old.fragments
      → Opens from packet old new
  bundle_opens entries is stand still = record {
    waiting = λ a d w. let it = stand a d w in inr (entries, (it.0, sym is), it.1);
    kept = λ a f k. inl (subst (λ (fs : Fragments). kept_in fs.pieces.items a f) still k);
  }

  pub fragment_opens : (f : FragmentFields) → IsFragment packet f → new.unpacking ≡ old.unpacking → GainsOnly (record { from = from; at = now; fragment = f }) old.fragments.pieces.items new.fragments.pieces.items
      → Opens from packet old new
  fragment_opens f is same gains = record {
    waiting = λ a d w. inl (subst (λ (u : Unpacking). waiting_in u a d) same w);
    kept = λ a g (at, k). elim (gains (record { from = a; at = at; fragment = g }) k) [
      | inl before ↦ inl (at, before)
      | inr same ↦ inr (packet, (ap (λ (x : Arrived). x.from) same, refl), subst (λ (h : FragmentFields). IsFragment packet h) (sym (ap (λ (x : Arrived). x.fragment) same)) is)
    ];
  }

-- the fragment was the last of a datagram
pub whole_given : (from now : ℕ) (packet whole buffer : List ℕ) (f : FragmentFields) (old : Received) (pieces : List Piece) (got : Recv) → IsFragment packet f
    → GainsOnly (record { from = from; at = now; fragment = f }) old.fragments.pieces.items pieces → put_together (kept_in pieces) from whole → IsOf (Cut (Only from whole)) buffer got
    → IsOf (Cut (put_together (fragments_with (Only from packet) old))) buffer got
whole_given from now packet whole buffer f old pieces got is gains together handed =
    of_more (Cut (put_together (fragments_with (Only from packet) old))) (Cut (Only from whole)) buffer got
    (cut_more (put_together (fragments_with (Only from packet) old)) (Only from whole) given) handed
  where
    has : (a : ℕ) (g : FragmentFields) → kept_in pieces a g → fragments_with (Only from packet) old a g
    has a g (at, k) = elim (gains (record { from = a; at = at; fragment = g }) k) [
      | inl before ↦ inl (at, before)
      | inr same ↦ inr (packet, (ap (λ (x : Arrived). x.from) same, refl), subst (λ (h : FragmentFields). IsFragment packet h) (sym (ap (λ (x : Arrived). x.fragment) same)) is)
    ]

    given : NoMore (put_together (fragments_with (Only from packet) old)) (Only from whole)
    given a d (at, same) =
        subst (λ (x : ℕ). put_together (fragments_with (Only from packet) old) x d) (sym at)
        (subst (λ (x : List ℕ). put_together (fragments_with (Only from packet) old) from x) (sym same)
        (put_more (fragments_with (Only from packet) old) (kept_in pieces) has from whole together))
