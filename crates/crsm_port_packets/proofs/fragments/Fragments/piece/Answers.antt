use Rattle.std.proofs.Common.{◌≡◌, ◌∙◌, ◌+◌, ◌<◌, ℕ, List, ap, arith, inl, inr, length, slice_index_or, subst, sym}
use Rattle.std.specs.Prelude.{◌⊎◌}
use Rattle.crsm_port_packets.specs.Format.{fields_of}
use Rattle.crsm_port_packets.specs.Kept.{Arrived, IsHeld, arrived, fragment_of}
use Rattle.crsm_port_packets.specs.declared.fragments.Piece.{Piece}
use Rattle.crsm_port_packets.proofs.Crowds.{item_any, kept_at, not_kept}
use Rattle.crsm_port_packets.proofs.fragments.Fragments.piece.Goals as goal

cases : (k i : ℕ) → k < i + 1 → (k < i) ⊎ (k ≡ i)
cases k i lt = grind arith

pub loop-piece-preserved : goal.loop-piece-preserved
loop-piece-preserved c = λ k d lt at bytes is.
    let items = c.deref-piece-items.result.now in
    let i = c.loop-piece.piece-index in
    let p = c.piece-item.result in
    let within : i < length items = omega (arith, c.loop-piece-test.true) in
    elim (cases k i lt) [
      | inl before ↦ c.loop-piece.invariant k d before at bytes is
      | inr here ↦
          let same : p ≡ slice_index_or items k d = c.piece-item.is ∙ item_any items i p d within ∙ ap (λ (j : ℕ). slice_index_or items j d) (sym here) in
          c.is_at.ensures.no c.if-is_at.false at bytes (ap arrived same ∙ is)
    ]

pub returns-clause-none : goal.returns-clause-none
returns-clause-none c = λ _ bytes (at, has).
    let items = c.deref-piece-items.result.now in
    let none = not_kept items (record { from = c.args.from; at = at; fragment = fragment_of (fields_of c.args.fragment.now) c.args.index bytes }) (λ k d lt. c.loop-piece.invariant k d (omega (arith, lt, c.loop-piece-test.false)) at bytes) in
    let out = rw c.deref-piece-items.ensures.value at none in out has

pub returns-then-is_at-clause-some : goal.returns-then-is_at-clause-some
returns-then-is_at-clause-some c =
    let items = c.deref-piece-items.result.now in
    let p = c.piece-item.result in
    let f = fields_of c.args.fragment.now in
    let has : IsHeld items (arrived p) = kept_at items c.loop-piece.piece-index p (omega (arith, c.loop-piece-test.true)) c.piece-item.is in
    let named = subst (λ (a : Arrived). IsHeld items a) (c.is_at.ensures.yes c.if-is_at.true) has in
    let sliced = subst (λ (bytes : List ℕ). IsHeld items (record { from = c.args.from; at = p.at; fragment = fragment_of f c.args.index bytes })) (sym c.as_slice.ensures.value) named in
    (p.at, subst (λ (ps : List Piece). IsHeld ps (record { from = c.args.from; at = p.at; fragment = fragment_of f c.args.index c.as_slice.result.now })) c.deref-piece-items.ensures.value sliced)
