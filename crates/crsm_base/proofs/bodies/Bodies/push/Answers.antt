use Rattle.std.proofs.Common.{◌≡◌, ◌∙◌, ℕ, List, [], ◌∷◌, ◌++◌, length, ap, ap₂, sym, subst}
use Rattle.crsm_base.specs.Pieces.{AreEnds, pieces}
use Rattle.crsm_base.proofs.PiecesLemmas.{one_more, still_ends}
use Rattle.crsm_base.proofs.bodies.Bodies.push.Goals as goal

pub invariant_of-self-2 : goal.invariant_of-self-2
invariant_of-self-2 c =
    let text = c.self.inside.text.items in
    let ends = c.self.inside.ends.items in
    let long : c.extend_from_slice.new.self.items ≡ text ++ c.args.body.now = c.in_ok-extend_from_slice.ensures.items in
    let size : c.len.result ≡ length (text ++ c.args.body.now) = c.len.ensures ∙ c.extend_from_slice.new.self.ok.0 ∙ ap length long in
    let more : c.push_reserved.new.self.items ≡ ends ++ length (text ++ c.args.body.now) ∷ [] =
    c.push_reserved.ensures.items ∙ ap₂ (λ (es : List ℕ) (n : ℕ). es ++ n ∷ []) c.in_ok-reserve.ensures.items size in
    subst (λ (es : List ℕ). AreEnds 0 es c.extend_from_slice.new.self.items) (sym more)
    (subst (AreEnds 0 (ends ++ length (text ++ c.args.body.now) ∷ [])) (sym long) (still_ends 0 ends text c.args.body.now c.self.invariant))

pub returns-clause-ok : goal.returns-clause-ok
returns-clause-ok c =
    let text = c.self.inside.text.items in
    let ends = c.self.inside.ends.items in
    let long : c.extend_from_slice.new.self.items ≡ text ++ c.args.body.now = c.in_ok-extend_from_slice.ensures.items in
    let size : c.len.result ≡ length (text ++ c.args.body.now) = c.len.ensures ∙ c.extend_from_slice.new.self.ok.0 ∙ ap length long in
    let more : c.push_reserved.new.self.items ≡ ends ++ length (text ++ c.args.body.now) ∷ [] =
    c.push_reserved.ensures.items ∙ ap₂ (λ (es : List ℕ) (n : ℕ). es ++ n ∷ []) c.in_ok-reserve.ensures.items size in
    ap₂ (pieces 0) more long ∙ one_more 0 ends text c.args.body.now c.self.invariant ∙ ap (λ (bs : List (List ℕ)). bs ++ c.args.body.now ∷ []) c.self.view_is
