use Rattle.std.proofs.Common.{◌≡◌, ◌∙◌, ◌++◌, ◌∷◌, [], ℕ, List, decimal, ap, append_assoc}
use Rattle.crsm_cmd_soak.specs.Text.{row}
use Rattle.crsm_cmd_soak.proofs.text.push_row.Goals as goal

row_of : (out name digits : List ℕ) → (((out ++ name) ++ 32 ∷ []) ++ digits) ++ 10 ∷ [] ≡ out ++ ((name ++ 32 ∷ digits) ++ 10 ∷ [])
row_of out name digits = simp append_assoc

pub returns : goal.returns
unfolding row
returns c =
    let digits : c.as_bytes.result.now ≡ decimal c.args.value = c.as_bytes.ensures.value ∙ c.format.ensures.text in
    let words = c.in_ok-append-2.ensures.ok ∙ ap (λ (s : List ℕ). s ++ c.as_bytes.result.now) (c.in_ok-push.ensures.ok ∙ ap (λ (s : List ℕ). s ++ 32 ∷ []) c.in_ok-append.ensures.ok) ∙ ap (λ (s : List ℕ). ((c.args.text.now ++ c.args.name.now) ++ 32 ∷ []) ++ s) digits in
    c.in_ok-push-2.ensures.ok ∙ ap (λ (s : List ℕ). s ++ 10 ∷ []) words ∙ row_of c.args.text.now c.args.name.now (decimal c.args.value)
