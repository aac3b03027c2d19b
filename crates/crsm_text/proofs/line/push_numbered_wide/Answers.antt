use Rattle.std.proofs.Common.{◌≡◌, ◌++◌, ◌∷◌, [], ℕ, List, decimal, sym, ap, ◌∙◌, append_assoc}
use Rattle.crsm_text.specs.Words.{named}
use Rattle.crsm_text.proofs.Named.{named_more}
use Rattle.crsm_text.proofs.line.push_numbered_wide.Goals as goal

-- a number, words, a last word and a line feed, as they are added one after another
line_of : (out number words last : List ℕ)
    → ((out ++ (number ++ 32 ∷ (words ++ 32 ∷ []))) ++ last) ++ 10 ∷ [] ≡ out ++ (number ++ 32 ∷ ((words ++ 32 ∷ last) ++ 10 ∷ []))
line_of out number words last =
    let end : List ℕ = last ++ 10 ∷ [] in
    append_assoc (out ++ (number ++ 32 ∷ (words ++ 32 ∷ []))) last (10 ∷ [])
    ∙ append_assoc out (number ++ 32 ∷ (words ++ 32 ∷ [])) end
    ∙ ap (λ (s : List ℕ). out ++ s) (append_assoc number (32 ∷ (words ++ 32 ∷ [])) end)
    ∙ ap (λ (s : List ℕ). out ++ (number ++ 32 ∷ s)) (append_assoc words (32 ∷ []) end)
    ∙ ap (λ (s : List ℕ). out ++ (number ++ 32 ∷ s)) (sym (append_assoc words (32 ∷ last) (10 ∷ [])))

pub returns : goal.returns
returns c =
    let words : List ℕ = named c.args.name.now c.args.values.now in
    let digits : c.as_bytes.result.now ≡ decimal c.args.last = c.as_bytes.ensures.value ∙ c.format.ensures.text in
    let head : c.push_numbered.new.out ≡ c.args.out.now ++ (decimal c.args.number ++ 32 ∷ (words ++ 32 ∷ [])) = c.in_ok-push_numbered.ensures in
    let text : c.append.new.self ≡ c.push_numbered.new.out ++ c.as_bytes.result.now = c.in_ok-append.ensures.ok in
    let whole : c.append.new.self ++ 10 ∷ [] ≡ c.args.out.now ++ (decimal c.args.number ++ 32 ∷ (named c.args.name.now (c.args.values.now ++ c.args.last ∷ []) ++ 10 ∷ [])) =
    ap (λ (s : List ℕ). s ++ 10 ∷ []) (text ∙ ap (λ (s : List ℕ). s ++ c.as_bytes.result.now) head
    ∙ ap (λ (s : List ℕ). (c.args.out.now ++ (decimal c.args.number ++ 32 ∷ (words ++ 32 ∷ []))) ++ s) digits)
    ∙ line_of c.args.out.now (decimal c.args.number) words (decimal c.args.last)
    ∙ ap (λ (s : List ℕ). c.args.out.now ++ (decimal c.args.number ++ 32 ∷ (s ++ 10 ∷ []))) (sym (named_more c.args.name.now c.args.values.now c.args.last)) in
    rw whole at c.push.ensures.ok
