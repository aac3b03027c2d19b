use Rattle.std.proofs.Common.{◌≡◌, ◌++◌, ◌∷◌, [], ℕ, List, codes, decimal, sym, ap, ◌∙◌, append_assoc}
use Rattle.hex.specs.Hex.{encode_lower}
use Rattle.crsm_text.specs.Words.{named}
use Rattle.crsm_schedule.specs.Transcript.{line_text}
use Rattle.crsm_schedule.proofs.print.push_line.Goals as goal

-- a number, words, bytes and a line feed, as they are added one after another
line_of_bytes : (out number words bytes : List ℕ)
    → ((out ++ (number ++ 32 ∷ (words ++ 32 ∷ []))) ++ bytes) ++ 10 ∷ [] ≡ out ++ (number ++ 32 ∷ ((words ++ 32 ∷ bytes) ++ 10 ∷ []))
line_of_bytes out number words bytes =
    let end : List ℕ = bytes ++ 10 ∷ [] in
    append_assoc (out ++ (number ++ 32 ∷ (words ++ 32 ∷ []))) bytes (10 ∷ [])
    ∙ append_assoc out (number ++ 32 ∷ (words ++ 32 ∷ [])) end
    ∙ ap (λ (s : List ℕ). out ++ s) (append_assoc number (32 ∷ (words ++ 32 ∷ [])) end)
    ∙ ap (λ (s : List ℕ). out ++ (number ++ 32 ∷ s)) (append_assoc words (32 ∷ []) end)
    ∙ ap (λ (s : List ℕ). out ++ (number ++ 32 ∷ s)) (sym (append_assoc words (32 ∷ bytes) (10 ∷ [])))

pub returns-in_ok-push_hex-in-Back : goal.returns-in_ok-push_hex-in-Back
returns-in_ok-push_hex-in-Back c =
    let words : List ℕ = named (codes "back") (c.in-Back.address ∷ []) in
    let head : c.push_numbered-in-Back.new.out ≡ c.args.out.now ++ (decimal c.args.at ++ 32 ∷ (words ++ 32 ∷ [])) = c.in_ok-push_numbered-in-Back.ensures in
    let text : c.push_hex-in-Back.new.out ≡ c.push_numbered-in-Back.new.out ++ encode_lower c.as_slice-in-Back.result.now = c.in_ok-push_hex-in-Back.ensures in
    let bytes : c.as_slice-in-Back.result.now ≡ c.in-Back.bytes = c.as_slice-in-Back.ensures in
    let whole : c.push_hex-in-Back.new.out ++ 10 ∷ [] ≡ c.args.out.now ++ line_text c.args.at c.args.line.now =
    ap (λ (s : List ℕ). s ++ 10 ∷ []) (text ∙ ap (λ (s : List ℕ). s ++ encode_lower c.as_slice-in-Back.result.now) head
    ∙ ap (λ (s : List ℕ). (c.args.out.now ++ (decimal c.args.at ++ 32 ∷ (words ++ 32 ∷ []))) ++ encode_lower s) bytes)
    ∙ line_of_bytes c.args.out.now (decimal c.args.at) words (encode_lower c.in-Back.bytes)
    ∙ ap (λ l. c.args.out.now ++ line_text c.args.at l) (sym c.in-Back.is) in
    rw whole at c.push-in-Back.ensures.ok
