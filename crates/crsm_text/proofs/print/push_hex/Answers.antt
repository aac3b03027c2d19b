use Rattle.std.proofs.Common.{◌≡◌, ◌++◌, ℕ, List, take, drop, ap, ◌∙◌, append_assoc}
use Rattle.hex.specs.Hex.{encode_lower}
use Rattle.crsm_text.proofs.Hex.{encode_lower-parts}
use Rattle.crsm_text.proofs.print.push_hex.Goals as goal

pub loop-rest-preserved : goal.loop-rest-preserved
loop-rest-preserved c =
    let before = c.loop-rest.out in
    let rest = c.loop-rest.rest.now in
    let pushed : c.push_piece.new.out ≡ before ++ encode_lower (take 64 rest) = c.in_ok-push_piece.ensures ∙ ap (λ (s : List ℕ). before ++ encode_lower s) c.split_at.ensures.front in
    ap (λ (s : List ℕ). s ++ encode_lower c.split_at.result.1.now) pushed
    ∙ ap (λ (s : List ℕ). (before ++ encode_lower (take 64 rest)) ++ encode_lower s) c.split_at.ensures.back
    ∙ append_assoc before (encode_lower (take 64 rest)) (encode_lower (drop 64 rest))
    ∙ ap (λ (s : List ℕ). before ++ s) (encode_lower-parts rest 64)
    ∙ c.loop-rest.invariant
