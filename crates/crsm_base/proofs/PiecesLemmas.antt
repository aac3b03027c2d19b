-- The pieces of a text with one piece appended, and the piece at an index.
use Rattle.std.proofs.Common.{◌≡◌, ◌∙◌, ℕ, ◌-◌, ◌<◌, ◌≤◌, List, [], ◌∷◌, ◌++◌, length, take, drop, get_or, zero, suc, refl, ap, ap₂, arith, length-append, slice_get, Some}
use Rattle.std.proofs.Math.Seq.{take-length, drop-append_seam}
use Rattle.std.proofs.lemmas.List.{take-append-le, drop-append-le, length-drop}
use Rattle.std.specs.List.{slice_range}
use Rattle.crsm_base.specs.Pieces.{pieces, AreEnds}

-- each piece ends within the text
pub begins_within : (from : ℕ) (ends text : List ℕ) → AreEnds from ends text → from ≤ length text
begins_within from [] text are = omega (arith, are)
begins_within from (end ∷ ends) text are = let on = begins_within end ends text are.1 in omega (arith, on, are.0)

-- a piece stays where more text comes behind it
stays : (from end : ℕ) (text more : List ℕ) → from ≤ end → end ≤ length text → slice_range (text ++ more) from end ≡ slice_range text from end
stays from end text more le within =
    let long = length-drop from text in
    ap (take (end - from)) (drop-append-le from text more (omega (arith, le, within))) ∙ take-append-le (end - from) (drop from text) more (omega (arith, le, within, long))

last : (text more : List ℕ) → slice_range (text ++ more) (length text) (length (text ++ more)) ≡ more
last text more =
    let n : length (text ++ more) - length text ≡ length more = let l = length-append text more in omega (arith, l) in
    ap (take (length (text ++ more) - length text)) (drop-append_seam text more) ∙ ap (λ (k : ℕ). take k more) n ∙ take-length more

pub one_more : (from : ℕ) (ends text more : List ℕ) → AreEnds from ends text → pieces from (ends ++ length (text ++ more) ∷ []) (text ++ more) ≡ pieces from ends text ++ more ∷ []
one_more from [] text more are = ap (λ (bs : List ℕ). bs ∷ []) (ap (λ (k : ℕ). slice_range (text ++ more) k (length (text ++ more))) are ∙ last text more)
one_more from (end ∷ ends) text more are =
    ap₂ (λ (bs : List ℕ) (ps : List (List ℕ)). bs ∷ ps) (stays from end text more are.0 (begins_within end ends text are.1)) (one_more end ends text more are.1)

pub still_ends : (from : ℕ) (ends text more : List ℕ) → AreEnds from ends text → AreEnds from (ends ++ length (text ++ more) ∷ []) (text ++ more)
still_ends from [] text more are = let l = length-append text more in (omega (arith, are, l), refl)
still_ends from (end ∷ ends) text more are = (are.0, still_ends end ends text more are.1)

-- how many there are
pub count : (from : ℕ) (ends text : List ℕ) → length (pieces from ends text) ≡ length ends
count from [] text = refl
count from (end ∷ ends) text = ap suc (count end ends text)

-- ---- the piece of a number

pub of_number : (from : ℕ) (ends text : List ℕ) (i : ℕ) → i < length ends → slice_get (pieces from ends text) i ≡ Some (slice_range text (get_or (from ∷ ends) i 0) (get_or ends i 0))
of_number from [] text i within = absurd (omega (arith, within))
of_number from (end ∷ ends) text zero within = refl
of_number from (end ∷ ends) text (suc i) within = of_number end ends text i (omega (arith, within))

pub rises : (from : ℕ) (ends text : List ℕ) (i : ℕ) → AreEnds from ends text → i < length ends → get_or (from ∷ ends) i 0 ≤ get_or ends i 0
rises from [] text i are within = absurd (omega (arith, within))
rises from (end ∷ ends) text zero are within = are.0
rises from (end ∷ ends) text (suc i) are within = rises end ends text i are.1 (omega (arith, within))

pub ends_within : (from : ℕ) (ends text : List ℕ) (i : ℕ) → AreEnds from ends text → i < length ends → get_or ends i 0 ≤ length text
ends_within from [] text i are within = absurd (omega (arith, within))
ends_within from (end ∷ ends) text zero are within = begins_within end ends text are.1
ends_within from (end ∷ ends) text (suc i) are within = ends_within end ends text i are.1 (omega (arith, within))
