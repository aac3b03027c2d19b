-- The text of entries, index by index.
use Rattle.std.proofs.Common.{◌≡◌, ℕ, suc, ◌+◌, ◌≤◌, List, ◌++◌, drop, length, sym, ◌∙◌, ap, append_assoc, arith}
use Rattle.std.specs.Prelude.{Some, slice_get}
use Rattle.std.proofs.Math.Seq.{drop-cons}
use Rattle.std.proofs.lemmas.List.{append-nil, at_drop_all}
use Rattle.std.proofs.lemmas.Option.{get_or_from_slice_get}
use Rattle.crsm_audit.specs.declared.place.ExecutedEntry.{ExecutedEntry}
use Rattle.crsm_audit.specs.Texts.{place_text, places_text}
use Rattle.crsm_audit.proofs.Searching.{inside}

next : (places : List ExecutedEntry) (at : ℕ) (p : ExecutedEntry) → slice_get places at ≡ Some p → places_text at (drop at places) ≡ place_text at p ++ places_text (at + 1) (drop (at + 1) places)
unfolding places_text
next places at p there =
    let more : suc at ≡ at + 1 = omega arith in
    ap (places_text at) (drop-cons places at p (inside places at p there)) ∙ ap (λ (q : ExecutedEntry). place_text at q ++ places_text (at + 1) (drop (suc at) places)) (get_or_from_slice_get places at p p there)
    ∙ ap (λ (k : ℕ). place_text at p ++ places_text (at + 1) (drop k places)) more

-- one more entry
pub place_more : (places : List ExecutedEntry) (at : ℕ) (p : ExecutedEntry) (first before after : List ℕ) → slice_get places at ≡ Some p → after ≡ before ++ place_text at p
    → before ++ places_text at (drop at places) ≡ first ++ places_text 0 places → after ++ places_text (at + 1) (drop (at + 1) places) ≡ first ++ places_text 0 places
place_more places at p first before after there added so =
    let rest = places_text (at + 1) (drop (at + 1) places) in
    ap (λ (t : List ℕ). t ++ rest) added ∙ append_assoc before (place_text at p) rest ∙ ap (λ (t : List ℕ). before ++ t) (sym (next places at p there)) ∙ so

-- all of them
pub all_places : (places : List ExecutedEntry) (at : ℕ) (first text : List ℕ) → length places ≤ at → text ++ places_text at (drop at places) ≡ first ++ places_text 0 places → text ≡ first ++ places_text 0 places
unfolding places_text
all_places places at first text le so = sym (append-nil text) ∙ ap (λ (t : List ℕ). text ++ t) (sym (at_drop_all (places_text at) places at le)) ∙ so
