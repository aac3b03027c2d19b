-- The first lines of a sheet, one after another.
use Rattle.std.proofs.Common.{◌≡◌, ℕ, ◌+◌, List, [], ◌∷◌, ◌++◌, length, take, drop, map, refl, sym, ◌∙◌, ap, subst, append_assoc}
use Rattle.std.proofs.lemmas.List.{append-nil, map-append, take-append-drop, take_more}
use Rattle.std.proofs.Math.Seq.{take-length}
use Rattle.std.proofs.lemmas.Option.{get_or_from_slice_get, slice_get_within}
use Rattle.std.proofs.lemmas.Grind.{flat_map-append}
use Rattle.std.specs.Prelude.{Option, Some, None, slice_get}
use Rattle.crsm_io.specs.Streams.{Puts, PutsPrefix}
use Rattle.crsm_text_sheet.specs.declared.line.SheetLine.{SheetLine}
use Rattle.crsm_text_sheet.specs.Grammar.{sheet_line_text}
use Rattle.crsm_text_sheet.specs.Sheets.{entry_line, sheet_of, sheet_text}
use Rattle.crsm_node.specs.Running.{entries_text, opening_text}
use Rattle.crsm_node.proofs.SoFar.{puts_then}

-- the lines after those of so many bodies
abbrev rest_text : List (List ℕ) → ℕ → List ℕ
rest_text bodies i = sheet_text (map entry_line (drop i bodies) ++ SheetLine.Open ∷ [])

abbrev pub line_of : SheetLine → List ℕ
line_of l = sheet_line_text l ++ 10 ∷ []

text_append : (ls ms : List SheetLine) → sheet_text (ls ++ ms) ≡ sheet_text ls ++ sheet_text ms
text_append ls ms = flat_map-append line_of ls ms

text_cut : (bodies : List (List ℕ)) (i : ℕ) → opening_text bodies ≡ entries_text bodies i ++ rest_text bodies i
unfolding sheet_of
text_cut bodies i =
    let all : map entry_line bodies ≡ map entry_line (take i bodies) ++ map entry_line (drop i bodies) = ap (map entry_line) (sym (take-append-drop i bodies)) ∙ map-append entry_line (take i bodies) (drop i bodies) in
    ap (λ (ls : List SheetLine). sheet_text (ls ++ SheetLine.Open ∷ [])) all
    ∙ ap sheet_text (append_assoc (map entry_line (take i bodies)) (map entry_line (drop i bodies)) (SheetLine.Open ∷ []))
    ∙ text_append (map entry_line (take i bodies)) (map entry_line (drop i bodies) ++ SheetLine.Open ∷ [])

entries_more : (bodies : List (List ℕ)) (i : ℕ) (body : List ℕ) → slice_get bodies i ≡ Some body → entries_text bodies (i + 1) ≡ entries_text bodies i ++ line_of (SheetLine.Entry body)
entries_more bodies i body is =
    ap (λ (bs : List (List ℕ)). sheet_text (map entry_line bs)) (take_more bodies i [] (slice_get_within bodies i body is) ∙ ap (λ (b : List ℕ). take i bodies ++ b ∷ []) (get_or_from_slice_get bodies i body [] is))
    ∙ ap sheet_text (map-append entry_line (take i bodies) (body ∷ [])) ∙ text_append (map entry_line (take i bodies)) (SheetLine.Entry body ∷ [])
    ∙ ap (λ (xs : List ℕ). entries_text bodies i ++ xs) (append-nil (line_of (SheetLine.Entry body)))

-- lines of bodies and the one of the next
pub entries_one_more : (bodies : List (List ℕ)) (first i : ℕ) (body lines more : List ℕ) → slice_get bodies i ≡ Some body → entries_text bodies i ≡ entries_text bodies first ++ lines →
    more ≡ lines ++ line_of (SheetLine.Entry body) → entries_text bodies (i + 1) ≡ entries_text bodies first ++ more
entries_one_more bodies first i body lines more is so_far then =
    entries_more bodies i body is ∙ ap (λ (x : List ℕ). x ++ line_of (SheetLine.Entry body)) so_far ∙ append_assoc (entries_text bodies first) lines (line_of (SheetLine.Entry body))
    ∙ ap (λ (x : List ℕ). entries_text bodies first ++ x) (sym then)

take_whole : (bodies : List (List ℕ)) (i : ℕ) → i ≡ length bodies → take i bodies ≡ bodies
take_whole bodies i is = ap (λ (n : ℕ). take n bodies) is ∙ take-length bodies

all_entries : (bodies : List (List ℕ)) (i : ℕ) → i ≡ length bodies → opening_text bodies ≡ entries_text bodies i ++ line_of SheetLine.Open
unfolding sheet_of
all_entries bodies i is =
    ap (λ (ls : List (List ℕ)). sheet_text (map entry_line ls ++ SheetLine.Open ∷ [])) (sym (take_whole bodies i is))
    ∙ text_append (map entry_line (take i bodies)) (SheetLine.Open ∷ []) ∙ ap (λ (xs : List ℕ). entries_text bodies i ++ xs) (append-nil (line_of SheetLine.Open))

-- nothing is put
pub puts_none : (a : Option (List ℕ)) → Puts a a []
puts_none None = refl
puts_none (Some had) = ap Some (sym (append-nil had))

-- what is put goes on
pub entries_put : (bodies : List (List ℕ)) (i j : ℕ) (lines : List ℕ) (a b c : Option (List ℕ)) → entries_text bodies j ≡ entries_text bodies i ++ lines → Puts a b (entries_text bodies i) → Puts b c lines → Puts a c (entries_text bodies j)
entries_put bodies i j lines a b c is one two = subst (λ (x : List ℕ). Puts a c x) (sym is) (puts_then a b c (entries_text bodies i) lines one two)

pub opening_put : (bodies : List (List ℕ)) (i : ℕ) (a b c : Option (List ℕ)) → i ≡ length bodies → Puts a b (entries_text bodies i) → Puts b c (line_of SheetLine.Open) → Puts a c (opening_text bodies)
opening_put bodies i a b c is one two = subst (λ (x : List ℕ). Puts a c x) (sym (all_entries bodies i is)) (puts_then a b c (entries_text bodies i) (line_of SheetLine.Open) one two)

-- and stops
pub stops_between : (bodies : List (List ℕ)) (i : ℕ) (a b : Option (List ℕ)) → Puts a b (entries_text bodies i) → PutsPrefix a b (opening_text bodies)
stops_between bodies i a b one = record { prefix = entries_text bodies i; rest = rest_text bodies i; cut = text_cut bodies i; put = one }

pub stops_in_entries : (bodies : List (List ℕ)) (i j : ℕ) (lines : List ℕ) (a b c : Option (List ℕ)) → entries_text bodies j ≡ entries_text bodies i ++ lines → Puts a b (entries_text bodies i) → PutsPrefix b c lines → PutsPrefix a c (opening_text bodies)
stops_in_entries bodies i j lines a b c is one two = record {
  prefix = entries_text bodies i ++ two.prefix;
  rest = two.rest ++ rest_text bodies j;
  cut = text_cut bodies j ∙ ap (λ (x : List ℕ). x ++ rest_text bodies j) (is ∙ ap (λ (x : List ℕ). entries_text bodies i ++ x) two.cut ∙ sym (append_assoc (entries_text bodies i) two.prefix two.rest))
      ∙ append_assoc (entries_text bodies i ++ two.prefix) two.rest (rest_text bodies j);
  put = puts_then a b c (entries_text bodies i) two.prefix one two.put;
}

pub stops_at_open : (bodies : List (List ℕ)) (i : ℕ) (a b c : Option (List ℕ)) → i ≡ length bodies → Puts a b (entries_text bodies i) → PutsPrefix b c (line_of SheetLine.Open) → PutsPrefix a c (opening_text bodies)
stops_at_open bodies i a b c is one two = record {
  prefix = entries_text bodies i ++ two.prefix;
  rest = two.rest;
  cut = all_entries bodies i is ∙ ap (λ (x : List ℕ). entries_text bodies i ++ x) two.cut ∙ sym (append_assoc (entries_text bodies i) two.prefix two.rest);
  put = puts_then a b c (entries_text bodies i) two.prefix one two.put;
}
