-- The parser of each part of a history reads its encoding.
use Rattle.std.proofs.Common.{◌≡◌, ℕ, ◌<◌, ◌≤◌, ◌^◌, leb, List, ◌++◌, length, Option, Some, refl, sym, ap, subst, ◌∙◌, append_assoc, arith}
use Rattle.std.specs.List.{flat_map}
use Rattle.std.proofs.lemmas.Bool.{leb-true, le-leb}
use Rattle.crsm_base.specs.Spelling.{u32_bytes, option_bytes, FitsOption}
use Rattle.crsm_base.specs.Parser.{◌>>=◌, passing, many_at}
use Rattle.crsm_base.specs.Reading.{u32_at}
use Rattle.crsm_base.proofs.Parsers.{IsBytes, IsBytes-back, IsParser, bind_some, made_parses, both_parse, passing_parses, option_parses}
use Rattle.crsm_base.proofs.Numbers.{u32_parses, u64_parses}
use Rattle.crsm_base.proofs.Fields.{stamp_parses, key_parses, val_parses}
use Rattle.crsm_base.proofs.Outcomes.{answer_parses}
use Rattle.crsm_base.proofs.Many.{many_take, many_again}
use Rattle.crsm_state.specs.Rows.{list_bytes, FitsList, list_at, key_row_at, key_row_bytes, FitsKeyRow, key_rows_at, key_rows_bytes, FitsKeyRows, client_row_at, client_row_bytes, FitsClientRow, client_rows_at, client_rows_bytes, FitsClientRows}
use Rattle.crsm_state.specs.Histories.{position_at, position_bytes, FitsPosition, option_position_at, head_at, head_bytes, FitsHead}

list_take : {X : Type 0} {at : List ℕ → Option (X × List ℕ)} {spell : X → List ℕ} {Fits : X → Type 0} → IsParser at spell Fits → (limit : ℕ) (bytes : List ℕ) (xs : List X) (rest : List ℕ) → IsBytes bytes → list_at at limit bytes ≡ Some (xs, rest) → FitsList Fits limit xs × (bytes ≡ list_bytes spell xs ++ rest)
unfolding list_at list_bytes
list_take {X = X} {at = at} {spell = spell} p limit bytes xs rest ok e =
    let count = passing_parses (λ n. leb n limit) u32_parses in
    let a = bind_some (passing (λ n. leb n limit) u32_at bytes) (λ count. many_at at count.0 count.1) (xs, rest) e in
    let t = count.takes bytes a.0.0 a.0.1 ok a.1 in
    let u = many_take p a.0.0 a.0.1 xs rest (IsBytes-back (u32_bytes a.0.0) a.0.1 bytes t.1 ok) a.2 in
    let whole : bytes ≡ (u32_bytes a.0.0 ++ flat_map spell xs) ++ rest = t.1 ∙ ap (λ (s : List ℕ). u32_bytes a.0.0 ++ s) u.2 ∙ sym (append_assoc (u32_bytes a.0.0) (flat_map spell xs) rest) in
    let most : length xs ≤ limit = subst (λ (n : ℕ). n ≤ limit) (sym u.0) (leb-true _ _ t.0.1) in
    (record { most = most; fit = u.1 }, subst (λ (n : ℕ). bytes ≡ (u32_bytes n ++ flat_map spell xs) ++ rest) (sym u.0) whole)

list_again : {X : Type 0} {at : List ℕ → Option (X × List ℕ)} {spell : X → List ℕ} {Fits : X → Type 0} → IsParser at spell Fits → (limit : ℕ) → limit < 2 ^ 32 → (xs : List X) (rest : List ℕ) → FitsList Fits limit xs → list_at at limit (list_bytes spell xs ++ rest) ≡ Some (xs, rest)
unfolding list_at list_bytes
list_again {X = X} {at = at} {spell = spell} p limit small xs rest fits =
    let count = passing_parses (λ n. leb n limit) u32_parses in
    let most : length xs ≤ limit = fits.most in
    let regrouped : (u32_bytes (length xs) ++ flat_map spell xs) ++ rest ≡ u32_bytes (length xs) ++ (flat_map spell xs ++ rest) = append_assoc (u32_bytes (length xs)) (flat_map spell xs) rest in
    let P : Option (ℕ × List ℕ) → Option (List X × List ℕ) = λ r. r >>= λ count. many_at at count.0 count.1 in
    ap (λ (s : List ℕ). P (passing (λ n. leb n limit) u32_at s)) regrouped ∙ ap P (count.again (length xs) (flat_map spell xs ++ rest) (omega (arith, small, most), le-leb _ _ most)) ∙ many_again p xs rest fits.fit

key_row_parses : IsParser key_row_at key_row_bytes FitsKeyRow
unfolding key_row_at key_row_bytes
key_row_parses = both_parse key_parses val_parses

pub key_rows_parse : IsParser key_rows_at key_rows_bytes FitsKeyRows
unfolding key_rows_at key_rows_bytes
key_rows_parse = record { takes = list_take key_row_parses 65536; again = list_again key_row_parses 65536 (omega arith) }

client_row_parses : IsParser client_row_at client_row_bytes FitsClientRow
unfolding client_row_at client_row_bytes
client_row_parses =
    made_parses (λ p. record { client = p.0; number = p.1.0; answer = p.1.1 }) (λ r. (r.client, (r.number, r.answer))) FitsClientRow
    (both_parse u64_parses (both_parse u64_parses answer_parses))
    (λ p. refl) (λ r f. refl) (λ p f. record { client = f.0; number = f.1.0; answer = f.1.1 }) (λ r f. (f.client, (f.number, f.answer)))

pub client_rows_parse : IsParser client_rows_at client_rows_bytes FitsClientRows
unfolding client_rows_at client_rows_bytes
client_rows_parse = record { takes = list_take client_row_parses 65536; again = list_again client_row_parses 65536 (omega arith) }

position_parses : IsParser position_at position_bytes FitsPosition
unfolding position_at position_bytes
position_parses =
    made_parses (λ p. record { epoch = p.0; stamp = p.1 }) (λ p. (p.epoch, p.stamp)) FitsPosition
    (both_parse u64_parses stamp_parses)
    (λ p. refl) (λ p f. refl) (λ p f. record { epoch = f.0; stamp = f.1 }) (λ p f. (f.epoch, f.stamp))

option_position_parses : IsParser option_position_at (option_bytes position_bytes) (FitsOption FitsPosition)
unfolding option_position_at
option_position_parses = option_parses position_parses

pub head_parses : IsParser head_at head_bytes FitsHead
unfolding head_at head_bytes
head_parses = both_parse u64_parses option_position_parses
