-- A log body encodes one list of records.
use Rattle.std.proofs.Common.{◌≡◌, ℕ, ◌≤◌, List, [], ◌∷◌, ◌++◌, length, Option, Some, refl, sym, ap, ◌∙◌, arith}
use Rattle.std.specs.List.{flat_map, AllByRecursion}
use Rattle.std.proofs.lemmas.List.{length-append}
use Rattle.std.proofs.lemmas.List.Concat.{flat_map-cons}
use Rattle.crsm_base.specs.declared.Rec.{Rec}
use Rattle.crsm_base.specs.Records.{rec_bytes, FitsRec, body_bytes, SpeltBody}
use Rattle.crsm_base.specs.Parser.{Parser}
use Rattle.crsm_base.proofs.Parsers.{IsParser, some_is}
use Rattle.crsm_base.proofs.RecordLaws.{rec_parses, rec_long}

same_list : {X : Type 0} {at : Parser X} {spell : X → List ℕ} {Fits : X → Type 0} → IsParser at spell Fits → ((x : X) → 1 ≤ length (spell x)) → (xs ys : List X) → AllByRecursion Fits xs → AllByRecursion Fits ys → flat_map spell xs ≡ flat_map spell ys → xs ≡ ys
same_list p long [] [] fx fy e = refl
same_list {spell = spell} p long [] (y ∷ ys) fx fy e =
    let some = long y in
    let len : 0 ≡ length (spell y ++ flat_map spell ys) = ap length (e ∙ flat_map-cons spell y ys) in
    absurd (omega (arith, some, len, length-append (spell y) (flat_map spell ys)))
same_list {spell = spell} p long (x ∷ xs) [] fx fy e =
    let some = long x in
    let len : length (spell x ++ flat_map spell xs) ≡ 0 = ap length (sym (flat_map-cons spell x xs) ∙ e) in
    absurd (omega (arith, some, len, length-append (spell x) (flat_map spell xs)))
same_list {X = X} {at = at} {spell = spell} p long (x ∷ xs) (y ∷ ys) fx fy e =
    let one : at (spell x ++ flat_map spell xs) ≡ Some (x, flat_map spell xs) = p.again x (flat_map spell xs) fx.0 in
    let two : at (spell y ++ flat_map spell ys) ≡ Some (y, flat_map spell ys) = p.again y (flat_map spell ys) fy.0 in
    let same = some_is (x, flat_map spell xs) (y, flat_map spell ys) (sym one ∙ ap at (sym (flat_map-cons spell x xs) ∙ e ∙ flat_map-cons spell y ys) ∙ two) in
    let first : x ≡ y = ap (λ (z : X × List ℕ). z.0) same in
    let others : xs ≡ ys = same_list p long xs ys fx.1 fy.1 (ap (λ (z : X × List ℕ). z.1) same) in
    ap (λ (h : X). h ∷ xs) first ∙ ap (λ (t : List X). y ∷ t) others

pub same_body : (bytes : List ℕ) (xs ys : List Rec) → SpeltBody xs bytes → SpeltBody ys bytes → xs ≡ ys
unfolding body_bytes
same_body bytes xs ys a b = same_list rec_parses rec_long xs ys a.fits.fit b.fits.fit (sym a.is ∙ b.is)
