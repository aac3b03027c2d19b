-- The results of a reader of bodies.
use Rattle.std.proofs.Common.{◌≡◌, ℕ, ◌<◌, ◌≤◌, List, [], ◌∷◌, ◌++◌, length, None, Some, eqb, true, false, refl, sym, ap, ◌∙◌, arith}
use Rattle.std.specs.List.{flat_map, AllByRecursion}
use Rattle.std.proofs.lemmas.Bool.{eqb-true}
use Rattle.std.proofs.lemmas.List.{append-nil, length-append, nil_from_length}
use Rattle.std.proofs.lemmas.List.Concat.{flat_map-cons}
use Rattle.crsm_base.specs.Parser.{Parser}
use Rattle.crsm_base.proofs.Parsers.{IsParser, some_is}
use Rattle.crsm_base.proofs.BodyLaws.{HasRead, above_zero, stops}
use Rattle.crsm_mpspec.specs.declared.rec.MpRec.{MpRec}
use Rattle.crsm_mpspec.specs.Records.{rec_bytes, FitsRec, body_bytes, SpeltBody}
use Rattle.crsm_mpledger.specs.Reading.{rec_at}
use Rattle.crsm_mpledger.proofs.RecordLaws.{rec_parses, rec_long}

pub body_none : (bytes : List ℕ) → true ≡ eqb (length bytes) 0 → (recs : List MpRec) → SpeltBody recs bytes → ⊥
unfolding body_bytes
body_none bytes e [] h = let some = h.fits.some in absurd (omega (arith, some))
body_none bytes e (x ∷ xs) h =
    let none : length bytes ≡ 0 = eqb-true (length bytes) 0 (sym e) in
    let some = rec_long x in
    let len = ap length (h.is ∙ flat_map-cons rec_bytes x xs) in
    absurd (omega (arith, none, some, len, length-append (rec_bytes x) (flat_map rec_bytes xs)))

pub body_found : (bytes : List ℕ) (recs : List MpRec) (rest : List ℕ) → false ≡ eqb (length bytes) 0 → HasRead rec_bytes FitsRec bytes recs rest → true ≡ eqb (length rest) 0 → SpeltBody recs bytes
unfolding body_bytes
body_found bytes [] rest some h e =
    let none : length rest ≡ 0 = eqb-true (length rest) 0 (sym e) in
    let long = above_zero (length bytes) some in
    let len = ap length h.is in
    absurd (omega (arith, none, long, len))
body_found bytes (x ∷ xs) rest some h e =
    let none : rest ≡ [] = nil_from_length rest (eqb-true (length rest) 0 (sym e)) in
    record {
      fits = record { some = omega arith; fit = h.fit };
      is = h.is ∙ ap (λ (s : List ℕ). flat_map rec_bytes (x ∷ xs) ++ s) none ∙ append-nil (flat_map rec_bytes (x ∷ xs));
    }

-- what stops inside a body is no body
pub body_stops : (bytes : List ℕ) (recs : List MpRec) (rest : List ℕ) → HasRead rec_bytes FitsRec bytes recs rest → None ≡ rec_at rest → 0 < length rest → (more : List MpRec) → SpeltBody more bytes → ⊥
unfolding body_bytes
body_stops bytes recs rest h e some more s = stops rec_parses rec_long bytes recs rest h e some more s.fits.fit s.is

same_list : {X : Type 0} {at : Parser X} {spell : X → List ℕ} {Fits : X → Type 0} → IsParser at spell Fits → ((x : X) → 1 ≤ length (spell x)) → (xs ys : List X) → AllByRecursion Fits xs → AllByRecursion Fits ys → flat_map spell xs ≡ flat_map spell ys → xs ≡ ys
same_list p long [] [] fx fy e = refl
same_list {spell = spell} p long [] (y ∷ ys) fx fy e =
    let some = long y in
    let len : 0 ≡ length (spell y ++ flat_map spell ys) = ap length (e ∙ flat_map-cons spell y ys) in
    absurd (omega (arith, some, len, length-append (spell y) (flat_map spell ys)))
same_list {spell = spell} p long (x ∷ xs) [] fx fy e =
    let some = long x in
    let len : length (spell x ++ flat_map spell xs) ≡ 0 = ap length (sym (flat_map-cons spell x xs) ∙ e) in
    absurd (omega (arith, some, len, length-append (spell x) (flat_map spell xs)))
same_list {X = X} {at = at} {spell = spell} p long (x ∷ xs) (y ∷ ys) fx fy e =
    let one : at (spell x ++ flat_map spell xs) ≡ Some (x, flat_map spell xs) = p.again x (flat_map spell xs) fx.0 in
    let two : at (spell y ++ flat_map spell ys) ≡ Some (y, flat_map spell ys) = p.again y (flat_map spell ys) fy.0 in
    let same = some_is (x, flat_map spell xs) (y, flat_map spell ys) (sym one ∙ ap at (sym (flat_map-cons spell x xs) ∙ e ∙ flat_map-cons spell y ys) ∙ two) in
    let first : x ≡ y = ap (λ (z : X × List ℕ). z.0) same in
    let others : xs ≡ ys = same_list p long xs ys fx.1 fy.1 (ap (λ (z : X × List ℕ). z.1) same) in
    ap (λ (h : X). h ∷ xs) first ∙ ap (λ (t : List X). y ∷ t) others

-- a body has one list of records
pub same_body : (bytes : List ℕ) (xs ys : List MpRec) → SpeltBody xs bytes → SpeltBody ys bytes → xs ≡ ys
unfolding body_bytes
same_body bytes xs ys a b = same_list rec_parses rec_long xs ys a.fits.fit b.fits.fit (sym a.is ∙ b.is)
