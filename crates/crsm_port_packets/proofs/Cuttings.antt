-- What is put together was cut.
use Rattle.std.proofs.Common.{◌≡◌, ◌∙◌, ◌+◌, ◌*◌, ◌<◌, ◌≤◌, ◌++◌, ◌-◌, min, ℕ, zero, suc, List, [], ◌∷◌, length, take, drop, refl, sym, ap, ap₂, subst, arith, inl, inr, length-drop, take-append-drop, append_assoc}
use Rattle.std.specs.List.{concat}
use Rattle.std.specs.Prelude.{Err, IsOk, Ok, OnErr, OnOk, Result, slice_index_or}
use Rattle.std.proofs.lemmas.List.{drop-drop, drop_min, take_min}
use Rattle.std.proofs.Math.Seq.{take-length}
use Rattle.crsm_base.specs.declared.memory.Failed.{Failed}
use Rattle.crsm_port.specs.Meaning.{Meaning, Sends}
use Rattle.crsm_port.specs.Passing.{Datagrams, NoMore, OneMore, either}
use Rattle.crsm_port_faults.specs.Counts.{Rose}
use Rattle.crsm_port_packets.specs.Carrying.{Fragments, put_together}
use Rattle.crsm_port_packets.specs.Cutting.{AreApart, AreOfCuts, IsFragmentOf, IsOfCut, SendsFragments, fragment_at, fragments_of}

-- the pieces of a list of bytes, from the first one on
abbrev ArePieces : List ℕ → List (List ℕ) → Type 0
ArePieces bytes pieces = (i : ℕ) → i < length pieces → slice_index_or pieces i [] ≡ take 1192 (drop (i * 1192) bytes)

no_bytes : (bytes : List ℕ) → length bytes ≤ 0 → [] ≡ bytes
no_bytes [] le = refl
no_bytes (b ∷ bytes) le = absurd (omega (arith, le))

next_piece : (bytes : List ℕ) (i : ℕ) → drop (suc i * 1192) bytes ≡ drop (i * 1192) (drop 1192 bytes)
next_piece bytes i =
    let at : suc i * 1192 ≡ 1192 + i * 1192 = omega arith in
    ap (λ (n : ℕ). drop n bytes) at ∙ sym (drop-drop (i * 1192) 1192 bytes)

whole : (bytes : List ℕ) (pieces : List (List ℕ)) → ArePieces bytes pieces → length bytes ≤ length pieces * 1192 → concat pieces ≡ bytes
whole bytes [] are le = no_bytes bytes (omega (arith, le))
whole bytes (p ∷ pieces) are le =
    let rest : concat pieces ≡ drop 1192 bytes =
    whole (drop 1192 bytes) pieces
    (λ i lt. are (suc i) (omega (arith, lt)) ∙ ap (take 1192) (next_piece bytes i))
    (omega (arith, le, length-drop 1192 bytes)) in
    ap₂ (λ (x y : List ℕ). x ++ y) (are zero (omega arith)) rest ∙ take-append-drop 1192 bytes

pub cut_together : (cuts : Datagrams) (fragments : Fragments) → AreApart cuts → AreOfCuts cuts fragments → NoMore cuts (put_together fragments)
cut_together cuts fragments apart are a d (name, pieces, some, is, all) = subst (λ (x : List ℕ). cuts a x) (sym (is ∙ whole first.datagram pieces each first.piece.count)) first.was_cut
  where
    of : (i : ℕ) → i < length pieces → IsOfCut cuts a (record { name = name; index = i; count = length pieces; bytes = slice_index_or pieces i [] })
    of i lt = are a (record { name = name; index = i; count = length pieces; bytes = slice_index_or pieces i [] }) (all i lt)

    first : IsOfCut cuts a (record { name = name; index = zero; count = length pieces; bytes = slice_index_or pieces zero [] })
    first = of zero some

    each : ArePieces first.datagram pieces
    each i lt =
        let it = of i lt in
        let same : it.datagram ≡ first.datagram = apart a it.datagram first.datagram it.was_cut first.was_cut (sym it.name ∙ first.name) in
        it.piece.bytes ∙ ap (λ (bytes : List ℕ). take 1192 (drop (i * 1192) bytes)) same

-- ---- what goes out

-- a fragment that was written is one of the datagram's
pub written : (datagram name : List ℕ) (index count : ℕ) (packet : List ℕ) → length name ≡ 36 → packet ≡ fragment_at datagram name index count → length datagram ≤ count * 1192 → IsFragmentOf datagram name packet
written datagram name index count packet long is all =
    let piece : List ℕ = take 1192 (drop (index * 1192) datagram) in (
      record { name = name; index = index; count = count; bytes = piece },
      (long, is ∙ ap (λ (rest : List ℕ). 20 ∷ 1 ∷ rest) (append_assoc name (index ∷ count ∷ []) piece)),
      record { bytes = refl; count = all },
      refl,
    )

module _ (P Q R : Datagrams) (to : ℕ) (datagram name : List ℕ) where
  -- one more fragment goes out
  pub cut_went : (packet : List ℕ) → NoMore (either P (fragments_of to datagram name)) Q → IsFragmentOf datagram name packet → OneMore to packet Q R → NoMore (either P (fragments_of to datagram name)) R
  cut_went packet before is one a d has = elim (one a d has) [
    | inl earlier ↦ before a d earlier
    | inr w ↦ inr (w.0, subst (λ (x : List ℕ). IsFragmentOf datagram name x) (sym w.1) is)
  ]

-- the bytes of a fragment, as the code takes them
pub piece : (bytes : List ℕ) (n start len : ℕ) → start ≡ min n (length bytes) → len ≡ min 1192 (length bytes - start) → take len (take (length bytes - start) (drop start bytes)) ≡ take 1192 (drop n bytes)
piece bytes n start len starts is =
    let from : drop start bytes ≡ drop n bytes = ap (λ (k : ℕ). drop k bytes) starts ∙ drop_min n bytes in
    let all : length (drop start bytes) ≡ length bytes - start = length-drop start bytes in
    let whole : take (length bytes - start) (drop start bytes) ≡ drop start bytes = ap (λ (k : ℕ). take k (drop start bytes)) (sym all) ∙ take-length (drop start bytes) in
    ap (take len) whole ∙ ap (λ (k : ℕ). take k (drop start bytes)) (is ∙ ap (λ (k : ℕ). min 1192 k) (sym all)) ∙ take_min 1192 (drop start bytes) ∙ ap (take 1192) from

-- ---- the fragments that a port is given, up to one

ok_gives : {T E P : Type 0} (r : Result T E) → IsOk r → OnOk r P → P
ok_gives (Ok x) ok is = is
ok_gives (Err e) ok is = cc

pub was_ok : (r : Result (Unit {0}) Failed) (u : Unit {0}) → r ≡ Ok u → IsOk r
was_ok r u is = subst (λ (x : Result (Unit {0}) Failed). IsOk x) (sym is) refl

pub err_of : (r : Result (Unit {0}) Failed) (P : Type 0) → P → OnErr r P
err_of (Ok u) P is = tt
err_of (Err e) P is = is

-- none of them was lost
no_loss : (to : ℕ) (bytes name : List ℕ) (count index : ℕ) (old new : Meaning) → SendsFragments to bytes name count index old new → new.losses ≡ old.losses
no_loss to bytes name count zero old new same = ap (λ (m : Meaning). m.losses) same
no_loss to bytes name count (suc index) old new (between, result, before, ok, one) = ok_gives result ok one.no_loss ∙ no_loss to bytes name count index old between before

pub loss_behind : (to : ℕ) (bytes name : List ℕ) (count index : ℕ) (old between new : Meaning) → SendsFragments to bytes name count index old between → Rose between.losses new.losses → Rose old.losses new.losses
loss_behind to bytes name count index old between new before rose = subst (λ (n : ℕ). Rose n new.losses) (no_loss to bytes name count index old between before) rose

pub fragment_sent : (to : ℕ) (bytes name packet : List ℕ) (count index : ℕ) (old between new : Meaning) (result : Result (Unit {0}) Failed) → packet ≡ fragment_at bytes name index count → IsOk result
    → SendsFragments to bytes name count index old between → Sends to packet between new result → SendsFragments to bytes name count (index + 1) old new
fragment_sent to bytes name packet count index old between new result is ok before one =
    let next : index + 1 ≡ suc index = omega arith in
    subst (λ (n : ℕ). SendsFragments to bytes name count n old new) (sym next) (between, result, before, ok, subst (λ (p : List ℕ). Sends to p between new result) is one)
