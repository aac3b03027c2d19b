-- What stands in a row after copies into it.
use Rattle.std.proofs.Common.{◌≡◌, ℕ, ◌+◌, ◌-◌, ◌≤◌, List, ◌++◌, length, take, drop, ap, sym, ◌∙◌, arith, append_assoc}
use Rattle.std.proofs.lemmas.List.{length-append, length-drop, length-take-le, take-take, take-append-le, take-append-drop, drop_at, drop-append-le, drop-take, drop-drop}
use Rattle.std.proofs.lemmas.Slice.{drop-put_mid}
use Rattle.std.proofs.Math.Seq.{take-append-add}
use borrow.Rule.Slice.PartMut.{put_mid, post_of}

-- a copy leaves the row as long as it was
pub length-copied : (row text : List ℕ) (start size : ℕ) → length text ≡ size → start + size ≤ length row → length (put_mid start size row text) ≡ length row
length-copied row text start size whole room =
    let before : length (take start row) ≡ start = length-take-le start row (omega (arith, room)) in
    let after : length (drop size (drop start row)) ≡ length row - start - size = length-drop size (drop start row) ∙ ap (λ n. n - size) (length-drop start row) in
    let all : length (put_mid start size row text) ≡ length (take start row) + (length text + length (drop size (drop start row))) =
    length-append (take start row) (text ++ post_of start size row) ∙ ap (λ n. length (take start row) + n) (length-append text (post_of start size row)) in
    omega (arith, all, after, before, whole, room)

-- by copies of its first and of its last items a text is written whole
pub both_written : (row text : List ℕ) (start size behind : ℕ) → size ≤ length text → behind + size ≡ length text → behind ≤ size → start + length text ≤ length row
    → drop start (put_mid (start + behind) size (put_mid start size row (take size text)) (drop behind text)) ≡ text ++ drop (start + length text) row
both_written row text start size behind least whole most room =
    let before : length (take start row) ≡ start = length-take-le start row (omega (arith, room)) in
    let first : length (take size text) ≡ size = length-take-le size text least in
    let one : List ℕ = put_mid start size row (take size text) in
    let rest : List ℕ = take size text ++ post_of start size row in
    let opened : drop start one ≡ rest = drop_at (take start row) rest start before in
    let long : length one ≡ length row = length-copied row (take size text) start size first (omega (arith, room, least)) in
    let kept : length (take (start + behind) one) ≡ start + behind = length-take-le (start + behind) one (omega (arith, long, room, whole)) in
    let head : drop start (take (start + behind) one) ≡ take behind text =
    drop-take start behind one ∙ ap (λ s. take behind s) opened ∙ take-append-le behind (take size text) (post_of start size row) (omega (arith, first, most))
    ∙ take-take behind size text most in
    let tail : post_of (start + behind) size one ≡ drop (start + length text) row =
    let end : start + behind + size ≡ start + length text = omega (arith, whole) in
    drop-drop size (start + behind) one
    ∙ drop-put_mid start size row (take size text) (start + behind + size) (omega arith) (omega (arith, room)) first
    ∙ ap (λ n. drop n row) end in
    drop-append-le start (take (start + behind) one) (drop behind text ++ post_of (start + behind) size one) (omega (arith, kept))
    ∙ ap (λ s. s ++ (drop behind text ++ post_of (start + behind) size one)) head
    ∙ sym (append_assoc (take behind text) (drop behind text) (post_of (start + behind) size one))
    ∙ ap (λ s. s ++ post_of (start + behind) size one) (take-append-drop behind text)
    ∙ ap (λ s. text ++ s) tail

-- before the end of what was copied
pub copied_to : (row text : List ℕ) (start size count : ℕ) → length text ≡ size → start ≤ length row → count ≤ size
    → take (start + count) (put_mid start size row text) ≡ take start row ++ take count text
copied_to row text start size count whole room within =
    let before : length (take start row) ≡ start = length-take-le start row room in
    let after : List ℕ = post_of start size row in
    ap (λ n. take (n + count) (take start row ++ (text ++ after))) (sym before)
    ∙ take-append-add (take start row) (text ++ after) count
    ∙ ap (λ s. take start row ++ s) (take-append-le count text after (omega (arith, whole, within)))
