-- Numbered payloads from a place on.
use Rattle.std.proofs.Common.{◌≡◌, ℕ, ◌+◌, ◌<◌, ◌≤◌, ◌-◌, refl, sym, ◌∙◌, ap, arith, List, [], ◌∷◌, ◌++◌, length, drop, take, zero, suc, add-zero, zero-add, min, max, get_or}
use Rattle.std.specs.List.{enumerate_from}
use Rattle.std.proofs.lemmas.List.FromFn.{length-enumerate_from, get_or-enumerate_from}
use Rattle.std.proofs.lemmas.List.{take_more, take_min, drop-append-le, drop-drop}
use Rattle.crsm_base.specs.declared.InEpoch.{InEpoch}
use Rattle.crsm_link.specs.Sent.{OutStands, unacked}
use Rattle.crsm_link.specs.declared.outbound.Out.{Out}

drop_numbered : (k n : ℕ) (xs : List InEpoch) → drop k (enumerate_from n xs) ≡ enumerate_from (n + k) (drop k xs)
drop_numbered zero n xs = rw add-zero refl
drop_numbered (suc k) n [] = refl
drop_numbered (suc k) n (x ∷ xs) =
    let e : n + 1 + k ≡ n + suc k = omega arith in
    drop_numbered k (n + 1) xs ∙ ap (λ m. enumerate_from m (drop k xs)) e

-- what is kept, with its numbers, is what is not acknowledged
pub numbered : (out : Out) (pushed : List InEpoch) (acked : ℕ) → OutStands out pushed acked →
    enumerate_from out.first out.frames.items ≡ unacked pushed acked
numbered out pushed acked s =
    ap (λ n. enumerate_from n out.frames.items) s.first ∙ ap (enumerate_from acked) s.frames ∙ sym (rw zero-add at (drop_numbered acked 0 pushed))

pub length_kept : (out : Out) (pushed : List InEpoch) (acked : ℕ) → OutStands out pushed acked →
    length out.frames.items ≡ length (unacked pushed acked)
length_kept out pushed acked s =
    sym (length-enumerate_from out.first out.frames.items) ∙ ap length (numbered out pushed acked s)

-- one more payload is pushed
pub pushed_more : (acked : ℕ) (pushed : List InEpoch) (payload : InEpoch) → acked ≤ length pushed →
    drop acked pushed ++ payload ∷ [] ≡ drop acked (pushed ++ payload ∷ [])
pushed_more acked pushed payload within = sym (drop-append-le acked pushed (payload ∷ []) within)

-- the frames below the greater number are dropped
pub acked_more : (next acked : ℕ) (pushed : List InEpoch) → drop (next - acked) (drop acked pushed) ≡ drop (max next acked) pushed
acked_more next acked pushed =
    let e : acked + (next - acked) ≡ max next acked = omega arith in
    drop-drop (next - acked) acked pushed ∙ ap (λ n. drop n pushed) e

-- one more frame is copied, with its number
pub one_more_numbered : (first index : ℕ) (xs : List InEpoch) (x copy : InEpoch) (due after : List (ℕ × InEpoch)) →
    due ≡ take index (enumerate_from first xs) → index < length xs → x ≡ get_or xs index x → copy ≡ x →
    after ≡ due ++ (first + index, copy) ∷ [] → after ≡ take (index + 1) (enumerate_from first xs)
one_more_numbered first index xs x copy due after so_far within e same pushed =
    pushed ∙ ap (λ ys. ys ++ (first + index, copy) ∷ []) so_far
    ∙ ap (λ y. take index (enumerate_from first xs) ++ (first + index, y) ∷ []) (same ∙ e)
    ∙ ap (λ f. take index (enumerate_from first xs) ++ f ∷ []) (sym (get_or-enumerate_from first xs index (0, x) within))
    ∙ sym (take_more (enumerate_from first xs) index (0, x) (omega (arith, length-enumerate_from first xs)))

-- the first 64, however many there are
pub first_of_numbered : (first : ℕ) (xs : List InEpoch) → take (min (length xs) 64) (enumerate_from first xs) ≡ take 64 (enumerate_from first xs)
first_of_numbered first xs =
    let e : min (length xs) 64 ≡ min 64 (length (enumerate_from first xs)) = omega (arith, length-enumerate_from first xs) in
    ap (λ n. take n (enumerate_from first xs)) e ∙ take_min 64 (enumerate_from first xs)
