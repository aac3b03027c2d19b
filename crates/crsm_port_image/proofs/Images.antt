-- The images that a crash may leave of a disk in memory, and the moments at which it may.
use Rattle.std.proofs.Common.{◌≡◌, ◌⊎◌, inl, inr, ℕ, ◌<◌, Bool, true, false, nat_lt, zero, suc, ◌+◌, ◌-◌, ◌≤◌, min, List, [], ◌∷◌, ◌++◌, length, take, drop, replicate, refl, sym, ◌∙◌, ap, arith, append_assoc, length-append, length-take, length-drop}
use Rattle.std.specs.Prelude.{Some, None}
use Rattle.std.proofs.lemmas.Bool.Decides.{nat_tests}
use Rattle.std.proofs.lemmas.List.{length-replicate, take_at, drop_at}
use Rattle.crsm_port_image.specs.Bytes.{overwritten, Torn, Shortened}
use Rattle.crsm_port_image.specs.Calls.{Call, wrote, cut, synced, History, contents}
use Rattle.crsm_port_image.specs.Image.{IsImage, IsLeftSince}

take_min : (n : ℕ) (l : List ℕ) → take (min n (length l)) l ≡ take n l
take_min zero l = let e : min 0 (length l) ≡ 0 = omega arith in ap (λ (k : ℕ). take k l) e
take_min (suc n) [] = let e : min (suc n) 0 ≡ 0 = omega arith in ap (λ (k : ℕ). take k []) e
take_min (suc n) (x ∷ l) = let e : min (suc n) (suc (length l)) ≡ suc (min n (length l)) = omega arith in rw e (ap (λ (t : List ℕ). x ∷ t) (take_min n l))

-- a whole write is a torn one
pub torn_done : (at : ℕ) (bytes l : List ℕ) → Torn at (length bytes) l (overwritten l at bytes)
torn_done at bytes l =
    let end = drop (at + length bytes) l in
    let prefix = take at l ++ replicate (at - length l) 0 ++ bytes in
    let lt = length-take at l in
    let lr = length-replicate {A = ℕ} (at - length l) 0 in
    let l1 = length-append (take at l) (replicate (at - length l) 0) in
    let l2 = length-append (take at l ++ replicate (at - length l) 0) bytes in
    let l3 = length-append (take at l ++ replicate (at - length l) 0 ++ bytes) (drop (at + length bytes) l) in
    let ld = length-drop (at + length bytes) l in
    record {
      before = ap (λ (k : List ℕ). take (min at (length l)) k) (append_assoc (take at l ++ replicate (at - length l) 0) bytes (drop (at + length bytes) l) ∙ append_assoc (take at l) (replicate (at - length l) 0) (bytes ++ drop (at + length bytes) l))
          ∙ take_at (take at l) (replicate (at - length l) 0 ++ (bytes ++ drop (at + length bytes) l)) (min at (length l)) lt;
      after = drop_at (take at l ++ replicate (at - length l) 0 ++ bytes) (drop (at + length bytes) l) (at + length bytes) (omega (arith, lt, lr, l1, l2));
      no_shorter = omega (arith, lt, lr, l1, l2, l3, ld);
      no_longer = omega (arith, lt, lr, l1, l2, l3, ld);
    }

pub shortened_done : (n : ℕ) (l : List ℕ) → Shortened n l (take n l)
shortened_done n l = record {
  no_shorter = omega (arith, length-take n l);
  prefix = ap (λ (k : ℕ). take k l) (length-take n l) ∙ take_min n l;
}

-- a disk as it reads is one of its images
pub reads_image : (first : List ℕ) (calls : List Call) → IsImage first calls (contents first calls)
reads_image first [] = refl
reads_image first (wrote at bytes ∷ calls) = (contents first calls, reads_image first calls, torn_done at bytes (contents first calls))
reads_image first (cut n ∷ calls) = (contents first calls, reads_image first calls, shortened_done n (contents first calls))
reads_image first (synced ∷ calls) = refl

pub counts_now_lem : (first : List ℕ) (calls : List Call) (t : ℕ) (c : List ℕ) → t ≤ length calls → IsImage first calls c → IsLeftSince first calls t c
counts_now_lem first [] t c le now = now
counts_now_lem first (call ∷ calls) t c le now = inl now

pub only_now_lem : (first : List ℕ) (calls : List Call) (c : List ℕ) → IsLeftSince first calls (length calls) c → IsImage first calls c
only_now_lem first [] c left = left
only_now_lem first (call ∷ calls) c (inl now) = now
only_now_lem first (call ∷ calls) c (inr was) = absurd (let le = was.0 in omega (arith, le))

-- a write that changed nothing is a torn one
pub torn_same : (at n : ℕ) (l : List ℕ) → Torn at n l l
torn_same at n l = record { before = take_min at l; after = refl; no_shorter = omega arith; no_longer = omega arith }

-- what is told makes what is read
pub told_makes : (first : List ℕ) (calls : List Call) (h : History) → Some (record { first = first; calls = calls }) ≡ Some h → contents h.first h.calls ≡ contents first calls
told_makes first calls h is = let e : record { first = first; calls = calls } ≡ h = cc in ap (λ (g : History). contents g.first g.calls) (sym e)

-- nothing is told, so what is told is right
pub not_told : (h : History) → None ≡ Some h → contents h.first h.calls ≡ []
not_told h is = absurd (cc)

pub below_or : (a b : ℕ) → (a < b) ⊎ (b ≤ a)
below_or a b = go (nat_lt a b) refl
  where
    go : (t : Bool) → nat_lt a b ≡ t → (a < b) ⊎ (b ≤ a)
    go true is = inl (grind (arith, nat_tests))
    go false is = inr (grind (arith, nat_tests))
