-- The first of the messages of multicasts.
use Rattle.std.proofs.Common.{◌≡◌, ℕ, zero, suc, ◌+◌, ◌-◌, ◌<◌, List, [], ◌∷◌, ◌++◌, length, map, get_or, set, take, drop, refl, ap, sym, ◌∙◌, append_assoc, arith}
use Rattle.std.specs.List.{flat_map}
use Rattle.std.proofs.lemmas.List.{append-nil, drop-set-lt, drop_more, length-append, length-map, take-map, take_more_set}
use Rattle.std.proofs.lemmas.List.Concat.{flat_map-append}
use Rattle.crsm_mpspec.specs.declared.send.MpSend.{MpSend}
use Rattle.crsm_mpspec.specs.declared.multicast.MpReceivers.{MpReceivers}
use Rattle.crsm_mpspec.specs.declared.multicast.MpMulticast.{MpMulticast}
use Rattle.crsm_mpspec.specs.Sends.{receivers, sends_of, sends_to}

take-parts : {A : Type 0} (n : ℕ) (xs ys : List A) → take n (xs ++ ys) ≡ take n xs ++ take (n - length xs) ys
take-parts zero xs ys = let none : 0 - length xs ≡ 0 = omega arith in ap (λ (k : ℕ). take k ys) (sym none)
take-parts (suc n) [] ys = let all : suc n - 0 ≡ suc n = omega arith in ap (λ (k : ℕ). take k ys) (sym all)
take-parts {A} (suc n) (x ∷ xs) ys =
    let less : suc n - suc (length xs) ≡ n - length xs = omega arith in
    ap (λ (zs : List A). x ∷ zs) (take-parts n xs ys) ∙ ap (λ (k : ℕ). x ∷ (take n xs ++ take k ys)) (sym less)

module _ {X A : Type 0} (f : X → List A) (xs : List X) (i left : ℕ) (x y : X) (within : i < length xs) (is : x ≡ get_or xs i x) where
  from_next : drop i xs ≡ x ∷ drop (i + 1) xs
  from_next = drop_more xs i x within ∙ ap (λ (z : X). z ∷ drop (i + 1) xs) (sym is)

  after_set : drop (i + 1) (set xs i y) ≡ drop (i + 1) xs
  after_set = drop-set-lt (i + 1) xs i y (omega arith)

  -- where the next list is cut to the elements that are left to keep, those of all lists stay
  pub kept-next : f y ≡ take left (f x) → flat_map f (take (i + 1) (set xs i y)) ++ take (left - length (f x)) (flat_map f (drop (i + 1) (set xs i y)))
      ≡ flat_map f (take i xs) ++ take left (flat_map f (drop i xs))
  kept-next cut =
      rw (take_more_set xs i y within, after_set, from_next, flat_map-append f (take i xs) (y ∷ []), take-parts left (f x) (flat_map f (drop (i + 1) xs)), cut)
      (simp (append-nil, append_assoc))

  -- and as many are missing
  pub missing-next : (left - length (f x)) - length (flat_map f (drop (i + 1) (set xs i y))) ≡ left - length (flat_map f (drop i xs))
  missing-next = rw (after_set, from_next) (omega (arith, length-append (f x) (flat_map f (drop (i + 1) xs))))

-- a multicast to the first of its receivers
pub cut-sends : (m : MpMulticast) (first : MpReceivers) (n : ℕ) → receivers first ≡ take n (receivers m.receivers)
    → sends_of (record m { receivers = first }) ≡ take n (sends_of m)
cut-sends m first n is = ap (map to_send) is ∙ sym (take-map to_send n (receivers m.receivers))
  where
    to_send : ℕ → MpSend
    to_send k = record { to = k; message = m.message }

pub length-sends : (m : MpMulticast) → length (sends_of m) ≡ length (receivers m.receivers)
length-sends m = length-map (receivers m.receivers) _

pub no-sends : (m : MpMulticast) → length (receivers m.receivers) ≡ 0 → sends_of m ≡ []
no-sends m none = to_none (receivers m.receivers) none
  where
    to_none : (ks : List ℕ) → length ks ≡ 0 → sends_to m.message ks ≡ []
    to_none [] none = refl
    to_none (k ∷ ks) none = absurd (omega (arith, none))
