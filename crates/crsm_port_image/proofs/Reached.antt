-- Each torn image is reached step by step.
use Rattle.std.proofs.Common.{◌≡◌, ◌⊎◌, inl, inr, ℕ, zero, suc, ◌+◌, ◌-◌, ◌<◌, ◌≤◌, min, max, List, [], ◌∷◌, ◌++◌, length, get_or, take, drop, replicate, refl, sym, ◌∙◌, ap, arith, length-append, length-take, length-drop, Bool, true, false, nat_lt, if◌then◌else◌}
use Rattle.std.proofs.lemmas.Bool.Decides.{nat_tests}
use Rattle.std.proofs.lemmas.List.{length-replicate, ext_get_or, get_or-take, get_or-drop, get_or_append_left, get_or-append-add, take_at}
use Rattle.std.proofs.Math.Seq.{take-length}
use Rattle.crsm_port_image.specs.Bytes.{overwritten, Torn, Shortened}
use Rattle.crsm_port_image.specs.Calls.{Call, wrote, cut, synced, contents}
use Rattle.crsm_port_image.specs.Image.{IsImage}
use Rattle.crsm_port_image.proofs.Images.{below_or}
use Rattle.crsm_port_image.specs.Torn.{IsTorn, held, is_written}

length-overwritten : (l : List ℕ) (at : ℕ) (bytes : List ℕ) → length (overwritten l at bytes) ≡ max (length l) (at + length bytes)
length-overwritten l at bytes =
    omega (
      arith,
      length-append (take at l ++ replicate (at - length l) 0 ++ bytes) (drop (at + length bytes) l),
      length-append (take at l ++ replicate (at - length l) 0) bytes,
      length-append (take at l) (replicate (at - length l) 0),
      length-take at l,
      length-replicate {A = ℕ} (at - length l) 0,
      length-drop (at + length bytes) l,
    )

-- the byte that was held here, where no write came since
abbrev pick : List ℕ → List Call → ℕ → ℕ → ℕ
pick old calls i x = if is_written calls i then x else (if nat_lt i (length old) then get_or old i 0 else x)

pick_old : (old : List ℕ) (calls : List Call) (i x : ℕ) → i < length old → is_written calls i ≡ false → pick old calls i x ≡ get_or old i 0
pick_old old calls i x lt is = grind (arith, nat_tests)

pick_same : (old : List ℕ) (calls : List Call) (i x : ℕ) → (i < length old → is_written calls i ≡ false → x ≡ get_or old i 0) → pick old calls i x ≡ x
pick_same old calls i x agree = go (is_written calls i) refl
  where
    inside : is_written calls i ≡ false → pick old calls i x ≡ x
    inside is = elim (below_or i (length old)) [
      | inl lt ↦ pick_old old calls i x lt is ∙ sym (agree lt is)
      | inr le ↦ grind (arith, nat_tests)
    ]

    go : (t : Bool) → is_written calls i ≡ t → pick old calls i x ≡ x
    go true is = grind (arith, nat_tests)
    go false is = inside is

abbrev mix : List ℕ → List Call → ℕ → List ℕ → List ℕ
mix old calls i [] = []
mix old calls i (x ∷ l) = pick old calls i x ∷ mix old calls (suc i) l

length-mix : (old : List ℕ) (calls : List Call) (i : ℕ) (l : List ℕ) → length (mix old calls i l) ≡ length l
length-mix old calls i [] = refl
length-mix old calls i (x ∷ l) = ap suc (length-mix old calls (suc i) l)

get_or-mix : (old : List ℕ) (calls : List Call) (i : ℕ) (l : List ℕ) (j : ℕ) → j < length l → get_or (mix old calls i l) j 0 ≡ pick old calls (i + j) (get_or l j 0)
get_or-mix old calls i [] j lt = absurd (omega (arith, lt))
get_or-mix old calls i (x ∷ l) zero lt = let e : i + 0 ≡ i = omega arith in ap (λ (k : ℕ). pick old calls k x) (sym e)
get_or-mix old calls i (x ∷ l) (suc j) lt =
    let e : suc i + j ≡ i + suc j = omega arith in get_or-mix old calls (suc i) l j (omega (arith, lt)) ∙ ap (λ (k : ℕ). pick old calls k (get_or l j 0)) e

unwritten : (at : ℕ) (bytes : List ℕ) (calls : List Call) (i : ℕ) → (i < at) ⊎ (at + length bytes ≤ i) → is_written calls i ≡ false → is_written (wrote at bytes ∷ calls) i ≡ false
unwritten at bytes calls i (inl lt) is = grind (arith, nat_tests)
unwritten at bytes calls i (inr le) is = grind (arith, nat_tests)

-- before the newest write
module _ (first : List ℕ) (at : ℕ) (bytes : List ℕ) (calls : List Call) (image : List ℕ) (t : IsTorn first (wrote at bytes ∷ calls) image) where
  abbrev old : List ℕ
  old = held first calls

  abbrev reach : ℕ
  reach = max (length (held first calls)) (length (contents first calls))

  abbrev before : List ℕ
  before = mix (held first calls) calls 0 (take (max (length (held first calls)) (length (contents first calls))) image)

  long : length before ≡ min (max (length (held first calls)) (length (contents first calls))) (length image)
  long = length-mix old calls 0 (take reach image) ∙ length-take reach image

  size : length (overwritten (contents first calls) at bytes) ≡ max (length (contents first calls)) (at + length bytes)
  size = length-overwritten (contents first calls) at bytes

  at_place : (i : ℕ) → i < length before → get_or before i 0 ≡ pick (held first calls) calls i (get_or image i 0)
  at_place i lt =
      let low : i < reach = omega (arith, lt, long) in
      let in_front : i < length (take reach image) = omega (arith, lt, long, length-take reach image) in
      let none : 0 + i ≡ i = omega arith in
      get_or-mix old calls 0 (take reach image) i in_front ∙ ap (λ (k : ℕ). pick old calls k (get_or (take reach image) i 0)) none
      ∙ ap (pick old calls i) (get_or-take reach image i 0 low)

  write_before : IsTorn first calls before
  write_before = record {
    agrees = λ i lt inside is. at_place i lt ∙ pick_old old calls i (get_or image i 0) inside is;
    no_shorter = omega (arith, long, size, t.no_shorter);
    no_longer = omega (arith, long);
  }

  stays : (i : ℕ) → i < length before → (i < at) ⊎ (at + length bytes ≤ i) → get_or before i 0 ≡ get_or image i 0
  stays i lt outside =
      at_place i lt
      ∙ pick_same old calls i (get_or image i 0) (λ inside is. t.agrees i (omega (arith, lt, long)) inside (unwritten at bytes calls i outside is))

  write_step : Torn at (length bytes) before image
  write_step = record {
    before = ext_get_or 0 (take (min at (length before)) image) (take at before)
        (omega (arith, long, length-take (min at (length before)) image, length-take at before))
        (λ i lt.
        let low : i < min at (length before) = omega (arith, lt, length-take (min at (length before)) image) in
        get_or-take (min at (length before)) image i 0 low ∙ sym (stays i (omega (arith, low)) (inl (omega (arith, low)))) ∙ sym (get_or-take at before i 0 (omega (arith, low))));
    after = ext_get_or 0 (drop (at + length bytes) image) (drop (at + length bytes) before)
        (omega (arith, long, size, t.no_longer, length-drop (at + length bytes) image, length-drop (at + length bytes) before))
        (λ i lt.
        let high : at + length bytes + i < length before = omega (arith, lt, long, size, t.no_longer, length-drop (at + length bytes) image) in
        get_or-drop (at + length bytes) image i 0 ∙ sym (stays (at + length bytes + i) high (inr (omega arith))) ∙ sym (get_or-drop (at + length bytes) before i 0));
    no_shorter = omega (arith, long);
    no_longer = omega (arith, long, size, t.no_longer);
  }

-- before the newest cut
module _ (first : List ℕ) (n : ℕ) (calls : List Call) (image : List ℕ) (t : IsTorn first (cut n ∷ calls) image) where
  abbrev was : List ℕ
  was = held first calls

  abbrev least : ℕ
  least = min (length (held first calls)) (length (contents first calls))

  cut_size : length (take n (contents first calls)) ≡ min n (length (contents first calls))
  cut_size = length-take n (contents first calls)

  abbrev rest : List ℕ
  rest = drop (length image) (take (min (length (held first calls)) (length (contents first calls))) (held first calls))

  abbrev longer : List ℕ
  longer = image ++ rest

  cut_same : min (length (held first calls)) (length (contents first calls)) ≤ length image → IsTorn first calls image
  cut_same le = record { agrees = t.agrees; no_shorter = le; no_longer = omega (arith, cut_size, t.no_longer) }

  same_step : Shortened n image image
  same_step = record { no_shorter = omega arith; prefix = take-length image }

  module _ (lt : length image < min (length (held first calls)) (length (contents first calls))) where
    cut_long : length longer ≡ min (length (held first calls)) (length (contents first calls))
    cut_long = omega (arith, lt, length-append image rest, length-drop (length image) (take least was), length-take least was)

    agree : (i : ℕ) → i < length longer → i < length (held first calls) → is_written calls i ≡ false → get_or longer i 0 ≡ get_or (held first calls) i 0
    agree i below inside is = elim (below_or i (length image)) [
      | inl prefix ↦ get_or_append_left image rest 0 i prefix ∙ t.agrees i prefix inside is
      | inr back ↦
          let at : length image + (i - length image) ≡ i = omega (arith, back) in
          ap (λ (k : ℕ). get_or longer k 0) (sym at) ∙ get_or-append-add image rest (i - length image) 0
          ∙ get_or-drop (length image) (take least was) (i - length image) 0 ∙ ap (λ (k : ℕ). get_or (take least was) k 0) at
          ∙ get_or-take least was i 0 (omega (arith, below, cut_long))
    ]

    cut_longer : IsTorn first calls longer
    cut_longer = record { agrees = agree; no_shorter = omega (arith, cut_long); no_longer = omega (arith, cut_long) }

    longer_step : Shortened n longer image
    longer_step = record { no_shorter = omega (arith, cut_long, lt, cut_size, t.no_shorter); prefix = take_at image rest (length image) refl }

same_bytes : (l image : List ℕ) → ((i : ℕ) → i < length image → i < length l → get_or image i 0 ≡ get_or l i 0) → length image ≡ length l → image ≡ l
same_bytes l image agree long = ext_get_or 0 image l long (λ i lt. agree i lt (omega (arith, lt, long)))

pub reached : (first : List ℕ) (calls : List Call) (image : List ℕ) → IsTorn first calls image → IsImage first calls image
reached first [] image t = same_bytes first image (λ i lt inside. t.agrees i lt inside refl) (omega (arith, t.no_shorter, t.no_longer))
reached first (wrote at bytes ∷ calls) image t =
    (before first at bytes calls image t, reached first calls (before first at bytes calls image t) (write_before first at bytes calls image t), write_step first at bytes calls image t)
reached first (cut n ∷ calls) image t = elim (below_or (length image) (min (length (held first calls)) (length (contents first calls)))) [
  | inl lt ↦ (longer first n calls image t, reached first calls (longer first n calls image t) (cut_longer first n calls image t lt), longer_step first n calls image t lt)
  | inr le ↦ (image, reached first calls image (cut_same first n calls image t le), same_step first n calls image t)
]
reached first (synced ∷ calls) image t = same_bytes (contents first calls) image (λ i lt inside. t.agrees i lt inside refl) (omega (arith, t.no_shorter, t.no_longer))
