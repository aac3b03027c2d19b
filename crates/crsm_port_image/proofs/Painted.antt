-- The image of a disk in memory is one of those that a crash may leave.
use Rattle.std.proofs.Common.{◌≡◌, inl, inr, ℕ, ◌+◌, ◌-◌, ◌<◌, ◌≤◌, min, List, [], ◌∷◌, ◌++◌, length, get_or, take, drop, replicate, refl, sym, ◌∙◌, ap, arith, length-append, length-take, length-drop}
use Rattle.std.proofs.lemmas.List.{length-replicate, ext_get_or, get_or-take, get_or-drop, get_or-replicate, get_or_append_left, get_or-append-add}
use Rattle.crsm_port_image.specs.Bytes.{Torn, Shortened, overwritten}
use Rattle.crsm_port_image.specs.Calls.{Call, wrote, cut, synced, contents}
use Rattle.crsm_port_image.specs.Image.{IsImage, painted, ranged, image_of}
use Rattle.crsm_port_image.proofs.Images.{torn_done, shortened_done}
use Rattle.crsm_port_image.proofs.Images.{below_or}

module _ (a n fill : ℕ) (l : List ℕ) where
  abbrev from : ℕ
  from = min a (length l)

  abbrev to : ℕ
  to = min a (length l) + min n (length l - min a (length l))

  abbrev prefix : List ℕ
  prefix = take (min a (length l)) l

  abbrev middle : List ℕ
  middle = replicate (min a (length l) + min n (length l - min a (length l)) - min a (length l)) fill

  abbrev back : List ℕ
  back = drop (min a (length l) + min n (length l - min a (length l))) l

  prefix_long : length prefix ≡ min a (length l)
  prefix_long = omega (arith, length-take (min a (length l)) l)

  middle_long : length middle ≡ min n (length l - min a (length l))
  middle_long = omega (arith, length-replicate {A = ℕ} (min a (length l) + min n (length l - min a (length l)) - min a (length l)) fill)

  both_long : length (prefix ++ middle) ≡ min a (length l) + min n (length l - min a (length l))
  both_long = omega (arith, length-append prefix middle, prefix_long, middle_long)

  pub length_ranged : length (ranged a n fill l) ≡ length l
  length_ranged = omega (arith, length-append (prefix ++ middle) back, both_long, length-drop (min a (length l) + min n (length l - min a (length l))) l)

  module _ (i : ℕ) (lt : i < length l) where
    pub ranged_before : i < a → get_or (ranged a n fill l) i 0 ≡ get_or l i 0
    ranged_before before =
        get_or_append_left (prefix ++ middle) back 0 i (omega (arith, both_long, lt, before))
        ∙ get_or_append_left prefix middle 0 i (omega (arith, prefix_long, lt, before))
        ∙ get_or-take (min a (length l)) l i 0 (omega (arith, lt, before))

    pub ranged_in : a ≤ i → i < a + n → get_or (ranged a n fill l) i 0 ≡ fill
    ranged_in le below =
        let at : length prefix + (i - a) ≡ i = omega (arith, prefix_long, lt, le) in
        get_or_append_left (prefix ++ middle) back 0 i (omega (arith, both_long, lt, le, below))
        ∙ ap (λ (k : ℕ). get_or (prefix ++ middle) k 0) (sym at) ∙ get_or-append-add prefix middle (i - a) 0
        ∙ get_or-replicate (min a (length l) + min n (length l - min a (length l)) - min a (length l)) (i - a) fill 0 (omega (arith, lt, le, below))

    pub ranged_after : a + n ≤ i → get_or (ranged a n fill l) i 0 ≡ get_or l i 0
    ranged_after past =
        let at : length (prefix ++ middle) + (i - (a + n)) ≡ i = omega (arith, both_long, lt, past) in
        let there : min a (length l) + min n (length l - min a (length l)) + (i - (a + n)) ≡ i = omega (arith, lt, past) in
        ap (λ (k : ℕ). get_or ((prefix ++ middle) ++ back) k 0) (sym at) ∙ get_or-append-add (prefix ++ middle) back (i - (a + n)) 0
        ∙ get_or-drop (min a (length l) + min n (length l - min a (length l))) l (i - (a + n)) 0 ∙ ap (λ (k : ℕ). get_or l k 0) there

pub length_painted : (calls : List Call) (fill : ℕ) (l : List ℕ) → length (painted calls fill l) ≡ length l
length_painted [] fill l = refl
length_painted (wrote a piece ∷ calls) fill l = length_ranged a (length piece) fill (painted calls fill l) ∙ length_painted calls fill l
length_painted (cut n ∷ calls) fill l = length_painted calls fill l
length_painted (synced ∷ calls) fill l = refl

-- where two lists agree, so do they when painted
pub same_painted : (calls : List Call) (fill : ℕ) (l m : List ℕ) (i : ℕ) → i < length l → i < length m → get_or l i 0 ≡ get_or m i 0 → get_or (painted calls fill l) i 0 ≡ get_or (painted calls fill m) i 0
same_painted [] fill l m i li mi e = e
same_painted (cut n ∷ calls) fill l m i li mi e = same_painted calls fill l m i li mi e
same_painted (synced ∷ calls) fill l m i li mi e = e
same_painted (wrote a piece ∷ calls) fill l m i li mi e =
    go (omega (arith, li, length_painted calls fill l)) (omega (arith, mi, length_painted calls fill m)) (same_painted calls fill l m i li mi e)
  where
    go : i < length (painted calls fill l) → i < length (painted calls fill m) → get_or (painted calls fill l) i 0 ≡ get_or (painted calls fill m) i 0
        → get_or (ranged a (length piece) fill (painted calls fill l)) i 0 ≡ get_or (ranged a (length piece) fill (painted calls fill m)) i 0
    go lp mp same = elim (below_or i a) [
      | inl before ↦ ranged_before a (length piece) fill (painted calls fill l) i lp before ∙ same ∙ sym (ranged_before a (length piece) fill (painted calls fill m) i mp before)
      | inr le ↦ elim (below_or i (a + length piece)) [
        | inl below ↦ ranged_in a (length piece) fill (painted calls fill l) i lp le below ∙ sym (ranged_in a (length piece) fill (painted calls fill m) i mp le below)
        | inr past ↦ ranged_after a (length piece) fill (painted calls fill l) i lp past ∙ same ∙ sym (ranged_after a (length piece) fill (painted calls fill m) i mp past)
      ]
    ]

-- a torn write of what is painted
torn_painted : (calls : List Call) (fill at n : ℕ) (x y : List ℕ) → Torn at n x y → Torn at n (painted calls fill x) (ranged at n fill (painted calls fill y))
torn_painted calls fill at n x y t =
    let px = painted calls fill x in
    let py = painted calls fill y in
    let lx = length_painted calls fill x in
    let ly = length_painted calls fill y in
    let li = length_ranged at n fill (painted calls fill y) in
    record {
      before = ext_get_or 0 (take (min at (length (painted calls fill x))) (ranged at n fill (painted calls fill y))) (take at (painted calls fill x))
          (omega (arith, length-take (min at (length (painted calls fill x))) (ranged at n fill (painted calls fill y)), length-take at (painted calls fill x), lx, ly, li, t.no_shorter))
          (λ i lt.
          let low : i < min at (length x) = omega (arith, lt, length-take (min at (length (painted calls fill x))) (ranged at n fill (painted calls fill y)), lx) in
          let agree : get_or y i 0 ≡ get_or x i 0 =
          sym (get_or-take (min at (length x)) y i 0 low) ∙ ap (λ (l : List ℕ). get_or l i 0) t.before ∙ get_or-take at x i 0 (omega (arith, low)) in
          get_or-take (min at (length (painted calls fill x))) (ranged at n fill (painted calls fill y)) i 0 (omega (arith, low, lx))
          ∙ ranged_before at n fill (painted calls fill y) i (omega (arith, low, ly, t.no_shorter)) (omega (arith, low))
          ∙ same_painted calls fill y x i (omega (arith, low, t.no_shorter)) (omega (arith, low)) agree
          ∙ sym (get_or-take at (painted calls fill x) i 0 (omega (arith, low))));
      after = ext_get_or 0 (drop (at + n) (ranged at n fill (painted calls fill y))) (drop (at + n) (painted calls fill x))
          (omega (arith, length-drop (at + n) (ranged at n fill (painted calls fill y)), length-drop (at + n) (painted calls fill x), lx, ly, li, t.no_shorter, t.no_longer))
          (λ i lt.
          let high : at + n + i < length y = omega (arith, lt, length-drop (at + n) (ranged at n fill (painted calls fill y)), ly, li) in
          let high_x : at + n + i < length x = omega (arith, high, t.no_longer) in
          let agree : get_or y (at + n + i) 0 ≡ get_or x (at + n + i) 0 =
          sym (get_or-drop (at + n) y i 0) ∙ ap (λ (l : List ℕ). get_or l i 0) t.after ∙ get_or-drop (at + n) x i 0 in
          get_or-drop (at + n) (ranged at n fill (painted calls fill y)) i 0
          ∙ ranged_after at n fill (painted calls fill y) (at + n + i) (omega (arith, high, ly)) (omega arith)
          ∙ same_painted calls fill y x (at + n + i) high high_x agree
          ∙ sym (get_or-drop (at + n) (painted calls fill x) i 0));
      no_shorter = omega (arith, lx, ly, li, t.no_shorter);
      no_longer = omega (arith, lx, ly, li, t.no_longer);
    }

shortened_painted : (calls : List Call) (fill n : ℕ) (x y : List ℕ) → Shortened n x y → length y ≤ length x → Shortened n (painted calls fill x) (painted calls fill y)
shortened_painted calls fill n x y s le =
    let lx = length_painted calls fill x in
    let ly = length_painted calls fill y in
    record {
      no_shorter = omega (arith, lx, ly, s.no_shorter);
      prefix = ext_get_or 0 (take (length (painted calls fill y)) (painted calls fill x)) (painted calls fill y)
          (omega (arith, length-take (length (painted calls fill y)) (painted calls fill x), lx, ly, le))
          (λ i lt.
          let low : i < length y = omega (arith, lt, length-take (length (painted calls fill y)) (painted calls fill x), ly) in
          let agree : get_or x i 0 ≡ get_or y i 0 = sym (get_or-take (length y) x i 0 low) ∙ ap (λ (l : List ℕ). get_or l i 0) s.prefix in
          get_or-take (length (painted calls fill y)) (painted calls fill x) i 0 (omega (arith, low, ly)) ∙ same_painted calls fill x y i (omega (arith, low, le)) low agree);
    }

pub image_is : (first : List ℕ) (calls : List Call) (fill : ℕ) → IsImage first calls (image_of first calls fill)
image_is first [] fill = refl
image_is first (wrote at bytes ∷ calls) fill =
    (painted calls fill (contents first calls), image_is first calls fill, torn_painted calls fill at (length bytes) (contents first calls) (overwritten (contents first calls) at bytes) (torn_done at bytes (contents first calls)))
image_is first (cut n ∷ calls) fill =
    (painted calls fill (contents first calls), image_is first calls fill, shortened_painted calls fill n (contents first calls) (take n (contents first calls)) (shortened_done n (contents first calls)) (omega (arith, length-take n (contents first calls))))
image_is first (synced ∷ calls) fill = refl
