-- The rest of a tail follows the executed entries if its first entry is after the last of them.
use Rattle.std.proofs.Common.{◌≡◌, ℕ, zero, suc, ◌+◌, ◌<◌, ◌≤◌, List, [], ◌∷◌, ◌++◌, length, drop, get_or, refl, sym, ◌∙◌, ap, arith, Bool, true, false, length-append}
use Rattle.std.specs.Prelude.{◌-◌, ◌&&◌, nat_lt, nat_le, Option, Some, None, slice_get, if◌then◌else◌, min}
use Rattle.std.specs.List.{last_or}
use Rattle.std.specs.Borrow.{Bor}
use Rattle.std.specs.Option.{option_map_or, option_copied, is_some, IfSome}
use Rattle.std.proofs.lemmas.Bool.{false≢true}
use Rattle.std.proofs.lemmas.Bool.Decides.{nat_tests}
use Rattle.std.proofs.lemmas.Option.{none-some, same_Some, slice_get_within, slice_get-get_or, slice_get_past}
use Rattle.crsm_base.specs.Order.{entry_lt}
use Rattle.crsm_spec.specs.Types.{Entry, Decision}
use Rattle.crsm_spec.specs.Choice.{when◌then◌otherwise◌}
use Rattle.crsm_spec.specs.Lists.{last_of}
use Rattle.crsm_spec.specs.Fits.{goes_on}
use Rattle.crsm_replica_reconfigure.specs.Rules.{tail_goes_on, rest_goes_on, first_left}
use Rattle.crsm_replica_reconfigure.proofs.DraftLemmas.{when_yes, when_no}

last_at : {A : Type 0} (o : Option A) (x : A) (xs : List A) → last_or o (x ∷ xs) ≡ slice_get (x ∷ xs) (length xs)
last_at o x [] = refl
last_at o x (y ∷ ys) = last_at (Some x) y ys

one_less : {A : Type 0} (x : A) (xs : List A) → length (x ∷ xs) - 1 ≡ length xs
one_less x xs = omega arith

pub last_got : {A : Type 0} (xs : List A) → last_of xs ≡ slice_get xs (length xs - 1)
unfolding last_of
last_got [] = refl
last_got (x ∷ xs) = last_at None x xs ∙ ap (slice_get (x ∷ xs)) (sym (one_less x xs))

last_behind : {A : Type 0} (o : Option A) (xs : List A) (y : A) (ys : List A) → last_or o (xs ++ y ∷ ys) ≡ last_or None (y ∷ ys)
last_behind o [] y ys = refl
last_behind o (x ∷ xs) y ys = last_behind (Some x) xs y ys

pub last_with : {A : Type 0} (xs ys : List A) → (ys ≡ [] → ⊥) → last_of (xs ++ ys) ≡ slice_get ys (length ys - 1)
unfolding last_of
last_with xs [] h = absurd (h refl)
last_with xs (y ∷ ys) h = last_behind None xs y ys ∙ last_got (y ∷ ys)

get_none : {A : Type 0} (xs : List A) (i : ℕ) → slice_get xs i ≡ None → length xs ≤ i
get_none [] i h = omega arith
get_none (x ∷ xs) zero h = absurd (none-some x (sym h))
get_none (x ∷ xs) (suc i) h = let r = get_none xs i h in omega (arith, r)

get_drop : {A : Type 0} (xs : List A) (i : ℕ) (x : A) → slice_get xs i ≡ Some x → drop i xs ≡ x ∷ drop (suc i) xs
get_drop [] i x h = absurd (none-some x h)
get_drop (y ∷ ys) zero x h = ap (λ z. z ∷ ys) (same_Some y x h)
get_drop (y ∷ ys) (suc i) x h = get_drop ys i x h

goes_as : (done : List Entry) (e : Entry) (es : List Entry) → goes_on done (e ∷ es) ≡ option_map_or (λ f. entry_lt f e) (last_of done) true
unfolding goes_on
goes_as done e es = refl

-- where nothing is left
pub none_left : (d : Decision) (es : List Entry) (done : ℕ) → done ≡ length es → None ≡ first_left d done → true ≡ tail_goes_on d es
unfolding tail_goes_on first_left
none_left d es done l h = go (nat_lt done d.base_len) refl h
  where
    none : (nat_le d.base_len (length es) && nat_lt (length es) (d.base_len + length d.tail)) ≡ false →
        true ≡ (when nat_le d.base_len (length es) && nat_lt (length es) (d.base_len + length d.tail) then goes_on es (drop (length es - d.base_len) d.tail) otherwise true)
    none f = sym (when_no _ (goes_on es (drop (length es - d.base_len) d.tail)) true f)

    go : (t : Bool) → nat_lt done d.base_len ≡ t → None ≡ (if t then None else slice_get d.tail (done - d.base_len)) →
        true ≡ (when nat_le d.base_len (length es) && nat_lt (length es) (d.base_len + length d.tail) then goes_on es (drop (length es - d.base_len) d.tail) otherwise true)
    go true t h = none (few t)
      where
        few : nat_lt done d.base_len ≡ true → (nat_le d.base_len (length es) && nat_lt (length es) (d.base_len + length d.tail)) ≡ false
        few t = grind (arith, nat_tests)
    go false t h = none (past t (get_none d.tail (done - d.base_len) (sym h)))
      where
        past : nat_lt done d.base_len ≡ false → length d.tail ≤ done - d.base_len → (nat_le d.base_len (length es) && nat_lt (length es) (d.base_len + length d.tail)) ≡ false
        past t p = grind (arith, nat_tests)

-- where something is left
pub some_left : (d : Decision) (es : List Entry) (done : ℕ) (e : Entry) (b : Bool) → done ≡ length es → Some e ≡ first_left d done →
    b ≡ option_map_or (λ f. entry_lt f e) (last_of es) true → b ≡ tail_goes_on d es
unfolding tail_goes_on first_left
some_left d es done e b l h is = go (nat_lt done d.base_len) refl h
  where
    found : Some e ≡ slice_get d.tail (done - d.base_len) → nat_lt done d.base_len ≡ false →
        b ≡ (when nat_le d.base_len (length es) && nat_lt (length es) (d.base_len + length d.tail) then goes_on es (drop (length es - d.base_len) d.tail) otherwise true)
    found g t =
        let w = slice_get_within d.tail (done - d.base_len) e (sym g) in
        let c : (nat_le d.base_len (length es) && nat_lt (length es) (d.base_len + length d.tail)) ≡ true = grind (arith, nat_tests) in
        is ∙ sym (goes_as es e (drop (suc (done - d.base_len)) d.tail)) ∙ ap (goes_on es) (sym (get_drop d.tail (done - d.base_len) e (sym g)))
        ∙ ap (λ i. goes_on es (drop (i - d.base_len) d.tail)) l ∙ sym (when_yes _ (goes_on es (drop (length es - d.base_len) d.tail)) true c)

    go : (t : Bool) → nat_lt done d.base_len ≡ t → Some e ≡ (if t then None else slice_get d.tail (done - d.base_len)) →
        b ≡ (when nat_le d.base_len (length es) && nat_lt (length es) (d.base_len + length d.tail) then goes_on es (drop (length es - d.base_len) d.tail) otherwise true)
    go true t h = absurd (none-some e (sym h))
    go false t h = found h t

-- ---- of a known decision

pub no_rest : (o : Option Decision) (done : List Entry) → o ≡ None → true ≡ rest_goes_on o done
unfolding rest_goes_on
no_rest o done h = ap (λ p. option_map_or (λ d. tail_goes_on d done) p true) (sym h)

pub rest_as : (o : Option Decision) (done : List Entry) (d : Decision) (b : Bool) → o ≡ Some d → b ≡ tail_goes_on d done → b ≡ rest_goes_on o done
unfolding rest_goes_on
rest_as o done d b h is = is ∙ ap (λ p. option_map_or (λ d. tail_goes_on d done) p true) (sym h)

-- ---- the last of a list, as code finds it

pub found_none : (es : List Entry) (e : Entry) → slice_get es (length es - 1) ≡ None → true ≡ option_map_or (λ f. entry_lt f e) (slice_get es (length es - 1)) true
found_none es e h = ap (λ o. option_map_or (λ f. entry_lt f e) o true) (sym h)

pub found_some : (es : List Entry) (e last : Entry) (b : Bool) → slice_get es (length es - 1) ≡ Some last → b ≡ entry_lt last e → b ≡ option_map_or (λ f. entry_lt f e) (slice_get es (length es - 1)) true
found_some es e last b h is = is ∙ ap (λ o. option_map_or (λ f. entry_lt f e) o true) (sym h)

pub found_at : (es : List Entry) (i : ℕ) (last : Entry) → i ≡ length es - 1 → i < length es → last ≡ get_or es i last → slice_get es (length es - 1) ≡ Some last
found_at es i last e l is = ap (slice_get es) (sym e) ∙ slice_get-get_or es i last l ∙ ap (λ z. Some z) (sym is)

pub past_end : (es : List Entry) (i : ℕ) → i ≡ length es - 1 → false ≡ nat_lt i (length es) → slice_get es (length es - 1) ≡ None
past_end es i e h = ap (slice_get es) (sym e) ∙ slice_get_past es i (grind (arith, nat_tests))

pub found_within : (es : List Entry) (i : ℕ) (last : Entry) → i ≡ length es - 1 → true ≡ nat_lt i (length es) → last ≡ get_or es i last → slice_get es (length es - 1) ≡ Some last
found_within es i last e l is = found_at es i last e (grind (arith, nat_tests)) is

pub rest_behind : (o : Option Decision) (done es slice : List Entry) (d : Decision) (count : ℕ) (e : Entry) (b : Bool) → (es ≡ [] → ⊥) → o ≡ Some d → slice ≡ es → count ≡ length done + length slice → Some e ≡ first_left d count →
    b ≡ option_map_or (λ f. entry_lt f e) (slice_get slice (length slice - 1)) true → b ≡ rest_goes_on o (done ++ es)
rest_behind o done es slice d count e b some h sl c l is =
    rest_as o (done ++ es) d b h (some_left d (done ++ es) count e b (c ∙ ap (λ zs. length done + length zs) sl ∙ sym (length-append done es)) l
    (is ∙ ap (λ zs. option_map_or (λ f. entry_lt f e) (slice_get zs (length zs - 1)) true) sl ∙ ap (λ p. option_map_or (λ f. entry_lt f e) p true) (sym (last_with done es some))))

pub rest_nothing : (o : Option Decision) (done es slice : List Entry) (d : Decision) (count : ℕ) → o ≡ Some d → slice ≡ es → count ≡ length done + length slice → None ≡ first_left d count → true ≡ rest_goes_on o (done ++ es)
rest_nothing o done es slice d count h sl c l =
    rest_as o (done ++ es) d true h (none_left d (done ++ es) count (c ∙ ap (λ zs. length done + length zs) sl ∙ sym (length-append done es)) l)

-- ---- the first entry that is left, as code finds it

pub left_before : (d : Decision) (n : ℕ) → n < d.base_len → None ≡ first_left d n
unfolding first_left
left_before d n below = go (nat_lt n d.base_len) (grind (arith, nat_tests))
  where
    go : (t : Bool) → t ≡ true → None ≡ (if t then None else slice_get d.tail (n - d.base_len))
    go true h = refl
    go false h = absurd (false≢true h)

left_after : (d : Decision) (n i : ℕ) → d.base_len ≤ n → i ≡ n - d.base_len → slice_get d.tail i ≡ first_left d n
unfolding first_left
left_after d n i above is = ap (slice_get d.tail) is ∙ go (nat_lt n d.base_len) (grind (arith, nat_tests))
  where
    go : (t : Bool) → t ≡ false → slice_get d.tail (n - d.base_len) ≡ (if t then None else slice_get d.tail (n - d.base_len))
    go false h = refl
    go true h = absurd (false≢true (sym h))

found_copied : (o : Option (Bor Entry)) (xs : List Entry) (i : ℕ) → is_some o ≡ nat_lt i (length xs) → IfSome o (λ x. x.now ≡ get_or xs i x.now) → option_copied o ≡ slice_get xs i
found_copied None xs i says at = sym (slice_get_past xs i (grind (arith, nat_tests)))
found_copied (Some x) xs i says at = ap (λ z. Some z) at ∙ sym (slice_get-get_or xs i x.now (grind (arith, nat_tests)))

pub left_at : (d : Decision) (o : Option (Bor Entry)) (xs : List Entry) (n i : ℕ) → xs ≡ d.tail → d.base_len ≤ n → i ≡ n - d.base_len →
    is_some o ≡ nat_lt i (length xs) → IfSome o (λ x. x.now ≡ get_or xs i x.now) → option_copied o ≡ first_left d n
left_at d o xs n i tail above is says at = found_copied o xs i says at ∙ ap (λ ts. slice_get ts i) tail ∙ left_after d n i above is

left_behind : (d : Decision) (done more start : ℕ) → d.base_len ≤ done → start ≡ min (done - d.base_len) (length d.tail) → slice_get d.tail (start + more) ≡ first_left d (done + more)
left_behind d done more start above is = go (nat_lt (length d.tail) (done - d.base_len)) refl
  where
    go : (t : Bool) → nat_lt (length d.tail) (done - d.base_len) ≡ t → slice_get d.tail (start + more) ≡ first_left d (done + more)
    go true e =
        let far : length d.tail < done - d.base_len = grind (arith, nat_tests) in
        slice_get_past d.tail (start + more) (omega (arith, far, is)) ∙ sym (slice_get_past d.tail ((done + more) - d.base_len) (omega (arith, far, above)))
        ∙ left_after d (done + more) ((done + more) - d.base_len) (omega (arith, above)) refl
    go false e =
        let near : done - d.base_len ≤ length d.tail = grind (arith, nat_tests) in
        left_after d (done + more) (start + more) (omega (arith, above)) (omega (arith, near, above, is))

pub left_from : (d : Decision) (o : Option (Bor Entry)) (xs : List Entry) (done more start : ℕ) → xs ≡ d.tail → d.base_len ≤ done → start ≡ min (done - d.base_len) (length xs) →
    is_some o ≡ nat_lt (start + more) (length xs) → IfSome o (λ x. x.now ≡ get_or xs (start + more) x.now) → option_copied o ≡ first_left d (done + more)
left_from d o xs done more start tail above is says at =
    found_copied o xs (start + more) says at ∙ ap (λ ts. slice_get ts (start + more)) tail ∙ left_behind d done more start above (is ∙ ap (λ ts. min (done - d.base_len) (length ts)) tail)
