-- The state of the peers stands for the parts taken, part by part.
use Rattle.std.proofs.Common.{◌≡◌, ℕ, Bool, true, false, cond, not, ◌&&◌, ◌||◌, ◌==◌, nat_lt, List, [], ◌∷◌, ◌++◌, map, filter, arith, inl, inr, refl, sym, subst, ap, ◌∙◌, Option, Some, None}
use Rattle.std.specs.List.{Contains, list_any, list_all}
use Rattle.std.proofs.lemmas.Bool.Decides.{nat_tests}
use Rattle.std.proofs.lemmas.List.Elements.{Contains-push_cases, Contains-append_left}
use Rattle.crsm_spec.specs.Lists.{numbers_below}
use Rattle.crsm_spec.specs.Parts.{Piece, is_older, is_same_message, kept_of, has_index, is_complete, is_old, is_odd, with_part}
use Rattle.crsm_segment.specs.Gathering.{Gathering}
use Rattle.crsm_segment.specs.Taking.{is_sized, after_part}
use Rattle.crsm_segment.specs.Gather.{is_of, is_newer, bytes_at, AreOnce, EachOnce, IsNewest, PeerStands}
use Rattle.crsm_segment.proofs.Facts.{both_false, any_true, any_false, filter_push, filter_push_other, once_push}

-- ---- tests

pub not_false : (x : Bool) → not x ≡ false → x ≡ true
not_false true e = refl
not_false false e = cc

pub and_false : (x y : Bool) → x ≡ true → (x && y) ≡ false → y ≡ false
and_false true y e f = f
and_false false y e f = cc

-- ---- one part: old, invalid, or taken

pub unchanged_old : (p : Piece) (parts : List Piece) → is_old p parts ≡ true → after_part p parts ≡ parts
unfolding after_part with_part
unchanged_old p parts e = go (is_sized p) (is_old p parts) e
  where
    go : (s b : Bool) → b ≡ true → cond s (cond ((b || is_odd p parts) || has_index (kept_of p parts) p.index) parts (parts ++ p ∷ [])) parts ≡ parts
    go true true e = refl
    go true false e = cc
    go false b e = refl

pub unchanged_odd : (p : Piece) (parts : List Piece) → is_odd p parts ≡ true → after_part p parts ≡ parts
unfolding after_part with_part
unchanged_odd p parts e = go (is_sized p) (is_old p parts) (is_odd p parts) e
  where
    go : (s a b : Bool) → b ≡ true → cond s (cond ((a || b) || has_index (kept_of p parts) p.index) parts (parts ++ p ∷ [])) parts ≡ parts
    go true true b e = refl
    go true false true e = refl
    go true false false e = cc
    go false a b e = refl

pub unchanged_size : (p : Piece) (parts : List Piece) → is_sized p ≡ false → after_part p parts ≡ parts
unfolding after_part
unchanged_size p parts e = ap (λ b. cond b (with_part p parts) parts) e

pub with_is : (p : Piece) (parts : List Piece) → is_old p parts ≡ false → is_odd p parts ≡ false →
    with_part p parts ≡ cond (has_index (kept_of p parts) p.index) parts (parts ++ p ∷ [])
unfolding with_part
with_is p parts old odd = ap (λ b. cond (b || has_index (kept_of p parts) p.index) parts (parts ++ p ∷ [])) (both_false (is_old p parts) (is_odd p parts) old odd)

pub changed : (p : Piece) (parts : List Piece) → is_sized p ≡ true → is_old p parts ≡ false → is_odd p parts ≡ false →
    after_part p parts ≡ cond (has_index (kept_of p parts) p.index) parts (parts ++ p ∷ [])
unfolding after_part
changed p parts sized old odd = ap (λ b. cond b (with_part p parts) parts) sized ∙ with_is p parts old odd

-- a part is added to those taken only where its message has no part of its index
pub after_cases : (P : List Piece → Type 0) (p : Piece) (parts : List Piece) → P parts → (has_index (kept_of p parts) p.index ≡ false → P (parts ++ p ∷ [])) → P (after_part p parts)
unfolding after_part with_part
after_cases P p parts same more = go (is_sized p) (is_old p parts || is_odd p parts) (has_index (kept_of p parts) p.index) refl
  where
    go : (s b h : Bool) → has_index (kept_of p parts) p.index ≡ h → P (cond s (cond (b || h) parts (parts ++ p ∷ [])) parts)
    go true true h e = same
    go true false true e = same
    go true false false e = more e
    go false b h e = same

-- ---- each index once

same_kept : (a b : Piece) (parts : List Piece) → is_same_message a b ≡ true → kept_of a parts ≡ kept_of b parts
unfolding is_same_message kept_of
same_kept a b parts e =
    let from : a.from ≡ b.from = grind (arith, nat_tests) in
    let boot : a.boot ≡ b.boot = grind (arith, nat_tests) in
    let number : a.number ≡ b.number = grind (arith, nat_tests) in
    λ i. filter (is_of (from i) (boot i) (number i)) parts

pub once_after : (p : Piece) (parts : List Piece) → EachOnce parts → EachOnce (after_part p parts)
unfolding kept_of
once_after p parts once = after_cases EachOnce p parts once (λ none a. go a none (is_same_message a p) refl)
  where
    go : (a : Piece) → has_index (kept_of p parts) p.index ≡ false → (b : Bool) → is_same_message a p ≡ b → AreOnce (kept_of a (parts ++ p ∷ []))
    go a none true same =
        subst AreOnce (sym (filter_push (is_same_message a) parts p same))
        (once_push (kept_of a parts) p (once a) (subst (λ k. has_index k p.index ≡ false) (sym (same_kept a p parts same)) none))
    go a none false other = subst AreOnce (sym (filter_push_other (is_same_message a) parts p other)) (once a)

-- ---- other peers

other_peer : (from : ℕ) (p : Piece) → (from == p.from) ≡ false → (peer : Option Gathering) (parts : List Piece) → PeerStands from peer parts → PeerStands from peer (parts ++ p ∷ [])
other_peer from p other None parts s =
    λ q c. elim (Contains-push_cases parts p q c) [ inl old ↦ s q old | inr new ↦ subst (λ z. (from == z.from) ≡ false) new other ]
other_peer from p other (Some g) parts s =
    let not_of : is_of from g.boot g.number p ≡ false = ap (λ b. b && (g.boot == p.boot && g.number == p.number)) other in
    let kept : filter (is_of from g.boot g.number) (parts ++ p ∷ []) ≡ filter (is_of from g.boot g.number) parts = filter_push_other (is_of from g.boot g.number) parts p not_of in
    record {
      none_newer = λ q c. elim (Contains-push_cases parts p q c) [
        | inl old ↦ s.none_newer q old
        | inr new ↦ subst (λ z. is_newer from g.boot g.number z ≡ false) new
            (ap (λ b. b && (nat_lt g.boot p.boot || (g.boot == p.boot && nat_lt g.number p.number))) other)
      ];
      some = (s.some.0, Contains-append_left parts (p ∷ []) s.some.0 s.some.1, s.some.2);
      counts = λ q c of. elim (Contains-push_cases parts p q c) [
        | inl old ↦ s.counts q old of
        | inr new ↦ absurd (clash (is_of from g.boot g.number q) of (subst (λ z. is_of from g.boot g.number z ≡ false) new not_of))
      ];
      given = ap (λ k. list_all (has_index k) (numbers_below g.count)) kept ∙ s.given;
      slots = λ e. s.slots e ∙ ap (λ k. map (bytes_at k) (numbers_below g.count)) (sym kept);
    }
  where
    clash : (b : Bool) → b ≡ true → b ≡ false → ⊥
    clash b h k = cc

pub other_after : (from : ℕ) (p : Piece) → (from == p.from) ≡ false → (peer : Option Gathering) (parts : List Piece) → PeerStands from peer parts → PeerStands from peer (after_part p parts)
other_after from p other peer parts s = after_cases (PeerStands from peer) p parts s (λ _. other_peer from p other peer parts s)

-- ---- which parts are old

pub of_key : (from boot number : ℕ) (q : Piece) → is_of from boot number q ≡ true → (from ≡ q.from) × (boot ≡ q.boot) × (number ≡ q.number)
of_key from boot number q e = (grind (arith, nat_tests), grind (arith, nat_tests), grind (arith, nat_tests))

-- of the newest message itself
pub old_itself : (from : ℕ) (g : Gathering) (parts : List Piece) → IsNewest from g parts → (i count : ℕ) (bytes : List ℕ) →
    is_old (record { from = from; boot = g.boot; number = g.number; index = i; count = count; bytes = bytes }) parts ≡ g.given
unfolding is_old is_older is_same_message is_complete kept_of
old_itself from g parts s i count bytes = go g.given refl
  where
    given_at : (q : Piece) → Contains parts q → is_of from g.boot g.number q ≡ true →
        list_all (has_index (filter (is_of from g.boot g.number) parts)) (numbers_below q.count) ≡ g.given
    given_at q c of = ap (λ n. list_all (has_index (filter (is_of from g.boot g.number) parts)) (numbers_below n)) (s.counts q c of) ∙ s.given

    test : Piece → Bool
    test q =
        is_newer from g.boot g.number q
        || (is_of from g.boot g.number q && list_all (has_index (filter (is_of from g.boot g.number) parts)) (numbers_below q.count))

    right : (a b : Bool) → b ≡ true → (a || b) ≡ true
    right true b e = refl
    right false b e = e

    go : (b : Bool) → g.given ≡ b → list_any test parts ≡ g.given
    go true given =
        let (q, c, of) = s.some in
        any_true test parts q c
        (right (is_newer from g.boot g.number q) _
        (ap (λ b. b && list_all (has_index (filter (is_of from g.boot g.number) parts)) (numbers_below q.count)) of ∙ given_at q c of ∙ given))
        ∙ sym given
    go false given = any_false test parts (λ q c. both_false _ _ (s.none_newer q c) (each q c (is_of from g.boot g.number q) refl)) ∙ sym given
      where
        each : (q : Piece) → Contains parts q → (b : Bool) → is_of from g.boot g.number q ≡ b →
            (b && list_all (has_index (filter (is_of from g.boot g.number) parts)) (numbers_below q.count)) ≡ false
        each q c true of = given_at q c of ∙ given
        each q c false of = refl
