-- The outcome of a part of a valid length.
use Rattle.std.proofs.Common.{◌≡◌, ℕ, ◌<◌, ◌≤◌, Bool, true, false, cond, not, ◌&&◌, ◌||◌, List, ◌∙◌, length, nat_lt, nat_le, arith, refl, ap, Some, None}
use Rattle.std.proofs.lemmas.Bool.Decides.{nat_tests}
use Rattle.crsm_base.specs.Limits.{most_parts}
use Rattle.crsm_base.specs.Messages.{part_least, part_most}
use Rattle.crsm_spec.specs.Parts.{Piece, kept_of, is_complete, is_old, is_odd, joined, with_part, whole_with}
use Rattle.crsm_segment.specs.Taking.{is_sized, after_part, taken_whole, taken_of, whole_of}
use Rattle.crsm_segment.specs.declared.message.PartOutcome.TheVariants.{Old, Odd}

pub parts_after : (p : Piece) (parts : List Piece) → is_sized p ≡ true → after_part p parts ≡ with_part p parts
unfolding after_part
parts_after p parts sized = ap (λ b. cond b (with_part p parts) parts) sized

pub whole_after : (p : Piece) (parts : List Piece) → is_sized p ≡ true → whole_of (taken_of p parts) ≡ whole_with p parts
unfolding taken_of taken_whole whole_of whole_with
whole_after p parts sized =
    ap (λ f. whole_of (cond (is_old p parts) Old (cond (is_odd p parts || not f) Odd (taken_whole (whole_with p parts))))) sized
    ∙ go (is_old p parts) (is_odd p parts) (is_complete p (kept_of p (with_part p parts)))
  where
    message : List ℕ
    message = joined p.count (kept_of p (with_part p parts))

    go : (a b c : Bool) →
        whole_of (cond a Old (cond (b || false) Odd (taken_whole (cond ((a || b) || not c) None (Some message))))) ≡ cond ((a || b) || not c) None (Some message)
    go true b c = refl
    go false true c = refl
    go false false true = refl
    go false false false = refl

pub sized_as_spelt : (p : Piece) → p.index < p.count → p.count ≤ most_parts → part_least p.index p.count ≤ length p.bytes → length p.bytes ≤ part_most p.index p.count → is_sized p ≡ true
unfolding is_sized
sized_as_spelt p index count least most = all (nat_lt p.index p.count) (nat_le p.count most_parts) (nat_le (part_least p.index p.count) (length p.bytes)) (nat_le (length p.bytes) (part_most p.index p.count))
    (lt p.index p.count index) (le p.count most_parts count) (le (part_least p.index p.count) (length p.bytes) least) (le (length p.bytes) (part_most p.index p.count) most)
  where
    lt : (m n : ℕ) → m < n → nat_lt m n ≡ true
    lt m n h = grind (arith, nat_tests)

    le : (m n : ℕ) → m ≤ n → nat_le m n ≡ true
    le m n h = grind (arith, nat_tests)

    all : (a b c d : Bool) → a ≡ true → b ≡ true → c ≡ true → d ≡ true → ((a && b) && (c && d)) ≡ true
    all a b c d h k l m = cc
