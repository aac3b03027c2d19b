-- A list after a prefix that is passed over, changed at an index.
use Rattle.std.proofs.Common.{◌≡◌, ℕ, ◌+◌, ◌<◌, ◌≤◌, refl, ◌∙◌, ap, arith, List, [], ◌∷◌, length, take, drop, zero, suc, zero-add, subst, true, false, length-drop, get_or}
use Rattle.std.specs.Prelude.{insert, remove}
use Rattle.std.specs.List.{AllByRecursion}
use Rattle.crsm_base.specs.declared.Stamp.{Stamp}
use Rattle.crsm_base.specs.Order.{stamp_lt, stamp_eq}
use Rattle.crsm_spec.specs.Frames.{with_stamp}
use Rattle.crsm_phase.specs.Owed.{without}
use Rattle.crsm_phase.proofs.Ordered.{with_at, without_at}
use Rattle.crsm_commit.specs.Places.{IsPlace, IsFirst}

pub drop_insert : (n place : ℕ) (xs : List Stamp) (x : Stamp) → n + place ≤ length xs → drop n (insert xs (n + place) x) ≡ insert (drop n xs) place x
drop_insert zero place xs x within = rw zero-add refl
drop_insert (suc n) place [] x within = absurd (omega arith)
drop_insert (suc n) place (y ∷ xs) x within =
    let e : suc n + place ≡ suc (n + place) = omega arith in rw e (drop_insert n place xs x (omega arith))

pub drop_remove : (n place : ℕ) (xs : List Stamp) → n + place < length xs → drop n (remove xs (n + place)) ≡ remove (drop n xs) place
drop_remove zero place xs within = rw zero-add refl
drop_remove (suc n) place [] within = absurd (omega arith)
drop_remove (suc n) place (y ∷ xs) within =
    let e : suc n + place ≡ suc (n + place) = omega arith in rw e (drop_remove n place xs (omega arith))

pub place_within : (prefix place : ℕ) (items slice : List Stamp) → slice ≡ drop prefix items → prefix ≤ length items → place ≤ length slice → prefix + place ≤ length items
place_within prefix place items slice e within h = omega (arith, ap length e, length-drop prefix items)

pub place_below : (prefix place : ℕ) (items slice : List Stamp) → slice ≡ drop prefix items → prefix ≤ length items → place < length slice → prefix + place < length items
place_below prefix place items slice e within h = omega (arith, ap length e, length-drop prefix items)

-- a stamp is put in its place
pub prefix_added : (prefix place : ℕ) (items new slice : List Stamp) (stamp : Stamp) → prefix ≤ length items → slice ≡ drop prefix items →
    IsPlace stamp slice place → new ≡ insert items (prefix + place) stamp → drop prefix new ≡ with_stamp stamp (drop prefix items)
prefix_added prefix place items new slice stamp within e is put =
    ap (drop prefix) put ∙ drop_insert prefix place items stamp (place_within prefix place items slice e within is.within)
    ∙ with_at stamp (drop prefix items) place
    (subst (λ ss. AllByRecursion (λ t. stamp_lt stamp t ≡ false) (take place ss)) e is.before)
    (subst (λ ss. AllByRecursion (λ t. stamp_lt stamp t ≡ true) (drop place ss)) e is.behind)

-- the first equal stamp is dropped
pub prefix_removed : (prefix place : ℕ) (items new slice : List Stamp) (stamp : Stamp) → prefix ≤ length items → slice ≡ drop prefix items →
    IsFirst stamp slice place → new ≡ remove items (prefix + place) → drop prefix new ≡ without stamp (drop prefix items)
prefix_removed prefix place items new slice stamp within e is cut =
    ap (drop prefix) cut ∙ drop_remove prefix place items (place_below prefix place items slice e within is.within)
    ∙ without_at stamp (drop prefix items) place stamp
    (subst (λ ss. AllByRecursion (λ t. stamp_eq t stamp ≡ false) (take place ss)) e is.before)
    (subst (λ ss. place < length ss) e is.within)
    (subst (λ ss. stamp_eq (get_or ss place stamp) stamp ≡ true) e is.here)
