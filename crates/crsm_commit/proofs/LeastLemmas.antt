-- The least of first stamps, one more queue, and where all queues were seen.
use Rattle.std.proofs.Common.{◌≡◌, ℕ, ◌+◌, ◌<◌, Bool, true, false, cond, refl, sym, ◌∙◌, ap, subst, arith, List, [], ◌∷◌, get_or, ◌⊎◌, inl, inr, min, map, Option, Some, None, IfSome}
use Rattle.std.specs.Prelude.{filter}
use Rattle.std.specs.Option.{option_map}
use Rattle.std.specs.List.{AllByRecursion}
use Rattle.std.proofs.lemmas.Bool.Decides.{nat_tests}
use Rattle.crsm_base.specs.declared.Stamp.{Stamp}
use Rattle.crsm_base.specs.declared.Entry.{Entry}
use Rattle.crsm_base.specs.Order.{stamp_lt}
use Rattle.crsm_spec.specs.Lists.{first_of}
use Rattle.crsm_phase.specs.Owed.{IsAscending}
use Rattle.crsm_commit.specs.Waiting.{stamp_of, is_in}
use Rattle.crsm_commit.specs.Least.{lesser_of, NotBelow, first_at, IsFirstOfOne, IsLeastFirst}
use Rattle.crsm_commit.proofs.Filed.{bool_cases}

not_below_lesser : (u s t : Stamp) → stamp_lt u s ≡ false → stamp_lt t s ≡ true → stamp_lt u t ≡ false
unfolding stamp_lt
not_below_lesser u s t h k = grind (arith, nat_tests)

pub not_below_itself : (s : Stamp) → stamp_lt s s ≡ false
unfolding stamp_lt
not_below_itself s = grind (arith, nat_tests)

times_same : (s t : Stamp) → stamp_lt s t ≡ false → stamp_lt t s ≡ false → s.time ≡ t.time
unfolding stamp_lt
times_same s t h k = grind (arith, nat_tests)

origins_same : (s t : Stamp) → stamp_lt s t ≡ false → stamp_lt t s ≡ false → s.origin ≡ t.origin
unfolding stamp_lt
origins_same s t h k = grind (arith, nat_tests)

pub same_parts : (a b : Stamp) → a.time ≡ b.time → a.origin ≡ b.origin → a ≡ b
same_parts a b e f = ap (λ (t : ℕ). record a { time = t }) e ∙ ap (λ (o : ℕ). record b { origin = o }) f

same_order : (s t : Stamp) → stamp_lt s t ≡ false → stamp_lt t s ≡ false → s ≡ t
same_order s t h k = same_parts s t (times_same s t h k) (origins_same s t h k)

-- ---- the lesser of two

still_not_below : (r f g : Option Stamp) → NotBelow r g → NotBelow (lesser_of r f) g
still_not_below r f None h = tt
still_not_below None f (Some u) h = absurd h
still_not_below (Some s) None (Some u) h = h
still_not_below (Some s) (Some t) (Some u) h =
    elim (bool_cases (stamp_lt t s)) [ inl e ↦ rw e (not_below_lesser u s t h e) | inr e ↦ rw e h ]

not_below_new : (r f : Option Stamp) → NotBelow (lesser_of r f) f
not_below_new r None = tt
not_below_new None (Some t) = not_below_itself t
not_below_new (Some s) (Some t) =
    elim (bool_cases (stamp_lt t s)) [ inl e ↦ rw e (not_below_itself t) | inr e ↦ rw e e ]

one_of_two : (P : Stamp → Type 0) (r f : Option Stamp) → IfSome r P → IfSome f P → IfSome (lesser_of r f) P
one_of_two P None f h k = k
one_of_two P (Some s) None h k = h
one_of_two P (Some s) (Some t) h k =
    elim (bool_cases (stamp_lt t s)) [ inl e ↦ rw e k | inr e ↦ rw e h ]

still_found : (queues : List (List Stamp)) (n : ℕ) (r : Option Stamp) → IfSome r (IsFirstOfOne queues n) → IfSome r (IsFirstOfOne queues (n + 1))
still_found queues n None h = tt
still_found queues n (Some s) h = record { place = h.place; within = omega arith; here = h.here }

new_found : (queues : List (List Stamp)) (n : ℕ) (f : Option Stamp) → first_at queues n ≡ f → IfSome f (IsFirstOfOne queues (n + 1))
new_found queues n None e = tt
new_found queues n (Some s) e = record { place = n; within = omega arith; here = e }

last_or_before : (i n : ℕ) → i < n + 1 → (i < n) ⊎ (i ≡ n)
last_or_before i n h = grind arith

pub no_queue : (queues : List (List Stamp)) → IsLeastFirst None queues 0
no_queue queues = record { found = tt; least = λ i within. absurd (omega arith) }

-- one more queue
pub queue_more : (queues : List (List Stamp)) (n : ℕ) (r f : Option Stamp) → IsLeastFirst r queues n → first_at queues n ≡ f →
    IsLeastFirst (lesser_of r f) queues (n + 1)
queue_more queues n r f so_far e = record {
  found = one_of_two (IsFirstOfOne queues (n + 1)) r f (still_found queues n r so_far.found) (new_found queues n f e);
  least = λ i within. elim (last_or_before i n within) [
    | inl before ↦ still_not_below r f (first_at queues i) (so_far.least i before)
    | inr last ↦ subst (λ (g : Option Stamp). NotBelow (lesser_of r f) g) (sym (ap (first_at queues) last ∙ e)) (not_below_new r f)
  ];
}

-- ---- all queues

passes_first : (P : Stamp → Type 0) (p : Entry → Bool) (es : List Entry) (s : Stamp) → AllByRecursion (λ e. P e.stamp) es →
    option_map stamp_of (first_of (filter p es)) ≡ Some s → P s
unfolding first_of
passes_first P p [] s all e = absurd (cc)
passes_first P p (f ∷ es) s all e = go (p f) e (passes_first P p es s all.1)
  where
    go : (b : Bool) → option_map stamp_of (first_of (cond b (f ∷ filter p es) (filter p es))) ≡ Some s →
        (option_map stamp_of (first_of (filter p es)) ≡ Some s → P s) → P s
    go true k i = (let same : f.stamp ≡ s = cc in subst P same all.0)
    go false k i = i k

unmapped : (P : Stamp → Type 0) (es : List Entry) → AllByRecursion P (map stamp_of es) → AllByRecursion (λ e. P e.stamp) es
unmapped P [] all = tt
unmapped P (e ∷ es) all = (all.0, unmapped P es all.1)

own_queue : (e : Entry) → is_in (min e.stamp.origin 15) e ≡ true
own_queue e = grind (arith, nat_tests)

in_range : (e : Entry) → min e.stamp.origin 15 < 16
in_range e = omega arith

first_stamp : (es : List Entry) → first_of (map stamp_of es) ≡ option_map stamp_of (first_of es)
unfolding first_of
first_stamp [] = refl
first_stamp (e ∷ es) = refl

first_is : (queues : List (List Stamp)) (waiting : List Entry) → ((i : ℕ) → i < 16 → get_or queues i [] ≡ map stamp_of (filter (is_in i) waiting)) →
    (i : ℕ) → i < 16 → first_at queues i ≡ option_map stamp_of (first_of (filter (is_in i) waiting))
first_is queues waiting filed i within = ap first_of (filed i within) ∙ first_stamp (filter (is_in i) waiting)

own_first : (queues : List (List Stamp)) (e : Entry) (es : List Entry) → ((i : ℕ) → i < 16 → get_or queues i [] ≡ map stamp_of (filter (is_in i) (e ∷ es))) →
    first_at queues (min e.stamp.origin 15) ≡ Some e.stamp
unfolding first_of
own_first queues e es filed =
    first_is queues (e ∷ es) filed (min e.stamp.origin 15) (in_range e)
    ∙ ap (λ b. option_map stamp_of (first_of (cond b (e ∷ filter (is_in (min e.stamp.origin 15)) es) (filter (is_in (min e.stamp.origin 15)) es)))) (own_queue e)

pub least_is_first : (queues : List (List Stamp)) (waiting : List Entry) (r : Option Stamp) → IsAscending (map stamp_of waiting) →
    ((i : ℕ) → i < 16 → get_or queues i [] ≡ map stamp_of (filter (is_in i) waiting)) → IsLeastFirst r queues 16 → r ≡ option_map stamp_of (first_of waiting)
unfolding first_of
least_is_first queues [] None up filed least = refl
least_is_first queues [] (Some s) up filed least =
    let none = first_is queues [] filed least.found.place least.found.within in absurd (cc (sym none ∙ least.found.here))
least_is_first queues (e ∷ es) None up filed least =
    absurd (subst (NotBelow None) (own_first queues e es filed) (least.least (min e.stamp.origin 15) (in_range e)))
least_is_first queues (e ∷ es) (Some s) up filed least =
    let not_above : stamp_lt e.stamp s ≡ false = subst (NotBelow (Some s)) (own_first queues e es filed) (least.least (min e.stamp.origin 15) (in_range e)) in
    let not_under : stamp_lt s e.stamp ≡ false =
    passes_first (λ t. stamp_lt t e.stamp ≡ false) (is_in least.found.place) (e ∷ es) s
    (not_below_itself e.stamp, unmapped (λ t. stamp_lt t e.stamp ≡ false) es up.0)
    (sym (first_is queues (e ∷ es) filed least.found.place least.found.within) ∙ least.found.here) in
    ap (λ t. Some t) (same_order s e.stamp not_under not_above)

-- the lesser of two that are there
pub lesser_second : (a b : Option Stamp) (s t : Stamp) → a ≡ Some s → b ≡ Some t → stamp_lt t s ≡ true → Some t ≡ lesser_of a b
lesser_second a b s t e f h = rw (e, f, h) refl

pub lesser_first : (a b : Option Stamp) (s t : Stamp) → a ≡ Some s → b ≡ Some t → stamp_lt t s ≡ false → Some s ≡ lesser_of a b
lesser_first a b s t e f h = rw (e, f, h) refl
