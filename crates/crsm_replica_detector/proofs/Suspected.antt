-- The facts of a wanted suspicion.
use Rattle.std.proofs.Common.{◌≡◌, ◌+◌, ◌≤◌, ℕ, Bool, true, false, cond, ◌||◌, ◌==◌, if◌then◌else◌, List, [], ◌∷◌, filter, Some, None, refl, subst, ap, arith, inl, inr}
use Rattle.std.specs.List.{list_all}
use Rattle.std.proofs.lemmas.Bool.{and_from, and_parts, or_cases, or_left, or_right}
use Rattle.std.proofs.lemmas.Bool.Decides.{nat_tests}
use Rattle.crsm_base.specs.Members.{IsMembers, RisesWithin}
use Rattle.crsm_base.specs.Replicas.{can_be_members, has}
use Rattle.crsm_spec.specs.Log.{Log, spec}
use Rattle.crsm_replica_io.specs.declared.input.WantedInput.TheVariants as what
use Rattle.crsm_replica_detector.specs.Watching.{Times, Watch}
use Rattle.crsm_replica_detector.specs.Wishing.{is_wanted, may_suspect, should_be_members, suspects, tick_is_due, wanted, wish, wish_at}

-- ---- tests

equal_self : (k : ℕ) → (k == k) ≡ true
equal_self k = grind (arith, nat_tests)

equal_from : (j k : ℕ) → (j == k) ≡ true → j ≡ k
equal_from j k h = grind (arith, nat_tests)

-- ---- sets of replicas

all_filtered : (q p : ℕ → Bool) (xs : List ℕ) → list_all q xs ≡ true → list_all q (filter p xs) ≡ true
all_filtered q p [] h = refl
all_filtered q p (x ∷ xs) h =
    let rest = all_filtered q p xs (and_parts (q x) (list_all q xs) h).1 in
    let R : Bool → Type 0 = λ b. list_all q (cond b (x ∷ filter p xs) (filter p xs)) ≡ true in
    elim (p x) as R [ true ↦ and_from (q x) (list_all q (filter p xs)) (and_parts (q x) (list_all q xs) h).0 rest | false ↦ rest ]

all_weaker : (p q : ℕ → Bool) (xs : List ℕ) → ((k : ℕ) → p k ≡ true → q k ≡ true) → list_all p xs ≡ true → list_all q xs ≡ true
all_weaker p q [] f h = refl
all_weaker p q (x ∷ xs) f h =
    and_from (q x) (list_all q xs) (f x (and_parts (p x) (list_all p xs) h).0) (all_weaker p q xs f (and_parts (p x) (list_all p xs) h).1)

has_all : (xs : List ℕ) → list_all (has xs) xs ≡ true
unfolding has
has_all [] = refl
has_all (x ∷ xs) =
    and_from ((x == x) || has xs x) (list_all (has (x ∷ xs)) xs) (rw (equal_self x) refl)
    (all_weaker (has xs) (has (x ∷ xs)) xs (λ k h. or_right (x == k) (has xs k) h) (has_all xs))

has_step : (p : ℕ → Bool) (x : ℕ) (xs : List ℕ) (k : ℕ) (b : Bool) → p x ≡ b → p k ≡ true → ((x == k) || has xs k) ≡ true
    → (has xs k ≡ true → has (filter p xs) k ≡ true) → has (cond b (x ∷ filter p xs) (filter p xs)) k ≡ true
unfolding has
has_step p x xs k true e pk h f =
    elim (or_cases (x == k) (has xs k) h) [ inl a ↦ or_left (x == k) (has (filter p xs) k) a | inr a ↦ or_right (x == k) (has (filter p xs) k) (f a) ]
has_step p x xs k false e pk h f =
    elim (or_cases (x == k) (has xs k) h) [ inl a ↦ (let g = ap p (equal_from x k a) in let no : ⊥ = cc in absurd no) | inr a ↦ f a ]

has_filtered : (p : ℕ → Bool) (xs : List ℕ) (k : ℕ) → p k ≡ true → has xs k ≡ true → has (filter p xs) k ≡ true
unfolding has
has_filtered p [] k pk h = h
has_filtered p (x ∷ xs) k pk h = has_step p x xs k (p x) refl pk h (has_filtered p xs k pk)

-- ---- members

rises_lower : (low above high : ℕ) (ks : List ℕ) → low ≤ above → RisesWithin above high ks → RisesWithin low high ks
rises_lower low above high [] h r = tt
rises_lower low above high (k ∷ ks) h r = let first = r.0 in (omega arith, r.1, r.2)

rises_filtered : (p : ℕ → Bool) (low high : ℕ) (ks : List ℕ) → RisesWithin low high ks → RisesWithin low high (filter p ks)
rises_filtered p low high [] r = tt
rises_filtered p low high (k ∷ ks) r =
    let first = r.0 in
    let rest = rises_filtered p (k + 1) high ks r.2 in
    let R : Bool → Type 0 = λ b. RisesWithin low high (cond b (k ∷ filter p ks) (filter p ks)) in
    elim (p k) as R [ true ↦ (r.0, r.1, rest) | false ↦ rises_lower low (k + 1) high (filter p ks) (omega arith) rest ]

rises_from : (ks : List ℕ) → IsMembers ks → RisesWithin 0 15 ks
rises_from [] h = absurd h
rises_from (k ∷ ks) h = h

members_from : (ks : List ℕ) (k : ℕ) → RisesWithin 0 15 ks → has ks k ≡ true → IsMembers ks
unfolding has
members_from [] k r h = let no : ⊥ = cc in absurd no
members_from (j ∷ ks) k r h = r

own_wanted : (me : ℕ) (t : Times) → is_wanted me t me ≡ true
unfolding is_wanted
own_wanted me t = or_left (me == me) _ (equal_self me)

-- those of a Spec that are wanted can be members, where the replica itself is of it
pub wanted_are_members : (me : ℕ) (t : Times) (spec : List ℕ) → IsMembers spec → may_suspect me spec t ≡ true → IsMembers (filter (is_wanted me t) spec)
unfolding may_suspect
wanted_are_members me t spec m h =
    members_from (filter (is_wanted me t) spec) me (rises_filtered (is_wanted me t) 0 15 spec (rises_from spec m))
    (has_filtered (is_wanted me t) spec me (own_wanted me t) (and_parts _ _ h).0)

-- ---- wishes

chosen_of : (due sus : Bool) (ks ms : List ℕ) → (if due then what.Tick else if sus then what.Suspect ks else what.Receive) ≡ what.Suspect ms
    → (sus ≡ true) × (ks ≡ ms)
chosen_of true sus ks ms h = let no : ⊥ = cc in absurd no
chosen_of false true ks ms h = (refl, cc)
chosen_of false false ks ms h = let no : ⊥ = cc in absurd no

wished_at : (me n : ℕ) (t : Times) (log : Log) (ms : List ℕ) → wish_at me n t log ≡ what.Suspect ms
    → (suspects me n t log (wanted me n t log) ≡ true) × (wanted me n t log ≡ ms)
unfolding wish_at
wished_at me n t log ms h = chosen_of (tick_is_due t) (suspects me n t log (wanted me n t log)) (wanted me n t log) ms h

-- what is suspected from
record Wished (me n : ℕ) (log : Log) (ms : List ℕ) : Type 0 where
  t : Times
  suspects_here : suspects me n t log (wanted me n t log) ≡ true
  are : wanted me n t log ≡ ms

wished : (me n : ℕ) (w : Watch) (log : Log) (ms : List ℕ) → wish me n w log ≡ what.Suspect ms → Wished me n log ms
unfolding wish
wished me n None log ms h = let no : ⊥ = cc in absurd no
wished me n (Some t) log ms h = let r = wished_at me n t log ms h in record { t = t; suspects_here = r.0; are = r.1 }

can_be_here : (me n : ℕ) (t : Times) (log : Log) → suspects me n t log (wanted me n t log) ≡ true → can_be_members (spec n log) (wanted me n t log) ≡ true
unfolding suspects wanted should_be_members can_be_members
can_be_here me n t log h =
    let ms = wanted me n t log in
    let large = (and_parts _ _ (and_parts _ _ (and_parts _ _ h).1).0).0 in
    and_from _ _ (all_filtered (has (spec n log)) (is_wanted me t) (spec n log) (has_all (spec n log))) large

own_here : (me n : ℕ) (t : Times) (log : Log) → suspects me n t log (wanted me n t log) ≡ true → has (wanted me n t log) me ≡ true
unfolding suspects wanted may_suspect
own_here me n t log h =
    has_filtered (is_wanted me t) (spec n log) me (own_wanted me t) (and_parts _ _ (and_parts _ _ h).0).0

pub can_be : (me n : ℕ) (w : Watch) (log : Log) (ms : List ℕ) → wish me n w log ≡ what.Suspect ms → can_be_members (spec n log) ms ≡ true
can_be me n w log ms h =
    let r = wished me n w log ms h in
    let P : List ℕ → Type 0 = λ ks. can_be_members (spec n log) ks ≡ true in
    subst P r.are (can_be_here me n r.t log r.suspects_here)

pub own : (me n : ℕ) (w : Watch) (log : Log) (ms : List ℕ) → wish me n w log ≡ what.Suspect ms → has ms me ≡ true
own me n w log ms h =
    let r = wished me n w log ms h in
    let P : List ℕ → Type 0 = λ ks. has ks me ≡ true in
    subst P r.are (own_here me n r.t log r.suspects_here)
