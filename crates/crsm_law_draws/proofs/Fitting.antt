-- A schedule line can express each drawn event.
use Rattle.std.proofs.Common.{◌≡◌, ◌<◌, ◌≤◌, ◌+◌, ◌^◌, ℕ, zero, suc, Bool, true, false, cond, List, [], ◌∷◌, length, map, Option, None, Some, refl, subst, arith, mod-lt}
use Rattle.std.specs.Prelude.{◌/◌, ◌==◌, ◌&&◌, ◌||◌, filter, min, nat_eq, nat_le, nat_lt, option_map, slice_get, slice_index, slice_set, unwrap_or}
use Rattle.std.specs.List.{AllByRecursion, enumerate_from}
use Rattle.std.specs.Option.{option_map_or}
use Rattle.std.proofs.lemmas.Bool.{leb-true}
use Rattle.crsm_base.specs.Members.{IsMembers, RisesWithin}
use Rattle.crsm_base.specs.Replicas.{majority}
use Rattle.crsm_base.specs.Spelling.{FitsCommand, FitsKey, FitsOp, FitsOption, FitsVal}
use Rattle.crsm_base.specs.declared.command.Op.{Op}
use Rattle.crsm_sim_generator.specs.Drawing.{Drawn, after_head, asked, begun, behind, capped_sum, drawn_cas, drawn_command, drawn_expected, drawn_next, drawn_op, head_of, if_possible, kind_of, number_behind, one_of, op_of_kind, otherwise}
use Rattle.crsm_sim_generator.specs.Sequence.{draw, later}
use Rattle.crsm_sim_generator.specs.View.{View, places, is_up_in, up_replicas, down_replicas, fresh_to_any, fresh_to_up, used_to_up}
use Rattle.crsm_sim_generator.specs.declared.drawing.Drawing.{Drawing}
use Rattle.crsm_schedule.specs.declared.Event.{Event}
use Rattle.crsm_schedule.specs.declared.Single.{Single}

-- ---- events that a line can spell, of those that are drawn

abbrev pub IsSpeltSingle : Single → Type 0
IsSpeltSingle (Single.Request r reading command) = (r < 2 ^ 64) × (reading < 2 ^ 64) × FitsCommand command
IsSpeltSingle (Single.Go i reading) = (i < 2 ^ 64) × (reading < 2 ^ 64)
IsSpeltSingle (Single.Again i reading) = (i < 2 ^ 64) × (reading < 2 ^ 64)
IsSpeltSingle (Single.Tick r reading) = (r < 2 ^ 64) × (reading < 2 ^ 64)
IsSpeltSingle (Single.Suspect r reading members) = (r < 2 ^ 64) × (reading < 2 ^ 64) × IsMembers members
IsSpeltSingle (Single.Junk r reading bytes) = ⊥

abbrev pub IsSpelt : Event → Type 0
IsSpelt (Event.One single) = IsSpeltSingle single
IsSpelt (Event.Lose i) = i < 2 ^ 64
IsSpelt (Event.Crash r) = r < 2 ^ 64
IsSpelt (Event.Start k) = k < 2 ^ 64
IsSpelt (Event.Settle reading) = reading < 2 ^ 64
IsSpelt (Event.CutLost single) = ⊥
IsSpelt (Event.CutKept sends single) = (sends < 2 ^ 64) × IsSpeltSingle single
IsSpelt (Event.Batch reading numbers) = ⊥
IsSpelt (Event.CutLostBatch reading numbers) = ⊥
IsSpelt (Event.CutAt calls fill single) = ⊥

-- ---- numbers

draw_below : (x i k : ℕ) → 0 < k → draw x i k < k
unfolding draw
draw_below x i k some = mod-lt (later x (i + 1) / 2 ^ 33) some

capped : (a b : ℕ) → capped_sum a b < 2 ^ 64
unfolding capped_sum
capped a b = omega arith

-- the numbers of the clients' commands have 64 bits
abbrev pub AreSmall : List ℕ → Type 0
AreSmall ns = AllByRecursion (λ n. n < 2 ^ 64) ns

index_small : (ns : List ℕ) (i : ℕ) → AreSmall ns → slice_index ns i < 2 ^ 64
index_small [] i all = omega arith
index_small (n ∷ ns) zero all = all.0
index_small (n ∷ ns) (suc i) all = index_small ns i all.1

set_small : (ns : List ℕ) (i n : ℕ) → AreSmall ns → n < 2 ^ 64 → AreSmall (slice_set ns i n)
set_small [] i n all small = tt
set_small (m ∷ ns) zero n all small = (small, all.1)
set_small (m ∷ ns) (suc i) n all small = (all.0, set_small ns i n all.1 small)

number_small : (number tenth : ℕ) → number < 2 ^ 64 → number_behind number tenth < 2 ^ 64
unfolding number_behind
number_small number tenth small =
    elim (number == 0 || nat_lt 0 tenth) as (λ (b : Bool). cond b (capped_sum number 1) number < 2 ^ 64) [ true ↦ capped number 1 | false ↦ small ]

-- ---- commands

key_fits : (b : ℕ) → FitsKey (b ∷ [])
key_fits b = record { some = omega arith; most = omega arith }

val_fits : (b : ℕ) → FitsVal (b ∷ [])
val_fits b = record { most = omega arith }

expected_fits : (x : ℕ) → FitsOption FitsVal (drawn_expected x).0
unfolding drawn_expected
expected_fits x =
    elim (draw x 0 2 == 0) as (λ (b : Bool). FitsOption FitsVal (cond {A = Option (List ℕ) × ℕ} b (None, later x 1) (Some (draw x 1 256 ∷ []), later x 2)).0) [ true ↦ tt | false ↦ val_fits (draw x 1 256) ]

cas_fits : (b x : ℕ) → FitsOp (drawn_cas (b ∷ []) x).0
unfolding drawn_cas
cas_fits b x = (key_fits b, expected_fits x, val_fits (draw (drawn_expected x).1 0 256))

op_fits : (kind x : ℕ) → FitsOp (op_of_kind kind x).0
unfolding op_of_kind
op_fits kind x =
    let b = 97 + draw x 0 8 in
    let get : Op × ℕ = (Op.Get (b ∷ []), later x 1) in
    let put : Op × ℕ = (Op.Put (b ∷ []) (draw x 1 256 ∷ []), later x 2) in
    let delete : Op × ℕ = (Op.Delete (b ∷ []), later x 1) in
    let cas : Op × ℕ = drawn_cas (b ∷ []) (later x 1) in
    elim (kind == 0) as (λ (c : Bool). FitsOp (cond c get (cond (kind == 1) put (cond (kind == 2) delete cas))).0) [
      | true ↦ key_fits b
      | false ↦ elim (kind == 1) as (λ (c : Bool). FitsOp (cond c put (cond (kind == 2) delete cas)).0) [
        | true ↦ (key_fits b, val_fits (draw x 1 256))
        | false ↦ elim (kind == 2) as (λ (c : Bool). FitsOp (cond c delete cas).0) [ true ↦ key_fits b | false ↦ cas_fits b (later x 1) ]
      ]
    ]

command_fits : (s : Drawing) → AreSmall s.numbers → FitsCommand (drawn_command s).0
unfolding drawn_command drawn_op
command_fits s small = record {
  client = let i = draw_below s.latest 0 4 (omega arith) in omega (arith, i);
  number = number_small (slice_index s.numbers (draw s.latest 0 4)) (draw s.latest 1 10) (index_small s.numbers (draw s.latest 0 4) small);
  op = op_fits (draw (later s.latest 2) 0 4) (later (later s.latest 2) 1);
}

command_keeps : (s : Drawing) → AreSmall s.numbers → AreSmall (drawn_command s).1.numbers
unfolding drawn_command
command_keeps s small =
    let i = draw s.latest 0 4 in
    set_small s.numbers i _ small (number_small (slice_index s.numbers i) (draw s.latest 1 10) (index_small s.numbers i small))

-- ---- places

abbrev numbers : {A : Type 0} → List (ℕ × A) → List ℕ
numbers ps = map (λ p. p.0) ps

abbrev places_from : {A : Type 0} → ℕ → (A → Bool) → List A → List ℕ
places_from k test xs = map (λ p. p.0) (filter (λ p. test p.1) (enumerate_from k xs))

lower : (low high : ℕ) (ks : List ℕ) → RisesWithin (low + 1) high ks → RisesWithin low high ks
lower low high [] rises = tt
lower low high (k ∷ ks) rises = (omega (arith, rises.0), rises.1, rises.2)

rise : {A : Type 0} (test : A → Bool) (k high : ℕ) (xs : List A) → k + length xs ≤ high → RisesWithin k high (places_from k test xs)
rise test k high [] l = tt
rise test k high (x ∷ xs) l =
    let rest = rise test (k + 1) high xs (omega (arith, l)) in
    elim (test x) as (λ (b : Bool). RisesWithin k high (numbers (cond b ((k, x) ∷ filter (λ p. test p.1) (enumerate_from (k + 1) xs)) (filter (λ p. test p.1) (enumerate_from (k + 1) xs))))) [
      | true ↦ (omega arith, omega (arith, l), rest)
      | false ↦ lower k high (places_from (k + 1) test xs) rest
    ]

below_high : (low high : ℕ) (ks : List ℕ) (j i : ℕ) → RisesWithin low high ks → slice_get ks j ≡ Some i → i < high
below_high low high [] j i rises is = absurd (cc)
below_high low high (k ∷ ks) zero i rises is = let same : k ≡ i = cc in omega (arith, rises.1, same)
below_high low high (k ∷ ks) (suc j) i rises is = below_high (k + 1) high ks j i rises.2 is

place_below : {A : Type 0} (test : A → Bool) (xs : List A) (j i : ℕ) → slice_get (places test xs) j ≡ Some i → i < length xs
unfolding places
place_below test xs j i is = below_high 0 (length xs) (places_from 0 test xs) j i (rise test 0 (length xs) xs (omega arith)) is

-- ---- what a cluster shows

-- as many replicas as there may be, and datagrams whose numbers have 64 bits
pub record IsSmallView (v : View) : Type 0 where
  pub ups : length v.ups ≤ 15
  pub marks : length v.marks < 2 ^ 64

module _ (v : View) (small : IsSmallView v) where
  up_small : (j i : ℕ) → slice_get (up_replicas v) j ≡ Some i → i < 2 ^ 64
  unfolding up_replicas
  up_small j i is = let l = place_below (λ up. up) v.ups j i is in omega (arith, l, small.ups)

  down_small : (j i : ℕ) → slice_get (down_replicas v) j ≡ Some i → i < 2 ^ 64
  unfolding down_replicas
  down_small j i is = let l = place_below _ v.ups j i is in omega (arith, l, small.ups)

  any_small : (j i : ℕ) → slice_get (fresh_to_any v) j ≡ Some i → i < 2 ^ 64
  unfolding fresh_to_any
  any_small j i is = let l = place_below _ v.marks j i is in omega (arith, l, small.marks)

  fresh_small : (j i : ℕ) → slice_get (fresh_to_up v) j ≡ Some i → i < 2 ^ 64
  unfolding fresh_to_up
  fresh_small j i is = let l = place_below _ v.marks j i is in omega (arith, l, small.marks)

  used_small : (j i : ℕ) → slice_get (used_to_up v) j ≡ Some i → i < 2 ^ 64
  unfolding used_to_up
  used_small j i is = let l = place_below _ v.marks j i is in omega (arith, l, small.marks)

  widen : (low high more : ℕ) (ks : List ℕ) → high ≤ more → RisesWithin low high ks → RisesWithin low more ks
  widen low high more [] le rises = tt
  widen low high more (k ∷ ks) le rises = (rises.0, omega (arith, rises.1, le), widen (k + 1) high more ks le rises.2)

  some_members : (ks : List ℕ) → 1 ≤ length ks → RisesWithin 0 15 ks → IsMembers ks
  some_members [] some rises = absurd (omega (arith, some))
  some_members (k ∷ ks) some rises = rises

  ups_are_members : (n : ℕ) → majority n ≤ length (up_replicas v) → IsMembers (up_replicas v)
  unfolding up_replicas places
  ups_are_members n enough = some_members _ (omega (arith, enough)) (widen 0 (length v.ups) 15 _ small.ups (rise (λ up. up) 0 (length v.ups) v.ups (omega arith)))

-- ---- choices

chosen : (most : ℕ) (ns : List ℕ) (s : Drawing) → ((j i : ℕ) → slice_get ns j ≡ Some i → i < 2 ^ 64) → (i : ℕ) → (one_of most ns s).0 ≡ Some i → i < 2 ^ 64
unfolding one_of
chosen most ns s each i =
    elim (nat_eq (length ns) 0) as (λ (b : Bool). (cond {A = Option ℕ × Drawing} b (None, s) (slice_get ns (draw s.latest 0 (min most (length ns))), behind 1 s)).0 ≡ Some i → i < 2 ^ 64) [
      | true ↦ λ e. absurd (cc)
      | false ↦ λ e. each (draw s.latest 0 (min most (length ns))) i e
    ]

choice_keeps : (most : ℕ) (ns : List ℕ) (s : Drawing) → AreSmall s.numbers → AreSmall (one_of most ns s).1.numbers
unfolding one_of behind
choice_keeps most ns s small =
    elim (nat_eq (length ns) 0) as (λ (b : Bool). AreSmall (cond {A = Option ℕ × Drawing} b (None, s) (slice_get ns (draw s.latest 0 (min most (length ns))), behind 1 s)).1.numbers) [ true ↦ small | false ↦ small ]

of_number : (o : Option ℕ) (f : ℕ → Event) → ((i : ℕ) → o ≡ Some i → i < 2 ^ 64) → ((i : ℕ) → i < 2 ^ 64 → IsSpelt (f i)) → (e : Event) → option_map f o ≡ Some e → IsSpelt e
of_number None f has g e h = absurd (cc)
of_number (Some i) f has g e h = let same : f i ≡ e = cc in subst IsSpelt same (g i (has i refl))

if_so : (b : Bool) (d : Event) → (b ≡ true → IsSpelt d) → (e : Event) → if_possible b d ≡ Some e → IsSpelt e
unfolding if_possible
if_so true d f e h = let same : d ≡ e = cc in subst IsSpelt same (f refl)
if_so false d f e h = absurd (cc)

right : (a b : Bool) → a && b ≡ true → b ≡ true
right true b e = e
right false b e = absurd (cc)

-- an event that is asked for can be spelt, and the state behind it has small numbers
abbrev IsGood : Drawn (Option Event) → Type 0
IsGood a = ((e : Event) → a.0 ≡ Some e → IsSpelt e) × AreSmall a.1.numbers

module _ (n : ℕ) (v : View) (small : IsSmallView v) (r reading : ℕ) (replica : r < 2 ^ 64) (time : reading < 2 ^ 64) where
  module _ (s : Drawing) (few : AreSmall s.numbers) (d : ℕ) where
    members : is_up_in v r && nat_le (majority n) (length (up_replicas v)) ≡ true → IsMembers (up_replicas v)
    members u = ups_are_members v small n (leb-true (majority n) (length (up_replicas v)) (right (is_up_in v r) _ u))

    abbrev Good : Type 0
    Good = IsGood (asked (kind_of d) n v r reading s)

    -- The first of these tests that holds says which kind it is.
    settle : nat_lt d 25 ≡ false → nat_lt d 70 ≡ false → nat_lt d 75 ≡ false → nat_lt d 80 ≡ false → nat_lt d 90 ≡ false → nat_lt d 92 ≡ false → nat_lt d 95 ≡ false → nat_lt d 97 ≡ false → (x : Bool) → nat_lt d 99 ≡ x → Good
    unfolding kind_of asked
    settle a b c e f g h i true is = rw (a, b, c, e, f, g, h, i, is)
        (λ x at. (let same : Event.Settle reading ≡ x = cc in subst IsSpelt same time), few)
    settle a b c e f g h i false is = rw (a, b, c, e, f, g, h, i, is)
        (λ x at. of_number (slice_get (fresh_to_up v) 0) _ (fresh_small v small 0) (λ k fits. (omega arith, (fits, time))) x at, few)

    suspect : nat_lt d 25 ≡ false → nat_lt d 70 ≡ false → nat_lt d 75 ≡ false → nat_lt d 80 ≡ false → nat_lt d 90 ≡ false → nat_lt d 92 ≡ false → nat_lt d 95 ≡ false → (x : Bool) → nat_lt d 97 ≡ x → Good
    unfolding kind_of asked
    suspect a b c e f g h true is = rw (a, b, c, e, f, g, h, is)
        (λ x at. if_so (is_up_in v r && nat_le (majority n) (length (up_replicas v))) _ (λ u. (replica, time, members u)) x at, few)
    suspect a b c e f g h false is = settle a b c e f g h is (nat_lt d 99) refl

    start : nat_lt d 25 ≡ false → nat_lt d 70 ≡ false → nat_lt d 75 ≡ false → nat_lt d 80 ≡ false → nat_lt d 90 ≡ false → nat_lt d 92 ≡ false → (x : Bool) → nat_lt d 95 ≡ x → Good
    unfolding kind_of asked
    start a b c e f g true is = rw (a, b, c, e, f, g, is)
        (λ x at. of_number (slice_get (down_replicas v) 0) _ (down_small v small 0) (λ k fits. fits) x at, few)
    start a b c e f g false is = suspect a b c e f g is (nat_lt d 97) refl

    crash : nat_lt d 25 ≡ false → nat_lt d 70 ≡ false → nat_lt d 75 ≡ false → nat_lt d 80 ≡ false → nat_lt d 90 ≡ false → (x : Bool) → nat_lt d 92 ≡ x → Good
    unfolding kind_of asked
    crash a b c e f true is = rw (a, b, c, e, f, is)
        (λ x at. if_so (is_up_in v r) _ (λ u. replica) x at, few)
    crash a b c e f false is = start a b c e f is (nat_lt d 95) refl

    tick : nat_lt d 25 ≡ false → nat_lt d 70 ≡ false → nat_lt d 75 ≡ false → nat_lt d 80 ≡ false → (x : Bool) → nat_lt d 90 ≡ x → Good
    unfolding kind_of asked
    tick a b c e true is = rw (a, b, c, e, is)
        (λ x at. if_so (is_up_in v r) _ (λ u. (replica, time)) x at, few)
    tick a b c e false is = crash a b c e is (nat_lt d 92) refl

    lose : nat_lt d 25 ≡ false → nat_lt d 70 ≡ false → nat_lt d 75 ≡ false → (x : Bool) → nat_lt d 80 ≡ x → Good
    unfolding kind_of asked
    lose a b c true is = rw (a, b, c, is)
        (λ x at. of_number (one_of 8 (fresh_to_any v) s).0 _ (chosen 8 (fresh_to_any v) s (any_small v small)) (λ k fits. fits) x at, choice_keeps 8 (fresh_to_any v) s few)
    lose a b c false is = tick a b c is (nat_lt d 90) refl

    again : nat_lt d 25 ≡ false → nat_lt d 70 ≡ false → (x : Bool) → nat_lt d 75 ≡ x → Good
    unfolding kind_of asked
    again a b true is = rw (a, b, is) (
      λ x at. of_number (one_of (length (used_to_up v)) (used_to_up v) s).0 _ (chosen (length (used_to_up v)) (used_to_up v) s (used_small v small)) (λ k fits. (fits, time)) x at,
      choice_keeps (length (used_to_up v)) (used_to_up v) s few,
    )
    again a b false is = lose a b is (nat_lt d 80) refl

    go : nat_lt d 25 ≡ false → (x : Bool) → nat_lt d 70 ≡ x → Good
    unfolding kind_of asked
    go a true is = rw (a, is)
        (λ x at. of_number (one_of 8 (fresh_to_up v) s).0 _ (chosen 8 (fresh_to_up v) s (fresh_small v small)) (λ k fits. (fits, time)) x at, choice_keeps 8 (fresh_to_up v) s few)
    go a false is = again a is (nat_lt d 75) refl

    request : (x : Bool) → nat_lt d 25 ≡ x → Good
    unfolding kind_of asked
    request true is = rw (is)
        (λ x at. if_so (is_up_in v r) _ (λ u. (replica, time, command_fits s few)) x at, command_keeps s few)
    request false is = go is (nat_lt d 70) refl

    asked_good : Good
    asked_good = request (nat_lt d 25) refl

  otherwise_spelt : IsSpelt (otherwise v reading)
  unfolding otherwise
  otherwise_spelt = at (slice_get (up_replicas v) 0) refl
    where
      at : (o : Option ℕ) → slice_get (up_replicas v) 0 ≡ o → IsSpelt (option_map_or (λ r. Event.One (Single.Tick r reading)) o (Event.Start 0))
      at (Some k) e = (up_small v small 0 k e, time)
      at None e = omega arith

unwrapped : (o : Option Event) (d : Event) → ((e : Event) → o ≡ Some e → IsSpelt e) → IsSpelt d → IsSpelt (unwrap_or o d)
unwrapped (Some e) d f p = f e refl
unwrapped None d f p = p

module _ (n : ℕ) (some : 1 ≤ n) (most : n ≤ 15) (v : View) (small : IsSmallView v) (s : Drawing) (few : AreSmall s.numbers) where
  after_few : AreSmall (after_head s).numbers
  unfolding after_head
  after_few = few

  replica_small : (head_of n s).replica < 2 ^ 64
  unfolding head_of
  replica_small = let l = draw_below s.latest 2 n (omega (arith, some)) in omega (arith, l, most)

  reading_small : (head_of n s).reading < 2 ^ 64
  unfolding head_of
  reading_small = capped (capped_sum s.now (draw s.latest 0 20)) (draw s.latest 3 200)

  drawn_good : IsGood (asked (head_of n s).kind n v (head_of n s).replica (head_of n s).reading (after_head s))
  unfolding head_of
  drawn_good = asked_good n v small (head_of n s).replica (head_of n s).reading replica_small reading_small (after_head s) after_few (draw s.latest 1 100)

  pub drawn_spelt : IsSpelt (drawn_next n v s).0
  unfolding drawn_next
  drawn_spelt =
      let h = head_of n s in
      unwrapped (asked h.kind n v h.replica h.reading (after_head s)).0 (otherwise v h.reading) drawn_good.0 (otherwise_spelt n v small h.replica h.reading replica_small reading_small)

  pub drawn_keeps : AreSmall (drawn_next n v s).1.numbers
  unfolding drawn_next
  drawn_keeps = drawn_good.1

pub begun_small : (number : ℕ) → AreSmall (begun number).numbers
unfolding begun
begun_small number = (omega arith, (omega arith, (omega arith, (omega arith, tt))))
