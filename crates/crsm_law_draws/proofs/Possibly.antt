-- What is possible in the generator's view of a world is possible in the world.
use Rattle.std.proofs.Common.{◌≡◌, ◌<◌, ◌≤◌, ◌+◌, ℕ, zero, suc, Bool, true, false, cond, not, ◌&&◌, List, [], ◌∷◌, length, map, None, Some, refl, ap, sym, ◌∙◌, subst, arith}
use Rattle.std.specs.Prelude.{filter, nat_le, slice_get}
use Rattle.std.specs.List.{enumerate_from, list_all, list_any}
use Rattle.std.specs.Option.{option_map_or}
use Rattle.std.proofs.lemmas.Bool.{lt-leb, le-ltb, leb-false, and_parts}
use Rattle.std.proofs.lemmas.List.FromFn.{length-range_with_len}
use Rattle.crsm_base.specs.Replicas.{has, majority, numbers_below}
use Rattle.crsm_sim_generator.specs.Possible.{CanHappen, CanStart, IsAmong, SingleCanHappen}
use Rattle.crsm_sim_generator.specs.View.{Mark, places, is_up_in, up_replicas, down_replicas, fresh_to_any, fresh_to_up, used_to_up}
use Rattle.crsm_schedule.specs.declared.Event.{Event}
use Rattle.crsm_schedule.specs.declared.Single.{Single}
use Rattle.crsm_spec.specs.Acts.{Bad}
use Rattle.crsm_spec.specs.Possible.{are_too_few, causes_at, causes_of, causes_of_single, first_bad, is_down_at, is_next_new, is_none_of, is_not_sent, is_receiver_down, is_used, possible}
use Rattle.crsm_spec.specs.World.{Packet, Site, World, is_full, is_up, is_up_at}
use Rattle.crsm_world.specs.Doing.{act_of, single_of}
use Rattle.crsm_world.specs.Seen.{mark_of, view_of}
use Rattle.crsm_law_draws.specs.Founders.{HasFoundersAlone, IsNext, StartsAFounder}

-- ---- places of a list

abbrev numbers : {A : Type 0} → List (ℕ × A) → List ℕ
numbers ps = map (λ p. p.0) ps

-- the places from k on
abbrev places_from : {A : Type 0} → ℕ → (A → Bool) → List A → List ℕ
places_from k test xs = map (λ p. p.0) (filter (λ p. test p.1) (enumerate_from k xs))

-- place i, counted from k, has an element that passes the test
record Found {A : Type 0} (test : A → Bool) (k : ℕ) (xs : List A) (i : ℕ) : Type 0 where
  pub place : ℕ
  pub at : i ≡ k + place
  pub element : A
  pub is : slice_get xs place ≡ Some element
  pub passes : test element ≡ true

behind : {A : Type 0} (test : A → Bool) (k : ℕ) (x : A) (xs : List A) (i : ℕ) → Found test (k + 1) xs i → Found test k (x ∷ xs) i
behind test k x xs i f = record { place = suc f.place; at = let a = f.at in omega (arith, a); element = f.element; is = f.is; passes = f.passes }

head_found : {A : Type 0} (test : A → Bool) (k : ℕ) (x : A) (xs : List A) (j i : ℕ) → ((m : ℕ) → slice_get (places_from (k + 1) test xs) m ≡ Some i → Found test (k + 1) xs i) → test x ≡ true
    → slice_get (k ∷ places_from (k + 1) test xs) j ≡ Some i → Found test k (x ∷ xs) i
head_found test k x xs zero i rest b h = let same : k ≡ i = cc in record { place = 0; at = omega (arith, same); element = x; is = refl; passes = b }
head_found test k x xs (suc j) i rest b h = behind test k x xs i (rest j h)

found : {A : Type 0} (test : A → Bool) (k : ℕ) (xs : List A) (j i : ℕ) → slice_get (places_from k test xs) j ≡ Some i → Found test k xs i
found test k [] j i e = absurd (cc)
found test k (x ∷ xs) j i e =
    elim (test x) as (λ b. test x ≡ b → slice_get (numbers (cond b ((k, x) ∷ filter (λ p. test p.1) (enumerate_from (k + 1) xs)) (filter (λ p. test p.1) (enumerate_from (k + 1) xs)))) j ≡ Some i → Found test k (x ∷ xs) i) [
      | true ↦ λ b h. head_found test k x xs j i (λ m. found test (k + 1) xs m i) b h
      | false ↦ λ b h. behind test k x xs i (found test (k + 1) xs j i h)
    ] refl e

-- no place is past the list
within : {A : Type 0} (test : A → Bool) (most k : ℕ) (xs : List A) → k + length xs ≤ most → list_any (nat_le most) (places_from k test xs) ≡ false
within test most k [] l = refl
within test most k (x ∷ xs) l =
    let rest = within test most (k + 1) xs (omega (arith, l)) in
    let here : nat_le most k ≡ false = lt-leb most k (omega (arith, l)) in
    elim (test x) as (λ b. list_any (nat_le most) (numbers (cond b ((k, x) ∷ filter (λ p. test p.1) (enumerate_from (k + 1) xs)) (filter (λ p. test p.1) (enumerate_from (k + 1) xs)))) ≡ false) [
      | true ↦ rw (here) rest
      | false ↦ rest
    ]

-- what stands at a place of a mapped list was made of what stands there
record Mapped {A B : Type 0} (f : A → B) (xs : List A) (k : ℕ) (b : B) : Type 0 where
  pub of : A
  pub is : slice_get xs k ≡ Some of
  pub makes : f of ≡ b
  pub inside : k < length xs

mapped : {A B : Type 0} (f : A → B) (xs : List A) (k : ℕ) (b : B) → slice_get (map f xs) k ≡ Some b → Mapped f xs k b
mapped f [] k b e = absurd (cc)
mapped f (x ∷ xs) zero b e = let same : f x ≡ b = cc in record { of = x; is = refl; makes = same; inside = omega arith }
mapped f (x ∷ xs) (suc k) b e = let m = mapped f xs k b e in record { of = m.of; is = m.is; makes = m.makes; inside = let l = m.inside in omega (arith, l) }

-- ---- causes

-- a cause that does not hold, before others that do not
past : (b : Bool) (why : Bad) (cs : List (Bool × Bad)) → b ≡ false → first_bad cs ≡ None → first_bad ((b, why) ∷ cs) ≡ None
unfolding first_bad
past true why cs e h = absurd (cc)
past false why cs e h = h

none : first_bad [] ≡ None
unfolding first_bad
none = refl

opposite : (b : Bool) → b ≡ true → not b ≡ false
opposite true e = refl
opposite false e = absurd (cc)

opposite_back : (b : Bool) → not b ≡ true → b ≡ false
opposite_back true e = absurd (cc)
opposite_back false e = refl

-- ---- replicas

got : (ups : List Bool) (k : ℕ) → option_map_or (λ up. up) (slice_get ups k) false ≡ true → slice_get ups k ≡ Some true
got [] k e = absurd (cc)
got (u ∷ ups) zero e = ap Some e
got (u ∷ ups) (suc k) e = got ups k e

-- the replica is there, and up or not
record IsThere (w : World) (k : ℕ) (b : Bool) : Type 0 where
  pub here : is_none_of w k ≡ false
  pub stands : is_up_at w k ≡ b

there : (w : World) (k : ℕ) (b : Bool) → slice_get (map is_up w.sites) k ≡ Some b → IsThere w k b
unfolding is_none_of is_up_at
there w k b e =
    let m = mapped is_up w.sites k b e in
    record { here = lt-leb (length w.sites) k m.inside; stands = ap (λ o. option_map_or is_up o false) m.is ∙ m.makes }

up_there : (w : World) (k : ℕ) → is_up_in (view_of w) k ≡ true → IsThere w k true
unfolding is_up_in view_of
up_there w k e = there w k true (got (map is_up w.sites) k e)

not_down : (w : World) (k : ℕ) → is_up_in (view_of w) k ≡ true → is_down_at w k ≡ false
unfolding is_down_at
not_down w k e = opposite (is_up_at w k) (up_there w k e).stands

up_can : (w : World) (k : ℕ) → is_up_in (view_of w) k ≡ true → first_bad (causes_at w k) ≡ None
unfolding causes_at
up_can w k e = past (is_none_of w k) Bad.NoSuchReplica _ (up_there w k e).here (past (is_down_at w k) Bad.IsDown _ (not_down w k e) none)

-- ---- datagrams

-- the datagram was sent, and passes the test
record IsSent (test : Mark → Bool) (w : World) (i : ℕ) : Type 0 where
  pub packet : Packet
  pub is : slice_get w.packets i ≡ Some packet
  pub passes : test (mark_of packet) ≡ true
  pub sent : is_not_sent w i ≡ false

sent_one : (test : Mark → Bool) (w : World) (i : ℕ) → IsAmong (places test (view_of w).marks) i → IsSent test w i
unfolding places view_of is_not_sent
sent_one test w i among =
    let f = found test 0 (map mark_of w.packets) among.place i among.is in
    let same : f.place ≡ i = let a = f.at in omega (arith, a) in
    let m = mapped mark_of w.packets f.place f.element f.is in
    record {
      packet = m.of;
      is = ap (slice_get w.packets) (sym same) ∙ m.is;
      passes = ap test m.makes ∙ f.passes;
      sent = lt-leb (length w.packets) i (let l = m.inside in omega (arith, l, same));
    }

used_is : (w : World) (i : ℕ) (p : Packet) (b : Bool) → slice_get w.packets i ≡ Some p → (mark_of p).used ≡ b → is_used w i ≡ b
unfolding is_used mark_of
used_is w i p b e u = ap (λ o. option_map_or (λ m. m.used) o false) e ∙ u

receiver_is : (w : World) (i : ℕ) (p : Packet) → slice_get w.packets i ≡ Some p → is_up_in (view_of w) (mark_of p).to ≡ true → is_receiver_down w i ≡ false
unfolding is_receiver_down mark_of
receiver_is w i p e u = ap (λ o. option_map_or (λ m. is_down_at w m.to) o false) e ∙ not_down w p.to u

lose_can : (w : World) (i : ℕ) → IsAmong (fresh_to_any (view_of w)) i → (is_not_sent w i ≡ false) × (is_used w i ≡ false)
unfolding fresh_to_any
lose_can w i a = let s = sent_one (λ m. not m.used) w i a in (s.sent, used_is w i s.packet false s.is (opposite_back _ s.passes))

go_can : (w : World) (i : ℕ) → IsAmong (fresh_to_up (view_of w)) i → (is_not_sent w i ≡ false) × (is_used w i ≡ false) × (is_receiver_down w i ≡ false)
unfolding fresh_to_up
go_can w i a =
    let s = sent_one (λ m. not m.used && is_up_in (view_of w) m.to) w i a in
    let t = and_parts (not (mark_of s.packet).used) _ s.passes in
    (s.sent, used_is w i s.packet false s.is (opposite_back _ t.0), receiver_is w i s.packet s.is t.1)

again_can : (w : World) (i : ℕ) → IsAmong (used_to_up (view_of w)) i → (is_not_sent w i ≡ false) × (is_used w i ≡ true) × (is_receiver_down w i ≡ false)
unfolding used_to_up
again_can w i a =
    let s = sent_one (λ m. m.used && is_up_in (view_of w) m.to) w i a in
    let t = and_parts (mark_of s.packet).used _ s.passes in
    (s.sent, used_is w i s.packet true s.is t.0, receiver_is w i s.packet s.is t.1)

-- ---- suspicions

-- those that are up are replicas
ups_within : (w : World) → list_any (is_none_of w) (up_replicas (view_of w)) ≡ false
unfolding up_replicas places view_of is_none_of
ups_within w = within (λ up. up) (length w.sites) 0 (map is_up w.sites) (let l = length_map is_up w.sites in omega (arith, l))
  where
    length_map : {A B : Type 0} (f : A → B) (xs : List A) → length (map f xs) ≡ length xs
    length_map f [] = refl
    length_map f (x ∷ xs) = ap suc (length_map f xs)

any_of : (test : ℕ → Bool) (k : ℕ) (ks : List ℕ) → test k ≡ false → list_any test ks ≡ false → list_any test (k ∷ ks) ≡ false
any_of test k ks e h = rw (e) h

no_both : (a b : Bool) → b ≡ false → a && b ≡ false
no_both true b e = e
no_both false b e = refl

enough : (counted ms : List ℕ) (n : ℕ) → counted ≡ numbers_below n → majority n ≤ length ms → are_too_few counted ms ≡ false
unfolding are_too_few numbers_below
enough counted ms n e l =
    let size : length counted ≡ n = ap length e ∙ length-range_with_len 0 n in
    no_both (list_all (has counted) ms) _ (le-ltb (length ms) (majority (length counted)) (subst (λ m. majority m ≤ length ms) (sym size) l))

-- ---- events

single_can : (n : ℕ) (w : World) (s : Single) → HasFoundersAlone n w → SingleCanHappen n (view_of w) s → first_bad (causes_of_single w (single_of s)) ≡ None
unfolding causes_of_single single_of
single_can n w (Single.Request r reading command) founders can = up_can w r can
single_can n w (Single.Go i reading) founders can =
    let c = go_can w i can in past _ Bad.NoSuchDatagram _ c.0 (past _ Bad.Used _ c.1 (past _ Bad.IsDown _ c.2 none))
single_can n w (Single.Again i reading) founders can =
    let c = again_can w i can in past _ Bad.NoSuchDatagram _ c.0 (past _ Bad.Fresh _ (opposite _ c.1) (past _ Bad.IsDown _ c.2 none))
single_can n w (Single.Tick r reading) founders can = up_can w r can
single_can n w (Single.Suspect r reading members) founders can =
    let all = subst (λ ms. list_any (is_none_of w) ms ≡ false) (sym can.members_are) (ups_within w) in
    past _ Bad.NoSuchReplica _ (any_of (is_none_of w) r members (up_there w r can.up).here all)
    (past _ Bad.IsDown _ (not_down w r can.up) (past _ Bad.TooFew _ (enough _ members n (founders.specs r) can.enough) none))
single_can n w (Single.Junk r reading bytes) founders can = absurd can

-- where no replica is up, the first one is down
first_down : (sites : List Site) → 1 ≤ length sites → slice_get (places_from 0 (λ up. up) (map is_up sites)) 0 ≡ None → option_map_or is_up (slice_get sites 0) false ≡ false
first_down [] some e = refl
first_down (s ∷ sites) some e =
    elim (is_up s) as (λ b. slice_get (numbers (cond b ((0, b) ∷ filter (λ p. p.1) (enumerate_from 1 (map is_up sites))) (filter (λ p. p.1) (enumerate_from 1 (map is_up sites))))) 0 ≡ None → b ≡ false) [
      | true ↦ λ h. absurd (cc)
      | false ↦ λ h. refl
    ] e

down_there : (w : World) (k : ℕ) → IsAmong (down_replicas (view_of w)) k → IsThere w k false
unfolding down_replicas places view_of
down_there w k b =
    let f = found not 0 (map is_up w.sites) b.place k b.is in
    let same : f.place ≡ k = let a = f.at in omega (arith, a) in
    there w k false (ap (slice_get (map is_up w.sites)) (sym same) ∙ f.is ∙ ap Some (opposite_back f.element f.passes))

first_there : (w : World) → 1 ≤ length w.sites → slice_get (up_replicas (view_of w)) 0 ≡ None → IsThere w 0 false
unfolding up_replicas places view_of is_none_of is_up_at
first_there w some h = record { here = lt-leb (length w.sites) 0 some; stands = first_down w.sites some h }

start_can : (n : ℕ) (w : World) (k : ℕ) → HasFoundersAlone n w → CanStart (view_of w) k → IsThere w k false
start_can n w k founders (CanStart.one_down a) = down_there w k a
start_can n w k founders (CanStart.none_up z e) =
    let some : 1 ≤ length w.sites = let a = founders.some in let b = founders.replicas in omega (arith, a, b) in
    subst (λ j. IsThere w j false) (sym z) (first_there w some e)

event_can : (n : ℕ) (w : World) (e : Event) → HasFoundersAlone n w → CanHappen n (view_of w) e → first_bad (causes_of w (act_of e)) ≡ None
unfolding causes_of act_of
event_can n w (Event.One single) founders can = single_can n w single founders can
event_can n w (Event.Lose i) founders can = let c = lose_can w i can in past _ Bad.NoSuchDatagram _ c.0 (past _ Bad.Used _ c.1 none)
event_can n w (Event.Crash r) founders can = up_can w r can
event_can n w (Event.Start k) founders can =
    let t = start_can n w k founders can in
    past _ Bad.NoSuchReplica _ (ap (λ b. b && not (is_next_new w k)) t.here) (past _ Bad.IsUp _ t.stands none)
event_can n w (Event.Settle reading) founders can = none
event_can n w (Event.CutLost single) founders can = absurd can
event_can n w (Event.CutKept sends single) founders can = single_can n w single founders can
event_can n w (Event.Batch reading is) founders can = absurd can
event_can n w (Event.CutLostBatch reading is) founders can = absurd can
event_can n w (Event.CutAt calls fill single) founders can = absurd can

pub possible_in : (n : ℕ) (w : World) (e : Event) → HasFoundersAlone n w → is_full w ≡ false → CanHappen n (view_of w) e → possible w (act_of e) ≡ None
unfolding possible
possible_in n w e founders room can = past _ (Bad.Full w.bytes) _ room (event_can n w e founders can)

-- ---- what starts

below : (w : World) (k : ℕ) → is_none_of w k ≡ false → k < length w.sites
unfolding is_none_of
below w k e = leb-false (length w.sites) k e

starts_founder : (n : ℕ) (w : World) (e : Event) → HasFoundersAlone n w → CanHappen n (view_of w) e → StartsAFounder n (act_of e)
unfolding act_of
starts_founder n w (Event.One single) founders can = tt
starts_founder n w (Event.Lose i) founders can = tt
starts_founder n w (Event.Crash r) founders can = tt
starts_founder n w (Event.Start k) founders can = subst (λ size. k < size) founders.replicas (below w k (start_can n w k founders can).here)
starts_founder n w (Event.Settle reading) founders can = tt
starts_founder n w (Event.CutLost single) founders can = tt
starts_founder n w (Event.CutKept sends single) founders can = tt
starts_founder n w (Event.Batch reading is) founders can = tt
starts_founder n w (Event.CutLostBatch reading is) founders can = tt
starts_founder n w (Event.CutAt calls fill single) founders can = tt

pub next_in : (n : ℕ) (w : World) (e : Event) → HasFoundersAlone n w → is_full w ≡ false → CanHappen n (view_of w) e → IsNext n w (act_of e)
next_in n w e founders room can = record { possible_here = possible_in n w e founders room can; founder = starts_founder n w e founders can }
