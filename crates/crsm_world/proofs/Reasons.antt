-- The reasons of refusals, one by one.
use Rattle.std.proofs.Common.{◌≡◌, ◌<◌, ◌≤◌, ◌+◌, ℕ, zero, suc, Bool, true, false, ◌&&◌, ◌||◌, ◌==◌, not, cond, List, [], ◌∷◌, length, map, get_or, take, Option, Some, None, refl, ap, sym, ◌∙◌, subst, arith, eq-eqb, ne_eqb}
use Rattle.std.specs.Prelude.{nat_le, nat_lt, slice_get, option_map, Result, Ok, Err, OnOk}
use Rattle.std.specs.List.{list_any}
use Rattle.std.specs.Option.{option_map_or}
use Rattle.std.proofs.lemmas.Bool.{le-leb, lt-leb, leb-false}
use Rattle.std.proofs.lemmas.List.{take_all}
use Rattle.std.proofs.lemmas.List.Folds.{list_any_more, list_any_at}
use Rattle.crsm_spec.specs.Acts.{Bad as Cause}
use Rattle.crsm_spec.specs.World.{Site, Packet, World, is_up, is_up_at, log_at, log_of}
use Rattle.crsm_spec.specs.Log.{spec}
use Rattle.crsm_sim_machine.specs.Outcomes.{spec_at}
use Rattle.crsm_spec.specs.Possible.{first_bad, is_none_of, is_next_new, is_down_at, is_not_sent, is_receiver_down, is_used, receivers, are_mixed, are_too_few}
use Rattle.crsm_schedule.specs.declared.Event.{Event}
use Rattle.crsm_world.specs.declared.machines.Machines.{Machines}
use Rattle.crsm_world.specs.Machines.{is_up_in, spec_in}
use Rattle.crsm_world.specs.Starting.{IsReady}
use Rattle.crsm_sim_network.specs.Packets.{is_used_at, receiver_of, receiver_or}

-- the first cause holds
pub hit : (b : Bool) (c : Cause) (cs : List (Bool × Cause)) → b ≡ true → first_bad ((b, c) ∷ cs) ≡ Some c
unfolding first_bad
hit b c cs e = ap (λ x. cond x (Some c) (first_bad cs)) e

-- it does not
pub pass : (b : Bool) (c : Cause) (cs : List (Bool × Cause)) → b ≡ false → first_bad ((b, c) ∷ cs) ≡ first_bad cs
unfolding first_bad
pass b c cs e = ap (λ x. cond x (Some c) (first_bad cs)) e

pub no_more : first_bad [] ≡ None
unfolding first_bad
no_more = refl

le_true : (a b : ℕ) → a ≤ b → nat_le a b ≡ true
le_true a b l = le-leb a b l

le_false : (a b : ℕ) → b < a → nat_le a b ≡ false
le_false a b l = lt-leb a b l

-- ---- replicas

pub none : (v : World) (k n : ℕ) → n ≡ length v.sites → n ≤ k → is_none_of v k ≡ true
unfolding is_none_of
none v k n e l = le_true (length v.sites) k (let f = e in omega arith)

pub there : (v : World) (k n : ℕ) → n ≡ length v.sites → k < n → is_none_of v k ≡ false
unfolding is_none_of
there v k n e l = le_false (length v.sites) k (let f = e in omega arith)

pub up_is : (v : World) (k : ℕ) → is_up_at v k ≡ is_up_in v.sites k
unfolding is_up_at is_up_in
up_is v k = refl

pub up_as : (v : World) (k : ℕ) (b x : Bool) → b ≡ is_up_in v.sites k → b ≡ x → is_up_at v k ≡ x
up_as v k b x e f = up_is v k ∙ sym e ∙ f

pub down_as : (v : World) (k : ℕ) (b x : Bool) → b ≡ is_up_in v.sites k → b ≡ x → is_down_at v k ≡ not x
unfolding is_down_at
down_as v k b x e f = ap not (up_as v k b x e f)

pub any_none : (v : World) (n : ℕ) (ks : List ℕ) → n ≡ length v.sites → list_any (nat_le n) ks ≡ list_any (is_none_of v) ks
unfolding is_none_of
any_none v n [] e = refl
any_none v n (k ∷ ks) e = ap (λ m. nat_le m k || list_any (nat_le n) ks) e ∙ ap (λ b. nat_le (length v.sites) k || b) (any_none v n ks e)

pub next_none : (v : World) (n k : ℕ) (b : Bool) → n ≡ length v.sites → b ≡ (nat_le n k && not (k == n && nat_lt k 15)) → b ≡ (is_none_of v k && not (is_next_new v k))
unfolding is_none_of is_next_new
next_none v n k b e f = f ∙ ap (λ m. nat_le m k && not (k == m && nat_lt k 15)) e

pub down_is : (v : World) (k : ℕ) (b : Bool) → b ≡ is_up_in v.sites k → is_down_at v k ≡ not b
unfolding is_down_at
down_is v k b e = ap not (up_is v k ∙ sym e)

pub spec_up : (v : World) (k : ℕ) → is_up_at v k ≡ true → spec_in v.n v.sites k ≡ Some (spec v.n (log_at v k))
unfolding is_up_at is_up spec_in spec_at log_at log_of
spec_up v k e = at (slice_get v.sites k) e
  where
    at : (o : Option Site) → option_map_or is_up o false ≡ true → option_map_or (spec_at v.n) o None ≡ Some (spec v.n (option_map_or log_of o []))
    at (Some (Site.Up r)) f = refl
    at (Some (Site.Down log)) f = cc
    at None f = cc

-- ---- datagrams

pub unsent : (v : World) (i n : ℕ) → n ≡ length v.packets → n ≤ i → is_not_sent v i ≡ true
unfolding is_not_sent
unsent v i n e l = le_true (length v.packets) i (let f = e in omega arith)

pub sent : (v : World) (i n : ℕ) → n ≡ length v.packets → i < n → is_not_sent v i ≡ false
unfolding is_not_sent
sent v i n e l = le_false (length v.packets) i (let f = e in omega arith)

pub used_is : (v : World) (i : ℕ) → is_used v i ≡ is_used_at v.packets i
unfolding is_used is_used_at
used_is v i = refl

pub used_as : (v : World) (i : ℕ) (b x : Bool) → b ≡ is_used_at v.packets i → b ≡ x → is_used v i ≡ x
used_as v i b x e f = used_is v i ∙ sym e ∙ f

pub receiver_down : (v : World) (i to : ℕ) → Some to ≡ receiver_of v.packets i → is_receiver_down v i ≡ is_down_at v to
unfolding is_receiver_down receiver_of
receiver_down v i to e = at (slice_get v.packets i) e
  where
    at : (o : Option Packet) → Some to ≡ option_map (λ m. m.to) o → option_map_or (λ m. is_down_at v m.to) o false ≡ is_down_at v to
    at (Some m) f = let g : m.to ≡ to = cc in ap (is_down_at v) g
    at None f = cc

pub no_receiver : (v : World) (i : ℕ) → None ≡ receiver_of v.packets i → is_receiver_down v i ≡ false
unfolding is_receiver_down receiver_of
no_receiver v i e = at (slice_get v.packets i) e
  where
    at : (o : Option Packet) → None ≡ option_map (λ m. m.to) o → option_map_or (λ m. is_down_at v m.to) o false ≡ false
    at (Some m) f = cc
    at None f = refl

-- ---- one of several

pub any_here : (p : ℕ → Bool) (xs : List ℕ) (i : ℕ) → i < length xs → p (get_or xs i 0) ≡ true → list_any p xs ≡ true
any_here p xs i l e = list_any_at p xs i 0 l e

pub any_next : (p : ℕ → Bool) (xs : List ℕ) (i : ℕ) → i < length xs → list_any p (take i xs) ≡ false → p (get_or xs i 0) ≡ false → list_any p (take (i + 1) xs) ≡ false
any_next p xs i l e f = list_any_more p xs i 0 l ∙ cc

pub any_end : (p : ℕ → Bool) (xs : List ℕ) (i : ℕ) → length xs ≤ i → list_any p (take i xs) ≡ false → list_any p xs ≡ false
any_end p xs i l e = ap (list_any p) (sym (take_all i xs l)) ∙ e

or_left : (a b : Bool) → (a || b) ≡ false → a ≡ false
or_left true b f = f
or_left false b f = refl

or_right : (a b : Bool) → (a || b) ≡ false → b ≡ false
or_right true b f = cc
or_right false b f = f

some_there : (xs : List Packet) (i : ℕ) → i < length xs → (x : Packet) × (slice_get xs i ≡ Some x)
some_there [] i l = absurd (omega arith)
some_there (x ∷ xs) zero l = (x, refl)
some_there (x ∷ xs) (suc i) l = some_there xs i (omega arith)

-- the receivers of datagrams that were all sent
pub all_receivers : (v : World) (is : List ℕ) → list_any (is_not_sent v) is ≡ false → receivers v is ≡ map (receiver_or v.packets) is
unfolding receivers receiver_or is_not_sent
all_receivers v [] e = refl
all_receivers v (i ∷ is) e =
    let m = some_there v.packets i (leb-false (length v.packets) i (or_left (nat_le (length v.packets) i) _ e)) in
    let rest = all_receivers v is (or_right (nat_le (length v.packets) i) _ e) in
    rw m.1 (ap (λ ks. m.0.to ∷ ks) rest)

any_mapped : (f : ℕ → ℕ) (p : ℕ → Bool) (xs : List ℕ) → list_any p (map f xs) ≡ list_any (λ x. p (f x)) xs
any_mapped f p [] = refl
any_mapped f p (x ∷ xs) = ap (λ b. p (f x) || b) (any_mapped f p xs)

pub mixed : (v : World) (i : ℕ) (is : List ℕ) → list_any (is_not_sent v) (i ∷ is) ≡ false → are_mixed (receivers v (i ∷ is)) ≡ list_any (λ j. not (receiver_or v.packets j == receiver_or v.packets i)) is
unfolding are_mixed
mixed v i is e = ap are_mixed (all_receivers v (i ∷ is) e) ∙ any_mapped (receiver_or v.packets) (λ j. not (j == receiver_or v.packets i)) is

pub not_mixed : (v : World) → are_mixed (receivers v []) ≡ false
unfolding are_mixed receivers
not_mixed v = refl

pub differs : (a b r : ℕ) → r ≡ a → (r ≡ b → ⊥) → not (a == b) ≡ true
differs a b r e ne = ap not (ne_eqb a b (λ f. ne (e ∙ f)))

pub agrees : (a b r : ℕ) → r ≡ a → r ≡ b → not (a == b) ≡ false
agrees a b r e f = ap not (eq-eqb a b (sym e ∙ f))

pub empty_is : (xs : List ℕ) → length xs ≡ 0 → xs ≡ []
empty_is [] e = refl
empty_is (x ∷ xs) e = absurd (omega arith)

pub few_as : (spec ms ns : List ℕ) (o : Option (List ℕ)) (b x : Bool) → o ≡ Some spec → o ≡ Some ns → b ≡ are_too_few ns ms → b ≡ x → are_too_few spec ms ≡ x
few_as spec ms ns o b x e f g h = let s : spec ≡ ns = cc in ap (λ ks. are_too_few ks ms) s ∙ sym g ∙ h

-- ---- what an event needs

pub ready_here : (sites : Machines) (e d : Event) → e ≡ d → IsReady d sites → IsReady e sites
ready_here sites e d same h = subst (λ (f : Event). IsReady f sites) (sym same) h

pub ready_any : {T E : Type 0} (r : Result T E) (sites : Machines) (e d : Event) → e ≡ d → IsReady d sites → OnOk r (IsReady e sites)
ready_any (Ok x) sites e d same h = ready_here sites e d same h
ready_any (Err x) sites e d same h = tt
