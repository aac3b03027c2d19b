-- The facts of a possible act.
use Rattle.std.proofs.Common.{◌≡◌, ◌<◌, ◌≤◌, ℕ, zero, suc, Bool, true, false, ◌&&◌, ◌||◌, ◌==◌, not, cond, List, [], ◌∷◌, ◌++◌, length, Option, Some, None, refl, ap, sym, ◌∙◌, arith, ne_eqb}
use Rattle.std.specs.Prelude.{nat_lt, slice_get, is_some}
use Rattle.std.specs.List.{list_any}
use Rattle.std.specs.Option.{option_map_or}
use Rattle.std.proofs.lemmas.Bool.{leb-false, ltb-true, eqb-true}
use Rattle.crsm_base.specs.MessageReading.{datagram_of}
use Rattle.crsm_schedule.specs.declared.Single.{Single}
use Rattle.crsm_spec.specs.Log.{Log}
use Rattle.crsm_spec.specs.Replica.{Replica}
use Rattle.crsm_spec.specs.Acts.{Act, Bad as Cause}
use Rattle.crsm_spec.specs.World.{Site, Packet, World, is_up, is_up_at, is_full}
use Rattle.crsm_spec.specs.Possible.{first_bad, possible, causes_of, causes_of_single, causes_of_batch, causes_at, is_none_of, is_next_new, is_down_at, is_not_sent, is_receiver_down, is_used, receivers, are_mixed}
use Rattle.crsm_world.specs.Doing.{single_of}
use Rattle.crsm_sim_network.specs.Packets.{receiver_or}
use Rattle.crsm_world.specs.Machines.{roomed}
use Rattle.crsm_world.specs.Turning.{IsGenuine}
use Rattle.crsm_world.specs.Several.{IsFor, AreFor}
use Rattle.crsm_world.specs.Starting.{CanStart}
use Rattle.crsm_world.proofs.Reasons.{mixed}
use Rattle.crsm_world.proofs.Booting.{room_is}

pub first_none : (b : Bool) (c : Cause) (cs : List (Bool × Cause)) → first_bad ((b, c) ∷ cs) ≡ None → (b ≡ false) × (first_bad cs ≡ None)
unfolding first_bad
first_none true c cs e = cc
first_none false c cs e = (refl, e)

-- the causes of an act that is possible
pub none_of : (v : World) (a : Act) → possible v a ≡ None → first_bad (causes_of v a) ≡ None
unfolding possible
none_of v a e = (first_none (is_full v) (Cause.Full v.bytes) (causes_of v a) e).1

none_some : {X : Type 0} (o : Option X) → is_some o ≡ false → o ≡ None
none_some None e = refl
none_some (Some x) e = cc

pub genuine : (v : World) (s : Single) → first_bad (causes_of_single v (single_of s)) ≡ None → IsGenuine s
unfolding causes_of_single single_of
genuine v (Single.Request k t c) e = tt
genuine v (Single.Go i t) e = tt
genuine v (Single.Again i t) e = tt
genuine v (Single.Tick k t) e = tt
genuine v (Single.Suspect k t ms) e = tt
genuine v (Single.Junk k t bytes) e =
    none_some (datagram_of bytes) (first_none (is_some (datagram_of bytes)) _ _ (first_none (is_down_at v k) _ _ (first_none (is_none_of v k) _ _ e).1).1).0

not_false : (b : Bool) → not b ≡ false → b ≡ true
not_false true e = refl
not_false false e = cc

pub up_here : (v : World) (k : ℕ) → first_bad (causes_at v k) ≡ None → is_up_at v k ≡ true
unfolding causes_at is_down_at
up_here v k e = not_false (is_up_at v k) (first_none (not (is_up_at v k)) _ _ (first_none (is_none_of v k) _ _ e).1).0

-- ---- a boot

down_there : (ps : List Site) (k : ℕ) → k < length ps → option_map_or is_up (slice_get ps k) false ≡ false → (log : Log) × (slice_get ps k ≡ Some (Site.Down log))
unfolding is_up
down_there [] k l e = absurd (omega arith)
down_there (Site.Up r ∷ ps) zero l e = cc
down_there (Site.Down log ∷ ps) zero l e = (log, refl)
down_there (p ∷ ps) (suc k) l e = down_there ps k (omega arith) e

last_there : (ps : List Site) (p : Site) → slice_get (ps ++ p ∷ []) (length ps) ≡ Some p
last_there [] p = refl
last_there (q ∷ ps) p = last_there ps p

and_not : (a b : Bool) → (a && not b) ≡ false → a ≡ true → b ≡ true
and_not true true e f = refl
and_not true false e f = cc
and_not false b e f = cc

and_both : (a b : Bool) → (a && b) ≡ true → (a ≡ true) × (b ≡ true)
and_both true true e = (refl, refl)
and_both true false e = cc
and_both false b e = cc

new_one : (v : World) (k : ℕ) → is_next_new v k ≡ true → CanStart v k
unfolding is_next_new roomed
new_one v k e =
    let both = and_both (k == length v.sites) (nat_lt k 15) e in
    let here : k ≡ length v.sites = eqb-true k (length v.sites) both.0 in
    record {
      below = ltb-true k 15 both.1;
      log = [];
      down = ap (λ (u : World). slice_get u.sites k) (room_is v k) ∙ ap (λ b. slice_get (cond b (v.sites ++ Site.Down [] ∷ []) v.sites) k) both.0
          ∙ ap (slice_get (v.sites ++ Site.Down [] ∷ [])) here ∙ last_there v.sites (Site.Down []);
    }

old_one : (v : World) (k : ℕ) → length v.sites ≤ 15 → is_none_of v k ≡ false → option_map_or is_up (slice_get v.sites k) false ≡ false → CanStart v k
unfolding is_none_of roomed
old_one v k few e f =
    let l = leb-false (length v.sites) k e in
    let other : (k == length v.sites) ≡ false = ne_eqb k (length v.sites) (λ g. absurd (omega arith)) in
    let d = down_there v.sites k l f in
    record {
      below = omega arith;
      log = d.0;
      down = ap (λ (u : World). slice_get u.sites k) (room_is v k) ∙ ap (λ b. slice_get (cond b (v.sites ++ Site.Down [] ∷ []) v.sites) k) other ∙ d.1;
    }

start_by : (v : World) (k : ℕ) (b : Bool) → length v.sites ≤ 15 → is_none_of v k ≡ b → (is_none_of v k && not (is_next_new v k)) ≡ false → option_map_or is_up (slice_get v.sites k) false ≡ false → CanStart v k
start_by v k true few e f g = new_one v k (and_not (is_none_of v k) (is_next_new v k) f e)
start_by v k false few e f g = old_one v k few e g

pub can_start : (v : World) (k : ℕ) → length v.sites ≤ 15 → first_bad (causes_of v (Act.Start k)) ≡ None → CanStart v k
unfolding causes_of is_up_at
can_start v k few e =
    let f = first_none (is_none_of v k && not (is_next_new v k)) _ _ e in
    let g = first_none (option_map_or is_up (slice_get v.sites k) false) _ _ f.1 in
    start_by v k (is_none_of v k) few refl f.0 g.0

-- ---- deliveries together

or_none : (a b : Bool) → (a || b) ≡ false → (a ≡ false) × (b ≡ false)
or_none true b e = cc
or_none false b e = (refl, e)

some_there : (xs : List Packet) (i : ℕ) → i < length xs → (x : Packet) × (slice_get xs i ≡ Some x)
some_there [] i l = absurd (omega arith)
some_there (x ∷ xs) zero l = (x, refl)
some_there (x ∷ xs) (suc i) l = some_there xs i (omega arith)

for_it : (v : World) (k i : ℕ) → is_not_sent v i ≡ false → receiver_or v.packets i ≡ k → IsFor k v.packets i
unfolding is_not_sent receiver_or
for_it v k i e f =
    let m = some_there v.packets i (leb-false (length v.packets) i e) in
    record { found = m.0; is = m.1; receiver = sym (ap (λ o. option_map_or (λ p. p.to) o 0) m.1) ∙ f }

all_for : (v : World) (k : ℕ) (is : List ℕ) → list_any (is_not_sent v) is ≡ false → list_any (λ j. not (receiver_or v.packets j == k)) is ≡ false → AreFor k v.packets is
all_for v k [] e f = tt
all_for v k (i ∷ is) e f =
    let a = or_none (is_not_sent v i) _ e in
    let b = or_none (not (receiver_or v.packets i == k)) _ f in
    (for_it v k i a.0 (eqb-true (receiver_or v.packets i) k (not_false _ b.0)), all_for v k is a.1 b.1)

-- the receiver of them all, which is up
pub record ForOne (v : World) (is : List ℕ) : Type 0 where
  pub receiver : ℕ
  pub replica : Replica
  pub up : slice_get v.sites receiver ≡ Some (Site.Up replica)
  pub all : AreFor receiver v.packets is

up_there : (v : World) (k : ℕ) → is_down_at v k ≡ false → (r : Replica) × (slice_get v.sites k ≡ Some (Site.Up r))
unfolding is_down_at is_up_at is_up
up_there v k e = go (slice_get v.sites k) (not_false _ e)
  where
    go : (o : Option Site) → option_map_or is_up o false ≡ true → (r : Replica) × (o ≡ Some (Site.Up r))
    go (Some (Site.Up r)) f = (r, refl)
    go (Some (Site.Down log)) f = cc
    go None f = cc

receiver_up : (v : World) (k i : ℕ) → IsFor k v.packets i → is_receiver_down v i ≡ false → is_down_at v k ≡ false
unfolding is_receiver_down
receiver_up v k i f e = ap (is_down_at v) (sym f.receiver) ∙ sym (ap (λ o. option_map_or (λ m. is_down_at v m.to) o false) f.is) ∙ e

pub for_one : (v : World) (is : List ℕ) → 1 ≤ length is → first_bad (causes_of_batch v is) ≡ None → ForOne v is
unfolding causes_of_batch
for_one v [] l e = absurd (omega arith)
for_one v (i ∷ is) l e =
    let a = first_none (list_any (is_not_sent v) (i ∷ is)) _ _ e in
    let b = first_none (list_any (is_used v) (i ∷ is)) _ _ a.1 in
    let c = first_none (are_mixed (receivers v (i ∷ is))) _ _ b.1 in
    let d = first_none (list_any (is_receiver_down v) (i ∷ is)) _ _ c.1 in
    let k = receiver_or v.packets i in
    let one = for_it v k i (or_none (is_not_sent v i) _ a.0).0 refl in
    let others = all_for v k is (or_none (is_not_sent v i) _ a.0).1 (sym (mixed v i is a.0) ∙ c.0) in
    let up = up_there v k (receiver_up v k i one (or_none (is_receiver_down v i) _ d.0).0) in
    record { receiver = k; replica = up.0; up = up.1; all = (one, others) }
