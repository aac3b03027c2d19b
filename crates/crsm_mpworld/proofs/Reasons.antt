-- The reasons of refusals, one by one.
use Rattle.std.proofs.Common.{◌≡◌, ◌<◌, ◌≤◌, ℕ, Bool, true, false, ◌||◌, not, cond, List, [], ◌∷◌, length, Option, Some, None, refl, ap, sym, ◌∙◌, arith}
use Rattle.std.specs.Prelude.{nat_le, nat_lt, slice_get, option_map}
use Rattle.std.specs.List.{list_any}
use Rattle.std.specs.Option.{option_map_or}
use Rattle.std.proofs.lemmas.Bool.{le-leb, lt-leb}
use Rattle.crsm_spec.specs.Acts.{Act, Bad}
use Rattle.crsm_spec.specs.Choice.{when◌then◌otherwise◌}
use Rattle.crsm_spec.specs.Paxos.{majority}
use Rattle.crsm_spec.specs.Possible.{first_bad}
use Rattle.crsm_mpspec.specs.World.{Packet, World, is_up_at, is_full}
use Rattle.crsm_mpspec.specs.Possible.{Cause, possible, causes_of, is_not_here, is_none_of, is_down_at, is_not_sent, is_receiver_down, is_used}
use Rattle.crsm_mpworld.specs.Sites.{is_up_in}
use Rattle.crsm_mpworld.specs.Packets.{is_used_at, receiver_of}
use Rattle.crsm_mpworld.specs.Refusing.{first_met}

-- the first cause holds
pub hit : (b : Bool) (c : Bad) (cs : List (Bool × Bad)) → b ≡ true → first_met ((b, c) ∷ cs) ≡ Some (Cause.Met c)
unfolding first_met first_bad
hit b c cs e = ap (λ x. option_map (λ why. Cause.Met why) (cond x (Some c) (first_bad cs))) e

-- it does not
pub pass : (b : Bool) (c : Bad) (cs : List (Bool × Bad)) → b ≡ false → first_met ((b, c) ∷ cs) ≡ first_met cs
unfolding first_met first_bad
pass b c cs e = ap (λ x. option_map (λ why. Cause.Met why) (cond x (Some c) (first_bad cs))) e

pub no_more : first_met [] ≡ None
unfolding first_met first_bad
no_more = refl

-- ---- acts with and without a meaning here

pub not_here : (v : World) (a : Act) → is_not_here a ≡ true → possible v a ≡ Some Cause.NotHere
unfolding possible when◌then◌otherwise◌
not_here v a e = ap (λ b. when b then Some Cause.NotHere otherwise option_map (λ why. Cause.Met why) (first_bad ((is_full v, Bad.Full v.bytes) ∷ causes_of v a))) e

pub here : (v : World) (a : Act) → is_not_here a ≡ false → possible v a ≡ first_met ((is_full v, Bad.Full v.bytes) ∷ causes_of v a)
unfolding possible when◌then◌otherwise◌ first_met
here v a e = ap (λ b. when b then Some Cause.NotHere otherwise option_map (λ why. Cause.Met why) (first_bad ((is_full v, Bad.Full v.bytes) ∷ causes_of v a))) e

-- ---- replicas

le_true : (a b : ℕ) → a ≤ b → nat_le a b ≡ true
le_true a b l = le-leb a b l

le_false : (a b : ℕ) → b < a → nat_le a b ≡ false
le_false a b l = lt-leb a b l

pub none : (v : World) (k n : ℕ) → n ≡ length v.sites → n ≤ k → is_none_of v k ≡ true
unfolding is_none_of
none v k n e l = le_true (length v.sites) k (let f = e in omega arith)

pub there : (v : World) (k n : ℕ) → n ≡ length v.sites → k < n → is_none_of v k ≡ false
unfolding is_none_of
there v k n e l = le_false (length v.sites) k (let f = e in omega arith)

up_is : (v : World) (k : ℕ) → is_up_at v k ≡ is_up_in v.sites k
unfolding is_up_at is_up_in
up_is v k = refl

pub up_as : (v : World) (k : ℕ) (b x : Bool) → b ≡ is_up_in v.sites k → b ≡ x → is_up_at v k ≡ x
up_as v k b x e f = up_is v k ∙ sym e ∙ f

pub down_as : (v : World) (k : ℕ) (b x : Bool) → b ≡ is_up_in v.sites k → b ≡ x → is_down_at v k ≡ not x
unfolding is_down_at
down_as v k b x e f = ap not (up_as v k b x e f)

pub any_none : (v : World) (n : ℕ) (ks : List ℕ) → n ≡ length v.sites → list_any (nat_le n) ks ≡ list_any (is_none_of v) ks
unfolding is_none_of
any_none v n [] e = refl
any_none v n (k ∷ ks) e = ap (λ m. nat_le m k || list_any (nat_le n) ks) e ∙ ap (λ b. nat_le (length v.sites) k || b) (any_none v n ks e)

-- k is no replica, or one of these is none
pub lacks : (v : World) (k : ℕ) (ks : List ℕ) → is_none_of v k ≡ true → list_any (is_none_of v) (k ∷ ks) ≡ true
lacks v k ks e = ap (λ b. b || list_any (is_none_of v) ks) e

-- k is a replica
pub has_all : (v : World) (k : ℕ) (ks : List ℕ) (x : Bool) → is_none_of v k ≡ false → list_any (is_none_of v) ks ≡ x → list_any (is_none_of v) (k ∷ ks) ≡ x
has_all v k ks x e f = ap (λ b. b || list_any (is_none_of v) ks) e ∙ f

pub few_as : (v : World) (ks : List ℕ) (n count : ℕ) (b x : Bool) → n ≡ v.n → count ≡ length ks → b ≡ nat_lt count (majority n) → b ≡ x → nat_lt (length ks) (majority v.n) ≡ x
few_as v ks n count b x e f g h = ap (λ m. nat_lt m (majority v.n)) (sym f) ∙ ap (λ m. nat_lt count (majority m)) (sym e) ∙ sym g ∙ h

pub down_is : (v : World) (k : ℕ) (b : Bool) → b ≡ is_up_in v.sites k → is_down_at v k ≡ not b
unfolding is_down_at
down_is v k b e = ap not (up_is v k ∙ sym e)

-- ---- messages

pub unsent : (v : World) (i n : ℕ) → n ≡ length v.packets → n ≤ i → is_not_sent v i ≡ true
unfolding is_not_sent
unsent v i n e l = le_true (length v.packets) i (let f = e in omega arith)

pub sent : (v : World) (i n : ℕ) → n ≡ length v.packets → i < n → is_not_sent v i ≡ false
unfolding is_not_sent
sent v i n e l = le_false (length v.packets) i (let f = e in omega arith)

used_is : (v : World) (i : ℕ) → is_used v i ≡ is_used_at v.packets i
unfolding is_used is_used_at
used_is v i = refl

pub used_as : (v : World) (i : ℕ) (b x : Bool) → b ≡ is_used_at v.packets i → b ≡ x → is_used v i ≡ x
used_as v i b x e f = used_is v i ∙ sym e ∙ f

pub receiver_down : (v : World) (i to : ℕ) → Some to ≡ receiver_of v.packets i → is_receiver_down v i ≡ is_down_at v to
unfolding is_receiver_down receiver_of
receiver_down v i to e = at (slice_get v.packets i) e
  where
    at : (o : Option Packet) → Some to ≡ option_map (λ m. m.to) o → option_map_or (λ m. is_down_at v m.to) o false ≡ is_down_at v to
    at (Some m) f = let g : m.to ≡ to = cc in ap (is_down_at v) g
    at None f = cc

pub no_receiver : (v : World) (i : ℕ) → None ≡ receiver_of v.packets i → is_receiver_down v i ≡ false
unfolding is_receiver_down receiver_of
no_receiver v i e = at (slice_get v.packets i) e
  where
    at : (o : Option Packet) → None ≡ option_map (λ m. m.to) o → option_map_or (λ m. is_down_at v m.to) o false ≡ false
    at (Some m) f = cc
    at None f = refl
