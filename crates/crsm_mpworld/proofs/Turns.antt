-- The effect of a step at a site.
use Rattle.std.proofs.Common.{◌≡◌, ℕ, zero, suc, true, false, cond, List, [], ◌∷◌, set, Option, Some, None, refl, ap, sym, ◌∙◌}
use Rattle.std.specs.Prelude.{slice_get, option_map}
use Rattle.std.specs.Option.{option_map_or}
use Rattle.crsm_mpspec.specs.declared.input.MpInput.{MpInput}
use Rattle.crsm_mpspec.specs.Replica.{Replica}
use Rattle.crsm_mpspec.specs.Step.{step}
use Rattle.crsm_mpspec.specs.World.{Site, Packet, World, Ending, is_up, is_up_at, log_of, log_at}
use Rattle.crsm_mpspec.specs.Moments.{silent, step_at, step_at_site, come, use_up}
use Rattle.crsm_mpworld.specs.declared.sent.PacketView.{PacketView}
use Rattle.crsm_mpworld.specs.Packets.{IsPacket, used_up}
use Rattle.crsm_mpworld.specs.Sites.{is_up_in, up_in}

-- ---- a replica that is up, or not

-- a place where k is up with a replica
pub record IsUp (places : List Site) (k j : ℕ) : Type 0 where
  pub replica : Replica
  pub number : j ≡ k
  pub up : slice_get places k ≡ Some (Site.Up replica)

pub up_found : (places : List Site) (k j : ℕ) → Some j ≡ up_in places k → IsUp places k j
unfolding up_in is_up_in is_up
up_found places k j e = at (slice_get places k) refl e
  where
    at : (o : Option Site) → slice_get places k ≡ o → Some j ≡ cond (option_map_or is_up o false) (Some k) None → IsUp places k j
    at (Some (Site.Up r)) f g = record { replica = r; number = cc; up = f }
    at (Some (Site.Down log)) f g = cc
    at None f g = cc

pub step_silent : (ends : Ending) (v : World) (k : ℕ) (input : MpInput) (from : ℕ) → None ≡ up_in v.sites k → step_at ends v k input from ≡ silent v v
unfolding step_at step_at_site up_in is_up_in is_up
step_silent ends v k input from e = at (slice_get v.sites k) e
  where
    at : (o : Option Site) → None ≡ cond (option_map_or is_up o false) (Some k) None → step_at_site ends v k input from o ≡ silent v v
    at (Some (Site.Up r)) g = cc
    at (Some (Site.Down log)) g = refl
    at None g = refl

pub step_here : (ends : Ending) (v : World) (k : ℕ) (input : MpInput) (from : ℕ) (r : Replica) → slice_get v.sites k ≡ Some (Site.Up r) → step_at ends v k input from ≡ ends v k (step r input from)
unfolding step_at step_at_site
step_here ends v k input from r e = ap (step_at_site ends v k input from) e

-- who is up is found
pub up_here : (places : List Site) (k : ℕ) → option_map_or is_up (slice_get places k) false ≡ true → None ≡ up_in places k → ⊥
unfolding up_in is_up_in
up_here places k e f = let g : None ≡ cond true (Some k) None = f ∙ ap (λ b. cond b (Some k) None) e in cc

-- ---- messages that come

pub come_missed : (ends : Ending) (v : World) (o : Option Packet) → o ≡ None → come ends v o ≡ silent v v
unfolding come
come_missed ends v o e = ap (come ends v) e

pub come_found : (ends : Ending) (v : World) (o : Option Packet) (m : PacketView) (p : Packet) → o ≡ Some p → IsPacket m p → come ends v o ≡ step_at ends v m.to m.input.now m.from
unfolding come
come_found ends v o m p e is =
    ap (come ends v) e ∙ ap (λ k. step_at ends v k (MpInput.Message p.message) p.from) (sym is.to)
    ∙ ap (λ i. step_at ends v m.to i p.from) (sym is.input) ∙ ap (step_at ends v m.to m.input.now) (sym is.from)

-- whether it was used makes no difference
come_same : (ends : Ending) (v : World) (o : Option Packet) → come ends v (option_map {T = Packet} (λ m. record m { used = true }) o) ≡ come ends v o
unfolding come
come_same ends v None = refl
come_same ends v (Some m) = refl

get_used : (packets : List Packet) (i : ℕ) → slice_get (used_up i packets) i ≡ option_map {T = Packet} (λ m. record m { used = true }) (slice_get packets i)
unfolding used_up
get_used [] i = refl
get_used (m ∷ packets) zero = refl
get_used (m ∷ packets) (suc i) = at (slice_get packets i) refl (get_used packets i)
  where
    at : (o : Option Packet) → slice_get packets i ≡ o → slice_get (option_map_or (λ p. set packets i (record p { used = true })) (slice_get packets i) packets) i ≡ option_map {T = Packet} (λ m. record m { used = true }) (slice_get packets i)
        → slice_get (option_map_or (λ p. m ∷ set packets i (record p { used = true })) o (m ∷ packets)) (suc i) ≡ option_map {T = Packet} (λ m. record m { used = true }) o
    at (Some p) e f = (rw e at f)
    at None e f = e

pub come_used : (ends : Ending) (v : World) (i : ℕ) → come ends (use_up i v) (slice_get (use_up i v).packets i) ≡ come ends (use_up i v) (slice_get v.packets i)
unfolding use_up used_up
come_used ends v i = ap (come ends (use_up i v)) (get_used v.packets i) ∙ come_same ends (use_up i v) (slice_get v.packets i)

-- ---- a site that was set twice

pub set_twice : (ps : List Site) (k : ℕ) (a b : Site) → set (set ps k a) k b ≡ set ps k b
set_twice [] k a b = refl
set_twice (p ∷ ps) zero a b = refl
set_twice (p ∷ ps) (suc k) a b = ap (λ qs. p ∷ qs) (set_twice ps k a b)

pub get_set : (ps : List Site) (k : ℕ) (a p : Site) → slice_get ps k ≡ Some p → slice_get (set ps k a) k ≡ Some a
get_set [] k a p e = cc
get_set (q ∷ ps) zero a p e = refl
get_set (q ∷ ps) (suc k) a p e = get_set ps k a p e

pub log_here : (v : World) (k : ℕ) (p : Site) → slice_get v.sites k ≡ Some p → log_at v k ≡ log_of p
unfolding log_at
log_here v k p e = ap (λ o. option_map_or log_of o []) e

pub is_up_there : (v : World) (k : ℕ) → (r : Replica) × (slice_get v.sites k ≡ Some (Site.Up r)) → is_up_at v k ≡ true
unfolding is_up_at is_up
is_up_there v k u = ap (λ o. option_map_or is_up o false) u.1
