-- The facts of a possible act.
use Rattle.std.proofs.Common.{◌≡◌, ◌<◌, ℕ, zero, suc, Bool, true, false, not, List, [], ◌∷◌, length, Option, Some, None, refl, arith}
use Rattle.std.specs.Prelude.{slice_get, option_map}
use Rattle.std.specs.Option.{option_map_or}
use Rattle.std.proofs.lemmas.Bool.{leb-false}
use Rattle.crsm_spec.specs.Acts.{Act, Bad}
use Rattle.crsm_spec.specs.Choice.{when◌then◌otherwise◌}
use Rattle.crsm_spec.specs.Possible.{first_bad}
use Rattle.crsm_mpspec.specs.Log.{Log}
use Rattle.crsm_mpspec.specs.Replica.{Replica}
use Rattle.crsm_mpspec.specs.World.{Site, World, is_up, is_up_at, is_full}
use Rattle.crsm_mpspec.specs.Possible.{Cause, possible, causes_of, causes_at, is_not_here, is_none_of, is_down_at}

-- ---- causes

first_none : (b : Bool) (c : Bad) (cs : List (Bool × Bad)) → first_bad ((b, c) ∷ cs) ≡ None → (b ≡ false) × (first_bad cs ≡ None)
unfolding first_bad
first_none true c cs e = cc
first_none false c cs e = (refl, e)

no_cause : (o : Option Bad) → option_map (λ why. Cause.Met why) o ≡ None → o ≡ None
no_cause None e = refl
no_cause (Some c) e = cc

by_meaning : (b : Bool) (o : Option Bad) → when b then Some Cause.NotHere otherwise option_map (λ why. Cause.Met why) o ≡ None → (b ≡ false) × (o ≡ None)
unfolding when◌then◌otherwise◌
by_meaning true o e = cc
by_meaning false o e = (refl, no_cause o e)

pub meant : (v : World) (a : Act) → possible v a ≡ None → is_not_here a ≡ false
unfolding possible
meant v a e = (by_meaning (is_not_here a) (first_bad ((is_full v, Bad.Full v.bytes) ∷ causes_of v a)) e).0

-- the causes of an act that is possible
pub none_of : (v : World) (a : Act) → possible v a ≡ None → first_bad (causes_of v a) ≡ None
unfolding possible
none_of v a e = (first_none (is_full v) (Bad.Full v.bytes) (causes_of v a) (by_meaning (is_not_here a) (first_bad ((is_full v, Bad.Full v.bytes) ∷ causes_of v a)) e).1).1

-- ---- replicas

not_false : (b : Bool) → not b ≡ false → b ≡ true
not_false true e = refl
not_false false e = cc

-- replica k is up with some state
abbrev pub IsUp : World → ℕ → Type 0
IsUp v k = (r : Replica) × (slice_get v.sites k ≡ Some (Site.Up r))

up_there : (v : World) (k : ℕ) → is_down_at v k ≡ false → IsUp v k
unfolding is_down_at is_up_at is_up
up_there v k e = go (slice_get v.sites k) (not_false _ e)
  where
    go : (o : Option Site) → option_map_or is_up o false ≡ true → (r : Replica) × (o ≡ Some (Site.Up r))
    go (Some (Site.Up r)) f = (r, refl)
    go (Some (Site.Down log)) f = cc
    go None f = cc

pub up_here : (v : World) (k : ℕ) → first_bad (causes_at v k) ≡ None → IsUp v k
unfolding causes_at
up_here v k e = up_there v k (first_none (is_down_at v k) _ _ (first_none (is_none_of v k) _ _ e).1).0

-- replica k is down with some log
abbrev pub IsDown : World → ℕ → Type 0
IsDown v k = (log : Log) × (slice_get v.sites k ≡ Some (Site.Down log))

down_there : (ps : List Site) (k : ℕ) → k < length ps → option_map_or is_up (slice_get ps k) false ≡ false → (log : Log) × (slice_get ps k ≡ Some (Site.Down log))
unfolding is_up
down_there [] k l e = absurd (omega arith)
down_there (Site.Up r ∷ ps) zero l e = cc
down_there (Site.Down log ∷ ps) zero l e = (log, refl)
down_there (p ∷ ps) (suc k) l e = down_there ps k (omega arith) e

pub can_start : (v : World) (k : ℕ) → first_bad (causes_of v (Act.Start k)) ≡ None → IsDown v k
unfolding causes_of is_up_at is_none_of
can_start v k e =
    let f = first_none _ _ _ e in
    let g = first_none (option_map_or is_up (slice_get v.sites k) false) _ _ f.1 in
    down_there v.sites k (leb-false (length v.sites) k f.0) g.0
