-- Which messages can be delivered.
use Rattle.std.proofs.Common.{◌≡◌, ℕ, zero, suc, false, ◌&&◌, not, List, [], ◌∷◌, map, ap, refl, ◌∙◌}
use Rattle.std.specs.Prelude.{slice_get, filter}
use Rattle.std.specs.List.{enumerate_from}
use Rattle.std.specs.Option.{option_map_or}
use Rattle.crsm_mpspec.specs.World.{Site, World, is_up, is_up_at}
use Rattle.crsm_mpspec.specs.Moments.{deliverable}
use Rattle.crsm_mpworld.specs.Packets.{is_fresh_for, is_up_among, numbers_of}
use Rattle.crsm_mpworld.proofs.Numbers.{filter_alike, numbers_fresh}

up_among : (ps : List Site) (k : ℕ) → is_up_among (map is_up ps) k ≡ option_map_or is_up (slice_get ps k) false
unfolding is_up_among
up_among [] k = refl
up_among (p ∷ ps) zero = refl
up_among (p ∷ ps) (suc k) = up_among ps k

-- those that can be delivered
pub those_due : (v : World) → filter (is_fresh_for (is_up_among (map is_up v.sites)) v.packets) (numbers_of v.packets) ≡ deliverable v
unfolding deliverable is_up_at
those_due v =
    numbers_fresh (is_up_among (map is_up v.sites)) v.packets
    ∙ ap (map (λ p. p.0)) (filter_alike (λ p. not p.1.used && is_up_among (map is_up v.sites) p.1.to) (λ p. not p.1.used && is_up_at v p.1.to) (enumerate_from 0 v.packets) (λ p. ap (λ b. not p.1.used && b) (up_among v.sites p.1.to)))
