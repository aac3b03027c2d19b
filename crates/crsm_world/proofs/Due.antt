-- Which datagrams can be delivered.
use Rattle.std.proofs.Common.{◌≡◌, ◌<◌, ◌+◌, ℕ, zero, suc, Bool, false, ◌&&◌, not, List, [], ◌∷◌, ◌++◌, length, map, take, get_or, ap, sym, refl, ◌∙◌, arith}
use Rattle.std.specs.Prelude.{slice_get, filter}
use Rattle.std.specs.List.{enumerate_from}
use Rattle.std.specs.Option.{option_map_or}
use Rattle.std.proofs.lemmas.Bool.{lt-ltb}
use Rattle.std.proofs.lemmas.List.{take_more, map-append}
use Rattle.std.proofs.lemmas.Option.{get_or_from_slice_get}
use Rattle.crsm_spec.specs.World.{Site, World as Cluster, is_up, is_up_at}
use Rattle.crsm_spec.specs.Moments.{deliverable}
use Rattle.crsm_sim_network.specs.Packets.{is_fresh_for, is_up_among, numbers_of}
use Rattle.crsm_sim_network.proofs.Numbers.{filter_alike, numbers_fresh}
use Rattle.crsm_sim_machine.specs.declared.Machine.{Machine}
use Rattle.crsm_sim_machine.specs.Machine.{MachineStands}
use Rattle.crsm_world.specs.declared.machines.Machines.{Machines}
use Rattle.crsm_world.specs.Machines.{MachinesStand}
use Rattle.crsm_world.proofs.Sites.{machine_got, machines_length}

-- ---- who is up

pub ups_next : (sites : Machines) (n : ℕ) (places : List Site) (i : ℕ) (s : Machine) (ups : List Bool) (up : Bool) → MachinesStand sites n places → i < length sites.items.items
    → s ≡ get_or sites.items.items i s → ((p : Site) → MachineStands s i n p → up ≡ is_up p) → ups ≡ map is_up (take i places) → ups ++ up ∷ [] ≡ map is_up (take (i + 1) places)
ups_next sites n places i s ups up h l is f e =
    let r = machine_got sites n places i s sites.items.items h refl (sym (lt-ltb i (length sites.items.items) l)) is in
    ap (λ us. us ++ up ∷ []) e ∙ ap (λ u. map is_up (take i places) ++ u ∷ []) (f r.0 r.2)
    ∙ sym (map-append is_up (take i places) (r.0 ∷ []))
    ∙ ap (map is_up) (ap (λ p. take i places ++ p ∷ []) (sym (get_or_from_slice_get places i r.0 r.0 r.1)) ∙ sym (take_more places i r.0 (omega (arith, l, machines_length sites n places h))))

up_among : (ps : List Site) (k : ℕ) → is_up_among (map is_up ps) k ≡ option_map_or is_up (slice_get ps k) false
unfolding is_up_among
up_among [] k = refl
up_among (p ∷ ps) zero = refl
up_among (p ∷ ps) (suc k) = up_among ps k

-- those that can be delivered
pub those_due : (v : Cluster) → filter (is_fresh_for (is_up_among (map is_up v.sites)) v.packets) (numbers_of v.packets) ≡ deliverable v
unfolding deliverable is_up_at
those_due v =
    numbers_fresh (is_up_among (map is_up v.sites)) v.packets
    ∙ ap (map (λ p. p.0)) (filter_alike (λ p. not p.1.used && is_up_among (map is_up v.sites) p.1.to) (λ p. not p.1.used && is_up_at v p.1.to) (enumerate_from 0 v.packets) (λ p. ap (λ b. not p.1.used && b) (up_among v.sites p.1.to)))
