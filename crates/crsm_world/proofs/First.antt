-- The first world, boot by boot.
use Rattle.std.proofs.Common.{◌≡◌, ◌<◌, ◌≤◌, ◌+◌, ℕ, cond, List, [], ◌∷◌, ◌++◌, length, map, set, Some, refl, ap, sym, ◌∙◌, subst, arith, append-nil, eq-eqb}
use Rattle.std.specs.Prelude.{slice_get, sum_by}
use Rattle.std.specs.List.{range_with_len, flat_map}
use Rattle.std.proofs.Math.Seq.{set-append_seam}
use Rattle.std.proofs.lemmas.Option.{none-some, slice_get_past}
use Rattle.std.proofs.lemmas.Bool.{lt-ltb}
use Rattle.std.proofs.lemmas.List.{map-append, length-map}
use Rattle.std.proofs.lemmas.List.FromFn.{length-range_with_len}
use Rattle.std.proofs.lemmas.List.Sums.{sum_by-append}
use Rattle.std.proofs.lemmas.Grind.{flat_map-append}
use Rattle.crsm_spec.specs.Types.{Line}
use Rattle.crsm_spec.specs.Choice.{when◌then◌otherwise◌}
use Rattle.crsm_spec.specs.Lists.{numbers_below}
use Rattle.crsm_spec.specs.Draft.{begun, keep}
use Rattle.crsm_spec.specs.Step.{boot, first_boot, founding_boot, boot_again}
use Rattle.crsm_spec.specs.World.{Site, World as Cluster, Moment, begin, first_lines, body_size, packets_size, send_lines, whole_step, after_step, log_at}
use Rattle.crsm_spec.specs.Moments.{begun_at, with_room, start_at}
use Rattle.crsm_world.specs.declared.world.World.{World}
use Rattle.crsm_world.specs.declared.machines.Machines.{Machines}
use Rattle.crsm_world.specs.Machines.{IsNotUpAt, MachinesStand, roomed}
use Rattle.crsm_sim_network.specs.Packets.{NetworkStands}
use Rattle.crsm_world.specs.World.{Holds, Leads}
use Rattle.crsm_world.specs.Starting.{CanStart}
use Rattle.crsm_sim_network.proofs.Numbers.{range_more}
use Rattle.crsm_world.proofs.Sites.{machines_length}
use Rattle.crsm_world.proofs.Turns.{log_here}
use Rattle.crsm_world.proofs.Booting.{room_is, log_down}

-- replica k after its first boot
pub site_of : ℕ → ℕ → Site
site_of n k = Site.Up (founding_boot k n).replica

size_of : ℕ → ℕ → ℕ
size_of n k = body_size (founding_boot k n).batch

pub told_of : ℕ → ℕ → List Line
told_of n k = (founding_boot k n).lines

-- the first i replicas of n have booted
pub part : ℕ → ℕ → Cluster
part n i = record { n = n; sites = map (site_of n) (range_with_len 0 i); packets = []; bytes = sum_by (size_of n) (range_with_len 0 i) }

pub part_lines : ℕ → ℕ → List Line
part_lines n i = flat_map (told_of n) (range_with_len 0 i)

pub no_part : (n : ℕ) (w : World) → MachinesStand w.sites n [] → NetworkStands w.network [] 0 → Holds w (part n 0)
unfolding part
no_part n w s p = record { sites = s; network = p }

pub no_lines : (n : ℕ) → part_lines n 0 ≡ []
unfolding part_lines
no_lines n = refl

pub all_parts : (n : ℕ) → part n n ≡ begin n
unfolding part begin numbers_below site_of size_of
all_parts n = refl

pub all_lines : (n : ℕ) → part_lines n n ≡ first_lines n
unfolding part_lines first_lines numbers_below told_of
all_lines n = refl

up_to : (i : ℕ) → range_with_len 0 (i + 1) ≡ range_with_len 0 i ++ i ∷ []
up_to i = range_more 0 i ∙ ap (λ j. range_with_len 0 i ++ j ∷ []) (let z : 0 + i ≡ i = omega arith in z)

part_long : (n i : ℕ) → length (map (site_of n) (range_with_len 0 i)) ≡ i
part_long n i = length-map (range_with_len 0 i) (site_of n) ∙ length-range_with_len 0 i

-- before its first boot there is no machine i
pub none_yet : (n i : ℕ) (sites : Machines) → MachinesStand sites (part n i).n (part n i).sites → IsNotUpAt sites i
unfolding part
none_yet n i sites h m at =
    let count = machines_length sites n (map (site_of n) (range_with_len 0 i)) h in
    let long = part_long n i in
    absurd (none-some m (sym (slice_get_past sites.items.items i (omega (arith, count, long))) ∙ at))

room_of : (n i : ℕ) → roomed (part n i).sites i ≡ (part n i).sites ++ Site.Down [] ∷ []
unfolding roomed part
room_of n i = ap (λ b. cond b (map (site_of n) (range_with_len 0 i) ++ Site.Down [] ∷ []) (map (site_of n) (range_with_len 0 i))) (eq-eqb i (length (map (site_of n) (range_with_len 0 i))) (sym (part_long n i)))

last_get : (ps : List Site) (p : Site) (i : ℕ) → length ps ≡ i → slice_get (ps ++ p ∷ []) i ≡ Some p
last_get ps p i e = subst (λ (j : ℕ). slice_get (ps ++ p ∷ []) j ≡ Some p) e (go ps)
  where
    go : (ps : List Site) → slice_get (ps ++ p ∷ []) (length ps) ≡ Some p
    go [] = refl
    go (q ∷ ps) = go ps

set_last : (ps : List Site) (p q : Site) (i : ℕ) → length ps ≡ i → set (ps ++ p ∷ []) i q ≡ ps ++ q ∷ []
set_last ps p q i e = subst (λ (j : ℕ). set (ps ++ p ∷ []) j q ≡ ps ++ q ∷ []) e (set-append_seam ps p [] q)

next_down : (n i : ℕ) → slice_get (with_room (part n i) i).sites i ≡ Some (Site.Down [])
unfolding part
next_down n i =
    ap (λ (u : Cluster). slice_get u.sites i) (room_is (part n i) i) ∙ ap (λ ps. slice_get ps i) (room_of n i) ∙ last_get (map (site_of n) (range_with_len 0 i)) (Site.Down []) i (part_long n i)

pub next_can : (n i : ℕ) → i < n → n ≤ 15 → CanStart (part n i) i
next_can n i l m = record { below = omega arith; log = []; down = next_down n i }

founding : (n i : ℕ) → i < n → boot i n [] ≡ founding_boot i n
unfolding boot first_boot when◌then◌otherwise◌
founding n i l = ap (λ b. when b then founding_boot i n otherwise boot_again i n []) (lt-ltb i n l)

room : ℕ → ℕ → Cluster
room n i = record { n = n; sites = map (site_of n) (range_with_len 0 i) ++ Site.Down [] ∷ []; packets = []; bytes = sum_by (size_of n) (range_with_len 0 i) }

room_part : (n i : ℕ) → with_room (part n i) i ≡ room n i
unfolding part room
room_part n i = room_is (part n i) i ∙ ap (λ (ps : List Site). record { n = n; sites = ps; packets = []; bytes = sum_by (size_of n) (range_with_len 0 i) }) (room_of n i)

start_is : (n i : ℕ) → i < n → start_at (part n i) i ≡ begun_at (part n i) (whole_step (room n i) i (founding_boot i n))
unfolding start_at room
start_is n i l =
    ap (λ (u : Cluster). begun_at (part n i) (whole_step u i (boot i u.n (log_at u i)))) (room_part n i)
    ∙ ap (λ log. begun_at (part n i) (whole_step (room n i) i (boot i n log))) (log_here (room n i) i (Site.Down []) (last_get (map (site_of n) (range_with_len 0 i)) (Site.Down []) i (part_long n i)) ∙ log_down [])
    ∙ ap (λ x. begun_at (part n i) (whole_step (room n i) i x)) (founding n i l)

sites_next : (n i : ℕ) → set (map (site_of n) (range_with_len 0 i) ++ Site.Down [] ∷ []) i (site_of n i) ≡ map (site_of n) (range_with_len 0 (i + 1))
sites_next n i =
    set_last (map (site_of n) (range_with_len 0 i)) (Site.Down []) (site_of n i) i (part_long n i)
    ∙ sym (map-append (site_of n) (range_with_len 0 i) (i ∷ [])) ∙ ap (map (site_of n)) (sym (up_to i))

bytes_next : (n i : ℕ) → sum_by (size_of n) (range_with_len 0 i) + size_of n i + 0 ≡ sum_by (size_of n) (range_with_len 0 (i + 1))
bytes_next n i =
    let e = ap (sum_by (size_of n)) (up_to i) ∙ sum_by-append (size_of n) (range_with_len 0 i) (i ∷ []) in omega (arith, e)

lines_next : (n i : ℕ) → part_lines n i ++ told_of n i ≡ part_lines n (i + 1)
unfolding part_lines
lines_next n i =
    ap (λ ls. flat_map (told_of n) (range_with_len 0 i) ++ ls) (sym (append-nil (told_of n i)))
    ∙ sym (flat_map-append (told_of n) (range_with_len 0 i) (i ∷ [])) ∙ ap (flat_map (told_of n)) (sym (up_to i))

-- what a boot leaves
pub part_next : (n i : ℕ) (w : World) (lines : List Line) → i < n → Leads (start_at (part n i) i) w lines → Holds w (part n (i + 1)) × (lines ≡ told_of n i)
unfolding begun_at whole_step after_step room part site_of size_of told_of founding_boot boot_again keep begun packets_size send_lines
part_next n i w lines l h =
    let g = subst (λ (m : Moment). Leads m w lines) (start_is n i l) h in (
      record {
        sites = subst (λ (ps : List Site). MachinesStand w.sites n ps) (sites_next n i) g.after.sites;
        network = subst (λ (b : ℕ). NetworkStands w.network [] b) (bytes_next n i) g.after.network;
      },
      g.told ∙ (append-nil _ ∙ append-nil _ ∙ append-nil _),
    )

pub lines_more : (n i : ℕ) (before more all : List Line) → before ≡ part_lines n i → more ≡ told_of n i → all ≡ before ++ more → all ≡ part_lines n (i + 1)
lines_more n i before more all e f g = g ∙ ap (λ ls. ls ++ more) e ∙ ap (λ ls. part_lines n i ++ ls) f ∙ lines_next n i
