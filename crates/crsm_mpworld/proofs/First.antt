-- The first world, boot by boot.
use Rattle.std.proofs.Common.{◌≡◌, ◌<◌, ◌≤◌, ◌+◌, ◌-◌, ℕ, zero, suc, List, [], ◌∷◌, ◌++◌, length, map, set, Some, refl, ap, sym, ◌∙◌, subst, arith, append-nil}
use Rattle.std.specs.Prelude.{slice_get, sum_by, replicate}
use Rattle.std.specs.List.{range_with_len, flat_map}
use Rattle.std.specs.Option.{option_map_or}
use Rattle.std.proofs.Math.Seq.{set-append_seam}
use Rattle.std.proofs.lemmas.List.{map-append, length-map}
use Rattle.std.proofs.lemmas.List.FromFn.{length-range_with_len}
use Rattle.std.proofs.lemmas.List.Sums.{sum_by-append}
use Rattle.std.proofs.lemmas.Grind.{flat_map-append}
use Rattle.crsm_spec.specs.Lists.{numbers_below}
use Rattle.crsm_mpspec.specs.declared.line.MpLine.{MpLine}
use Rattle.crsm_mpspec.specs.Draft.{begun, keep, keep_as}
use Rattle.crsm_mpspec.specs.Records.{body_bytes, rec_bytes}
use Rattle.crsm_mpspec.specs.Step.{boot}
use Rattle.crsm_mpspec.specs.World.{Site, World, Moment, begin, first_boot, first_lines, body_size, send_lines, whole_step, after_step, log_at, log_of}
use Rattle.crsm_mpspec.specs.Moments.{start_at}
use Rattle.crsm_mpworld.specs.declared.world.MpWorld.{MpWorld}
use Rattle.crsm_mpworld.specs.Packets.{IsOpen, MpNetworkStands}
use Rattle.crsm_mpworld.specs.Sites.{StandFor}
use Rattle.crsm_mpworld.specs.World.{Holds, Leads}
use Rattle.crsm_mpworld.proofs.Numbers.{range_to}

-- replica k after its first boot
site_of : ℕ → ℕ → Site
site_of n k = Site.Up (first_boot n k).replica

size_of : ℕ → ℕ → ℕ
size_of n k = body_size (first_boot n k).batch

pub told_of : ℕ → ℕ → List MpLine
told_of n k = (first_boot n k).lines

-- a replica that never booted
unborn : Site
unborn = Site.Down []

-- the first i replicas of n have booted
places : ℕ → ℕ → List Site
places n i = map (site_of n) (range_with_len 0 i) ++ replicate (n - i) unborn

pub part : ℕ → ℕ → World
part n i = record { n = n; sites = places n i; packets = []; bytes = sum_by (size_of n) (range_with_len 0 i) }

pub part_lines : ℕ → ℕ → List MpLine
part_lines n i = flat_map (told_of n) (range_with_len 0 i)

pub no_part : (n : ℕ) (w : MpWorld) → w.n ≡ n → StandFor w.sites n (replicate n (Site.Down [])) → MpNetworkStands w.network [] 0 → Holds w (part n 0)
unfolding part places unborn
no_part n w e s p =
    let z : n ≡ n - 0 = omega arith in
    record { n = e; sites = subst (λ (m : ℕ). StandFor w.sites n (replicate m (Site.Down []))) z s; network = p }

pub no_lines : (n : ℕ) → part_lines n 0 ≡ []
unfolding part_lines
no_lines n = refl

all_places : (n : ℕ) → places n n ≡ map (site_of n) (range_with_len 0 n)
unfolding places
all_places n =
    let z : n - n ≡ 0 = omega arith in
    ap (λ m. map (site_of n) (range_with_len 0 n) ++ replicate m unborn) z ∙ append-nil (map (site_of n) (range_with_len 0 n))

pub all_parts : (n : ℕ) → part n n ≡ begin n
unfolding part begin numbers_below site_of size_of
all_parts n = ap (λ (ps : List Site). record { n = n; sites = ps; packets = []; bytes = sum_by (size_of n) (range_with_len 0 n) }) (all_places n)

pub all_lines : (n : ℕ) → part_lines n n ≡ first_lines n
unfolding part_lines first_lines numbers_below told_of
all_lines n = refl

-- ---- the next boot

booted_long : (n i : ℕ) → length (map (site_of n) (range_with_len 0 i)) ≡ i
booted_long n i = length-map (range_with_len 0 i) (site_of n) ∙ length-range_with_len 0 i

places_here : (n i : ℕ) → i < n → places n i ≡ map (site_of n) (range_with_len 0 i) ++ unborn ∷ replicate (n - (i + 1)) unborn
unfolding places
places_here n i l =
    let more : n - i ≡ suc (n - (i + 1)) = omega (arith, l) in
    ap (λ m. map (site_of n) (range_with_len 0 i) ++ replicate m unborn) more

get_seam : (ps qs : List Site) (p : Site) (i : ℕ) → length ps ≡ i → slice_get (ps ++ p ∷ qs) i ≡ Some p
get_seam ps qs p i e = subst (λ (j : ℕ). slice_get (ps ++ p ∷ qs) j ≡ Some p) e (go ps)
  where
    go : (rs : List Site) → slice_get (rs ++ p ∷ qs) (length rs) ≡ Some p
    go [] = refl
    go (r ∷ rs) = go rs

set_seam : (ps qs : List Site) (p q : Site) (i : ℕ) → length ps ≡ i → set (ps ++ p ∷ qs) i q ≡ ps ++ q ∷ qs
set_seam ps qs p q i e = subst (λ (j : ℕ). set (ps ++ p ∷ qs) j q ≡ ps ++ q ∷ qs) e (set-append_seam ps p qs q)

pub next_down : (n i : ℕ) → i < n → slice_get (part n i).sites i ≡ Some (Site.Down [])
unfolding part unborn
next_down n i l =
    ap (λ ps. slice_get ps i) (places_here n i l)
    ∙ get_seam (map (site_of n) (range_with_len 0 i)) (replicate (n - (i + 1)) unborn) (Site.Down []) i (booted_long n i)

places_next : (n i : ℕ) → i < n → set (places n i) i (site_of n i) ≡ places n (i + 1)
unfolding places
places_next n i l =
    let rest = replicate (n - (i + 1)) unborn in
    let booted = map (site_of n) (range_with_len 0 i) in
    ap (λ ps. set ps i (site_of n i)) (places_here n i l) ∙ set_seam booted rest unborn (site_of n i) i (booted_long n i)
    ∙ sym (append_one booted (site_of n i) rest)
    ∙ ap (λ ps. ps ++ rest) (sym (map-append (site_of n) (range_with_len 0 i) (i ∷ [])) ∙ ap (map (site_of n)) (sym (range_to i)))
  where
    append_one : (xs : List Site) (x : Site) (ys : List Site) → (xs ++ x ∷ []) ++ ys ≡ xs ++ x ∷ ys
    append_one [] x ys = refl
    append_one (y ∷ xs) x ys = ap (λ zs. y ∷ zs) (append_one xs x ys)

bytes_next : (n i : ℕ) → sum_by (size_of n) (range_with_len 0 i) + size_of n i ≡ sum_by (size_of n) (range_with_len 0 (i + 1))
bytes_next n i =
    let e = ap (sum_by (size_of n)) (range_to i) ∙ sum_by-append (size_of n) (range_with_len 0 i) (i ∷ []) in omega (arith, e)

lines_next : (n i : ℕ) → part_lines n i ++ told_of n i ≡ part_lines n (i + 1)
unfolding part_lines
lines_next n i =
    ap (λ ls. flat_map (told_of n) (range_with_len 0 i) ++ ls) (sym (append-nil (told_of n i)))
    ∙ sym (flat_map-append (told_of n) (range_with_len 0 i) (i ∷ [])) ∙ ap (flat_map (told_of n)) (sym (range_to i))

start_is : (n i : ℕ) → i < n → start_at (part n i) i ≡ whole_step (part n i) i (first_boot n i)
unfolding start_at first_boot log_at part log_of
start_is n i l = ap (λ o. whole_step (part n i) i (boot i n (option_map_or log_of o []))) (next_down n i l)

-- what a boot leaves
pub part_next : (n i : ℕ) (w : MpWorld) (lines : List MpLine) → i < n → Leads (start_at (part n i) i) w lines → Holds w (part n (i + 1)) × (lines ≡ told_of n i)
unfolding whole_step after_step part site_of size_of told_of first_boot boot keep keep_as begun send_lines
part_next n i w lines l h =
    let g = subst (λ (m : Moment). Leads m w lines) (start_is n i l) h in (
      record {
        n = g.after.n;
        sites = subst (λ (ps : List Site). StandFor w.sites n ps) (places_next n i l) g.after.sites;
        network = subst (λ (b : ℕ). MpNetworkStands w.network [] b) (bytes_next n i) g.after.network;
      },
      g.told ∙ (append-nil _ ∙ append-nil _),
    )

pub lines_more : (n i : ℕ) (before more all : List MpLine) → before ≡ part_lines n i → more ≡ told_of n i → all ≡ before ++ more → all ≡ part_lines n (i + 1)
lines_more n i before more all e f g = g ∙ ap (λ ls. ls ++ more) e ∙ ap (λ ls. part_lines n i ++ ls) f ∙ lines_next n i

-- ---- the first boots are short

one_byte : (n k : ℕ) → size_of n k ≡ 1
unfolding size_of first_boot boot keep keep_as begun body_size body_bytes rec_bytes
one_byte n k = refl

few_bytes : (n i : ℕ) → sum_by (size_of n) (range_with_len 0 i) ≡ i
few_bytes n zero = refl
few_bytes n (suc i) =
    let next = bytes_next n i in
    let before = few_bytes n i in
    let one = one_byte n i in
    let now : sum_by (size_of n) (range_with_len 0 (i + 1)) ≡ i + 1 = omega (arith, next, before, one) in
    let more : i + 1 ≡ suc i = omega arith in subst (λ (j : ℕ). sum_by (size_of n) (range_with_len 0 j) ≡ j) more now

pub part_open : (n i : ℕ) (w : MpWorld) → i < n → n ≤ 15 → Holds w (part n i) → IsOpen w.network
unfolding part
part_open n i w l m h = let few = few_bytes n i in let counted = h.network.counted in omega (arith, few, counted, l, m)
