use Rattle.std.proofs.Common.{◌≡◌, ◌∙◌, ◌++◌, ◌∷◌, [], ℕ, Some, ap, arith, subst, sym}
use Rattle.std.proofs.lemmas.Option.{none-some}
use Rattle.std.specs.Prelude.{slice_get}
use Rattle.crsm_mpspec.specs.declared.line.MpLine.{MpLine}
use Rattle.crsm_mpspec.specs.Moments.{start_at}
use Rattle.crsm_mpworld.specs.Packets.{IsOpen}
use Rattle.crsm_mpworld.proofs.Booting.{started}
use Rattle.crsm_mpworld.proofs.Leading.{leads_as}
use Rattle.crsm_mpworld.proofs.world.MpWorld.start.Goals as goal

same_some : (i j : ℕ) → Some i ≡ Some j → i ≡ j
same_some i j e = cc

pub returns-in_default : goal.returns-in_default
returns-in_default c v h log down =
    let held = c.no_lines-lines.ensures.holds v h in absurd (none-some c.args.replica (sym c.in_default.is ∙ c.down.ensures.down v.n v.sites held.sites log down))

pub returns : goal.returns
returns c v h log down =
    let held = c.no_lines-lines.ensures.holds v h in
    let same = same_some c.in-Some.k c.args.replica (sym c.in-Some.is ∙ c.down.ensures.down v.n v.sites held.sites log down) in
    let there = ap (slice_get v.sites) same ∙ down in
    leads_as _ _ _ _ (ap (start_at v) (sym same))
    (started v c.in-Some.k log c.in_ok-boot.boot _ _ there (c.in_ok-boot.ensures v.n v.sites log held.sites there) (c.keep.ensures v.packets v.bytes held.network) held.n
    (c.in_ok-push.ensures.ok ∙ ap (λ ls. ls ++ MpLine.Boot c.in-Some.k c.in_ok-boot.boot.count ∷ []) c.no_lines-lines.ensures.none))

pub keep-requires : goal.keep-requires
keep-requires c = let below = subst IsOpen (sym c.no_lines-lines.ensures.network) c.requires in let small = c.in_ok-boot.boot.small in omega (arith, below, small)
