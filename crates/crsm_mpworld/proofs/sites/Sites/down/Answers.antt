use Rattle.std.proofs.Common.{◌≡◌, ◌≤◌, ◌∙◌, arith, length, true, false, sym}
use Rattle.std.proofs.lemmas.Option.{none-some, slice_get_past}
use Rattle.crsm_mpspec.specs.World.{Site as Place, is_up}
use Rattle.crsm_mpworld.proofs.Places.{sites_length, up_got}
use Rattle.crsm_mpworld.proofs.sites.Sites.down.Goals as goal

pub returns-then-len-k-clause-down : goal.returns-then-len-k-clause-down
returns-then-len-k-clause-down c n places h log e =
    let l : length places ≤ c.args.k =
    let m = sites_length n 0 c.args.self.now.items.items places h in omega (arith, c.if-len-k.true, c.len.ensures, c.args.self.now.items.ok.0, m) in
    absurd (none-some (Place.Down log) (sym (slice_get_past places c.args.k l) ∙ e))

no_up : true ≡ false → ⊥
no_up e = cc

pub returns-then-is_up-clause-down : goal.returns-then-is_up-clause-down
unfolding is_up
returns-then-is_up-clause-down c n places h log e =
    absurd (no_up (sym c.if-is_up.true ∙ c.is_up.ensures.up n places h ∙ up_got places c.args.k (Place.Down log) e))
