use Rattle.std.proofs.Common.{◌≡◌, ◌∙◌, ap, sym, refl, subst, arith, ℕ, [], Some}
use Rattle.std.specs.Prelude.{slice_get}
use Rattle.crsm_mpspec.specs.World.{Site, World}
use Rattle.crsm_mpspec.specs.Moments.{start_at}
use Rattle.crsm_mpworld.specs.World.{MpWorldStands, Holds, Leads}
use Rattle.crsm_mpworld.proofs.First.{part, part_lines, part_open, no_part, no_lines, all_parts, all_lines, next_down, part_next, lines_more}
use Rattle.crsm_mpworld.proofs.world.MpWorld.new.Goals as goal

pub loop-k-init : goal.loop-k-init
loop-k-init c = record { holds = no_part c.args.n _ refl c.in_ok-sites.ensures c.new-2.ensures; told = c.new-lines.ensures ∙ sym (no_lines c.args.n) }

pub loop-k-preserved : goal.loop-k-preserved
loop-k-preserved c =
    let n = c.args.n in
    let k = c.loop-k.k in
    let was = c.loop-k.invariant in
    let down = subst (λ (j : ℕ). slice_get (part n k).sites j ≡ Some (Site.Down [])) (sym c.from.ensures) (next_down n k c.loop-k-test.true) in
    let leads = subst (λ (j : ℕ). Leads (start_at (part n k) j) c.start.new.self c.in_ok-more.more) c.from.ensures (c.in_ok-more.ensures (part n k) was.holds [] down) in
    let next = part_next n k c.start.new.self c.in_ok-more.more c.loop-k-test.true leads in
    record {
      holds = next.0;
      told = lines_more n k c.loop-k.lines c.in_ok-more.more c.append.new.self was.told next.1 c.in_ok-append.ensures.ok;
    }

pub returns-clause-world : goal.returns-clause-world
unfolding MpWorldStands
returns-clause-world c =
    let e : c.loop-k.k ≡ c.args.n = let a = c.loop-k-test.false in let b = c.loop-k.auto.k-end in omega arith in
    let h = subst (λ (u : World). Holds c.loop-k.world u) (ap (part c.args.n) e ∙ all_parts c.args.n) c.loop-k.invariant.holds in
    record { unspent = refl; holds = record { n = h.n; sites = h.sites; network = h.network } }

pub returns-clause-lines : goal.returns-clause-lines
returns-clause-lines c =
    let e : c.loop-k.k ≡ c.args.n = let a = c.loop-k-test.false in let b = c.loop-k.auto.k-end in omega arith in
    c.loop-k.invariant.told ∙ ap (part_lines c.args.n) e ∙ all_lines c.args.n

pub start-requires : goal.start-requires
start-requires c = part_open c.args.n c.loop-k.k c.loop-k.world c.loop-k-test.true c.requires.most c.loop-k.invariant.holds
