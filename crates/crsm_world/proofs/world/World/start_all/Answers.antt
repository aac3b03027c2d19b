use Rattle.std.proofs.Common.{◌≡◌, ◌∙◌, ap, sym, subst, arith, ℕ}
use Rattle.crsm_spec.specs.World.{World}
use Rattle.crsm_spec.specs.Moments.{start_at}
use Rattle.crsm_world.specs.Machines.{IsNotUpAt}
use Rattle.crsm_world.specs.Starting.{CanStart}
use Rattle.crsm_world.specs.World.{Holds, Leads}
use Rattle.crsm_world.proofs.First.{none_yet, part, part_lines, no_part, no_lines, all_parts, all_lines, next_can, part_next, lines_more}
use Rattle.crsm_world.proofs.world.World.start_all.Goals as goal

pub loop-k-init : goal.loop-k-init
loop-k-init c = record { holds = no_part c.args.n _ c.requires.sites c.requires.network; told = c.new-lines.ensures ∙ sym (no_lines c.args.n) }

pub loop-k-preserved : goal.loop-k-preserved
loop-k-preserved c =
    let n = c.args.n in
    let k = c.loop-k.k in
    let was = c.loop-k.invariant in
    let can = subst (λ (j : ℕ). CanStart (part n k) j) (sym c.from.ensures) (next_can n k c.loop-k-test.true c.requires.most) in
    let leads = subst (λ (j : ℕ). Leads (start_at (part n k) j) c.start.new.self c.in_ok-more.more) c.from.ensures (c.in_ok-more.ensures (part n k) was.holds can) in
    let next = part_next n k c.start.new.self c.in_ok-more.more c.loop-k-test.true leads in
    record {
      holds = next.0;
      told = lines_more n k c.loop-k.lines c.in_ok-more.more c.append.new.self was.told next.1 c.in_ok-append.ensures.ok;
    }

pub returns-clause-holds : goal.returns-clause-holds
returns-clause-holds c =
    let e : c.loop-k.k ≡ c.args.n = let a = c.loop-k-test.false in let b = c.loop-k.auto.k-end in omega arith in
    subst (λ (u : World). Holds c.loop-k.self u) (ap (part c.args.n) e ∙ all_parts c.args.n) c.loop-k.invariant.holds

pub returns-clause-lines : goal.returns-clause-lines
returns-clause-lines c =
    let e : c.loop-k.k ≡ c.args.n = let a = c.loop-k-test.false in let b = c.loop-k.auto.k-end in omega arith in
    c.loop-k.invariant.told ∙ ap (part_lines c.args.n) e ∙ all_lines c.args.n

pub start-requires : goal.start-requires
start-requires c =
    let self = c.loop-k.self in
    subst (λ (j : ℕ). IsNotUpAt self.sites j) (sym c.from.ensures) (none_yet c.args.n c.loop-k.k self.sites c.loop-k.invariant.holds.sites)
