use Rattle.std.proofs.Common.{◌≡◌, ◌∙◌, ◌≤◌, ◌-◌, ◌+◌, ◌^◌, suc, arith, sym, subst}
use Rattle.crsm_cmd_soak.proofs.Runs.{Runs, can_go_on, ends_done, ends_full, runs_first, runs_next}
use Rattle.crsm_cmd_soak.proofs.Sums.{below_most}
use Rattle.crsm_cmd_soak.proofs.running.run_all.Goals as goal

pub loop-init : goal.loop-init
loop-init c =
    let all : c.args.steps ≡ c.args.steps - 0 = omega arith in
    record {
      runs = subst (Runs c.in_ok-run.run' c.args.number c.args.n c.args.steps) all (runs_first c.in_ok-run.run' c.args.number c.args.n c.args.steps c.in_ok-run.ensures.begins);
      below = c.in_ok-run.ensures.below;
    }

pub step-requires-clause-room : goal.step-requires-clause-room
step-requires-clause-room c =
    let t = c.loop-test.true in
    let most : c.loop.counter + 1 ≤ 2 ^ 64 - 1 = omega (arith, t) in
    below_most _ _ c.loop.run.summary most c.loop.invariant.below

pub step-requires-clause-goes_on : goal.step-requires-clause-goes_on
step-requires-clause-goes_on c =
    let t = c.loop-test.true in
    let left : c.args.steps - c.loop.counter ≡ suc (c.args.steps - (c.loop.counter + 1)) = omega (arith, t) in
    let h = subst (Runs c.loop.run c.args.number c.args.n c.args.steps) left c.loop.invariant.runs in
    let room = sym (c.is_full.ensures h.cluster h.stands) ∙ c.if-is_full.false in
    can_go_on c.loop.run c.args.number c.args.n c.args.steps (c.args.steps - (c.loop.counter + 1)) h room
    (c.drawn_runs_are_possible.ensures c.args.number c.args.n c.args.steps c.requires.some c.requires.most)

pub loop-preserved : goal.loop-preserved
loop-preserved c =
    let t = c.loop-test.true in
    let left : c.args.steps - c.loop.counter ≡ suc (c.args.steps - (c.loop.counter + 1)) = omega (arith, t) in
    let h = subst (Runs c.loop.run c.args.number c.args.n c.args.steps) left c.loop.invariant.runs in
    let room = sym (c.is_full.ensures h.cluster h.stands) ∙ c.if-is_full.false in
    record {
      runs = runs_next c.loop.run c.step.new.self c.args.number c.args.n c.args.steps (c.args.steps - (c.loop.counter + 1)) h room (c.in_ok-step.ensures.steps h.cluster c.args.n h.acts h.stands h.done);
      below = c.in_ok-step.ensures.below _ c.loop.invariant.below;
    }

pub returns-then-is_full : goal.returns-then-is_full
returns-then-is_full c =
    let h = c.loop.invariant.runs in
    ends_full c.loop.run c.args.number c.args.n c.args.steps (c.args.steps - c.loop.counter) h (sym (c.is_full.ensures h.cluster h.stands) ∙ c.if-is_full.true)

pub returns : goal.returns
returns c =
    let t = c.loop-test.false in
    let none : c.args.steps - c.loop.counter ≡ 0 = omega (arith, t) in
    ends_done c.loop.run c.args.number c.args.n c.args.steps (subst (Runs c.loop.run c.args.number c.args.n c.args.steps) none c.loop.invariant.runs)
