use Rattle.std.proofs.Common.{◌≡◌, ℕ, sym, subst}
use Rattle.crsm_port_lines.specs.Exact as loop
use Rattle.crsm_port_lines.specs.Handling.{Begins}
use Rattle.crsm_port_lines.specs.Run.{Ran as LoopRan}
use Rattle.crsm_cmd_replay_node.specs.Handled.{sheet_of_node}
use Rattle.crsm_cmd_replay_node.proofs.Answered.{completed, refused, too_long}
use Rattle.crsm_cmd_replay_node.proofs.Exact.{Laws, exact}
use Rattle.crsm_cmd_replay_node.proofs.Handled.{begins}
use Rattle.crsm_cmd_replay_node.proofs.Ran.{ran_so}
use Rattle.crsm_cmd_replay_node.proofs.command.replay_node.Goals as goal

-- what holds of two numbers holds of two equal ones
both : (P : ℕ → ℕ → Type 0) (a b x y : ℕ) → a ≡ x → b ≡ y → P a b → P x y
both P a b x y p q holds = subst (λ (k : ℕ). P k y) p (subst (λ (k : ℕ). P a k) q holds)

pub run_lines-requires : goal.run_lines-requires
run_lines-requires g c =
    let r = c.new.result in
    both (λ me n. Begins (sheet_of_node me n) r) c.args.me c.args.n r.me r.n (sym c.new.ensures.me) (sym c.new.ensures.n) (begins c.args.me c.args.n r c.new.ensures.begins)

pub returns-clause-ran : goal.returns-clause-ran
returns-clause-ran g c =
    let r = c.new.result in
    let before = g.I.Source.left c.args.input.now in
    let after = g.I.Source.left c.run_lines.new.input in
    let had = g.O.Sink.written c.args.output.now in
    let has = g.O.Sink.written c.run_lines.new.output in
    ran_so c.args.me c.args.n c.run_lines.result before after had has
    (both (λ me n. LoopRan (sheet_of_node me n) c.run_lines.result before after had has) r.me r.n c.args.me c.args.n c.new.ensures.me c.new.ensures.n c.run_lines.ensures.ran)

pub returns-clause-complete : goal.returns-clause-complete
returns-clause-complete g c =
    let r = c.new.result in
    let laws : Laws = record { one_text = c.lines_have_one_text.ensures; kept = c.bad_logs_are_one.ensures.kept; one_bad = c.bad_logs_are_one.ensures.one } in
    let left = g.I.Source.left c.args.input.now in
    let faultless = loop.WhereFaultless (g.I.Source.faults c.args.input.now) (g.I.Source.faults c.run_lines.new.input) (g.O.Sink.faults c.args.output.now) (g.O.Sink.faults c.run_lines.new.output) (loop.IsDone c.run_lines.result) in
    completed laws c.lines_have_no_feed.ensures c.args.me c.args.n c.run_lines.result left faultless
    (both (λ me n. (x : loop.Exact (sheet_of_node me n)) → loop.WhereWhole (sheet_of_node me n) x left faultless) r.me r.n c.args.me c.args.n c.new.ensures.me c.new.ensures.n
    c.run_lines.ensures.complete (exact laws c.args.me c.args.n))

pub returns-clause-too_long : goal.returns-clause-too_long
returns-clause-too_long g c =
    let r = c.new.result in
    let laws : Laws = record { one_text = c.lines_have_one_text.ensures; kept = c.bad_logs_are_one.ensures.kept; one_bad = c.bad_logs_are_one.ensures.one } in
    let left = g.I.Source.left c.args.input.now in
    let faultless = loop.WhereFaultless (g.I.Source.faults c.args.input.now) (g.I.Source.faults c.run_lines.new.input) (g.O.Sink.faults c.args.output.now) (g.O.Sink.faults c.run_lines.new.output) (loop.IsTooLong c.run_lines.result) in
    too_long laws c.lines_have_no_feed.ensures c.args.me c.args.n c.run_lines.result left faultless
    (both (λ me n. (x : loop.Exact (sheet_of_node me n)) → loop.WhereTooLong (sheet_of_node me n) x left faultless) r.me r.n c.args.me c.args.n c.new.ensures.me c.new.ensures.n
    c.run_lines.ensures.too_long (exact laws c.args.me c.args.n))

pub returns-clause-refused : goal.returns-clause-refused
returns-clause-refused g c =
    let r = c.new.result in
    let laws : Laws = record { one_text = c.lines_have_one_text.ensures; kept = c.bad_logs_are_one.ensures.kept; one_bad = c.bad_logs_are_one.ensures.one } in
    let left = g.I.Source.left c.args.input.now in
    let faultless : Type 0 → Type 0 =
    λ P. loop.WhereFaultless (g.I.Source.faults c.args.input.now) (g.I.Source.faults c.run_lines.new.input) (g.O.Sink.faults c.args.output.now) (g.O.Sink.faults c.run_lines.new.output) P in
    refused laws c.lines_have_no_feed.ensures c.args.me c.args.n c.run_lines.result left faultless (λ A B f says no_read no_write. f (says no_read no_write))
    (both (λ me n. (x : loop.Exact (sheet_of_node me n)) → loop.WhereBad (sheet_of_node me n) x left (λ line why. faultless (loop.IsRefused (sheet_of_node me n) x line why c.run_lines.result)))
    r.me r.n c.args.me c.args.n c.new.ensures.me c.new.ensures.n c.run_lines.ensures.refused (exact laws c.args.me c.args.n))
