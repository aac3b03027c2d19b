use Rattle.std.proofs.Common.{◌≡◌, ◌∙◌, ℕ, None, Some, arith, subst}
use Rattle.std.specs.Prelude.{slice_get}
use Rattle.crsm_sim_machine.specs.Machine.{MachineStands}
use Rattle.crsm_world.proofs.Sites.{finals_done, finals_next, past_none}
use Rattle.crsm_world.proofs.machines.Machines.finals.Goals as goal

pub loop-replica-preserved : goal.loop-replica-preserved
loop-replica-preserved c n places h =
    let k = c.loop-replica.replica in
    let found = c.in-Some.ensures n places h in
    let at : slice_get places k ≡ Some found.0 = subst (λ (j : ℕ). slice_get places j ≡ Some found.0) c.from.ensures found.1 in
    let stands = subst (λ (j : ℕ). MachineStands c.in-Some.machine.now j n found.0) c.from.ensures found.2 in
    c.in_ok-push.ensures.ok ∙ finals_next places k found.0 c.loop-replica.lines c.final_line.result at (c.final_line.ensures n found.0 stands) (c.loop-replica.invariant n places h)

pub returns-in_default : goal.returns-in_default
returns-in_default c n places h =
    let k = c.loop-replica.replica in
    let none : slice_get places k ≡ None = subst (λ (j : ℕ). slice_get places j ≡ None) c.from.ensures (c.in_default.ensures n places h) in
    c.loop-replica.invariant n places h ∙ finals_done places k (past_none places k none)

pub returns : goal.returns
returns c n places h =
    c.loop-replica.invariant n places h ∙ finals_done places c.loop-replica.replica (let few = h.few in let t = c.loop-replica-test.false in omega (arith, few, t))
