use Rattle.std.proofs.Common.{◌≡◌, ◌∙◌, ◌++◌, ◌∷◌, [], ◌-◌, List, length, ap, sym, subst, arith}
use Rattle.std.specs.Prelude.{take, drop}
use Rattle.std.proofs.lemmas.List.{length-take-le}
use Rattle.crsm_fact_log.proofs.Lists.{get_some, take-rest}
use Rattle.crsm_mpspec.specs.declared.line.MpLine.{MpLine}
use Rattle.crsm_mpspec.specs.Types.{Value}
use Rattle.crsm_mpspec.specs.Draft.{exec_lines}
use Rattle.crsm_mpspec.specs.Log.{executed}
use Rattle.crsm_mpreplica.specs.Made.{MadeStands}
use Rattle.crsm_mpledger.specs.Executed.{execution_after}
use Rattle.crsm_mpreplica.proofs.ExecLemmas.{none_some, one_some, told-none, told-next}
use Rattle.crsm_mpreplica.proofs.records.tell_executed.Goals as goal

pub loop-slot-init : goal.loop-slot-init
loop-slot-init c log o s kept most m =
    let f = c.args.first in
    let vs = executed log in
    subst (λ (ls : List MpLine). MadeStands c.args.made.now (record o { lines = ls })) (told-none o.lines c.args.me (take f vs) f (drop f vs)) m

pub loop-slot-preserved : goal.loop-slot-preserved
loop-slot-preserved c log o s kept most m =
    let f = c.args.first in
    let k = c.loop-slot.slot in
    let vs = executed log in
    let end = c.executed_len-slot-end.ensures.value log s in
    let v = get_some vs k (omega (arith, end, c.loop-slot-test.true)) in
    let lines = o.lines ++ exec_lines c.args.me (take f vs) (take (k - f) (drop f vs)) in
    let told = c.in_ok-tell.ensures (record o { lines = lines }) (c.loop-slot.invariant log o s kept most m) in
    let law = c.executions_are_by_slot.ensures vs k v.0 v.1 in
    let execution = one_some c.in-Some.execution.now (execution_after (take k vs) v.0) (c.in-Some.ensures log s (omega (arith, kept, c.loop-slot.auto.slot)) ∙ law) in
    let place : k ≡ length (take k vs) = sym (length-take-le k vs (omega (arith, end, c.loop-slot-test.true))) in
    subst (λ (ls : List MpLine). MadeStands c.tell.new.self (record o { lines = ls }))
    (ap (λ (l : MpLine). lines ++ l ∷ []) (c.in_ok-line.ensures (take k vs) v.0 place execution) ∙ told-next o.lines c.args.me f k vs v.0 (omega (arith, c.loop-slot.auto.slot)) v.1)
    told

pub returns : goal.returns
returns c log o s kept most m =
    let f = c.args.first in
    let vs = executed log in
    let end = c.executed_len-slot-end.ensures.value log s in
    let last : c.loop-slot.slot - f ≡ length vs - f = omega (arith, end, most, c.loop-slot-test.false, c.loop-slot.auto.slot-end, c.loop-slot.auto.slot) in
    subst (λ (us : List Value). MadeStands c.loop-slot.made (record o { lines = o.lines ++ exec_lines c.args.me (take f vs) us }))
    (ap (λ n. take n (drop f vs)) last ∙ take-rest vs f most) (c.loop-slot.invariant log o s kept most m)

-- each of these slots has an execution
pub returns-in_default : goal.returns-in_default
returns-in_default c log o s kept most m =
    let k = c.loop-slot.slot in
    let vs = executed log in
    let end = c.executed_len-slot-end.ensures.value log s in
    let v = get_some vs k (omega (arith, end, c.loop-slot-test.true)) in
    let law = c.executions_are_by_slot.ensures vs k v.0 v.1 in
    absurd (none_some (execution_after (take k vs) v.0) (c.in_default.ensures log s (omega (arith, kept, c.loop-slot.auto.slot)) ∙ law))
