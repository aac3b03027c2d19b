use Rattle.std.proofs.Common.{◌≡◌, ◌∙◌, ◌∷◌, [], ◌+◌, length, None, Some, ap, sym, subst, arith}
use Rattle.std.specs.Option.{option_copied}
use Rattle.std.proofs.lemmas.List.{length-append}
use Rattle.crsm_spec.specs.Clock.{u64_max}
use Rattle.crsm_mpspec.specs.Log.{by_slot, chosen_at, choices, run_from}
use Rattle.crsm_mpledger.specs.Executed.{ExecutionsStand}
use Rattle.crsm_mpledger.proofs.SlotLemmas.{get-by_slot}
use Rattle.crsm_mpledger.proofs.RunLemmas.{executed_is, none_at_end, run-next}
use Rattle.crsm_mpledger.proofs.ledger.execute_known.Goals as goal

pub loop-slot-preserved : goal.loop-slot-preserved
unfolding chosen_at
loop-slot-preserved c = record {
  runs = λ log sound entries done whole start.
      let i = c.loop-slot.invariant.runs log sound entries done whole start in
      let slot = c.loop-slot.slot in
      let is : chosen_at slot log ≡ Some c.in-Some.value.now
      = sym (c.get.ensures (by_slot (choices log)) entries ∙ get-by_slot slot (choices log)) ∙ ap option_copied c.in-Some.is in
      let next = run-next slot c.in-Some.value.now log i.1 is in (
        subst (λ vs. ExecutionsStand c.execute.new.self vs) (sym next) (c.in_ok-execute.ensures.stands (run_from slot 0 log) i.0 (sym i.1)),
        ap length next ∙ length-append (run_from slot 0 log) (c.in-Some.value.now ∷ []) ∙ ap (λ n. n + 1) i.1,
      );
  first = c.in_ok-execute.ensures.first ∙ c.loop-slot.invariant.first;
}

pub returns-in_default-clause-stands : goal.returns-in_default-clause-stands
unfolding chosen_at
returns-in_default-clause-stands c log sound entries done whole start =
    let i = c.loop-slot.invariant.runs log sound entries done whole start in
    let slot = c.loop-slot.slot in
    let none : chosen_at slot log ≡ None
    = sym (c.get.ensures (by_slot (choices log)) entries ∙ get-by_slot slot (choices log)) ∙ ap option_copied c.in_default.is in
    subst (λ vs. ExecutionsStand c.loop-slot.executions vs) (sym (executed_is slot log i.1 none)) i.0

pub returns-clause-stands : goal.returns-clause-stands
returns-clause-stands c log sound entries done whole start =
    let i = c.loop-slot.invariant.runs log sound entries done whole start in
    let slot = c.loop-slot.slot in
    let last : u64_max ≡ slot = omega (arith, c.loop-slot-test.false, c.loop-slot.auto.slot) in
    let none : chosen_at slot log ≡ None = subst (λ n. chosen_at n log ≡ None) last (none_at_end log sound) in
    subst (λ vs. ExecutionsStand c.loop-slot.executions vs) (sym (executed_is slot log i.1 none)) i.0
