use Rattle.std.proofs.Common.{◌≡◌, drop, ◌+◌, eqb}
use Rattle.std.specs.List.{list_all}
use Rattle.crsm_text_fields.proofs.decision.tail_before.Given as goal

abbrev pub invariant-loop-entry : goal.invariant-loop-entry
invariant-loop-entry l = list_all (λ e. eqb (e.epoch + 1) l.decision.epoch) (drop l.entry-index l.entry-items) ≡ list_all (λ e. eqb (e.epoch + 1) l.decision.epoch) l.decision.tail
