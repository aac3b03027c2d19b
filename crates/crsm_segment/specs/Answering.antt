-- The outcome of a part, by the slots of a peer's newest message.
use Rattle.std.specs.Prelude.{ℕ, if◌then◌else◌, List, Option}
use Rattle.crsm_segment.specs.Gathering.{Gathering, has_passed, is_refused, gathering_for, is_filled, all_bytes, has_slot, with_slot}
use Rattle.crsm_segment.specs.declared.message.Heading.{Heading}
use Rattle.crsm_segment.specs.declared.message.PartOutcome.{PartOutcome}
use Rattle.crsm_segment.specs.declared.message.PartOutcome.TheVariants.{Whole, More, Old, Odd}

abbrev pub answer_of_add : Gathering → ℕ → List ℕ → PartOutcome
answer_of_add g i bytes =
    if has_slot g i then More else (if is_filled (with_slot g i bytes) then Whole (all_bytes (with_slot g i bytes)) else More)

abbrev pub answer_of : Option Gathering → Heading → List ℕ → PartOutcome
answer_of peer h bytes =
    if has_passed peer h then Old
    else (if is_refused peer h bytes then Odd else answer_of_add (gathering_for peer h) h.index bytes)
