-- The messages and inputs that can be logged and sent: ballots and commands have encodings, and no slot is the last
-- number.
use Rattle.std.specs.Prelude.{ℕ, ◌<◌}
use Rattle.std.specs.List.{AllByRecursion}
use Rattle.crsm_base.specs.Spelling.{FitsBallot, FitsCommand, FitsOption}
use Rattle.crsm_spec.specs.Clock.{u64_max}
use Rattle.crsm_mpspec.specs.declared.accepts.MpAccepted.{MpAccepted}
use Rattle.crsm_mpspec.specs.declared.choices.MpChosen.{MpChosen}
use Rattle.crsm_mpspec.specs.declared.message.MpMessage.{MpMessage}
use Rattle.crsm_mpspec.specs.declared.input.MpInput.{MpInput}
use Rattle.crsm_mpspec.specs.Types.{Ballot, Value}
use Rattle.crsm_mpspec.specs.Replica.{Report}

-- the value has an encoding
abbrev pub FitsValue : Value → Type 0
FitsValue v = FitsOption FitsCommand v

-- the value accepted at a slot fits
abbrev pub FitsAccept : ℕ → Ballot → Value → Type 0
FitsAccept slot b v = (slot < u64_max) × FitsBallot b × FitsValue v

-- the value chosen at a slot fits
abbrev pub FitsChoice : ℕ → Value → Type 0
FitsChoice slot v = (slot < u64_max) × FitsValue v

abbrev pub FitsAccepted : MpAccepted → Type 0
FitsAccepted a = (a.slot < u64_max) × FitsBallot a.ballot × FitsValue a.value

abbrev pub FitsChosen : MpChosen → Type 0
FitsChosen c = (c.slot < u64_max) × FitsValue c.value

abbrev pub FitsReport : Report → Type 0
FitsReport r = AllByRecursion FitsAccepted r.accepted × AllByRecursion FitsChosen r.chosen

abbrev pub FitsMessage : MpMessage → Type 0
FitsMessage (MpMessage.Prep b start) = FitsBallot b
FitsMessage (MpMessage.Prom b accepted chosen) = FitsBallot b × AllByRecursion FitsAccepted accepted × AllByRecursion FitsChosen chosen
FitsMessage (MpMessage.No p) = FitsBallot p
FitsMessage (MpMessage.Acc b slot v) = FitsBallot b × (slot < u64_max) × FitsValue v
FitsMessage (MpMessage.Accd b slot) = FitsBallot b × (slot < u64_max)
FitsMessage (MpMessage.Learn slot v) = (slot < u64_max) × FitsValue v
FitsMessage (MpMessage.Ask start) = Unit {0}

abbrev pub FitsInput : MpInput → Type 0
FitsInput (MpInput.Request c) = FitsCommand c
FitsInput (MpInput.Message m) = FitsMessage m
FitsInput MpInput.Tick = Unit {0}
FitsInput MpInput.Lead = Unit {0}
