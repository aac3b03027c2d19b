-- The input of the rules that an input in memory stands for.
use Rattle.crsm_base.specs.Messages.{FitsDatagram}
use Rattle.crsm_spec.specs.Step.{Input as InputOnPaper}
use Rattle.crsm_core.specs.declared.input.Input.{Input}

-- the input as the rules have it
unfoldable pub input_of : Input → InputOnPaper
input_of (Input.Datagram from datagram) = InputOnPaper.Came from datagram
input_of Input.Tick = InputOnPaper.Ticked
input_of (Input.Suspect members) = InputOnPaper.Suspected members

-- a datagram in it has an encoding
abbrev pub FitsInput : Input → Type 0
FitsInput (Input.Datagram from datagram) = FitsDatagram datagram
FitsInput Input.Tick = Unit {0}
FitsInput (Input.Suspect members) = Unit {0}
