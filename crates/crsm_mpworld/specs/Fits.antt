-- The messages of a world have encodings.
use Rattle.crsm_mpreplica.specs.Fitting.{FitsMessage}
use Rattle.crsm_mpspec.specs.declared.send.MpSend.{MpSend}

-- the message to be sent fits
abbrev pub FitsSend : MpSend → Type 0
FitsSend s = FitsMessage s.message
