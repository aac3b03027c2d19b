-- The act of each event, and the reason of each refusal.
use Rattle.std.specs.Prelude.{Option, None, Some}
use Rattle.crsm_schedule.specs.declared.Single.{Single}
use Rattle.crsm_schedule.specs.declared.Event.{Event}
use Rattle.crsm_spec.specs.Acts.{Act, Single as OneStep, Bad}
use Rattle.crsm_mpspec.specs.declared.bad.MpBad.{MpBad}
use Rattle.crsm_mpspec.specs.Possible.{Cause}

-- the act of one step
unfoldable pub single_of : Single → OneStep
single_of (Single.Request replica reading command) = OneStep.Request replica reading command
single_of (Single.Go number reading) = OneStep.Go number reading
single_of (Single.Again number reading) = OneStep.Again number reading
single_of (Single.Tick replica reading) = OneStep.Tick replica reading
single_of (Single.Suspect replica reading members) = OneStep.Suspect replica reading members
single_of (Single.Junk replica reading bytes) = OneStep.Junk replica reading bytes

-- the act of an event
unfoldable pub act_of : Event → Act
act_of (Event.One single) = Act.One (single_of single)
act_of (Event.Lose number) = Act.Lose number
act_of (Event.Crash replica) = Act.Crash replica
act_of (Event.Start replica) = Act.Start replica
act_of (Event.Settle reading) = Act.Settle reading
act_of (Event.CutLost single) = Act.CutLost (single_of single)
act_of (Event.CutKept sends single) = Act.CutKept sends (single_of single)
act_of (Event.Batch reading numbers) = Act.Batch reading numbers
act_of (Event.CutLostBatch reading numbers) = Act.CutLostBatch reading numbers
act_of (Event.CutAt calls fill single) = Act.CutAt calls fill (single_of single)

-- the cause that a refusal names; running out of memory is none
unfoldable pub cause_of : MpBad → Option Cause
cause_of MpBad.NotHere = Some Cause.NotHere
cause_of (MpBad.Full bytes) = Some (Cause.Met (Bad.Full bytes))
cause_of MpBad.NoSuchReplica = Some (Cause.Met Bad.NoSuchReplica)
cause_of MpBad.NoSuchDatagram = Some (Cause.Met Bad.NoSuchDatagram)
cause_of MpBad.Used = Some (Cause.Met Bad.Used)
cause_of MpBad.Fresh = Some (Cause.Met Bad.Fresh)
cause_of MpBad.Mixed = Some (Cause.Met Bad.Mixed)
cause_of MpBad.IsDown = Some (Cause.Met Bad.IsDown)
cause_of MpBad.IsUp = Some (Cause.Met Bad.IsUp)
cause_of MpBad.TooFew = Some (Cause.Met Bad.TooFew)
cause_of MpBad.Forged = Some (Cause.Met Bad.Forged)
cause_of MpBad.NoMemory = None
