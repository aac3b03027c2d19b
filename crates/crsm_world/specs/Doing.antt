-- The act of each event, and the reason of each refusal.
use Rattle.std.specs.Prelude.{Option, None, Some}
use Rattle.crsm_schedule.specs.declared.Single.{Single}
use Rattle.crsm_schedule.specs.declared.Event.{Event}
use Rattle.crsm_spec.specs.Acts.{Act, Single as OneStep, Bad as Cause}
use Rattle.crsm_world.specs.declared.bad.Bad.{Bad}

-- the act of one step
unfoldable pub single_of : Single → OneStep
single_of (Single.Request replica reading command) = OneStep.Request replica reading command
single_of (Single.Go number reading) = OneStep.Go number reading
single_of (Single.Again number reading) = OneStep.Again number reading
single_of (Single.Tick replica reading) = OneStep.Tick replica reading
single_of (Single.Suspect replica reading members) = OneStep.Suspect replica reading members
single_of (Single.Junk replica reading bytes) = OneStep.Junk replica reading bytes

-- the act of an event
unfoldable pub act_of : Event → Act
act_of (Event.One single) = Act.One (single_of single)
act_of (Event.Lose number) = Act.Lose number
act_of (Event.Crash replica) = Act.Crash replica
act_of (Event.Start replica) = Act.Start replica
act_of (Event.Settle reading) = Act.Settle reading
act_of (Event.CutLost single) = Act.CutLost (single_of single)
act_of (Event.CutKept sends single) = Act.CutKept sends (single_of single)
act_of (Event.Batch reading numbers) = Act.Batch reading numbers
act_of (Event.CutLostBatch reading numbers) = Act.CutLostBatch reading numbers
act_of (Event.CutAt calls fill single) = Act.CutAt calls fill (single_of single)

-- the cause that a refusal names; running out of memory is none
unfoldable pub bad_of : Bad → Option Cause
bad_of (Bad.Full bytes) = Some (Cause.Full bytes)
bad_of Bad.NoSuchReplica = Some Cause.NoSuchReplica
bad_of Bad.NoSuchDatagram = Some Cause.NoSuchDatagram
bad_of Bad.Used = Some Cause.Used
bad_of Bad.Fresh = Some Cause.Fresh
bad_of Bad.Mixed = Some Cause.Mixed
bad_of Bad.IsDown = Some Cause.IsDown
bad_of Bad.IsUp = Some Cause.IsUp
bad_of Bad.TooFew = Some Cause.TooFew
bad_of Bad.Forged = Some Cause.Forged
bad_of Bad.NoMemory = None
