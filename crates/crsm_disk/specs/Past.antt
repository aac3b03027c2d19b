-- The calls that a disk in memory notes.
use Rattle.crsm_port_image.specs.Calls.{Call, wrote, cut, synced}
use Rattle.crsm_disk.specs.declared.past.Note.{Note}
use Rattle.crsm_disk.specs.declared.past.Note.TheVariants.{Wrote, Cut, Synced}

abbrev pub call_of : Note → Call
call_of (Wrote at bytes) = wrote at bytes.now
call_of (Cut len) = cut len
call_of Synced = synced
