use Rattle.std.proofs.Common.{subst}
use Rattle.crsm_mpreplica.specs.Notes.{NoteStands}
use Rattle.crsm_mpreplica.proofs.CloseLemmas.{closed}
use Rattle.crsm_mpreplica.proofs.note.close.Goals as goal

pub returns-in-Leading : goal.returns-in-Leading
returns-in-Leading c me log v p s =
    closed c.in-Leading.leading c.remove.new.self c.args.slot me log v p c.remove.ensures.entries c.remove.ensures.updates.1
    (subst (λ note. NoteStands note me log p) c.in-Leading.is s)
