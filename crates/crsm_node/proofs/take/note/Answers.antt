use Rattle.std.proofs.Common.{ℕ, List, sym, subst}
use Rattle.crsm_replica_io.specs.declared.input.ReceivedInput.{ReceivedInput}
use Rattle.crsm_replica_detector.specs.Detector.{DetectorStands}
use Rattle.crsm_replica_detector.specs.Watching.{Watch, heard_at}
use Rattle.crsm_replica_detector.specs.Wished.{with_turn}
use Rattle.crsm_replica_detector.specs.declared.detector.Detector.{Detector}
use Rattle.crsm_shell.specs.Taking.{turn_of}
use Rattle.crsm_node.proofs.take.note.Goals as goal

-- what is noted where this was taken
abbrev Notes : Detector → ℕ → Watch → List ℕ → ReceivedInput → Type 0
Notes d me w buffer t = DetectorStands d me (with_turn (turn_of buffer t) w)

pub returns-in-Datagram : goal.returns-in-Datagram
unfolding turn_of
returns-in-Datagram c me w s buffer =
    subst (Notes c.hear.new.self me (heard_at c.args.turned.now.received c.args.turned.now.reading w) buffer) (sym c.in-Datagram.is) (c.hear.ensures me w s)

pub returns-in-Tick : goal.returns-in-Tick
unfolding turn_of
returns-in-Tick c me w s buffer =
    let after = heard_at c.args.turned.now.received c.args.turned.now.reading w in
    subst (Notes c.ticked.new.self me after buffer) (sym c.in-Tick.is) (c.ticked.ensures me after (c.hear.ensures me w s))

pub returns-in-Suspect : goal.returns-in-Suspect
unfolding turn_of
returns-in-Suspect c me w s buffer =
    subst (Notes c.hear.new.self me (heard_at c.args.turned.now.received c.args.turned.now.reading w) buffer) (sym c.in-Suspect.is) (c.hear.ensures me w s)
