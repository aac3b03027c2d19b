-- The effects of a node over a number of turns.
use Rattle.std.specs.Prelude.{◌≡◌, ℕ, ◌≤◌, List, [], ◌∷◌, ◌++◌, length, map, IsTrue, Option, Result, Ok, Err}
use Rattle.std.specs.List.{AllByRecursion}
use Rattle.crsm_port_faults.specs.Counts.{Rose}
use Rattle.crsm_base.specs.Records.{FitsRec}
use Rattle.crsm_spec.specs.Node.{Turn, outputs_from}
use Rattle.crsm_spec.specs.Replica.{Replica}
use Rattle.crsm_spec_process.specs.Groups.{AreGroups}
use Rattle.crsm_spec_process.specs.Lives.{Group, HaveFates, kept_turns}
use Rattle.crsm_clock.specs.Readings.{Readings}
use Rattle.crsm_io.specs.Streams.{Puts, PutsPrefix}
use Rattle.crsm_text_sheet.specs.Sheets.{sheet_text, turn_line}
use Rattle.crsm_disk.specs.Meaning.{LeavesOnly, Meaning as DiskMeaning}
use Rattle.crsm_log.specs.Log.{Goes}
use Rattle.crsm_port.specs.Meaning.{Meaning as PortMeaning}
use Rattle.crsm_replica_io.specs.Outgoing.{raised_by}
use Rattle.crsm_replica_detector.specs.Watching.{Watch}
use Rattle.crsm_spec_process.specs.Turns.{CanBeTaken, replica_after}
use Rattle.crsm_replica_detector.specs.Wished.{AreWished, empty_receives, watch_after}
use Rattle.crsm_shell.specs.Flushing.{IsFull}
use Rattle.crsm_shell.specs.Shell.{group_body, records_of}
use Rattle.crsm_node.specs.Devices.{Node}
use Rattle.crsm_node.specs.Kept.{HasBehind, HasBehindOrMore, HasLogOf, IsLeftOf, PutInTurn, bodies_in_log}
use Rattle.crsm_node.specs.Received.{BothTell, GivesAll, Passes, datagrams_in, readings_of}
use Rattle.crsm_node.specs.Sent.{AreAddressed, packets_gone, packets_missing, sends_from}
use Rattle.crsm_node.specs.declared.errors.NodeError.{NodeError}
use Rattle.crsm_node.specs.declared.errors.NodeError.TheVariants.{PortFault, DiskFault, LogFull, WriteFault, Failed, NoMemory}

-- the turns of each group
abbrev pub turns_by_group : List Group → List (List (Turn × ℕ))
turns_by_group groups = map (λ g. g.turns) groups

-- the same, with the group that was not kept, if there is one
abbrev pub with_lost : List (List (Turn × ℕ)) → List (Turn × ℕ) → List (List (Turn × ℕ))
with_lost groups [] = groups
with_lost groups (t ∷ lost) = groups ++ (t ∷ lost) ∷ []

-- the lines of turns, each with its line feed
unfoldable pub turns_text : List (Turn × ℕ) → List ℕ
turns_text turns = sheet_text (map turn_line turns)

-- ---- its devices

-- Each turn is one that was wanted and that can be taken, at a reading of the clock.
pub record Takes (r : Replica) (w : Watch) (turns : List (Turn × ℕ)) (before after : Option Readings) : Type 0 where
  pub wished : AreWished w r turns
  pub can_be : AllByRecursion CanBeTaken turns
  pub readings : GivesAll (readings_of turns) before after

-- The port gave the datagrams among these turns, and sent what went out of the groups. A turn that wanted to receive
-- took a tick only where a receive was empty, and no more is missing than the count of losses rose by. No send was too
-- long.
pub record Carries (peers : List ℕ) (r : Replica) (w : Watch) (turns : List (Turn × ℕ)) (groups : List Group) (old new : PortMeaning) : Type 0 where
  pub traffic : BothTell (Passes old.framing (datagrams_in turns) (packets_gone peers r groups)) old.traffic new.traffic
  pub empties : raised_by (empty_receives w r turns) old.empties ≤ new.empties
  pub losses : raised_by (packets_missing peers r groups) old.losses ≤ new.losses
  pub too_long : new.too_long ≡ old.too_long
  pub faults : old.faults ≤ new.faults
  pub framing : new.framing ≡ old.framing
  pub borrowed_as : new.borrowed_as ≡ old.borrowed_as

-- The last group, which was not kept, and why, where this is the file that the groups before it left. Where the disk
-- failed it may be there, and its records have an encoding.
abbrev pub StopsAt : Replica → List (Turn × ℕ) → List ℕ → Result (Unit {0}) NodeError → Type 0
StopsAt r lost file (Err DiskFault) = (IsFull file (group_body (outputs_from r lost)) → ⊥) × AllByRecursion FitsRec (records_of (outputs_from r lost))
StopsAt r lost file (Err LogFull) = IsFull file (group_body (outputs_from r lost))
StopsAt r lost file (Err _) = Unit {0}
StopsAt r lost file (Ok _) = Unit {0}

-- the groups that may be on the disk: where it failed, the last one, too
abbrev pub maybe_kept : List Group → List (Turn × ℕ) → Result (Unit {0}) NodeError → List (List (Turn × ℕ))
maybe_kept groups lost (Err DiskFault) = with_lost (turns_by_group groups) lost
maybe_kept groups lost (Err _) = turns_by_group groups
maybe_kept groups lost (Ok _) = turns_by_group groups

-- What a crash at the end leaves: these bodies behind those of before and, where the disk failed, maybe that of the last
-- turns behind them.
abbrev pub IsLeftAtEnd : List ℕ → List (List ℕ) → Replica → List (Turn × ℕ) → Result (Unit {0}) NodeError → List ℕ → Type 0
IsLeftAtEnd before bodies r lost (Err DiskFault) file = HasBehindOrMore before bodies (group_body (outputs_from r lost)) file
IsLeftAtEnd before bodies r lost (Err _) file = HasBehind before bodies file
IsLeftAtEnd before bodies r lost (Ok _) file = HasBehind before bodies file

-- Where the disk is honest it has one body for each group that has a record, behind those that it had, each put where
-- the log was not full; and a crash at any moment leaves a prefix of these. These groups, whose output was sent, are
-- synced: a crash at the end leaves them all.
pub record Keeps (r : Replica) (groups : List Group) (lost : List (Turn × ℕ)) (old new : DiskMeaning) (result : Result (Unit {0}) NodeError) : Type 0 where
  pub file : List ℕ
  pub put : PutInTurn (bodies_in_log r (turns_by_group groups)) old.seen file
  pub bodies : HasBehind old.seen (bodies_in_log r (turns_by_group groups)) file
  pub is : (result ≡ Err DiskFault → ⊥) → new.seen ≡ file
  pub log : HasLogOf (replica_after r (kept_turns groups)) file
  pub stops : StopsAt (replica_after r (kept_turns groups)) lost file result
  pub synced : (c : List ℕ) → new.may_leave c → IsLeftAtEnd old.seen (bodies_in_log r (turns_by_group groups)) (replica_after r (kept_turns groups)) lost result c
  pub any_moment : LeavesOnly old new (IsLeftOf old.seen (bodies_in_log r (maybe_kept groups lost result)))

-- the lines of the turns that were kept, or a prefix of them where the sheet failed
abbrev pub Writes : List Group → Option (List ℕ) → Option (List ℕ) → Result (Unit {0}) NodeError → Type 0
Writes groups had has (Err WriteFault) = PutsPrefix had has (turns_text (kept_turns groups))
Writes groups had has (Err _) = Puts had has (turns_text (kept_turns groups))
Writes groups had has (Ok _) = Puts had has (turns_text (kept_turns groups))

-- ---- how it ends

-- nothing is lost, and the node is that of the replica after all turns
pub record MayGoOn (r : Replica) (w : Watch) (groups : List Group) (lost : List (Turn × ℕ)) (new : Node) : Type 0 where
  pub none_lost : lost ≡ []
  pub stands : new.stands (replica_after r (kept_turns groups)).log (replica_after r (kept_turns groups)) []
  pub watches : new.watches (replica_after r (kept_turns groups)).me (watch_after w (kept_turns groups))

-- all turns were taken, or the device failed that is named
abbrev pub Ends : Replica → Watch → ℕ → List Group → List (Turn × ℕ) → Node → Node → Result (Unit {0}) NodeError → Type 0
Ends r w turns groups lost old new (Ok _) = (length (kept_turns groups) ≡ turns) × MayGoOn r w groups lost new
Ends r w turns groups lost old new (Err PortFault) = Rose old.port.faults new.port.faults × MayGoOn r w groups lost new
Ends r w turns groups lost old new (Err WriteFault) = Rose old.faults new.faults × MayGoOn r w groups lost new
Ends r w turns groups lost old new (Err DiskFault) = Rose old.disk.faults new.disk.faults
Ends r w turns groups lost old new (Err LogFull) = Unit {0}
Ends r w turns groups lost old new (Err Failed) = ⊥
Ends r w turns groups lost old new (Err NoMemory) = Unit {0}

-- The groups that a node flushed over at most `turns` turns, and the last turns, which it took and did not flush: it
-- took them from its port and clock as wanted, put each group into the log, and then sent its output and wrote its
-- lines.
pub record Serves (r : Replica) (w : Watch) (turns : ℕ) (old new : Node) (result : Result (Unit {0}) NodeError) : Type 0 where
  pub groups : List Group
  pub lost : List (Turn × ℕ)
  pub most : length (kept_turns groups ++ lost) ≤ turns
  pub are_groups : AreGroups (with_lost (turns_by_group groups) lost)
  pub fates : HaveFates sends_from r groups
  pub addressed : AreAddressed old.peers r groups
  pub takes : Takes r w (kept_turns groups ++ lost) old.clock new.clock
  pub carries : Carries old.peers r w (kept_turns groups ++ lost) groups old.port new.port
  pub goes : Goes old.disk new.disk
  pub keeps : IsTrue old.disk.honest → Keeps r groups lost old.disk new.disk result
  pub writes : Writes groups old.sheet new.sheet result
  pub ends : Ends r w turns groups lost old new result
  pub peers : new.peers ≡ old.peers
