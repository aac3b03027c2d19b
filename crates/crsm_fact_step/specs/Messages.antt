-- The control message that an input completes, and when a control message that a step sends is true.
use Rattle.std.specs.Prelude.{◌≡◌, ◌⊎◌, ℕ, ◌<◌, IsTrue, List, length, Option, Some, None}
use Rattle.crsm_base.specs.MessageReading.{control_of}
use Rattle.crsm_spec.specs.Types.{Stamp, Decision, Datagram, Control}
use Rattle.crsm_spec.specs.Log.{known, decision, executed, suspended, promised, accepted}
use Rattle.crsm_spec.specs.Replica.{Replica, Coordinator, LogPage}
use Rattle.crsm_spec.specs.Paxos.{Answer}
use Rattle.crsm_spec.specs.Parts.{Piece, whole_with}
use Rattle.crsm_spec.specs.Draft.{Draft}
use Rattle.crsm_spec.specs.Collect.{suspend_ok, cursor}
use Rattle.crsm_spec.specs.Coordinate.{has_accepted, instance}
use Rattle.crsm_spec.specs.Controls.{page_from}
use Rattle.crsm_spec.specs.Step.{Input}

-- The input is a part from replica k that completes this control message of k at r.
pub record ReceivesControl (r : Replica) (input : Input) (k : ℕ) (c : Control) : Type 0 where
  pub address : ℕ
  pub piece : Piece
  pub message : List ℕ
  pub from : piece.from ≡ k
  pub came : input ≡ Input.Came address (Datagram.Part piece.from r.me piece.boot piece.number piece.index piece.count piece.bytes)
  pub whole : whole_with piece r.parts ≡ Some message
  pub is : control_of message ≡ Some c

-- a coordinator requests a report from its beginning, or from the end of the pages that it has
abbrev pub IsAsked : Coordinator → Option Stamp → Type 0
IsAsked coordinator after =
    (after ≡ None) ⊎ ((ms : List ℕ) × (pages : List LogPage) × (k : ℕ) × (coordinator ≡ Coordinator.Collecting ms pages) × (after ≡ cursor pages k))

-- A control message that a step sends says what the replica's log and coordinator are at that moment.
abbrev pub IsSent : Draft → Control → Type 0
IsSent x (Control.Suspend e after) = (e ≡ known x.replica.log) × IsAsked x.replica.coordinator after
IsSent x (Control.SuspendOk e done last after whole es) =
    IsTrue (suspended x.replica.log) × (Control.SuspendOk e done last after whole es ≡ suspend_ok x.replica.log after)
IsSent x (Control.P1a i b) =
    (i ≡ instance x) × (own : Decision) × (answers : List (Answer Decision)) × (x.replica.coordinator ≡ Coordinator.Preparing b own answers)
IsSent x (Control.P1b i b v) = (i ≡ instance x) × (promised x.replica.log ≡ b) × (v ≡ accepted x.replica.log)
IsSent x (Control.P1no i b top) = (i ≡ instance x) × (top ≡ promised x.replica.log)
IsSent x (Control.P2a i b d) =
    (i ≡ instance x) × (own : Decision) × (acceptors : List ℕ) × (x.replica.coordinator ≡ Coordinator.Proposing b own d acceptors)
IsSent x (Control.P2b i b) = (i ≡ instance x) × IsTrue (has_accepted b x)
IsSent x (Control.Decide d) = decision x.replica.log ≡ Some d
IsSent x (Control.Retrieve e from) = (e ≡ known x.replica.log) × (from ≡ length (executed x.replica.log))
IsSent x (Control.Page e from es) =
    (from < length (executed x.replica.log)) × (Control.Page e from es ≡ page_from x.replica.log from)

-- Answers are sent to a control message received in the same step; other messages answer nothing.
abbrev pub Answers : Replica → Input → Control → Type 0
Answers r input (Control.SuspendOk e done last after whole es) = (k : ℕ) × ReceivesControl r input k (Control.Suspend e after)
Answers r input (Control.P1b i b v) = (k : ℕ) × ReceivesControl r input k (Control.P1a i b)
Answers r input (Control.P1no i b top) =
    (k : ℕ) × (ReceivesControl r input k (Control.P1a i b) ⊎ ((d : Decision) × ReceivesControl r input k (Control.P2a i b d)))
Answers r input (Control.P2b i b) = (k : ℕ) × (d : Decision) × ReceivesControl r input k (Control.P2a i b d)
Answers r input _ = Unit {0}
