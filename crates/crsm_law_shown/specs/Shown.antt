-- What a client knows of the one list once it has asked for a command.
use Rattle.std.specs.Prelude.{◌≡◌, ℕ, List, Result, Ok, Err}
use Rattle.crsm_spec.specs.Types.{Answer, Command, Entry, Outcome}
use Rattle.crsm_spec.specs.Safe.{AnswersAt}
use Rattle.crsm_client.specs.declared.error.AskError.{AskError}
use Rattle.crsm_law_cluster.specs.Clusters.{Event}
use Rattle.crsm_law_cluster.specs.OneList.{one_list}
use Rattle.crsm_law_cluster.specs.Requests.{IsSubmitted}
use Rattle.crsm_law_once.specs.Numbered.{ChangesKeys, IsAnswered}
use Rattle.crsm_law_replies.specs.First.{TellsFirst}

-- The answer is the store's at a place of the one list at which this command stands, submitted by a request of it. It
-- is the answer to the first entry of the number, or the number is stale.
pub record IsTheStores (n : ℕ) (h : List Event) (command : Command) (a : Answer) : Type 0 where
  pub place : ℕ
  pub entry : Entry
  pub at : AnswersAt (one_list n h) place entry a
  pub is_command : entry.command ≡ command
  pub event : ℕ
  pub address : ℕ
  pub submitted : IsSubmitted n h event address entry
  pub tells : TellsFirst (one_list n h) command.client command.number a

-- at one place at most the client's number changes the keys
abbrev pub IsDoneOnce : ℕ → List Event → Command → Type 0
IsDoneOnce n h command =
    (p q : ℕ) (a b : Answer) → IsAnswered (one_list n h) p command.client command.number a →
    IsAnswered (one_list n h) q command.client command.number b →
    ChangesKeys (one_list n h) p → ChangesKeys (one_list n h) q → p ≡ q

-- What the client knows. A refusal is of one request, and without an answer all is open: the command may stand in the
-- list already, later or never. If it is done, then once.
abbrev pub IsKnown : ℕ → List Event → Command → Result Outcome AskError → Type 0
IsKnown n h command (Ok (Outcome.Answered a)) = IsTheStores n h command a
IsKnown n h command (Ok (Outcome.Refused why)) = IsDoneOnce n h command
IsKnown n h command (Err e) = IsDoneOnce n h command
