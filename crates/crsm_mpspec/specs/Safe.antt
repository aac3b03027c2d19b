-- The laws of every run: agreement, answers and real time. They are stated over one list of values and the sequential
-- store, and mention no ballots, votes or leaders.
use Rattle.std.specs.Prelude.{◌≡◌, ◌≢◌, ℕ, ◌<◌, ◌≤◌, take, List, Option, None, Some, slice_get}
use Rattle.std.specs.List.{AllByRecursion}
use Rattle.crsm_spec.specs.Lists.{IsPrefixOf}
use Rattle.crsm_spec.specs.Acts.{Act}
use Rattle.crsm_spec.specs.Safe.{command_of}
use Rattle.crsm_mpspec.specs.declared.line.MpLine.{MpLine}
use Rattle.crsm_mpspec.specs.Types.{Command, Answer, Value}
use Rattle.crsm_mpspec.specs.Values.{answer_after}
use Rattle.crsm_mpspec.specs.World.{begin}
use Rattle.crsm_mpspec.specs.Run.{TraceLine, ArePossible, seen, all_lists, the_list}

-- ---- words

-- the i-th line of a run is this one
abbrev pub IsLineAt : List TraceLine → ℕ → MpLine → Type 0
IsLineAt lines i line = (by : Option Act) × (slice_get lines i ≡ Some (record { by = by; line = line }))

-- the i-th line of a run says that this command was submitted at k, at this slot
abbrev pub IsSubmitAt : List TraceLine → ℕ → ℕ → ℕ → Command → Type 0
IsSubmitAt lines i k slot c =
    (by : Option Act) × (round proposer : ℕ) × (command_of by ≡ Some c)
    × (slice_get lines i ≡ Some (record { by = by; line = MpLine.Submit k slot round proposer c.client c.number }))

-- the command at this slot, and the store's answer to it
abbrev pub AnswersAt : List Value → ℕ → Command → Answer → Type 0
AnswersAt vs slot c a = (slice_get vs slot ≡ Some (Some c)) × (a ≡ answer_after (take slot vs) c)

-- before the i-th line this command, of this client and number, was submitted at k, at this slot
pub record WasSubmitted (lines : List TraceLine) (i k slot client number : ℕ) (c : Command) : Type 0 where
  pub line : ℕ
  pub before : line < i
  pub submitted : IsSubmitAt lines line k slot c
  pub of_client : c.client ≡ client
  pub of_number : c.number ≡ number

-- ---- agreement

-- All executed lists, at any moments, are prefixes of one list.
abbrev pub Agreed : ℕ → List Act → Type 0
Agreed n acts = AllByRecursion (λ vs. IsPrefixOf vs (the_list n acts)) (all_lists n acts)

-- ---- answers

-- Each executed command, and each answer, is the one list's at its slot. A reply is to a command that was submitted
-- at its replica and slot before. Where a command is said to be dropped, another value was chosen at its slot.
pub record Answered (n : ℕ) (acts : List Act) : Type 0 where
  pub executed : (i k slot client number : ℕ) (a : Answer) →
      IsLineAt (seen n acts) i (MpLine.Exec k slot client number a) →
      (c : Command) × AnswersAt (the_list n acts) slot c a × (c.client ≡ client) × (c.number ≡ number)
  pub noops : (i k slot : ℕ) →
      IsLineAt (seen n acts) i (MpLine.ExecNoop k slot) → slice_get (the_list n acts) slot ≡ Some None
  pub answered : (i k client number slot : ℕ) (a : Answer) →
      IsLineAt (seen n acts) i (MpLine.ReplyOk k client number slot a) →
      (c : Command) × AnswersAt (the_list n acts) slot c a × WasSubmitted (seen n acts) i k slot client number c
  pub dropped : (i k client number slot : ℕ) →
      IsLineAt (seen n acts) i (MpLine.ReplyDropped k client number slot) →
      (c : Command) × (v : Value) × (slice_get (the_list n acts) slot ≡ Some v) × (v ≢ Some c)
      × WasSubmitted (seen n acts) i k slot client number c

-- ---- real time

-- A command that is submitted for the first time after another was answered is executed after it, if at all.
abbrev pub RealTime : ℕ → List Act → Type 0
RealTime n acts =
    (i j k client number slot k' slot' : ℕ) (a : Answer) (c : Command) → i < j →
    IsLineAt (seen n acts) i (MpLine.ReplyOk k client number slot a) →
    IsSubmitAt (seen n acts) j k' slot' c →
    ((earlier l s : ℕ) → earlier < j → IsSubmitAt (seen n acts) earlier l s c → ⊥) →
    (q : ℕ) → slice_get (the_list n acts) q ≡ Some (Some c) → slot < q

-- ---- the law

-- Every run is safe, of every cluster of 1 to 15 replicas, over every list of acts that have a text and are possible:
-- its executed lists agree, its answers are right, and it keeps real time.
abbrev pub IsSafe : Type 0
IsSafe =
    (n : ℕ) → 1 ≤ n → n ≤ 15 → (acts : List Act) → ArePossible (begin n) acts →
    Agreed n acts × Answered n acts × RealTime n acts
