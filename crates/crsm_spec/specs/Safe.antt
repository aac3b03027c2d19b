-- The safety of every run: agreement, answers and real time. These laws speak of one list of entries and of the
-- sequential store, and not of votes, epoch changes, links or logs.
use Rattle.std.specs.Prelude.{◌≡◌, ℕ, ◌<◌, ◌≤◌, List, take, Option, None, Some, slice_get}
use Rattle.std.specs.List.{AllByRecursion}
use Rattle.crsm_spec.specs.Types.{Stamp, Command, Entry, Answer, Line}
use Rattle.crsm_spec.specs.Lists.{IsPrefixOf}
use Rattle.crsm_base.specs.Store.{answer_after}
use Rattle.crsm_base.specs.Spelling.{Rises}
use Rattle.crsm_spec.specs.World.{begin}
use Rattle.crsm_spec.specs.Acts.{Act, Single}
use Rattle.crsm_spec.specs.Run.{TraceLine, ArePossible, seen, all_lists, the_list}

-- ---- words

-- the command of a request
unfoldable pub command_of_single : Single → Option Command
command_of_single (Single.Request k t c) = Some c
command_of_single _ = None

-- the command of an act that is one request
unfoldable pub command_of : Option Act → Option Command
command_of (Some (Act.One s)) = command_of_single s
command_of (Some (Act.CutLost s)) = command_of_single s
command_of (Some (Act.CutKept count s)) = command_of_single s
command_of (Some (Act.CutAt calls fill s)) = command_of_single s
command_of _ = None

-- the line is the submission of this entry at its origin, by a request of its command
abbrev pub Submits : TraceLine → Entry → Type 0
Submits t e =
    (t.line ≡ Line.Submit e.stamp.origin e.epoch e.stamp.time e.command.client e.command.number)
    × (command_of t.by ≡ Some e.command)

-- the line is the execution of an entry of this epoch and stamp
abbrev pub IsExecOf : ℕ → Stamp → Line → Type 0
IsExecOf epoch stamp (Line.Exec k place x s client number a) = (x ≡ epoch) × (s ≡ stamp)
IsExecOf epoch stamp _ = ⊥

-- the line is the submission of an entry of this epoch and stamp
abbrev pub IsSubmitOf : ℕ → Stamp → Line → Type 0
IsSubmitOf epoch stamp (Line.Submit k x time client number) = (x ≡ epoch) × (record { time = time; origin = k } ≡ stamp)
IsSubmitOf epoch stamp _ = ⊥

-- the i-th line of a run is this one
abbrev pub IsLineAt : List TraceLine → ℕ → Line → Type 0
IsLineAt lines i line = (by : Option Act) × (slice_get lines i ≡ Some (record { by = by; line = line }))

-- the entry at this place, and the store's answer to it
abbrev pub AnswersAt : List Entry → ℕ → Entry → Answer → Type 0
AnswersAt es place e a = (slice_get es place ≡ Some e) × (a ≡ answer_after (take place es) e)

-- ---- agreement

-- All executed lists, at any moments, are prefixes of one list. It rises by epoch and stamp, and each entry of it was
-- submitted by its origin for a client's request before it was executed anywhere. No epoch and stamp is submitted
-- twice.
pub record Agreed (n : ℕ) (acts : List Act) : Type 0 where
  pub prefixes : AllByRecursion (λ es. IsPrefixOf es (the_list n acts)) (all_lists n acts)
  pub ascending : Rises (the_list n acts)
  pub submitted : (p : ℕ) (e : Entry) → slice_get (the_list n acts) p ≡ Some e →
      (i : ℕ) × (t : TraceLine) × (slice_get (seen n acts) i ≡ Some t) × Submits t e
      × ((j : ℕ) (u : TraceLine) → slice_get (seen n acts) j ≡ Some u → IsExecOf e.epoch e.stamp u.line → i < j)
  pub submitted_once : (epoch : ℕ) (stamp : Stamp) (i j : ℕ) (t u : TraceLine) →
      slice_get (seen n acts) i ≡ Some t → slice_get (seen n acts) j ≡ Some u →
      IsSubmitOf epoch stamp t.line → IsSubmitOf epoch stamp u.line → i ≡ j

-- ---- answers

-- before the i-th line an entry of this epoch and time was submitted at k, by this client with this number
abbrev pub WasSubmitted : List TraceLine → ℕ → ℕ → ℕ → ℕ → ℕ → ℕ → Type 0
WasSubmitted lines i k epoch time client number =
    (j : ℕ) × (j < i) × IsLineAt lines j (Line.Submit k epoch time client number)

-- Two reply lines of a run are for one submitted entry.
abbrev pub AreOnOneEntry : Line → Line → Type 0
AreOnOneEntry (Line.ReplyOk k c m place a) (Line.ReplyOk k' c' m' place' a') = place ≡ place'
AreOnOneEntry (Line.ReplyDropped k c m x s) (Line.ReplyDropped k' c' m' x' s') = (x ≡ x') × (s ≡ s')
AreOnOneEntry _ _ = ⊥

-- Each executed entry, and each answer, is the one list's at its place. A reply is for an entry of its client and
-- number, submitted before at the replica that replies. An entry reported as dropped is in no executed list. No entry
-- is replied to twice.
pub record Answered (n : ℕ) (acts : List Act) : Type 0 where
  pub executed : (i k place epoch : ℕ) (s : Stamp) (client number : ℕ) (a : Answer) →
      IsLineAt (seen n acts) i (Line.Exec k place epoch s client number a) →
      (e : Entry) × AnswersAt (the_list n acts) place e a
      × (e.epoch ≡ epoch) × (e.stamp ≡ s) × (e.command.client ≡ client) × (e.command.number ≡ number)
  pub answered : (i k client number place : ℕ) (a : Answer) →
      IsLineAt (seen n acts) i (Line.ReplyOk k client number place a) →
      (e : Entry) × AnswersAt (the_list n acts) place e a
      × (e.stamp.origin ≡ k) × (e.command.client ≡ client) × (e.command.number ≡ number)
      × WasSubmitted (seen n acts) i k e.epoch e.stamp.time client number
  pub dropped : (i k client number epoch : ℕ) (s : Stamp) →
      IsLineAt (seen n acts) i (Line.ReplyDropped k client number epoch s) →
      (s.origin ≡ k) × WasSubmitted (seen n acts) i k epoch s.time client number
      × AllByRecursion (AllByRecursion (λ e. ((e.epoch ≡ epoch) × (e.stamp ≡ s)) → ⊥)) (all_lists n acts)
  pub once : (i j : ℕ) (t u : TraceLine) → slice_get (seen n acts) i ≡ Some t → slice_get (seen n acts) j ≡ Some u →
      AreOnOneEntry t.line u.line → i ≡ j

-- ---- real time

-- A command submitted after another was answered has a later place in the list.
abbrev pub RealTime : ℕ → List Act → Type 0
RealTime n acts =
    (i j k client number place k' epoch time client' number' : ℕ) (a : Answer) (q : ℕ) (e : Entry) → i < j →
    IsLineAt (seen n acts) i (Line.ReplyOk k client number place a) →
    IsLineAt (seen n acts) j (Line.Submit k' epoch time client' number') →
    slice_get (the_list n acts) q ≡ Some e → e.epoch ≡ epoch → e.stamp ≡ record { time = time; origin = k' } →
    place < q

-- ---- the headline

-- Every run is safe: in every cluster of 1 to 15 replicas, over every list of possible acts that a schedule can
-- express, executed lists agree, answers are right, and real time is kept.
abbrev pub IsSafe : Type 0
IsSafe =
    (n : ℕ) → 1 ≤ n → n ≤ 15 → (acts : List Act) → ArePossible (begin n) acts →
    Agreed n acts × Answered n acts × RealTime n acts
