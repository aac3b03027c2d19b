-- The laws of numbers: of every list of entries, executed in order on an empty store.
use Rattle.std.specs.Prelude.{◌≡◌, ◌⊎◌, ℕ, ◌<◌, ◌≤◌, List}
use Rattle.crsm_spec.specs.Types.{Answer, Entry}
use Rattle.crsm_law_once.specs.Numbered.{AllLowerBefore, ChangesKeys, ChangesNothing, HasNoRoomFor, IsAnswered, IsExecuted, IsStaleAt, NoneHigherBetween}

-- of all entries with one client and one number at most one changes the keys or their values
abbrev pub OneChangesKeys : Type 0
OneChangesKeys =
    (es : List Entry) (p q client number : ℕ) (a b : Answer) → IsAnswered es p client number a →
    IsAnswered es q client number b → ChangesKeys es p → ChangesKeys es q → p ≡ q

-- an entry changes nothing behind one with its client's same number, or with a higher one
abbrev pub OldNumbersChangeNothing : Type 0
OldNumbersChangeNothing =
    (es : List Entry) (p q client number latest : ℕ) (a b : Answer) → p < q → number ≤ latest →
    IsAnswered es p client latest a → IsAnswered es q client number b → ChangesNothing es q

-- a number that is above all of its client's before is executed, unless there is no room for the client
abbrev pub NewNumbersAreExecuted : Type 0
NewNumbersAreExecuted =
    (es : List Entry) (p client number : ℕ) (a : Answer) → (x : IsAnswered es p client number a) →
    AllLowerBefore es p client number →
    IsExecuted es p x.entry a ⊎ (HasNoRoomFor es p client × (a ≡ Answer.NoRoom) × ChangesNothing es p)

-- a repeat is answered as before, if no higher number of the client stands between
abbrev pub RepeatsAreAnsweredAlike : Type 0
RepeatsAreAnsweredAlike =
    (es : List Entry) (p q client number : ℕ) (a b : Answer) → p < q → IsAnswered es p client number a →
    IsAnswered es q client number b → NoneHigherBetween es p q client number → b ≡ a

-- behind a higher number an entry is stale, unless there is no room for the client
abbrev pub PassedNumbersAreStale : Type 0
PassedNumbersAreStale =
    (es : List Entry) (p q client number latest : ℕ) (a b : Answer) → p < q → number < latest →
    IsAnswered es p client latest a → IsAnswered es q client number b →
    IsStaleAt es q client number b ⊎ (HasNoRoomFor es q client × (b ≡ Answer.NoRoom))

-- every answer to a client's number is that of the first entry which has it, or says that the number is stale
abbrev pub AnswersTellTheFirst : Type 0
AnswersTellTheFirst =
    (es : List Entry) (p q client number : ℕ) (a b : Answer) → p ≤ q → IsAnswered es p client number a →
    IsAnswered es q client number b → (b ≡ a) ⊎ IsStaleAt es q client number b
