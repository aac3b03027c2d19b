-- Executed entries as an observer of their clients sees them. Times are natural numbers, of any clock by which the
-- observer orders what clients do.
use Rattle.std.specs.Prelude.{◌≡◌, ℕ, ◌<◌, List, map, Option, Some, slice_get}
use Rattle.crsm_spec.specs.Types.{Answer, Entry, Op}
use Rattle.crsm_spec.specs.Safe.{AnswersAt}

-- an answer, and when the client had it
pub record Answered : Type 0 where
  pub answer : Answer
  pub had : ℕ

-- an executed entry: when its client asked for it, and its answer, if the client had one
pub record Served : Type 0 where
  pub entry : Entry
  pub asked : ℕ
  pub answered : Option Answered

-- the entries, in their order
abbrev pub entries_of : List Served → List Entry
entries_of list = map (λ x. x.entry) list

-- the client of x had its answer before that of y asked
abbrev pub Precedes : Served → Served → Type 0
Precedes x y = (a : Answered) × (x.answered ≡ Some a) × (a.had < y.asked)

-- what was asked for after another's answer was had has a later place
abbrev pub KeepsRealTime : List Served → Type 0
KeepsRealTime list =
    (p q : ℕ) (x y : Served) → slice_get list p ≡ Some x → slice_get list q ≡ Some y → Precedes x y → p < q

-- each answer is the sequential store's at its place
abbrev pub AreRight : List Served → Type 0
AreRight list =
    (p : ℕ) (x : Served) (a : Answered) → slice_get list p ≡ Some x → x.answered ≡ Some a →
    AnswersAt (entries_of list) p x.entry a.answer

-- the key of an operation
abbrev pub key_of : Op → List ℕ
key_of (Op.Get key) = key
key_of (Op.Put key value) = key
key_of (Op.Delete key) = key
key_of (Op.Cas key expected new) = key

-- the shard of an entry: that of its key
abbrev pub shard_in : (List ℕ → ℕ) → Entry → ℕ
shard_in shard e = shard (key_of e.command.op)
