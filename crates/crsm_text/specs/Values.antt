-- The texts of keys, values, operations and answers, and which of these have a text.
use Rattle.std.specs.Prelude.{ℕ, List, [], ◌∷◌, ◌++◌, codes, Option, Some, None}
use Rattle.hex.specs.Hex.{encode_lower, IsBytes}
use Rattle.crsm_base.specs.declared.Op.{Op}
use Rattle.crsm_base.specs.declared.Op.TheVariants.{Get, Put, Delete, Cas}
use Rattle.crsm_base.specs.declared.Answer.{Answer}
use Rattle.crsm_base.specs.declared.Answer.TheVariants.{Found, Missing, Done, Differs, Stale, NoRoom}
use Rattle.crsm_base.specs.declared.Outcome.{Outcome}
use Rattle.crsm_base.specs.declared.Outcome.TheVariants.{Answered, Refused}
use Rattle.crsm_base.specs.Spelling.{FitsOption, refusal_number}
use Rattle.crsm_text.specs.Words.{spaced, named}

-- a value: its bytes in lower-case hexadecimal, or `empty`
abbrev pub value_text : List ℕ → List ℕ
value_text [] = codes "empty"
value_text (b ∷ bs) = encode_lower (b ∷ bs)

-- an optional value: the value, or `none`
abbrev pub option_text : Option (List ℕ) → List ℕ
option_text None = codes "none"
option_text (Some val) = value_text val

abbrev pub op_text : Op → List ℕ
op_text (Get key) = spaced (codes "get" ∷ encode_lower key ∷ [])
op_text (Put key val) = spaced (codes "put" ∷ encode_lower key ∷ value_text val ∷ [])
op_text (Delete key) = spaced (codes "del" ∷ encode_lower key ∷ [])
op_text (Cas key expected new) = spaced (codes "cas" ∷ encode_lower key ∷ option_text expected ∷ option_text new ∷ [])

abbrev pub answer_text : Answer → List ℕ
answer_text (Found val) = spaced (codes "found" ∷ value_text val ∷ [])
answer_text Missing = codes "missing"
answer_text Done = codes "done"
answer_text (Differs val) = spaced (codes "differs" ∷ option_text val ∷ [])
answer_text (Stale number) = named (codes "stale") (number ∷ [])
answer_text NoRoom = codes "noroom"

-- the line that a client is shown, with its line feed
abbrev pub outcome_text : Outcome → List ℕ
outcome_text (Answered answer) = codes "ok " ++ (answer_text answer ++ 10 ∷ [])
outcome_text (Refused refusal) = named (codes "no") (refusal_number refusal ∷ []) ++ 10 ∷ []

-- keys and values of the operation consist of bytes
abbrev pub HasBytes : Op → Type 0
HasBytes (Get key) = IsBytes key
HasBytes (Put key val) = IsBytes key × IsBytes val
HasBytes (Delete key) = IsBytes key
HasBytes (Cas key expected new) = IsBytes key × FitsOption IsBytes expected × FitsOption IsBytes new
