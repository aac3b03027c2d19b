-- The counts of lines by their kind.
use Rattle.std.specs.Prelude.{ℕ, Bool, true, false, List, fold, max}
use Rattle.crsm_spec.specs.Types.{Line}

-- a command was submitted
unfoldable pub is_submission : Line → Bool
is_submission (Line.Submit replica epoch time client number) = true
is_submission _ = false

-- a command was answered
unfoldable pub is_answer : Line → Bool
is_answer (Line.ReplyOk replica client number place answer) = true
is_answer _ = false

-- a command was refused
unfoldable pub is_refusal : Line → Bool
is_refusal (Line.ReplyNo replica client number code) = true
is_refusal _ = false

-- a client received the reply that its command is dropped
unfoldable pub is_drop : Line → Bool
is_drop (Line.ReplyDropped replica client number epoch stamp) = true
is_drop _ = false

-- a datagram was sent
unfoldable pub is_send : Line → Bool
is_send (Line.Send index from to kind bytes) = true
is_send _ = false

-- how much its replica has executed, by a final line
unfoldable pub executed_in : Line → ℕ
executed_in (Line.Final replica state known executed) = executed
executed_in _ = 0

-- the epoch that its replica knows, by a final line
unfoldable pub known_in : Line → ℕ
known_in (Line.Final replica state known executed) = known
known_in _ = 0

-- the greatest number that lines give, 0 where there is none
unfoldable pub greatest : (Line → ℕ) → List Line → ℕ
greatest f lines = fold (λ most line. max most (f line)) 0 lines
