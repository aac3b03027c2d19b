-- A step on bytes from an address is the turn that receives them.
use Rattle.std.proofs.Common.{◌≡◌, ℕ, List, Result, Ok, Err, IfOk, sym, ap, subst}
use Rattle.std.specs.Prelude.{Option, Some, None, option_and_then, option_map}
use Rattle.std.specs.Option.{option_map_or}
use Rattle.crsm_base.specs.MessageReading.{datagram_of}
use Rattle.crsm_spec.specs.Types.{Datagram}
use Rattle.crsm_spec.specs.Replica.{Replica}
use Rattle.crsm_spec.specs.Draft.{Draft, begun}
use Rattle.crsm_spec.specs.Node.{Turn, turn, input_of}
use Rattle.crsm_spec.specs.Step.{Input, step}
use Rattle.crsm_core.specs.declared.replica.Core.{Core}
use Rattle.crsm_core.specs.Core.{Answers, CoreStands}
use Rattle.crsm_replica_output.specs.declared.batch.Batch.{Batch}
use Rattle.crsm_shell.specs.declared.make.StepResult.{StepResult}
use Rattle.crsm_shell.specs.Taking.{heard_in, sender_of}

-- bytes that are a datagram are stepped on
turn_came : (r : Replica) (from reading : ℕ) (bytes : List ℕ) (d : Datagram) → datagram_of bytes ≡ Some d → turn r (Turn.In from bytes, reading) ≡ step r (Input.Came from d) reading
unfolding turn input_of
turn_came r from reading bytes d is =
    ap (λ (o : Option Datagram). option_map_or (λ i. step r i reading) (option_map (Input.Came from) o) (begun r)) is

-- others do nothing
pub turn_nothing : (r : Replica) (from reading : ℕ) (bytes : List ℕ) → datagram_of bytes ≡ None → turn r (Turn.In from bytes, reading) ≡ begun r
unfolding turn input_of
turn_nothing r from reading bytes is =
    ap (λ (o : Option Datagram). option_map_or (λ i. step r i reading) (option_map (Input.Came from) o) (begun r)) is

-- the batch answers this draft, and the core stands for its replica
abbrev pub Steps : Core → Batch → Draft → Type 0
Steps new batch x = Answers batch x × CoreStands new x.replica

pub as_turn : {E : Type 0} (result : Result StepResult E) (old new : Core) (from reading : ℕ) (bytes : List ℕ) (d : Datagram) → datagram_of bytes ≡ Some d
    → IfOk result (λ (made : StepResult). (r : Replica) → CoreStands old r → Steps new made.batch (step r (Input.Came from d) reading))
    → IfOk result (λ (made : StepResult). (r : Replica) → CoreStands old r → Steps new made.batch (turn r (Turn.In from bytes, reading)))
as_turn (Ok made) old new from reading bytes d is f = λ r stands.
    subst (Steps new made.batch) (sym (turn_came r from reading bytes d is)) (f r stands)
as_turn (Err e) old new from reading bytes d is f = f

-- ---- who was heard

pub heard_came : (from : ℕ) (bytes : List ℕ) (d : Datagram) → datagram_of bytes ≡ Some d → heard_in (Turn.In from bytes) ≡ sender_of d
unfolding heard_in
heard_came from bytes d is = ap (option_and_then sender_of) is

pub heard_nothing : (from : ℕ) (bytes : List ℕ) → datagram_of bytes ≡ None → heard_in (Turn.In from bytes) ≡ None
unfolding heard_in
heard_nothing from bytes is = ap (option_and_then sender_of) is
