-- A step on bytes from an address is the turn that receives them.
use Rattle.std.proofs.Common.{◌≡◌, ℕ, List, Result, Ok, Err, IfOk, sym, ap, subst}
use Rattle.std.specs.Prelude.{Option, Some, None, option_map}
use Rattle.std.specs.Option.{option_map_or}
use Rattle.crsm_base.specs.declared.NoMemory.{NoMemory}
use Rattle.crsm_base.specs.MessageReading.{datagram_of}
use Rattle.crsm_spec.specs.Types.{Datagram}
use Rattle.crsm_spec.specs.Replica.{Replica}
use Rattle.crsm_spec.specs.Draft.{Draft, begun}
use Rattle.crsm_spec.specs.Node.{Turn, turn, input_of}
use Rattle.crsm_spec.specs.Step.{Input, step}
use Rattle.crsm_core.specs.declared.replica.Core.{Core}
use Rattle.crsm_core.specs.Core.{Answers, CoreStands}
use Rattle.crsm_replica_output.specs.declared.batch.Batch.{Batch}
use Rattle.crsm_replica_rerun.specs.Stages.{IsOfOne, IsSpelt, TakesTurn}

-- bytes that are a datagram are stepped on
turn_came : (r : Replica) (from reading : ℕ) (bytes : List ℕ) (d : Datagram) → datagram_of bytes ≡ Some d → turn r (Turn.In from bytes, reading) ≡ step r (Input.Came from d) reading
unfolding turn input_of
turn_came r from reading bytes d is =
    ap (λ (o : Option Datagram). option_map_or (λ i. step r i reading) (option_map (Input.Came from) o) (begun r)) is

-- others do nothing
pub turn_nothing : (r : Replica) (from reading : ℕ) (bytes : List ℕ) → datagram_of bytes ≡ None → turn r (Turn.In from bytes, reading) ≡ begun r
unfolding turn input_of
turn_nothing r from reading bytes is =
    ap (λ (o : Option Datagram). option_map_or (λ i. step r i reading) (option_map (Input.Came from) o) (begun r)) is

-- the batch answers this draft, and the core stands for its replica
abbrev pub Steps : Core → Batch → Draft → Type 0
Steps new batch x = Answers batch x × CoreStands new x.replica

pub as_turn : (result : Result Batch NoMemory) (old new : Core) (from reading : ℕ) (bytes : List ℕ) (d : Datagram) → datagram_of bytes ≡ Some d
    → IfOk result (λ (batch : Batch). (r : Replica) → CoreStands old r → Steps new batch (step r (Input.Came from d) reading))
    → TakesTurn old (Turn.In from bytes, reading) result new
as_turn (Ok batch) old new from reading bytes d is f = λ r stands.
    subst (Steps new batch) (sym (turn_came r from reading bytes d is)) (f r stands)
as_turn (Err e) old new from reading bytes d is f = f

-- what a turn of some replica has made has an encoding, and the core stands for some replica again
pub some_turn : (batch : Batch) (old new : Core) (t : Turn × ℕ) → ((r : Replica) → CoreStands old r → Answers batch (turn r t) × CoreStands new (turn r t).replica)
    → IsOfOne old → IsSpelt batch × IsOfOne new
some_turn batch old new t f o =
    let s = f o.replica o.stands in ((s.0.records, s.0.sends), record { replica = (turn o.replica t).replica; stands = s.1 })
