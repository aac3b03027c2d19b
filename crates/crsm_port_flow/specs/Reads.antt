-- What the port below hands up, and that all of it is taken in.
use Rattle.std.specs.Prelude.{◌≡◌, ◌⊎◌, ◌≤◌, ℕ, Bool, List, [], ◌∷◌, length, take, true, false, Option, Some, None, Result, Ok, Err}
use Rattle.crsm_base.specs.declared.memory.Failed.{Failed}
use Rattle.crsm_base.specs.declared.memory.NoMemory.{NoMemory}
use Rattle.crsm_port.specs.Meaning.{Meaning, Packet, Receives, Reserves, SendsAll}
use Rattle.crsm_port.specs.declared.port.Recv.{Recv}
use Rattle.crsm_port.specs.declared.port.Recv.TheVariants.{Nothing, Datagram}
use Rattle.crsm_port_flow.specs.Hears.{AreKnownBy}
use Rattle.crsm_port_flow.specs.Lost.{TakesIn}
use Rattle.crsm_port_flow.specs.Order.{NextGoes}
use Rattle.crsm_port_flow.specs.Same.{SameKept}
use Rattle.crsm_port_flow.specs.Turns.{AreInTime, DropsOver}
use Rattle.crsm_port_flow.specs.Windows.{WindowTakes}
use Rattle.crsm_port_flow.specs.declared.datagram.Losses.{Losses}
use Rattle.crsm_port_flow.specs.declared.flow.FlowPort.{FlowPort}
use Rattle.crsm_port_flow.specs.declared.hearing.Hearing.{Hearing}
use Rattle.crsm_port_flow.specs.declared.inbound.Inbound.{Inbound}
use Rattle.crsm_port_flow.specs.declared.window.Window.{Window}

-- what is known of the peers, and which frames are under way
pub record Known : Type 0 where
  pub hearing : Hearing
  pub window : Window

abbrev pub known_of : {P C : Type 0} → FlowPort P C → Known
known_of p = record { hearing = p.hearing; window = p.outbound.window }

-- the port below, by its meaning, the bytes that there is room for, what is kept, what is known of the peers, and how many were lost
pub record State : Type 0 where
  pub below : Meaning
  pub room : ℕ
  pub kept : Inbound
  pub known : Known
  pub lost : Losses

abbrev pub state_of : {P C : Type 0} → Meaning → FlowPort P C → State
state_of below p = record { below = below; room = length p.room.items; kept = p.inbound; known = known_of p; lost = p.lost }

-- ---- what the port below is asked

-- the port below is asked, and answers this
abbrev pub Answers : Result Recv Failed → Meaning → Meaning → Type 0
Answers answer old new = (before after : List ℕ) × Receives old new before after answer

-- a receive is answered as the port below answers, or as failed where one failed before
abbrev pub IsAnswer : (had_failed : Bool) → Meaning → Meaning → (before after : List ℕ) → Result Recv Failed → Type 0
IsAnswer had_failed old new before after (Ok got) = Receives old new before after (Ok got)
IsAnswer had_failed old new before after (Err e) = Receives old new before after (Err e) ⊎ ((new ≡ old) × (had_failed ≡ true))

-- what is known of the peers stays, and so does how many were lost
abbrev pub SameRest : State → State → Type 0
SameRest old new = (new.room ≡ old.room) × (new.known ≡ old.known) × (new.lost ≡ old.lost)

-- this stays, and what waits to go up
abbrev pub StaysAbove : State → State → Type 0
StaysAbove old new = SameKept old.kept new.kept × SameRest old new

-- all this stays, and the port below is not asked
abbrev pub Stands : State → State → Type 0
Stands old new = (new.below ≡ old.below) × StaysAbove old new

-- the port below hands up this datagram, cut to the room, and it is taken in
pub record TakesOne (now : ℕ) (p : Packet) (old new : State) : Type 0 where
  pub before : List ℕ
  pub after : List ℕ
  pub len : ℕ
  pub room : (length before ≡ old.room) × (new.room ≡ old.room)
  pub receives : Receives old.below new.below before after (Ok (Datagram p.address len))
  pub bytes : p.bytes ≡ take len after
  pub taken : TakesIn p.address p.bytes now old.known.hearing.peers.items old.kept new.kept old.lost new.lost
  pub known : AreKnownBy old.known.hearing.me p.address p.bytes now old.known.hearing.peers.items new.known.hearing.peers.items
  pub window : WindowTakes p.address p.bytes now old.known.hearing.peers.items old.known.window new.known.window
  pub me : new.known.hearing.me ≡ old.known.hearing.me

-- it hands up these, one after another, and each is taken in
abbrev pub TakesAll : ℕ → List Packet → State → State → Type 0
TakesAll now [] old new = Stands old new
TakesAll now (p ∷ ps) old new = (asked came : State) × Stands old asked × TakesOne now p asked came × TakesAll now ps came new

-- ---- a receive

-- a receive ends, after these came: with the next datagram that goes up, with none if the port below has none or 2,048 came, or as failed if the port below fails, or failed before
abbrev pub Ends : (had_failed : Bool) → List Packet → (before after : List ℕ) → State → State → Result Recv Failed → Type 0
Ends had_failed came before after last new (Ok Nothing) = StaysAbove last new × (Answers (Ok Nothing) last.below new.below ⊎ ((new.below ≡ last.below) × (2_048 ≤ length came)))
Ends had_failed came before after last new (Ok (Datagram from len)) =
    NextGoes last.kept new.kept before after (Datagram from len) × SameRest last new × (Answers (Ok Nothing) last.below new.below ⊎ (new.below ≡ last.below))
Ends had_failed came before after last new (Err e) = StaysAbove last new × (Answers (Err e) last.below new.below ⊎ ((new.below ≡ last.below) × (had_failed ≡ true)))

-- all that the port below hands up is taken in, and then the receive ends
abbrev pub TakesAndEnds : (had_failed : Bool) → ℕ → (before after : List ℕ) → State → State → Result Recv Failed → Type 0
TakesAndEnds had_failed now before after old new result = (came : List Packet) × (last : State) × TakesAll now came old last × Ends had_failed came before after last new result

-- a receive: the acknowledgements that were held are sent, all that the port below hands up is taken in, and then it ends
abbrev pub SendsAndTakes : (acks : List Packet) → (had_failed : Bool) → ℕ → (before after : List ℕ) → State → State → Result Recv Failed → Type 0
SendsAndTakes acks had_failed now before after old new result = (sent : Meaning) × SendsAll acks old.below sent × TakesAndEnds had_failed now before after (record old { below = sent }) new result

-- one is taken in, or the receive ends
abbrev pub TakesOrEnds : (had_failed : Bool) → ℕ → (before after : List ℕ) → State → State → Result (Option Recv) Failed → Type 0
TakesOrEnds had_failed now before after old new (Ok None) = (p : Packet) × TakesAll now (p ∷ []) old new
TakesOrEnds had_failed now before after old new (Ok (Some got)) = (last : State) × Stands old last × Ends had_failed [] before after last new (Ok got)
TakesOrEnds had_failed now before after old new (Err e) = (last : State) × Stands old last × Ends had_failed [] before after last new (Err e)

-- ---- reading ahead

-- none is taken in: a receive failed before, or the port below has none, or fails
abbrev pub ReadsNone : (had_failed has_failed : Bool) → State → State → Type 0
ReadsNone had_failed has_failed old new =
    StaysAbove old new
    × (((new.below ≡ old.below) × (had_failed ≡ true) × (has_failed ≡ true))
    ⊎ ((Answers (Ok Nothing) old.below new.below × (has_failed ≡ had_failed)) ⊎ ((e : Failed) × Answers (Err e) old.below new.below × (has_failed ≡ true))))

-- one is taken in, or none
abbrev pub ReadsOne : (had_failed has_failed : Bool) → ℕ → State → State → Bool → Type 0
ReadsOne had_failed has_failed now old new true = (p : Packet) × TakesOne now p old new × (has_failed ≡ had_failed)
ReadsOne had_failed has_failed now old new false = ReadsNone had_failed has_failed old new

-- all that the port below hands up is taken in, until 1,024 datagrams of peers are ready, 2,048 came, or there is none
abbrev pub ReadsAll : (had_failed has_failed : Bool) → ℕ → State → State → Type 0
ReadsAll had_failed has_failed now old new =
    (came : List Packet) × (last : State) × TakesAll now came old last
    × ((Stands last new × (has_failed ≡ had_failed) × ((1_024 ≤ length new.kept.peers.ready.items) ⊎ (2_048 ≤ length came))) ⊎ ReadsNone had_failed has_failed last new)

-- the oldest requests are dropped, each after two seconds, and nothing else changes of what waits to go up
abbrev pub DropsOld : ℕ → State → State → Type 0
DropsOld now old new =
    (new.below ≡ old.below) × SameRest old new × (new.kept.peers ≡ old.kept.peers) × (new.kept.clients.operate ≡ old.kept.clients.operate)
    × DropsOver now old.kept.clients.requests.waiting.items new.kept.clients.requests.waiting.items × AreInTime now new.kept.clients.requests.waiting.items

-- memory is reserved: the oldest requests are dropped, what has arrived is read ahead, and the port below reserves memory
abbrev pub ReadsAhead : (had_failed has_failed : Bool) → (now sends bytes : ℕ) → State → State → Result (Unit {0}) NoMemory → Type 0
ReadsAhead had_failed has_failed now sends bytes old new result =
    (looked read : State) × DropsOld now old looked × ReadsAll had_failed has_failed now looked read × Reserves sends bytes read.below new.below result × StaysAbove read new
