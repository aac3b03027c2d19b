-- What a port hands up and what becomes of a send, whether or not the port specifies its traffic: the datagrams that it
-- gives, each with its sender's address, and those that it has sent or may still send, each with its receiver's.
use Rattle.std.specs.Prelude.{◌≡◌, ◌⊎◌, ℕ, List, ◌++◌, take, Result, IfOk, Contains}
use Rattle.crsm_base.specs.declared.memory.Failed.{Failed}
use Rattle.crsm_port.specs.Meaning.{Packet}
use Rattle.crsm_port.specs.declared.port.Recv.{Recv}
use Rattle.crsm_port.specs.declared.port.Recv.TheVariants.{Nothing, Datagram}

-- datagrams, by their addresses and bytes
abbrev pub Datagrams : Type 1
Datagrams = ℕ → List ℕ → Type 0

-- any datagram: the port says nothing of those that it gives or sends
abbrev pub AnyDatagram : Datagrams
AnyDatagram address bytes = Unit {0}

-- those of a list
abbrev pub Among : List Packet → Datagrams
Among packets address bytes = Contains packets (record { address = address; bytes = bytes })

-- this one
abbrev pub Only : ℕ → List ℕ → Datagrams
Only from received address bytes = (address ≡ from) × (bytes ≡ received)

-- those of one kind or the other
abbrev pub either : Datagrams → Datagrams → Datagrams
either D E address bytes = D address bytes ⊎ E address bytes

-- these, each whole or cut at its end, as a short buffer cuts it
abbrev pub Cut : Datagrams → Datagrams
Cut D address bytes = (rest : List ℕ) × D address (bytes ++ rest)

-- the second are none but the first
abbrev pub NoMore : Datagrams → Datagrams → Type 0
NoMore D E = (address : ℕ) (bytes : List ℕ) → E address bytes → D address bytes

-- the second are none but the first and this one
abbrev pub OneMore : ℕ → List ℕ → Datagrams → Datagrams → Type 0
OneMore to sent D E = (address : ℕ) (bytes : List ℕ) → E address bytes → D address bytes ⊎ ((address ≡ to) × (bytes ≡ sent))

-- the received datagram is one of these
abbrev pub IsOf : Datagrams → List ℕ → Recv → Type 0
IsOf D buffer Nothing = Unit {0}
IsOf D buffer (Datagram from len) = D from (take len buffer)

-- A call that hands up nothing and is given nothing: the port gives and may send nothing but what it could before.
pub record Rests (gives gives_now sends sends_now : Datagrams) : Type 0 where
  pub no_more_given : NoMore gives gives_now
  pub no_more_sent : NoMore sends sends_now

-- A receive: what is handed up is one of the datagrams that the port gives.
pub record HandsUp (gives gives_now sends sends_now : Datagrams) (buffer : List ℕ) (result : Result Recv Failed) : Type 0 where
  pub given : IfOk result (IsOf gives buffer)
  pub no_more_given : NoMore gives gives_now
  pub no_more_sent : NoMore sends sends_now

-- A send: what may be sent is what could be before, and this datagram. One that waits is answered as one that was sent.
pub record PassesOn (gives gives_now sends sends_now : Datagrams) (to : ℕ) (bytes : List ℕ) : Type 0 where
  pub no_more_given : NoMore gives gives_now
  pub one_more_sent : OneMore to bytes sends sends_now

-- ---- the same of a port that gives these and may send those, by its state

abbrev pub RestsBy : {S : Type 0} → (S → Datagrams) → (S → Datagrams) → S → S → Type 0
RestsBy gives sends old new = Rests (gives old) (gives new) (sends old) (sends new)

abbrev pub HandsUpBy : {S : Type 0} → (S → Datagrams) → (S → Datagrams) → S → S → List ℕ → Result Recv Failed → Type 0
HandsUpBy gives sends old new buffer result = HandsUp (gives old) (gives new) (sends old) (sends new) buffer result

abbrev pub PassesOnBy : {S : Type 0} → (S → Datagrams) → (S → Datagrams) → S → S → ℕ → List ℕ → Type 0
PassesOnBy gives sends old new to bytes = PassesOn (gives old) (gives new) (sends old) (sends new) to bytes
