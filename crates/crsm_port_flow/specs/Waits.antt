-- What may wait before it is sent, and that it goes then.
use Rattle.std.specs.Prelude.{◌≡◌, ◌⊎◌, ℕ, List, Contains}
use Rattle.crsm_port_flow.specs.Acks.{StayHeld, held_in}
use Rattle.crsm_port_flow.specs.Heads.{HasHead}
use Rattle.crsm_port_flow.specs.Went.{IsFrame, IsPartIn, PartWentLately, WentLately, checksum}
use Rattle.crsm_port_flow.specs.declared.outbound.Outbound.{Outbound}
use Rattle.crsm_port_flow.specs.declared.parts.SentPart.{SentPart}
use Rattle.crsm_port_flow.specs.declared.repeats.SentFrame.{SentFrame}

-- the bytes are a frame that went less than 160 milliseconds ago
abbrev pub IsFrameAgain : List ℕ → ℕ → Outbound → Type 0
IsFrameAgain bytes now o = (from to epoch number : ℕ) × HasHead 1 from to epoch number bytes × WentLately to epoch number now o.repeats.last.items

-- they are a part that went to this address less than 20 milliseconds ago
abbrev pub IsPartAgain : ℕ → List ℕ → ℕ → Outbound → Type 0
IsPartAgain to bytes now o = (part : List ℕ) × IsPartIn part bytes × PartWentLately (checksum to part) now o.parts.last.items

-- this is noted of the frame that the bytes are
abbrev pub IsFrameNow : List ℕ → ℕ → SentFrame → Type 0
IsFrameNow bytes now f = (from to epoch number : ℕ) × HasHead 1 from to epoch number bytes × IsFrame to epoch number f × (f.at ≡ now)

-- this is noted of the part that the bytes are
abbrev pub IsPartNow : ℕ → List ℕ → ℕ → SentPart → Type 0
IsPartNow to bytes now p = (part : List ℕ) × IsPartIn part bytes × (p.sum ≡ checksum to part) × (p.at ≡ now)

-- the bytes are an acknowledgement
abbrev pub IsAck : List ℕ → Type 0
IsAck bytes = (from to epoch number : ℕ) × HasHead 2 from to epoch number bytes

-- a datagram may wait: it is held until the next flush, or it went a moment ago
abbrev pub MayWait : ℕ → List ℕ → ℕ → Outbound → Outbound → Type 0
MayWait to bytes now old new = held_in new.acks.acks.items to bytes ⊎ (IsFrameAgain bytes now old ⊎ IsPartAgain to bytes now old)

-- what is noted to have gone is what was, and this datagram, now
pub record Notes (to : ℕ) (bytes : List ℕ) (now : ℕ) (old new : Outbound) : Type 0 where
  pub frames : (f : SentFrame) → Contains new.repeats.last.items f → Contains old.repeats.last.items f ⊎ IsFrameNow bytes now f
  pub parts : (p : SentPart) → Contains new.parts.last.items p → Contains old.parts.last.items p ⊎ IsPartNow to bytes now p

-- nothing more is noted to have gone
abbrev pub NotesNone : Outbound → Outbound → Type 0
NotesNone old new = (new.repeats.last.items ≡ old.repeats.last.items) × (new.parts.last.items ≡ old.parts.last.items)

-- an acknowledgement that was held is held still, unless a later one takes its place
abbrev pub HoldsStill : ℕ → List ℕ → Outbound → Outbound → Type 0
HoldsStill to bytes old new = (new.acks ≡ old.acks) ⊎ (IsAck bytes × StayHeld to bytes old.acks.acks.items new.acks.acks.items)
