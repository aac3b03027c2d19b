-- How soon a frame goes again.
use Rattle.std.specs.Prelude.{◌≡◌, ◌+◌, ◌<◌, ℕ, List, Contains, true}
use Rattle.crsm_port_flow.specs.declared.repeats.Expected.{Expected}
use Rattle.crsm_port_flow.specs.declared.repeats.Need.{Need}
use Rattle.crsm_port_flow.specs.declared.repeats.Need.TheVariants as need
use Rattle.crsm_port_flow.specs.declared.repeats.SentFrame.{SentFrame}

-- the receiver said twice that it expects this frame
abbrev pub IsMissing : ℕ → ℕ → Expected → Type 0
IsMissing epoch number e = (e.is_repeated ≡ true) × (e.epoch ≡ epoch) × (e.next ≡ number)

-- the receiver said twice that it expects one of the 31 frames before this one
abbrev pub IsBehindMissing : ℕ → ℕ → Expected → Type 0
IsBehindMissing epoch number e = (e.is_repeated ≡ true) × (e.epoch ≡ epoch) × (e.next < number) × (number < e.next + 32)

-- how a frame stands to the one that its receiver expects
abbrev pub IsNeed : Need → ℕ → ℕ → Expected → Type 0
IsNeed need.Missing epoch number e = IsMissing epoch number e
IsNeed need.Behind epoch number e = IsBehindMissing epoch number e
IsNeed need.Unknown epoch number e = (IsMissing epoch number e → ⊥) × (IsBehindMissing epoch number e → ⊥)

-- the frame was sent once, this long ago
abbrev pub WentOnce : SentFrame → (now took : ℕ) → Type 0
WentOnce f now took = (f.again ≡ 0) × (f.at + took ≡ now)

-- a frame of this receiver and epoch, below this number, was sent once, this long ago
abbrev pub WentOnceBelow : (to epoch number now took : ℕ) → List SentFrame → Type 0
WentOnceBelow to epoch number now took last = (f : SentFrame) × Contains last f × (f.to ≡ to) × (f.epoch ≡ epoch) × (f.number < number) × WentOnce f now took
