-- What went a moment ago, and so does not go again yet.
use Rattle.std.specs.Prelude.{◌≡◌, ◌⊎◌, ◌+◌, ◌*◌, ◌%◌, ◌^◌, ◌<◌, ◌≤◌, ℕ, List, ◌∷◌, length, drop, Contains, fold, bit_xor}
use Rattle.crsm_wire.specs.Marks.{behind_any_mark}
use Rattle.crsm_port_flow.specs.declared.repeats.SentFrame.{SentFrame}
use Rattle.crsm_port_flow.specs.declared.parts.SentPart.{SentPart}

-- less than `span` microseconds have passed from a reading to another
abbrev pub IsRecent : ℕ → ℕ → ℕ → Type 0
IsRecent at now span = (at ≤ now) × (now < at + span)

-- ---- frames

abbrev pub IsFrame : ℕ → ℕ → ℕ → SentFrame → Type 0
IsFrame to epoch number f = (f.to ≡ to) × (f.epoch ≡ epoch) × (f.number ≡ number)

-- the frame went less than 160 milliseconds ago
abbrev pub WentLately : ℕ → ℕ → ℕ → ℕ → List SentFrame → Type 0
WentLately to epoch number now last = (f : SentFrame) × Contains last f × IsFrame to epoch number f × IsRecent f.at now 160_000

-- the second list has no frame but those of the first, and this one, which goes now
abbrev pub NotesOnly : ℕ → ℕ → ℕ → ℕ → List SentFrame → List SentFrame → Type 0
NotesOnly to epoch number now old new = (f : SentFrame) → Contains new f → Contains old f ⊎ (IsFrame to epoch number f × (f.at ≡ now))

-- ---- parts of control messages

-- the bytes are a part that has these bytes after its message's number
abbrev pub IsPartIn : List ℕ → List ℕ → Type 0
IsPartIn part bytes = (from to : ℕ) × (fields : List ℕ) × (behind_any_mark bytes ≡ 3 ∷ from ∷ to ∷ fields) × (16 ≤ length fields) × (part ≡ drop 16 fields)

-- a checksum with one byte more (FNV-1a)
abbrev pub hashed : ℕ → ℕ → ℕ
hashed sum byte = (bit_xor sum byte * 1_099_511_628_211) % 2 ^ 64

-- the checksum of an address and a part
abbrev pub checksum : ℕ → List ℕ → ℕ
checksum to part = fold hashed (hashed 14_695_981_039_346_656_037 to) part

-- a part with this checksum went less than 20 milliseconds ago
abbrev pub PartWentLately : ℕ → ℕ → List SentPart → Type 0
PartWentLately sum now last = (p : SentPart) × Contains last p × (p.sum ≡ sum) × IsRecent p.at now 20_000

-- the second list has no part but those of the first, and this one, which goes now
abbrev pub NotesPart : ℕ → ℕ → List SentPart → List SentPart → Type 0
NotesPart sum now old new = (p : SentPart) → Contains new p → Contains old p ⊎ ((p.sum ≡ sum) × (p.at ≡ now))
