-- Pieces of chunks of bytes.
use Rattle.std.specs.Prelude.{◌≡◌, ℕ, ◌<◌, ◌≤◌, ◌+◌, ◌-◌, List, [], length, map, slice_range, slice_index_or}
use Rattle.std.specs.List.{AllByRecursion}
use Rattle.crsm_base.specs.Spelling.{entry_bytes, FitsEntry}
use Rattle.crsm_spec.specs.Types.{Entry}
use Rattle.crsm_ledger.specs.declared.spelt.SpellingRange.{SpellingRange}

-- the bytes at a place
abbrev pub piece : List (List ℕ) → SpellingRange → List ℕ
piece chunks p = slice_range (slice_index_or chunks p.chunk []) p.start (p.start + p.size)

-- the bytes at each place
unfoldable pub pieces : List (List ℕ) → List SpellingRange → List (List ℕ)
pieces chunks ps = map (piece chunks) ps

-- the place lies in a chunk
pub record IsWithin (chunks : List (List ℕ)) (p : SpellingRange) : Type 0 where
  pub chunk : p.chunk < length chunks
  pub end : p.start + p.size ≤ length (slice_index_or chunks p.chunk [])

-- the last chunk can be added to: it is no longer than a chunk of several entries
pub record HasOpenChunk (chunks : List (List ℕ)) : Type 0 where
  pub some : 0 < length chunks
  pub most : length (slice_index_or chunks (length chunks - 1) []) ≤ 65536

-- the bytes are the encoding of an entry
pub record IsSpelling (bytes : List ℕ) : Type 0 where
  pub entry : Entry
  pub fits : FitsEntry entry
  pub is : bytes ≡ entry_bytes entry

-- each place lies in a chunk, and has the encoding of an entry
abbrev pub AreSpelt : List (List ℕ) → List SpellingRange → Type 0
AreSpelt chunks ps = AllByRecursion (IsWithin chunks) ps × AllByRecursion IsSpelling (pieces chunks ps)

-- the bytes of each range of the old chunks are the same in the new ones
pub record Keeps (old new : List (List ℕ)) : Type 0 where
  pub within : (p : SpellingRange) → IsWithin old p → IsWithin new p
  pub same : (p : SpellingRange) → IsWithin old p → piece new p ≡ piece old p
