-- The first bytes of a datagram: the mark of its cluster, and the replica that it names as its sender.
use Rattle.std.specs.Prelude.{ℕ, zero, suc, List, [], ◌∷◌, length, drop, Option, Some, None, ◌&&◌, if◌then◌else◌, eqb, nat_eq, nat_le}
use Rattle.std.specs.List.{starts_with}
use Rattle.crsm_base.specs.Spelling.{u64_bytes}

-- length of a mark in bytes: the byte 16, and the cluster's number
abbrev pub mark_size : ℕ
mark_size = 9

-- the mark of a cluster
abbrev pub mark_of : ℕ → List ℕ
mark_of c = 16 ∷ u64_bytes c

-- the bytes that precede a datagram: the mark of its cluster, or none for cluster 0
abbrev pub mark_in : ℕ → List ℕ
mark_in zero = []
mark_in (suc c) = mark_of (suc c)

-- the bytes after this mark, or no bytes if they do not begin with it
abbrev pub stripped : List ℕ → List ℕ → List ℕ
stripped mark bytes = if starts_with eqb bytes mark then drop (length mark) bytes else []

-- the bytes after the mark of any cluster, if there is one
abbrev pub behind_any_mark : List ℕ → List ℕ
behind_any_mark [] = []
behind_any_mark (b ∷ bytes) = if nat_eq b 16 && nat_le 8 (length bytes) then drop 8 bytes else b ∷ bytes

-- the replica that the bytes name as their sender: those of frames, acknowledgements and parts do
abbrev pub named_sender : List ℕ → Option ℕ
named_sender [] = None
named_sender (kind ∷ []) = None
named_sender (kind ∷ from ∷ rest) = if nat_le 1 kind && nat_le kind 3 then Some from else None
