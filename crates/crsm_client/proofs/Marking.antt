-- The bytes after a mark are those that the cluster's port would return.
use Rattle.std.proofs.Common.{◌≡◌, ◌∙◌, ℕ, zero, suc, ◌+◌, ◌≤◌, min, List, [], ◌++◌, length, take, drop, eqb, Bool, true, false, if◌then◌else◌, sym, ap, arith, length-take, length-drop}
use Rattle.std.proofs.lemmas.List.{take_all, take_min, take_at}
use Rattle.std.specs.List.{starts_with}
use Rattle.crsm_base.proofs.Sizes.{u64_long}
use Rattle.crsm_port.specs.Cluster.{most_on_the_wire, unwrapped, unwrapped_first}
use Rattle.crsm_client.specs.Exchange.{most_received}
use Rattle.crsm_wire.specs.Marks.{mark_in, mark_of, stripped}

-- a mark has nine bytes
nine : (c : ℕ) → length (mark_of c) ≡ 9
nine c = ap suc (u64_long c)

behind_nine : (c : ℕ) (bytes : List ℕ) → stripped (mark_of (suc c)) bytes ≡ unwrapped (suc c) bytes
behind_nine c bytes = ap (λ (n : ℕ). if starts_with eqb bytes (mark_of (suc c)) then drop n bytes else []) (nine (suc c))

short : (b : Bool) (bytes : List ℕ) → length bytes ≤ 8201 → length (if b then drop 9 bytes else []) ≤ most_received
short true bytes h = omega (arith, length-drop 9 bytes, h)
short false bytes h = omega arith

within : (c : ℕ) (bytes : List ℕ) → take most_received (unwrapped (suc c) (take most_on_the_wire bytes)) ≡ unwrapped (suc c) (take most_on_the_wire bytes)
within c bytes =
    let wire = take most_on_the_wire bytes in
    take_all most_received (unwrapped (suc c) wire) (short (starts_with eqb wire (mark_of (suc c))) wire (omega (arith, length-take most_on_the_wire bytes)))

-- what was copied into the buffer is a prefix of the datagram
copied : (room len : ℕ) (bytes after rest : List ℕ) → len ≡ min room (length bytes) → after ≡ take len bytes ++ rest → take len after ≡ take room bytes
copied room len bytes after rest size is =
    ap (take len) is ∙ take_at (take len bytes) rest len (omega (arith, length-take len bytes, size)) ∙ ap (λ (n : ℕ). take n bytes) size ∙ take_min room bytes

pub seen : (c len : ℕ) (bytes after rest : List ℕ) → len ≡ min (8192 + length (mark_in c)) (length bytes) → after ≡ take len bytes ++ rest
    → stripped (mark_in c) (take len after) ≡ take most_received (unwrapped_first c bytes)
seen zero len bytes after rest size is = copied 8192 len bytes after rest size is
seen (suc c) len bytes after rest size is =
    ap (stripped (mark_of (suc c))) (copied most_on_the_wire len bytes after rest (omega (arith, size, nine (suc c))) is)
    ∙ behind_nine c (take most_on_the_wire bytes)
    ∙ sym (within c bytes)
