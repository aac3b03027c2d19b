-- One more datagram sent, and one more received.
use Rattle.std.proofs.Common.{◌≡◌, ◌∙◌, IsTrue, ℕ, ◌+◌, ◌<◌, ◌≤◌, List, [], ◌∷◌, ◌++◌, map, length, take, drop, refl, ap, ap₂, sym, arith, length-drop, zero, suc, add-one}
use Rattle.std.proofs.lemmas.Bool.Decides.{nat_tests}
use Rattle.std.specs.Prelude.{Some, slice_get, slice_index_or}
use Rattle.std.proofs.Math.Seq.{take-length}
use Rattle.std.proofs.lemmas.List.{drop_at, take-append-le, drop-append-le}
use Rattle.crsm_port.specs.Inside.{arrival_of}
use Rattle.crsm_port.specs.Meaning.{Packet}
use Rattle.crsm_port.specs.Packets.{is_within, packets}
use Rattle.crsm_port.specs.declared.sent_packets.Label.{Label}
use Rattle.crsm_port.specs.declared.memory.QueuedDatagram.{QueuedDatagram}

abbrev IsWithin : List Label → ℕ → Type 0
IsWithin [] size = Unit {0}
IsWithin (l ∷ labels) size = (l.start + l.len ≤ size) × IsWithin labels size

within_of : (labels : List Label) (n : ℕ) → IsTrue (is_within labels n) → IsWithin labels n
within_of [] n is = tt
within_of (l ∷ labels) n is = (grind (arith, nat_tests), within_of labels n (grind (arith, nat_tests)))

test_of : (labels : List Label) (n : ℕ) → IsWithin labels n → IsTrue (is_within labels n)
test_of [] n within = refl
test_of (l ∷ labels) n within = let first = within.0 in let others = test_of labels n within.1 in grind (arith, nat_tests)

pub length-packets : (labels : List Label) (bytes : List ℕ) → length (packets labels bytes) ≡ length labels
length-packets [] bytes = refl
length-packets (l ∷ labels) bytes = ap suc (length-packets labels bytes)

own : (l : Label) (bytes piece : List ℕ) → l.start + l.len ≤ length bytes → take l.len (drop l.start (bytes ++ piece)) ≡ take l.len (drop l.start bytes)
own l bytes piece le =
    ap (take l.len) (drop-append-le l.start bytes piece (omega (arith, le))) ∙ take-append-le l.len (drop l.start bytes) piece (omega (arith, le, length-drop l.start bytes))

kept : (labels : List Label) (bytes piece : List ℕ) → IsWithin labels (length bytes) → packets labels (bytes ++ piece) ≡ packets labels bytes
kept [] bytes piece within = refl
kept (l ∷ labels) bytes piece within =
    ap₂ (λ (b : List ℕ) (ps : List Packet). (record { address = l.address; bytes = b }) ∷ ps) (own l bytes piece within.0) (kept labels bytes piece within.1)

apart : (labels : List Label) (l : Label) (bytes : List ℕ) → packets (labels ++ l ∷ []) bytes ≡ packets labels bytes ++ (record { address = l.address; bytes = take l.len (drop l.start bytes) }) ∷ []
apart [] l bytes = refl
apart (k ∷ labels) l bytes = ap (λ (ps : List Packet). (record { address = k.address; bytes = take k.len (drop k.start bytes) }) ∷ ps) (apart labels l bytes)

pub packets_more : (labels : List Label) (bytes : List ℕ) (to : ℕ) (piece : List ℕ) → IsTrue (is_within labels (length bytes))
    → packets (labels ++ (record { address = to; start = length bytes; len = length piece }) ∷ []) (bytes ++ piece) ≡ packets labels bytes ++ (record { address = to; bytes = piece }) ∷ []
packets_more labels bytes to piece within =
    apart labels (record { address = to; start = length bytes; len = length piece }) (bytes ++ piece)
    ∙ ap₂ (λ (ps : List Packet) (b : List ℕ). ps ++ (record { address = to; bytes = b }) ∷ []) (kept labels bytes piece (within_of labels (length bytes) within))
    (ap (take (length piece)) (drop_at bytes piece (length bytes) refl) ∙ take-length piece)

more : (labels : List Label) (l : Label) (n m : ℕ) → n ≤ m → l.start + l.len ≤ m → IsWithin labels n → IsWithin (labels ++ l ∷ []) m
more [] l n m le new within = (new, tt)
more (k ∷ labels) l n m le new within = (omega (arith, within.0, le), more labels l n m le new within.1)

pub within_more : (labels : List Label) (l : Label) (n m : ℕ) → n ≤ m → l.start + l.len ≤ m → IsTrue (is_within labels n) → IsTrue (is_within (labels ++ l ∷ []) m)
within_more labels l n m le new is = test_of (labels ++ l ∷ []) m (more labels l n m le new (within_of labels n is))

at_index : (labels : List Label) (i n : ℕ) (l : Label) → i < length labels → l ≡ slice_index_or labels i l → IsWithin labels n → l.start + l.len ≤ n
at_index [] i n l lt is within = absurd (omega (arith, lt))
at_index (k ∷ labels) zero n l lt is within = let e : l ≡ k = is in rw e within.0
at_index (k ∷ labels) (suc i) n l lt is within = at_index labels i n l (omega (arith, lt)) is within.1

pub within_at : (labels : List Label) (i n : ℕ) (l : Label) → i < length labels → l ≡ slice_index_or labels i l → IsTrue (is_within labels n) → l.start + l.len ≤ n
within_at labels i n l lt is within = at_index labels i n l lt is (within_of labels n within)

pub packet_at : (labels : List Label) (bytes : List ℕ) (i : ℕ) (l : Label) → i < length labels → l ≡ slice_index_or labels i l → slice_get (packets labels bytes) i ≡ Some (record { address = l.address; bytes = take l.len (drop l.start bytes) })
packet_at [] bytes i l lt is = absurd (omega (arith, lt))
packet_at (k ∷ labels) bytes zero l lt is = ap (λ (x : Label). Some (record { address = x.address; bytes = take x.len (drop x.start bytes) })) (sym is)
packet_at (k ∷ labels) bytes (suc i) l lt is = packet_at labels bytes i l (omega (arith, lt)) is

waits : (ls : List QueuedDatagram) (n : ℕ) (l : QueuedDatagram) → n < length ls → l ≡ slice_index_or ls n l → drop n (map arrival_of ls) ≡ arrival_of l ∷ drop (suc n) (map arrival_of ls)
waits [] n l lt e = absurd (omega (arith, lt))
waits (x ∷ ls) zero l lt e = ap (λ (y : QueuedDatagram). arrival_of y ∷ map arrival_of ls) (sym e)
waits (x ∷ ls) (suc n) l lt e = waits ls n l (omega (arith, lt)) e

taken : (ls : List QueuedDatagram) (n : ℕ) (l : QueuedDatagram) → n < length ls → l ≡ slice_index_or ls n l → take (suc n) (map arrival_of ls) ≡ take n (map arrival_of ls) ++ arrival_of l ∷ []
taken [] n l lt e = absurd (omega (arith, lt))
taken (x ∷ ls) zero l lt e = ap (λ (y : QueuedDatagram). arrival_of y ∷ []) (sym e)
taken (x ∷ ls) (suc n) l lt e = ap (λ (ps : List Packet). arrival_of x ∷ ps) (taken ls n l (omega (arith, lt)) e)

pub next_waits : (ls : List QueuedDatagram) (n : ℕ) (l : QueuedDatagram) → n < length ls → l ≡ slice_index_or ls n l → drop n (map arrival_of ls) ≡ arrival_of l ∷ drop (n + 1) (map arrival_of ls)
next_waits ls n l lt e = rw add-one (waits ls n l lt e)

pub next_taken : (ls : List QueuedDatagram) (n : ℕ) (l : QueuedDatagram) → n < length ls → l ≡ slice_index_or ls n l → take (n + 1) (map arrival_of ls) ≡ take n (map arrival_of ls) ++ arrival_of l ∷ []
next_taken ls n l lt e = rw add-one (taken ls n l lt e)
