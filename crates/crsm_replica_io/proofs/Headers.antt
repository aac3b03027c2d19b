-- An outbox with one more datagram, and with one sent.
use Rattle.std.proofs.Common.{◌≡◌, ◌∙◌, ℕ, ◌+◌, ◌<◌, ◌≤◌, List, [], ◌∷◌, ◌++◌, length, take, drop, get_or, zero, suc, refl, sym, ap, ap₂, arith, length-drop, length-append, length-take, subst}
use Rattle.std.proofs.Math.Seq.{take-length}
use Rattle.std.proofs.lemmas.List.{take_more, take-append-le, drop-append-le, drop-drop, length-take-le}
use Rattle.crsm_port.specs.Meaning.{IsShort, Packet}
use Rattle.crsm_replica_io.specs.Outgoing.{bytes_in}
use Rattle.crsm_replica_io.specs.Headers.{AreShort, packets_of, size_of}
use Rattle.crsm_replica_io.specs.declared.outbox.Header.{Header}

-- ---- how many

pub count : (headers : List Header) (text : List ℕ) → length (packets_of headers text) ≡ length headers
count [] text = refl
count (k ∷ headers) text = ap suc (count headers (drop k.len text))

pub size_in : (headers : List Header) (text : List ℕ) → size_of headers ≡ length text → bytes_in (packets_of headers text) ≡ length text
size_in [] text size = size
size_in (k ∷ headers) text size =
    let long = length-drop k.len text in
    let here = length-take-le k.len text (omega (arith, size)) in
    let on = size_in headers (drop k.len text) (omega (arith, size, long)) in
    omega (arith, size, long, here, on)

size_behind : (headers : List Header) (l : Header) → size_of (headers ++ l ∷ []) ≡ size_of headers + l.len
size_behind [] l = omega arith
size_behind (k ∷ headers) l = let on = size_behind headers l in omega arith

size_at : (headers : List Header) (i : ℕ) (l : Header) → i < length headers → size_of (take i headers) + (get_or headers i l).len ≤ size_of headers
size_at [] i l within = absurd (omega (arith, within))
size_at (k ∷ headers) zero l within = omega arith
size_at (k ∷ headers) (suc i) l within = let on = size_at headers i l (omega (arith, within)) in omega (arith, on)

-- ---- one more is added

packets_behind : (headers : List Header) (l : Header) (text bytes : List ℕ) → size_of headers ≡ length text → l.len ≡ length bytes
    → packets_of (headers ++ l ∷ []) (text ++ bytes) ≡ packets_of headers text ++ (record { address = l.to; bytes = bytes }) ∷ []
packets_behind [] l [] bytes size len = ap (λ (bs : List ℕ). (record { address = l.to; bytes = bs }) ∷ []) (ap (λ (n : ℕ). take n bytes) len ∙ take-length bytes)
packets_behind [] l (b ∷ text) bytes size len = absurd (omega (arith, size))
packets_behind (k ∷ headers) l text bytes size len =
    let long = length-drop k.len text in
    ap₂ (λ (bs : List ℕ) (ps : List Packet). (record { address = k.to; bytes = bs }) ∷ ps)
    (take-append-le k.len text bytes (omega (arith, size)))
    (ap (packets_of (headers ++ l ∷ [])) (drop-append-le k.len text bytes (omega (arith, size))) ∙ packets_behind headers l (drop k.len text) bytes (omega (arith, size, long)) len)

-- the letters and the bytes with one more, and their datagrams
pub added : (headers after : List Header) (l : Header) (text long bytes : List ℕ) → size_of headers ≡ length text → after ≡ headers ++ l ∷ [] → long ≡ text ++ bytes → l.len ≡ length bytes
    → packets_of after long ≡ packets_of headers text ++ (record { address = l.to; bytes = bytes }) ∷ []
added headers after l text long bytes size more behind len = ap₂ packets_of more behind ∙ packets_behind headers l text bytes size len

pub added_size : (headers after : List Header) (l : Header) (text long bytes : List ℕ) → size_of headers ≡ length text → after ≡ headers ++ l ∷ [] → long ≡ text ++ bytes → l.len ≡ length bytes
    → size_of after ≡ length long
added_size headers after l text long bytes size more behind len =
    let sizes = ap size_of more ∙ size_behind headers l in
    let lengths = ap length behind ∙ length-append text bytes in
    omega (arith, size, len, sizes, lengths)

short_behind : (headers : List Header) (l : Header) → AreShort headers → l.len ≤ 8183 → AreShort (headers ++ l ∷ [])
short_behind [] l short le = (le, tt)
short_behind (k ∷ headers) l short le = (short.0, short_behind headers l short.1 le)

pub added_short : (headers after : List Header) (l : Header) → AreShort headers → after ≡ headers ++ l ∷ [] → l.len ≤ 8183 → AreShort after
added_short headers after l short more le = subst AreShort (sym more) (short_behind headers l short le)

-- ---- one more is sent

short_at : (headers : List Header) (i : ℕ) (d : Header) → AreShort headers → i < length headers → (get_or headers i d).len ≤ 8183
short_at [] i d short within = absurd (omega (arith, within))
short_at (k ∷ headers) zero d short within = short.0
short_at (k ∷ headers) (suc i) d short within = short_at headers i d short.1 (omega (arith, within))

-- its bytes are as few
pub short_piece : (headers : List Header) (i : ℕ) (d : Header) (rest bytes : List ℕ) → AreShort headers → i < length headers → bytes ≡ take (get_or headers i d).len rest → IsShort bytes
short_piece headers i d rest bytes short within piece =
    let le = short_at headers i d short within in
    let long = ap length piece ∙ length-take (get_or headers i d).len rest in
    omega (arith, le, long)

apart : (headers : List Header) (l : Header) (text : List ℕ) → packets_of (headers ++ l ∷ []) text ≡ packets_of headers text ++ (record { address = l.to; bytes = take l.len (drop (size_of headers) text) }) ∷ []
apart [] l text = refl
apart (k ∷ headers) l text =
    ap (λ (ps : List Packet). (record { address = k.to; bytes = take k.len text }) ∷ ps)
    (apart headers l (drop k.len text)
    ∙ ap (λ (bs : List ℕ). packets_of headers (drop k.len text) ++ (record { address = l.to; bytes = take l.len bs }) ∷ []) (drop-drop (size_of headers) k.len text))

pub one_header : (headers : List Header) (i : ℕ) (d : Header) (text rest bytes : List ℕ) → i < length headers → rest ≡ drop (size_of (take i headers)) text → bytes ≡ take (get_or headers i d).len rest
    → packets_of (take (i + 1) headers) text ≡ packets_of (take i headers) text ++ (record { address = (get_or headers i d).to; bytes = bytes }) ∷ []
one_header headers i d text rest bytes within behind piece =
    let l = get_or headers i d in
    ap (λ (ls : List Header). packets_of ls text) (take_more headers i d within)
    ∙ apart (take i headers) l text
    ∙ ap (λ (bs : List ℕ). packets_of (take i headers) text ++ (record { address = l.to; bytes = take l.len bs }) ∷ []) (sym behind)
    ∙ ap (λ (bs : List ℕ). packets_of (take i headers) text ++ (record { address = l.to; bytes = bs }) ∷ []) (sym piece)

-- what stands behind it
pub next_rest : (headers : List Header) (i : ℕ) (d : Header) (text rest after : List ℕ) → i < length headers → rest ≡ drop (size_of (take i headers)) text → after ≡ drop (get_or headers i d).len rest
    → after ≡ drop (size_of (take (i + 1) headers)) text
next_rest headers i d text rest after within behind is =
    let l = get_or headers i d in
    is
    ∙ ap (drop l.len) behind
    ∙ drop-drop l.len (size_of (take i headers)) text
    ∙ ap (λ (n : ℕ). drop n text) (sym (ap size_of (take_more headers i d within) ∙ size_behind (take i headers) l))

-- it is within the rest
pub within_rest : (headers : List Header) (i : ℕ) (d : Header) (text rest : List ℕ) → size_of headers ≡ length text → i < length headers → rest ≡ drop (size_of (take i headers)) text
    → (get_or headers i d).len ≤ length rest
within_rest headers i d text rest size within behind =
    let le = size_at headers i d within in
    let long = ap length behind ∙ length-drop (size_of (take i headers)) text in
    omega (arith, le, long, size)
