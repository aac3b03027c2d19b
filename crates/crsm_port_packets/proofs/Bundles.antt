-- What goes out as a bundle waited for its address.
use Rattle.std.proofs.Common.{◌≡◌, ◌∙◌, ◌+◌, ◌*◌, ◌/◌, ◌%◌, ◌++◌, ℕ, zero, suc, Bool, true, false, List, [], ◌∷◌, length, take, drop, Option, Some, None, refl, sym, ap, ap₂, subst, arith, inl, inr, length-append}
use Rattle.std.specs.Prelude.{◌⊎◌, Contains, slice_get, nat_le, if◌then◌else◌}
use Rattle.std.proofs.lemmas.Bool.Decides.{nat_tests}
use Rattle.std.proofs.lemmas.List.Elements.{Contains-push_cases}
use Rattle.std.proofs.lemmas.List.{append_assoc, drop_at, take_at}
use Rattle.crsm_port.specs.Meaning.{Packet}
use Rattle.crsm_port.specs.Passing.{Among, Datagrams, NoMore, OneMore, either}
use Rattle.crsm_port_packets.specs.Carrying.{carried}
use Rattle.crsm_port_packets.specs.Format.{StandsIn, entries_of, entry, entry_at, first, is_packed, later}
use Rattle.crsm_port_packets.specs.Sent.{HasOneMore, IsBundle, IsFilled, sent_with, standing_in}

-- ---- the entries of a bundle

no_entry : (d rest : List ℕ) → (let none : Option (List ℕ × List ℕ) = None in none ≡ Some (d, rest)) → ⊥
no_entry d rest is = cc

pub entry_first : (d rest : List ℕ) → entry_at (entry d ++ rest) ≡ Some (d, rest)
entry_first d rest =
    let size : length d / 256 * 256 + length d % 256 ≡ length d = omega arith in
    let fits : nat_le (length d) (length (d ++ rest)) ≡ true = let l = length-append d rest in grind (arith, nat_tests) in
    ap (λ (n : ℕ). if nat_le n (length (d ++ rest)) then Some (take n (d ++ rest), drop n (d ++ rest)) else None) size
    ∙ ap (λ (b : Bool). if b then Some (take (length d) (d ++ rest), drop (length d) (d ++ rest)) else None) fits
    ∙ ap₂ (λ (x y : List ℕ). Some (x, y)) (take_at d rest (length d) refl) (drop_at d rest (length d) refl)

abbrev the_pair : Option (List ℕ × List ℕ) → List ℕ × List ℕ
the_pair None = ([], [])
the_pair (Some pair) = pair

pub same_pair : (a b c d : List ℕ) → (let one : Option (List ℕ × List ℕ) = Some (a, b) in one ≡ Some (c, d)) → (a ≡ c) × (b ≡ d)
same_pair a b c d is = (ap (λ (o : Option (List ℕ × List ℕ)). (the_pair o).0) is, ap (λ (o : Option (List ℕ × List ℕ)). (the_pair o).1) is)

pub stands_among : (d : List ℕ) (ds : List (List ℕ)) (entries : List ℕ) → entries ≡ entries_of ds → StandsIn d entries → Contains ds d
stands_among d [] entries are (first {rest = rest} is) = absurd (no_entry d rest (ap entry_at (sym are) ∙ is))
stands_among d [] entries are (later {other = other} {rest = rest} is stands) = absurd (no_entry other rest (ap entry_at (sym are) ∙ is))
stands_among d (x ∷ ds) entries are (first {rest = rest} is) =
    let same = same_pair x (entries_of ds) d rest (sym (ap entry_at are ∙ entry_first x (entries_of ds)) ∙ is) in
    (zero, omega arith, same.0)
stands_among d (x ∷ ds) entries are (later {other = other} {rest = rest} is stands) =
    let same = same_pair x (entries_of ds) other rest (sym (ap entry_at are ∙ entry_first x (entries_of ds)) ∙ is) in
    let w = stands_among d ds rest (sym same.1) stands in
    (suc w.0, omega (arith, w.1), w.2)

pub entries_more : (ds : List (List ℕ)) (d : List ℕ) → entries_of (ds ++ d ∷ []) ≡ entries_of ds ++ entry d
entries_more [] d = append_none (entry d)
  where
    append_none : (xs : List ℕ) → xs ++ [] ≡ xs
    append_none [] = refl
    append_none (x ∷ xs) = ap (λ (r : List ℕ). x ∷ r) (append_none xs)
entries_more (x ∷ ds) d = ap (λ (r : List ℕ). entry x ++ r) (entries_more ds d) ∙ sym (append_assoc (entry x) (entries_of ds) (entry d))

-- ---- a packet goes out

not_both : (b : Bool) → b ≡ true → b ≡ false → ⊥
not_both b is other = cc

module _ (P Q : Datagrams) (to : ℕ) (packet entries : List ℕ) (is_bundle : packet ≡ 20 ∷ 0 ∷ entries) where
  pub lone_went : (bytes : List ℕ) → entry_at entries ≡ Some (bytes, []) → is_packed bytes ≡ false → OneMore to bytes P Q → NoMore (either (carried P) (standing_in to packet)) (carried Q)
  lone_went bytes alone_there plain one a d is = elim is [
    | inl alone ↦ elim (one a d alone.1) [
      | inl before ↦ inl (inl (alone.0, before))
      | inr w ↦ inr (w.0, (entries, is_bundle, subst (λ (x : List ℕ). StandsIn x entries) (sym w.1) (first alone_there)))
    ]
    | inr stands ↦ elim (one a (20 ∷ 0 ∷ stands.0) stands.1) [
      | inl before ↦ inl (inr (stands.0, before, stands.2))
      | inr w ↦ absurd (not_both (is_packed bytes) (ap is_packed (sym w.1)) plain)
    ]
  ]

-- ---- what waits

pub same_entries : (a b : List ℕ) → (20 ∷ 0 ∷ a) ≡ (20 ∷ 0 ∷ b) → a ≡ b
same_entries a b is = ap (drop 2) is

pub filled_waits : (to : ℕ) (waiting : List Packet) (packet : List ℕ) → IsFilled to waiting packet → NoMore (Among waiting) (standing_in to packet)
filled_waits to waiting packet filled a d (at, (entries, is, stands)) = elim filled [
  | inl none ↦ absurd (cc)
  | inr w ↦ subst (λ (x : ℕ). Among waiting x d) (sym at) (w.2 d (stands_among d w.0 entries (same_entries entries (entries_of w.0) (sym is ∙ w.1)) stands))
]

module _ (P Q R : Datagrams) (waiting : List Packet) where
  -- a packet of what waits goes out after others
  pub went_waiting : (to : ℕ) (packet : List ℕ) → IsFilled to waiting packet → NoMore (sent_with P waiting) (carried Q) → NoMore (either (carried Q) (standing_in to packet)) (carried R) → NoMore (sent_with P waiting) (carried R)
  went_waiting to packet filled before now a d is = elim (now a d is) [
    | inl earlier ↦ before a d earlier
    | inr stands ↦ inr (filled_waits to waiting packet filled a d stands)
  ]

-- one more datagram that waits is in the packet
pub filled_first : (to : ℕ) (waiting : List Packet) (packet bytes : List ℕ) → Among waiting to bytes → packet ≡ 20 ∷ 0 ∷ entry bytes → IsFilled to waiting packet
filled_first to waiting packet bytes waits is = inr (bytes ∷ [], is ∙ ap (λ (r : List ℕ). 20 ∷ 0 ∷ r) (sym (entries_more [] bytes)), λ d has. only d has)
  where
    only : (d : List ℕ) → Contains (bytes ∷ []) d → Among waiting to d
    only d (zero, lt, same) = subst (λ (x : List ℕ). Among waiting to x) same waits
    only d (suc k, lt, same) = absurd (omega (arith, lt))

pub filled_more : (to : ℕ) (waiting : List Packet) (old new bytes : List ℕ) → Among waiting to bytes → (old ≡ [] → ⊥) → new ≡ old ++ entry bytes → IsFilled to waiting old → IsFilled to waiting new
filled_more to waiting old new bytes waits some is filled = elim filled [
  | inl none ↦ absurd (some none)
  | inr w ↦ inr (w.0 ++ bytes ∷ [], is ∙ ap (λ (r : List ℕ). r ++ entry bytes) w.1 ∙ ap (λ (r : List ℕ). 20 ∷ 0 ∷ r) (sym (entries_more w.0 bytes)), λ d has. each w.0 w.2 d has)
]
  where
    each : (ds : List (List ℕ)) → ((d : List ℕ) → Contains ds d → Among waiting to d) → (d : List ℕ) → Contains (ds ++ bytes ∷ []) d → Among waiting to d
    each ds all d has = elim (Contains-push_cases ds bytes d has) [
      | inl before ↦ all d before
      | inr same ↦ subst (λ (x : List ℕ). Among waiting to x) same waits
    ]

-- the packet stays, or is sent, and takes in what waits or is lost
pub filled_after : (to : ℕ) (waiting : List Packet) (old between new bytes : List ℕ) → Among waiting to bytes → (between ≡ old) ⊎ (between ≡ []) → (new ≡ []) ⊎ HasOneMore bytes between new → IsFilled to waiting old → IsFilled to waiting new
filled_after to waiting old between new bytes waits stays takes filled = elim takes [
  | inl none ↦ inl none
  | inr more ↦ grown between still more
]
  where
    still : IsFilled to waiting between
    still = elim stays [
      | inl same ↦ subst (λ (x : List ℕ). IsFilled to waiting x) (sym same) filled
      | inr none ↦ inl none
    ]

    grown : (packet : List ℕ) → IsFilled to waiting packet → HasOneMore bytes packet new → IsFilled to waiting new
    grown [] at more = filled_first to waiting new bytes waits (more.first refl)
    grown (x ∷ xs) at more = let some : (x ∷ xs) ≡ [] → ⊥ = λ none. cc in filled_more to waiting (x ∷ xs) new bytes waits some (more.more some) at

-- ---- what is sent of a packet

module _ (P Q : Datagrams) (to : ℕ) (packet : List ℕ) (is_bundle : IsBundle packet) where
  pub lone_sent : (bytes : List ℕ) → entry_at (drop 2 packet) ≡ Some (bytes, []) → is_packed bytes ≡ false → OneMore to bytes P Q → NoMore (either (carried P) (standing_in to packet)) (carried Q)
  lone_sent bytes there plain one = elim is_bundle [
    | inl none ↦ absurd (no_entry bytes [] (ap (λ (p : List ℕ). entry_at (drop 2 p)) (sym none) ∙ there))
    | inr w ↦ lone_went P Q to packet w.0 w.1 bytes (ap (λ (p : List ℕ). entry_at (drop 2 p)) (sym w.1) ∙ there) plain one
  ]

-- ---- what waits, by its index

pub got_waits : (packets : List Packet) (i address to : ℕ) (bytes : List ℕ) → slice_get packets i ≡ Some (record { address = address; bytes = bytes }) → address ≡ to → Among packets to bytes
got_waits packets i address to bytes is same = subst (λ (x : ℕ). Among packets x bytes) same (at packets i is)
  where
    at : (ps : List Packet) (k : ℕ) → slice_get ps k ≡ Some (record { address = address; bytes = bytes }) → Contains ps (record { address = address; bytes = bytes })
    at [] k e = absurd (cc)
    at (p ∷ ps) zero e = let same : p ≡ record { address = address; bytes = bytes } = cc in (zero, omega arith, same)
    at (p ∷ ps) (suc k) e = let w = at ps k e in (suc w.0, omega (arith, w.1), w.2)
