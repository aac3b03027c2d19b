-- What a port may still send it was given.
use Rattle.std.proofs.Common.{◌≡◌, ◌∙◌, ◌++◌, ◌+◌, ◌<◌, ◌≤◌, ℕ, zero, suc, Bool, true, false, List, [], ◌∷◌, Result, length, map, min, set, take, refl, sym, ap, subst, inl, inr, arith}
use Rattle.std.specs.Prelude.{if◌then◌else◌, slice_index_or}
use Rattle.crsm_base.specs.declared.memory.Failed.{Failed}
use Rattle.crsm_port.specs.Meaning.{Meaning, Packet, Sends, SendsAll}
use Rattle.crsm_port.specs.Passing.{Datagrams, NoMore, OneMore, either}
use Rattle.crsm_port_flow.proofs.Keepings.{contains_map, push_cases, set_cases}
use Rattle.crsm_port_flow.specs.Acks.{AtPlaceOf, SaysHearing, StayHeld, held_in, packet_of, sent_with}
use Rattle.crsm_port_flow.specs.declared.acks.Ack.{Ack}

module _ (P Q : Datagrams) (old new : List Ack) (to : ℕ) (bytes : List ℕ) where
  -- a send that goes below
  pub passed : OneMore to bytes P Q → OneMore to bytes (held_in old) (held_in new) → OneMore to bytes (sent_with P old) (sent_with Q new)
  passed one held a b is = elim is [
    | inl below ↦ elim below [
      | inl went ↦ elim (one a b went) [
        | inl before ↦ inl (inl (inl before))
        | inr now ↦ inr now
      ]
      | inr says ↦ inl (inl (inr says))
    ]
    | inr holds ↦ elim (held a b holds) [
      | inl before ↦ inl (inr before)
      | inr now ↦ inr now
    ]
  ]

module _ (P Q : Datagrams) (old new : List Ack) where
  -- nothing more is sent below, or held
  pub rests : NoMore P Q → new ≡ old → NoMore (sent_with P old) (sent_with Q new)
  rests more same a b is = elim is [
    | inl below ↦ elim below [
      | inl went ↦ inl (inl (more a b went))
      | inr says ↦ inl (inr says)
    ]
    | inr holds ↦ inr (subst (λ (acks : List Ack). held_in acks a b) same holds)
  ]

  -- what its node hears is said
  pub said : NoMore (either P SaysHearing) Q → new ≡ old → NoMore (sent_with P old) (sent_with Q new)
  said more same a b is = elim is [
    | inl below ↦ elim below [
      | inl went ↦ inl (more a b went)
      | inr says ↦ inl (inr says)
    ]
    | inr holds ↦ inr (subst (λ (acks : List Ack). held_in acks a b) same holds)
  ]

-- ---- datagrams that a port is given in turn

pub sends_one_more : (ps : List Packet) (p : Packet) (old between new : Meaning) (result : Result (Unit {0}) Failed) → SendsAll ps old between → Sends p.address p.bytes between new result → SendsAll (ps ++ p ∷ []) old new
sends_one_more [] p old between new result same one = (new, result, subst (λ (m : Meaning). Sends p.address p.bytes m new result) same one, refl)
sends_one_more (q ∷ ps) p old between new result (next, answer, first, later) one = (next, answer, first, sends_one_more ps p next between new result later one)

pub sends_both : (ps qs : List Packet) (old between new : Meaning) → SendsAll ps old between → SendsAll qs between new → SendsAll (ps ++ qs) old new
sends_both [] qs old between new same later = subst (λ (m : Meaning). SendsAll qs m new) same later
sends_both (p ∷ ps) qs old between new (next, answer, first, rest) later = (next, answer, first, sends_both ps qs next between new rest later)

-- one more of those that are held goes
mapped_more : (xs : List Ack) (k : ℕ) (x : Ack) → k < length xs → x ≡ slice_index_or xs k x → map packet_of (take (suc k) xs) ≡ map packet_of (take k xs) ++ packet_of x ∷ []
mapped_more [] k x lt is = absurd (omega (arith, lt))
mapped_more (y ∷ xs) zero x lt is = ap (λ (z : Ack). packet_of z ∷ []) (sym is)
mapped_more (y ∷ xs) (suc k) x lt is = ap (λ (ps : List Packet). packet_of y ∷ ps) (mapped_more xs k x (omega (arith, lt)) is)

at_any : (xs : List Ack) (k : ℕ) (d e : Ack) → k < length xs → slice_index_or xs k d ≡ slice_index_or xs k e
at_any [] k d e lt = absurd (omega (arith, lt))
at_any (x ∷ xs) zero d e lt = refl
at_any (x ∷ xs) (suc k) d e lt = at_any xs k d e (omega (arith, lt))

-- the item at k, whatever is read past the end
pub here : (xs : List Ack) (k : ℕ) (d : Ack) → k < length xs → slice_index_or xs k d ≡ slice_index_or xs k (slice_index_or xs k d)
here xs k d lt = at_any xs k d (slice_index_or xs k d) lt

pub ack_goes : (acks : List Ack) (k : ℕ) (a : Ack) (bytes : List ℕ) (old between new : Meaning) (result : Result (Unit {0}) Failed) → k < length acks → a ≡ slice_index_or acks k a → bytes ≡ take a.len a.bytes
    → SendsAll (map packet_of (take k acks)) old between → Sends a.to bytes between new result → SendsAll (map packet_of (take (k + 1) acks)) old new
ack_goes acks k a bytes old between new result lt is same before one =
    let next : k + 1 ≡ suc k = omega arith in
    let more : map packet_of (take (k + 1) acks) ≡ map packet_of (take k acks) ++ packet_of a ∷ [] = ap (λ (n : ℕ). map packet_of (take n acks)) next ∙ mapped_more acks k a lt is in
    let sent : Sends a.to (take a.len a.bytes) between new result = subst (λ (b : List ℕ). Sends a.to b between new result) same one in
    subst (λ (ps : List Packet). SendsAll ps old new) (sym more) (sends_one_more (map packet_of (take k acks)) (packet_of a) old between new result before sent)

-- all went
take_all : (xs : List Ack) (k : ℕ) → length xs ≤ k → take k xs ≡ xs
take_all [] zero le = refl
take_all [] (suc k) le = refl
take_all (x ∷ xs) zero le = absurd (omega (arith, le))
take_all (x ∷ xs) (suc k) le = ap (λ (r : List Ack). x ∷ r) (take_all xs k (omega (arith, le)))

pub all_went : (acks : List Ack) (k : ℕ) (old new : Meaning) → length acks ≤ k → SendsAll (map packet_of (take k acks)) old new → SendsAll (map packet_of acks) old new
all_went acks k old new le sent = subst (λ (xs : List Ack). SendsAll (map packet_of xs) old new) (take_all acks k le) sent

-- a part up to the end of the list
take_to_end : (n : ℕ) (xs : List ℕ) → take (min n (length xs)) xs ≡ take n xs
take_to_end zero xs = let e : min zero (length xs) ≡ zero = omega arith in ap (λ (k : ℕ). take k xs) e
take_to_end (suc n) [] = let e : min (suc n) (length {A = ℕ} []) ≡ zero = omega arith in ap (λ (k : ℕ). take {A = ℕ} k []) e
take_to_end (suc n) (x ∷ xs) = let e : min (suc n) (length (x ∷ xs)) ≡ suc (min n (length xs)) = omega arith in ap (λ (k : ℕ). take k (x ∷ xs)) e ∙ ap (λ (r : List ℕ). x ∷ r) (take_to_end n xs)

pub take_within : (n k most : ℕ) (xs : List ℕ) → length xs ≡ most → k ≡ min n most → take k xs ≡ take n xs
take_within n k most xs long is = ap (λ (i : ℕ). take i xs) (is ∙ ap (min n) (sym long)) ∙ take_to_end n xs

-- ---- acknowledgements that are held

-- one that is put in the place of another, or added
pub held_replaced : (acks : List Ack) (i : ℕ) (a : Ack) (to : ℕ) (bytes : List ℕ) → (let p : Packet = record { address = to; bytes = bytes } in packet_of a ≡ p) → OneMore to bytes (held_in acks) (held_in (set acks i a))
held_replaced acks i a to bytes same address b has = elim (set_cases packet_of acks i a (record { address = address; bytes = b }) has) [
  | inl before ↦ inl before
  | inr is ↦ inr (ap (λ (p : Packet). p.address) (is ∙ same), ap (λ (p : Packet). p.bytes) (is ∙ same))
]

pub held_added : (acks : List Ack) (a : Ack) (to : ℕ) (bytes : List ℕ) → (let p : Packet = record { address = to; bytes = bytes } in packet_of a ≡ p) → OneMore to bytes (held_in acks) (held_in (acks ++ a ∷ []))
held_added acks a to bytes same address b has = elim (push_cases packet_of acks a (record { address = address; bytes = b }) has) [
  | inl before ↦ inl before
  | inr is ↦ inr (ap (λ (p : Packet). p.address) (is ∙ same), ap (λ (p : Packet). p.bytes) (is ∙ same))
]

pub holds_replaced : (acks : List Ack) (i : ℕ) (a : Ack) (to : ℕ) (bytes : List ℕ) → i < length acks → (let p : Packet = record { address = to; bytes = bytes } in packet_of a ≡ p) → held_in (set acks i a) to bytes
holds_replaced [] i a to bytes lt same = absurd (omega (arith, lt))
holds_replaced (x ∷ acks) zero a to bytes lt same = (0, omega arith, same)
holds_replaced (x ∷ acks) (suc i) a to bytes lt same = let w = holds_replaced acks i a to bytes (omega (arith, lt)) same in (suc w.0, omega (arith, w.1), w.2)

-- the others are held still
pub stay_replaced : (acks : List Ack) (i : ℕ) (a : Ack) → i < length acks → AtPlaceOf a i acks → StayHeld a.to (take a.len a.bytes) acks (set acks i a)
stay_replaced [] i a lt at address d has = inl has
stay_replaced (x ∷ acks) zero a lt at address d (zero, within, is) = inr (sym (ap (λ (p : Packet). p.address) is) ∙ at x, (zero, omega arith, refl))
stay_replaced (x ∷ acks) zero a lt at address d (suc k, within, is) = inl (suc k, within, is)
stay_replaced (x ∷ acks) (suc i) a lt at address d (zero, within, is) = inl (zero, omega arith, is)
stay_replaced (x ∷ acks) (suc i) a lt at address d (suc k, within, is) = elim (stay_replaced acks i a (omega (arith, lt)) at address d (k, omega (arith, within), is)) [
  | inl w ↦ inl (suc w.0, omega (arith, w.1), w.2)
  | inr w ↦ inr (w.0, (suc w.1.0, omega (arith, w.1.1), w.1.2))
]

pub stay_added : (acks : List Ack) (a : Ack) (to : ℕ) (bytes : List ℕ) → StayHeld to bytes acks (acks ++ a ∷ [])
stay_added [] a to bytes address d (k, lt, is) = absurd (omega (arith, lt))
stay_added (x ∷ acks) a to bytes address d (zero, lt, is) = inl (zero, omega arith, is)
stay_added (x ∷ acks) a to bytes address d (suc k, lt, is) = elim (stay_added acks a to bytes address d (k, omega (arith, lt), is)) [
  | inl w ↦ inl (suc w.0, omega (arith, w.1), w.2)
  | inr w ↦ inr (w.0, (suc w.1.0, omega (arith, w.1.1), w.1.2))
]

pub stay_pushed : (acks new : List Ack) (a : Ack) (to : ℕ) (bytes : List ℕ) (ok : Bool) → new ≡ (if ok then acks ++ a ∷ [] else acks) → StayHeld to bytes acks new
stay_pushed acks new a to bytes true is = subst (λ (xs : List Ack). StayHeld to bytes acks xs) (sym is) (stay_added acks a to bytes)
stay_pushed acks new a to bytes false is = λ address d has. inl (subst (λ (xs : List Ack). held_in xs address d) (sym is) has)

pub stay_as : (old new : List Ack) (a : Ack) (to : ℕ) (bytes : List ℕ) → (let p : Packet = record { address = to; bytes = bytes } in packet_of a ≡ p) → StayHeld a.to (take a.len a.bytes) old new → StayHeld to bytes old new
stay_as old new a to bytes same stay address d has = elim (stay address d has) [
  | inl still ↦ inl still
  | inr w ↦ inr (
    w.0 ∙ ap (λ (p : Packet). p.address) same,
    subst (λ (x : ℕ). held_in new x bytes) (ap (λ (p : Packet). p.address) same) (subst (λ (x : List ℕ). held_in new a.to x) (ap (λ (p : Packet). p.bytes) same) w.1),
  )
]

pub holds_added : (acks : List Ack) (a : Ack) (to : ℕ) (bytes : List ℕ) → (let p : Packet = record { address = to; bytes = bytes } in packet_of a ≡ p) → held_in (acks ++ a ∷ []) to bytes
holds_added [] a to bytes same = (0, omega arith, same)
holds_added (x ∷ acks) a to bytes same = let w = holds_added acks a to bytes same in (suc w.0, omega (arith, w.1), w.2)

pub held_as : (P Q : Datagrams) (a : Ack) (to : ℕ) (bytes : List ℕ) → (let p : Packet = record { address = to; bytes = bytes } in packet_of a ≡ p) → OneMore a.to (take a.len a.bytes) P Q → OneMore to bytes P Q
held_as P Q a to bytes same one address b has = elim (one address b has) [
  | inl before ↦ inl before
  | inr is ↦ inr (is.0 ∙ ap (λ (p : Packet). p.address) same, is.1 ∙ ap (λ (p : Packet). p.bytes) same)
]

-- one of those that are held goes below
pub held_goes : (P Q R : Datagrams) (acks : List Ack) (k : ℕ) (a : Ack) (bytes : List ℕ) → k < length acks → a ≡ slice_index_or acks k a → bytes ≡ take a.len a.bytes
    → NoMore (sent_with P acks) Q → OneMore a.to bytes Q R → NoMore (sent_with P acks) R
held_goes P Q R acks k a bytes lt here is before one address b went = elim (one address b went) [
  | inl q ↦ before address b q
  | inr now ↦
      let at : held_in acks a.to (take a.len a.bytes) = contains_map packet_of acks k a lt here in
      inr (subst (λ (x : ℕ). held_in acks x b) (sym now.0) (subst (λ (x : List ℕ). held_in acks a.to x) (sym (now.1 ∙ is)) at))
]

pub none_held_still : (P Q : Datagrams) (acks new : List Ack) → new ≡ [] → NoMore (sent_with P acks) Q → NoMore (sent_with P acks) (sent_with Q new)
none_held_still P Q acks new none all a b is = elim is [
  | inl below ↦ elim below [
    | inl went ↦ all a b went
    | inr says ↦ inl (inr says)
  ]
  | inr holds ↦ absurd (nothing (subst (λ (xs : List Ack). held_in xs a b) none holds))
]
  where
    nothing : held_in [] a b → ⊥
    nothing (k, lt, same) = omega (arith, lt)

-- ---- what a node says of its hearing

pub say_goes : (P Q R : Datagrams) (to : ℕ) (bytes mask : List ℕ) → bytes ≡ 18 ∷ mask → NoMore (either P SaysHearing) Q → OneMore to bytes Q R → NoMore (either P SaysHearing) R
say_goes P Q R to bytes mask is before one a b went = elim (one a b went) [
  | inl q ↦ before a b q
  | inr now ↦ inr (mask, now.1 ∙ is)
]

-- from call to call, where the port is `now` at the end
module _ {X : Type 0} where
  pub more_then : (D : Datagrams) (F : X → Datagrams) (before after now : X) → now ≡ after → NoMore D (F before) → NoMore (F before) (F after) → NoMore D (F now)
  more_then D F before after now same one other a b has = one a b (other a b (subst (λ (x : X). F x a b) same has))

  pub more_still : (D : Datagrams) (F : X → Datagrams) (before now : X) → now ≡ before → NoMore D (F before) → NoMore D (F now)
  more_still D F before now same one a b has = one a b (subst (λ (x : X). F x a b) same has)

  pub says_then : (P : Datagrams) (S : X → Datagrams) (before after now : X) (to : ℕ) (bytes mask : List ℕ) → now ≡ after → bytes ≡ 18 ∷ mask → NoMore (either P SaysHearing) (S before) → OneMore to bytes (S before) (S after)
      → NoMore (either P SaysHearing) (S now)
  says_then P S before after now to bytes mask same is inv one a b has = say_goes P (S before) (S after) to bytes mask is inv one a b (subst (λ (x : X). S x a b) same has)
