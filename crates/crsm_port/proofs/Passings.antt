-- What a port hands up is one of the datagrams that it gives.
use Rattle.std.proofs.Common.{◌≡◌, ◌≢◌, ◌∙◌, ◌++◌, ℕ, zero, suc, List, [], ◌∷◌, length, min, take, drop, refl, sym, ap, subst, arith, length-take, take-append-drop, inl, inr}
use Rattle.std.proofs.Common.{Bool, true, false, eqb}
use Rattle.std.specs.Prelude.{Contains, if◌then◌else◌}
use Rattle.std.specs.List.{starts_with}
use Rattle.std.proofs.lemmas.List.{append_assoc, drop_at, take_at}
use Rattle.std.proofs.lemmas.Bool.Decides.{Decides-eqb}
use Rattle.std.proofs.lemmas.Slice.Eq.{starts_is}
use Rattle.crsm_base.proofs.Sizes.{u64_long}
use Rattle.crsm_wire.specs.Marks.{mark_of}
use Rattle.crsm_port.specs.Cluster.{given_to, sent_by, unwrapped, wrapped}
use Rattle.crsm_port.specs.Meaning.{Packet, Takes, Traffic, plain}
use Rattle.crsm_port.specs.Passing.{Among, Cut, Datagrams, IsOf, NoMore, OneMore}
use Rattle.crsm_port.specs.declared.port.Recv.{Recv}
use Rattle.crsm_port.specs.declared.port.Recv.TheVariants.{Nothing, Datagram}

-- what a buffer holds of a datagram, and the rest of it
pub cut_and_rest : (room len : ℕ) (bytes after rest : List ℕ) → len ≡ min room (length bytes) → after ≡ take len bytes ++ rest → take len after ++ drop len bytes ≡ bytes
cut_and_rest room len bytes after rest size is =
    let first : take len after ≡ take len bytes = ap (take len) is ∙ take_at (take len bytes) rest len (omega (arith, length-take len bytes, size)) in
    ap (λ (b : List ℕ). b ++ drop len bytes) first ∙ take-append-drop len bytes

first_of : (ps : List Packet) (d : Packet) (rest : List Packet) → ps ≡ d ∷ rest → Contains ps d
first_of ps d rest is = subst (λ (xs : List Packet). Contains xs d) (sym is) (0, omega arith, refl)

later_of : (d p : Packet) (rest : List Packet) → Contains rest p → Contains (d ∷ rest) p
later_of d p rest (k, lt, is) = (suc k, omega (arith, lt), is)

module _ (t u : Traffic) (before after : List ℕ) where
  -- the datagram that is taken is the first that waits
  pub is_waiting : (got : Recv) → Takes plain t u before after got → IsOf (Cut (Among t.waiting)) after got
  is_waiting Nothing takes = tt
  is_waiting (Datagram from len) (d, rest, waits, address, size, filled, gone) =
      let whole = cut_and_rest (length before) len d.bytes after (drop len before) size filled in
      let P : List ℕ → Type 0 = λ b. Contains t.waiting (record { address = from; bytes = b }) in
      let Q : ℕ → Type 0 = λ a. Contains t.waiting (record { address = a; bytes = d.bytes }) in
      (drop len d.bytes, subst P (sym whole) (subst Q (sym address) (first_of t.waiting d rest waits)))

  pub wait_still : (got : Recv) → Takes plain t u before after got → NoMore (Cut (Among t.waiting)) (Cut (Among u.waiting))
  wait_still Nothing (none, same, filled) = λ a b (rest, is). (rest, subst (λ (x : Traffic). Among x.waiting a (b ++ rest)) same is)
  wait_still (Datagram from len) (d, others, waits, address, size, filled, gone) = λ a b (rest, is).
      let left : u.waiting ≡ others = ap (λ (x : Traffic). x.waiting) gone in
      let here : Among others a (b ++ rest) = subst (λ (ps : List Packet). Among ps a (b ++ rest)) left is in
      (rest, subst (λ (ps : List Packet). Among ps a (b ++ rest)) (sym waits) (later_of d (record { address = a; bytes = b ++ rest }) others here))

-- ---- the port of a cluster

pub given_more : (c : ℕ) (D E : Datagrams) → NoMore D E → NoMore (given_to c D) (given_to c E)
given_more zero D E more = more
given_more (suc c) D E more = λ a b is. elim is [
  | inl none ↦ inl none
  | inr w ↦ inr (w.0, more a (mark_of (suc c) ++ b ++ w.0) w.1)
]

pub sent_more : (c : ℕ) (D E : Datagrams) → NoMore D E → NoMore (sent_by c D) (sent_by c E)
sent_more c D E more = λ a b is. more a (wrapped c b) is

behind : (front a b : List ℕ) → front ++ a ≡ front ++ b → a ≡ b
behind front a b is = sym (drop_at front a (length front) refl) ∙ ap (drop (length front)) is ∙ drop_at front b (length front) refl

pub sent_one : (c to : ℕ) (sent : List ℕ) (D E : Datagrams) → OneMore to (wrapped c sent) D E → OneMore to sent (sent_by c D) (sent_by c E)
sent_one zero to sent D E one = one
sent_one (suc c) to sent D E one = λ a b is. elim (one a (mark_of (suc c) ++ b) is) [
  | inl before ↦ inl before
  | inr w ↦ inr (w.0, behind (mark_of (suc c)) b sent w.1)
]

-- the bytes behind the mark, as far as a buffer holds them
pub own_given : (c : ℕ) (D : Datagrams) (room own_len from : ℕ) (wire own after rest : List ℕ) → c ≢ 0 → D from wire
    → own ≡ unwrapped c wire → own_len ≡ min room (length own) → after ≡ take own_len own ++ rest → given_to c D from (take own_len after)
own_given zero D room own_len from wire own after rest some given is size filled = absurd (some refl)
own_given (suc c) D room own_len from wire own after rest some given is size filled = cases (starts_with eqb wire (mark_of (suc c))) refl
  where
    whole : take own_len after ++ drop own_len own ≡ own
    whole = cut_and_rest room own_len own after rest size filled

    none : (xs ys : List ℕ) → xs ++ ys ≡ [] → xs ≡ []
    none [] ys e = refl
    none (x ∷ xs) ys e = absurd (cc)

    cases : (test : Bool) → starts_with eqb wire (mark_of (suc c)) ≡ test → given_to (suc c) D from (take own_len after)
    cases true starts =
        let mine : own ≡ drop 9 wire = is ∙ ap (λ (t : Bool). if t then drop 9 wire else []) starts in
        let split : wire ≡ mark_of (suc c) ++ drop (length (mark_of (suc c))) wire = (starts_is Decides-eqb wire (mark_of (suc c)) true (sym starts)).0 refl in
        let nine : drop (length (mark_of (suc c))) wire ≡ drop 9 wire = ap (λ (n : ℕ). drop n wire) (ap suc (u64_long (suc c))) in
        let joined : mark_of (suc c) ++ take own_len after ++ drop own_len own ≡ wire =
        append_assoc (mark_of (suc c)) (take own_len after) (drop own_len own) ∙ ap (λ (b : List ℕ). mark_of (suc c) ++ b) (whole ∙ mine ∙ sym nine) ∙ sym split in
        inr (drop own_len own, subst (λ (b : List ℕ). D from b) (sym joined) given)
    cases false starts =
        inl (none (take own_len after) (drop own_len own) (whole ∙ is ∙ ap (λ (t : Bool). if t then drop 9 wire else []) starts))
