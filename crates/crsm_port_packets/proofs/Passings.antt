-- What a port of packets gives and may send after the calls of the port below.
use Rattle.std.proofs.Common.{◌≡◌, ◌∙◌, ◌++◌, ℕ, List, [], ◌∷◌, false, Ok, Err, sym, ap, subst, inl, inr}
use Rattle.std.specs.Prelude.{IfOk, Result}
use Rattle.std.proofs.lemmas.List.Elements.{Contains-push_cases}
use Rattle.crsm_base.specs.declared.memory.Failed.{Failed}
use Rattle.crsm_port.specs.Meaning.{Packet}
use Rattle.crsm_port.specs.Passing.{Among, Datagrams, HandsUp, IsOf, NoMore, OneMore}
use Rattle.crsm_port.specs.declared.port.Recv.{Recv}
use Rattle.crsm_port_packets.specs.Carrying.{carried}
use Rattle.crsm_port_packets.specs.Format.{is_packed}
use Rattle.crsm_port_packets.specs.Held.{unpacked}
use Rattle.crsm_port_packets.specs.Sent.{sent_with}
use Rattle.crsm_port_packets.specs.Waiting.{waiting_in}
use Rattle.crsm_port_packets.specs.declared.received.Received.{Received}
use Rattle.crsm_port_packets.proofs.Openings.{waits_less}
use Rattle.crsm_port_packets.proofs.Unpackings.{of_more}

pub no_more_than : (A B C : Datagrams) → NoMore A B → NoMore B C → NoMore A C
no_more_than A B C first second a d is = first a d (second a d is)

pub one_more_than : (to : ℕ) (bytes : List ℕ) (A B C : Datagrams) → NoMore A B → OneMore to bytes B C → OneMore to bytes A C
one_more_than to bytes A B C first second a d is = elim (second a d is) [
  | inl before ↦ inl (first a d before)
  | inr w ↦ inr w
]

pub unpacks_less : (P Q : Datagrams) (old new : Received) → NoMore P Q → new ≡ old → NoMore (unpacked P old) (unpacked Q new)
unpacks_less P Q old new more same = waits_less P Q old new more
    (λ a d is. subst (λ (r : Received). waiting_in r.unpacking a d) same is) (ap (λ (r : Received). r.fragments) same)

pub carries_less : (P Q : Datagrams) → NoMore P Q → NoMore (carried P) (carried Q)
carries_less P Q more a d is = elim is [
  | inl alone ↦ inl (alone.0, more a d alone.1)
  | inr stands ↦ inr (stands.0, more a (20 ∷ 0 ∷ stands.0) stands.1, stands.2)
]

-- ---- what waits

module _ (P Q : Datagrams) (waiting : List Packet) where
  pub sends_less : (left : List Packet) → left ≡ waiting → NoMore (carried P) (carried Q) → NoMore (sent_with P waiting) (sent_with Q left)
  sends_less left same more a d is = elim is [
    | inl went ↦ inl (more a d went)
    | inr waits ↦ inr (subst (λ (ps : List Packet). Among ps a d) same waits)
  ]

  -- a datagram went out as it is
  pub plain_went : (to : ℕ) (bytes : List ℕ) (left : List Packet) → left ≡ waiting → is_packed bytes ≡ false → OneMore to bytes P Q → OneMore to bytes (sent_with P waiting) (sent_with Q left)
  plain_went to bytes left same plain one a d is = elim is [
    | inl went ↦ elim went [
      | inl alone ↦ elim (one a d alone.1) [
        | inl before ↦ inl (inl (inl (alone.0, before)))
        | inr w ↦ inr w
      ]
      | inr stands ↦ elim (one a (20 ∷ 0 ∷ stands.0) stands.1) [
        | inl before ↦ inl (inl (inr (stands.0, before, stands.2)))
        | inr w ↦ absurd (packed_alone stands.0 w.1)
      ]
    ]
    | inr waits ↦ inl (inr (subst (λ (ps : List Packet). Among ps a d) same waits))
  ]
    where
      packed_alone : (entries : List ℕ) → (20 ∷ 0 ∷ entries) ≡ bytes → ⊥
      packed_alone entries at = let test : is_packed (20 ∷ 0 ∷ entries) ≡ false = ap is_packed at ∙ plain in cc

-- a datagram waits
pub one_waits : (P : Datagrams) (waiting : List Packet) (to : ℕ) (bytes : List ℕ) (left : List Packet) → left ≡ waiting ++ (record { address = to; bytes = bytes }) ∷ [] → OneMore to bytes (sent_with P waiting) (sent_with P left)
one_waits P waiting to bytes left is a d has = elim has [
  | inl went ↦ inl (inl went)
  | inr waits ↦ elim (Contains-push_cases waiting (record { address = to; bytes = bytes }) (record { address = a; bytes = d }) (subst (λ (ps : List Packet). Among ps a d) is waits)) [
    | inl before ↦ inl (inr before)
    | inr new ↦ inr (sym (ap (λ (p : Packet). p.address) new), sym (ap (λ (p : Packet). p.bytes) new))
  ]
]

-- ---- a receive

module _ (P Q R S T U : Datagrams) (first second third : Received) (waiting left last : List Packet) (buffer : List ℕ) where
  -- what waits goes out, and then the next datagram comes
  pub handed_up : (result : Result Recv Failed) → NoMore P Q → second ≡ first → IfOk result (IsOf (unpacked Q second) buffer) → NoMore (unpacked Q second) (unpacked R third)
      → NoMore (sent_with S waiting) (sent_with T left) → NoMore T U → last ≡ left → HandsUp (unpacked P first) (unpacked R third) (sent_with S waiting) (sent_with U last) buffer result
  handed_up result gives same given rest went sends still = record {
    given = of_result result given;
    no_more_given = no_more_than (unpacked P first) (unpacked Q second) (unpacked R third) less rest;
    no_more_sent = no_more_than (sent_with S waiting) (sent_with T left) (sent_with U last) went (sends_less T U left last still (carries_less T U sends));
  }
    where
      less : NoMore (unpacked P first) (unpacked Q second)
      less = unpacks_less P Q first second gives same

      of_result : (r : Result Recv Failed) → IfOk r (IsOf (unpacked Q second) buffer) → IfOk r (IsOf (unpacked P first) buffer)
      of_result (Ok got) is = of_more (unpacked P first) (unpacked Q second) buffer got less is
      of_result (Err error) is = tt
