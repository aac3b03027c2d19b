-- All that waits for an address goes to the port below.
use Rattle.std.proofs.Common.{◌≡◌, ◌∙◌, ◌+◌, ◌≤◌, ◌++◌, ℕ, zero, suc, false, List, [], ◌∷◌, Option, Some, None, Result, length, take, drop, refl, sym, ap, subst, inl, inr, arith}
use Rattle.std.specs.Prelude.{◌⊎◌, ◌==◌, All, Contains, slice_get}
use Rattle.std.proofs.lemmas.List.Elements.{All-append, All-nil, All-weaker, Contains-append_cases, Contains-append_left, Contains-append_right, Contains-push}
use Rattle.crsm_base.specs.declared.memory.Failed.{Failed}
use Rattle.crsm_port.specs.Meaning.{Meaning, Packet, Sends, SendsAll}
use Rattle.crsm_port.specs.Passing.{Among, NoMore}
use Rattle.crsm_port_packets.specs.Carrying.{carried}
use Rattle.crsm_port_packets.specs.Format.{StandsIn, entries_of, entry, entry_at, first, is_packed, later}
use Rattle.crsm_port_packets.specs.Given.{Holds, IsOfPacket, IsOfWaiting, LetsGo, PacketGoes}
use Rattle.crsm_port_packets.specs.Sent.{HasOneMore, IsBundle, IsFilled, standing_in}
use Rattle.crsm_port_packets.proofs.Bundles.{entries_more, entry_first, filled_waits, same_pair}
use Rattle.crsm_port_packets.proofs.Passings.{carries_less}

-- ---- packets that a port is given in turn

pub sends_both : (ps qs : List Packet) (old between new : Meaning) → SendsAll ps old between → SendsAll qs between new → SendsAll (ps ++ qs) old new
sends_both [] qs old between new same then = subst (λ (m : Meaning). SendsAll qs m new) same then
sends_both (p ∷ ps) qs old between new (next, answer, one, rest) then = (next, answer, one, sends_both ps qs next between new rest then)

-- what a list of packets carries, a longer one carries
carried_left : (sent more : List Packet) → NoMore (carried (Among (sent ++ more))) (carried (Among sent))
carried_left sent more = carries_less (Among (sent ++ more)) (Among sent) (λ a d has. Contains-append_left sent more (record { address = a; bytes = d }) has)

carried_right : (sent more : List Packet) → NoMore (carried (Among (sent ++ more))) (carried (Among more))
carried_right sent more = carries_less (Among (sent ++ more)) (Among more) (λ a d has. Contains-append_right sent more (record { address = a; bytes = d }) has)

pub take_whole : (ps : List Packet) (k : ℕ) → length ps ≤ k → take k ps ≡ ps
take_whole [] zero le = refl
take_whole [] (suc k) le = refl
take_whole (p ∷ ps) zero le = absurd (omega (arith, le))
take_whole (p ∷ ps) (suc k) le = ap (λ (r : List Packet). p ∷ r) (take_whole ps k (omega (arith, le)))

-- ---- a bundle

pub not_empty : (xs : List ℕ) → false ≡ (length xs == 0) → xs ≡ [] → ⊥
not_empty [] is none = cc
not_empty (x ∷ xs) is none = cc

stands_there : (ds : List (List ℕ)) (d : List ℕ) → Contains ds d → StandsIn d (entries_of ds)
stands_there [] d (k, lt, is) = absurd (omega (arith, lt))
stands_there (x ∷ ds) d (zero, lt, is) = subst (λ (y : List ℕ). StandsIn y (entries_of (x ∷ ds))) is (first (entry_first x (entries_of ds)))
stands_there (x ∷ ds) d (suc k, lt, is) = later (entry_first x (entries_of ds)) (stands_there ds d (k, omega (arith, lt), is))

no_entries : (ds : List (List ℕ)) (d : List ℕ) → entries_of ds ≡ [] → Contains ds d → ⊥
no_entries [] d none (k, lt, is) = omega (arith, lt)
no_entries (x ∷ ds) d none has = cc

-- the only datagram of a bundle
lone_is : (ds : List (List ℕ)) (bytes d : List ℕ) → entry_at (entries_of ds) ≡ Some (bytes, []) → Contains ds d → d ≡ bytes
lone_is [] bytes d there has = let none : (let it : Option (List ℕ × List ℕ) = None in it ≡ Some (bytes, [])) = there in absurd (cc)
lone_is (x ∷ ds) bytes d there has =
    let same = same_pair x (entries_of ds) bytes [] (sym (entry_first x (entries_of ds)) ∙ there) in
    of same.1 same.0 has
  where
    of : entries_of ds ≡ [] → x ≡ bytes → Contains (x ∷ ds) d → d ≡ bytes
    of none is (zero, lt, at) = sym at ∙ is
    of none is (suc k, lt, at) = absurd (no_entries ds d none (k, omega (arith, lt), at))

one_went : (to : ℕ) (bytes : List ℕ) → Among ((record { address = to; bytes = bytes }) ∷ []) to bytes
one_went to bytes = (zero, omega arith, refl)

all_one : (P : Packet → Type 0) (p : Packet) → P p → All P (p ∷ [])
all_one P p is zero d lt = is
all_one P p is (suc k) d lt = absurd (omega (arith, lt))

module _ (to : ℕ) (packet : List ℕ) (old new : Meaning) where
  pub none_goes : packet ≡ [] → new ≡ old → PacketGoes to packet old new
  none_goes none same = record {
    sent = [];
    given = same;
    all = λ d holds. let is = holds.1 in absurd (cc);
    only = All-nil (IsOfPacket to packet);
  }

  module _ (result : Result (Unit {0}) Failed) where
    pub lone_goes : (bytes : List ℕ) → IsBundle packet → entry_at (drop 2 packet) ≡ Some (bytes, []) → is_packed bytes ≡ false → Sends to bytes old new result → PacketGoes to packet old new
    lone_goes bytes bundle there plain one = record {
      sent = record { address = to; bytes = bytes } ∷ [];
      given = (new, result, one, refl);
      all = λ d holds. alone d (lone_is holds.0 bytes d (ap (λ (p : List ℕ). entry_at (drop 2 p)) (sym holds.1) ∙ there) holds.2);
      only = all_one (IsOfPacket to packet) (record { address = to; bytes = bytes }) (inr stands);
    }
      where
        alone : (d : List ℕ) → d ≡ bytes → carried (Among ((record { address = to; bytes = bytes }) ∷ [])) to d
        alone d is = inl (ap is_packed is ∙ plain, subst (λ (x : List ℕ). Among ((record { address = to; bytes = bytes }) ∷ []) to x) (sym is) (one_went to bytes))

        stands : standing_in to packet to bytes
        stands = elim bundle [
          | inl none ↦ let at : (let it : Option (List ℕ × List ℕ) = None in it ≡ Some (bytes, [])) = ap (λ (p : List ℕ). entry_at (drop 2 p)) (sym none) ∙ there in absurd (cc)
          | inr w ↦ (refl, (w.0, w.1, first (ap (λ (p : List ℕ). entry_at (drop 2 p)) (sym w.1) ∙ there)))
        ]

    pub bundle_goes : (packet ≡ [] → ⊥) → Sends to packet old new result → PacketGoes to packet old new
    bundle_goes some one = record {
      sent = record { address = to; bytes = packet } ∷ [];
      given = (new, result, one, refl);
      all = λ d holds. inr (entries_of holds.0, subst (λ (x : List ℕ). Among ((record { address = to; bytes = packet }) ∷ []) to x) holds.1 (one_went to packet), stands_there holds.0 d holds.2);
      only = all_one (IsOfPacket to packet) (record { address = to; bytes = packet }) (inl (refl, refl, some));
    }

-- what is sent of a packet that was filled waited
of_filled : (to : ℕ) (waiting : List Packet) (packet : List ℕ) → IsFilled to waiting packet → (p : Packet) → IsOfPacket to packet p → IsOfWaiting waiting p
of_filled to waiting packet filled p (inl (at, is, some)) = elim filled [
  | inl none ↦ absurd (some none)
  | inr w ↦ inr (w.0, is ∙ w.1, λ d has. subst (λ (x : ℕ). Among waiting x d) (sym at) (w.2 d has))
]
of_filled to waiting packet filled p (inr stands) = inl (filled_waits to waiting packet filled p.address p.bytes stands)

pub is_bundle : (to : ℕ) (waiting : List Packet) (packet : List ℕ) → IsFilled to waiting packet → IsBundle packet
is_bundle to waiting packet (inl none) = inl none
is_bundle to waiting packet (inr w) = inr (entries_of w.0, w.1)

-- ---- one more datagram in a packet

holds_first : (packet bytes : List ℕ) → packet ≡ 20 ∷ 0 ∷ entry bytes → Holds packet bytes
holds_first packet bytes is = (bytes ∷ [], is ∙ ap (λ (r : List ℕ). 20 ∷ 0 ∷ r) (sym (entries_more [] bytes)), (zero, omega arith, refl))

module _ (old new bytes : List ℕ) (more : HasOneMore bytes old new) where
  holds_still : (d : List ℕ) → Holds old d → Holds new d
  holds_still d (ds, is, has) =
      let some : old ≡ [] → ⊥ = λ none. cc in (
        ds ++ bytes ∷ [],
        more.more some ∙ ap (λ (r : List ℕ). r ++ entry bytes) is ∙ ap (λ (r : List ℕ). 20 ∷ 0 ∷ r) (sym (entries_more ds bytes)),
        Contains-append_left ds (bytes ∷ []) d has,
      )

  holds_new : (to : ℕ) (waiting : List Packet) → IsFilled to waiting old → Holds new bytes
  holds_new to waiting (inl none) = holds_first new bytes (more.first none)
  holds_new to waiting (inr (ds, is, stand)) =
      let some : old ≡ [] → ⊥ = λ none. cc in (
        ds ++ bytes ∷ [],
        more.more some ∙ ap (λ (r : List ℕ). r ++ entry bytes) is ∙ ap (λ (r : List ℕ). 20 ∷ 0 ∷ r) (sym (entries_more ds bytes)),
        Contains-push ds bytes,
      )

-- ---- the datagrams that wait for an address, up to one of them

pub record SoFar (to : ℕ) (seen waiting : List Packet) (packet : List ℕ) (old new : Meaning) : Type 0 where
  pub sent : List Packet
  pub given : SendsAll sent old new
  pub all : (d : List ℕ) → Among seen to d → length d ≤ 1_232 → carried (Among sent) to d ⊎ Holds packet d
  pub only : All (IsOfWaiting waiting) sent

pub none_so_far : (to : ℕ) (waiting : List Packet) (packet : List ℕ) (m : Meaning) → SoFar to [] waiting packet m m
none_so_far to waiting packet m = record {
  sent = [];
  given = refl;
  all = λ d (k, lt, is) short. absurd (omega (arith, lt));
  only = All-nil (IsOfWaiting waiting);
}

-- one more is seen
seen_more : (ps : List Packet) (i : ℕ) (p q : Packet) → slice_get ps i ≡ Some p → Contains (take (i + 1) ps) q → Contains (take i ps) q ⊎ (p ≡ q)
seen_more ps i p q at has = let next : i + 1 ≡ suc i = omega arith in go ps i at (subst (λ (n : ℕ). Contains (take n ps) q) next has)
  where
    go : (ps : List Packet) (i : ℕ) → slice_get ps i ≡ Some p → Contains (take (suc i) ps) q → Contains (take i ps) q ⊎ (p ≡ q)
    go [] i at has = absurd (cc)
    go (x ∷ ps) zero at (zero, lt, is) = let same : x ≡ p = cc in inr (sym same ∙ is)
    go (x ∷ ps) zero at (suc k, lt, is) = absurd (omega (arith, lt))
    go (x ∷ ps) (suc i) at (zero, lt, is) = inl (zero, omega arith, is)
    go (x ∷ ps) (suc i) at (suc k, lt, is) = elim (go ps i at (k, omega (arith, lt), is)) [
      | inl before ↦ inl (suc before.0, omega (arith, before.1), before.2)
      | inr same ↦ inr same
    ]

module _ (to : ℕ) (waiting : List Packet) (i : ℕ) (address : ℕ) (bytes : List ℕ) (at : slice_get waiting i ≡ Some (record { address = address; bytes = bytes })) where
  -- the next is for another address, or too long
  pub passed_over : (packet : List ℕ) (old new : Meaning) → ((d : List ℕ) → address ≡ to → d ≡ bytes → length d ≤ 1_232 → ⊥) → SoFar to (take i waiting) waiting packet old new → SoFar to (take (i + 1) waiting) waiting packet old new
  passed_over packet old new not so = record {
    sent = so.sent;
    given = so.given;
    all = λ d seen short. elim (seen_more waiting i (record { address = address; bytes = bytes }) (record { address = to; bytes = d }) at seen) [
      | inl before ↦ so.all d before short
      | inr same ↦ absurd (not d (ap (λ (p : Packet). p.address) same) (sym (ap (λ (p : Packet). p.bytes) same)) short)
    ];
    only = so.only;
  }

  module _ (was between packet : List ℕ) (old mid new : Meaning) (filled : IsFilled to waiting was) (more : HasOneMore bytes between packet) (so : SoFar to (take i waiting) waiting was old mid) where
    -- it is in the packet
    joined : (between ≡ was) → new ≡ mid → SoFar to (take (i + 1) waiting) waiting packet old new
    joined same still = record {
      sent = so.sent;
      given = subst (λ (m : Meaning). SendsAll so.sent old m) (sym still) so.given;
      all = λ d seen short. elim (seen_more waiting i (record { address = address; bytes = bytes }) (record { address = to; bytes = d }) at seen) [
        | inl before ↦ elim (so.all d before short) [
          | inl went ↦ inl went
          | inr holds ↦ inr (holds_still between packet bytes more d (subst (λ (x : List ℕ). Holds x d) (sym same) holds))
        ]
        | inr new ↦ inr (subst (λ (x : List ℕ). Holds packet x) (ap (λ (p : Packet). p.bytes) new) (holds_new between packet bytes more to waiting (subst (λ (x : List ℕ). IsFilled to waiting x) (sym same) filled)))
      ];
      only = so.only;
    }

    -- those before it go first
    went_first : (between ≡ []) → PacketGoes to was mid new → SoFar to (take (i + 1) waiting) waiting packet old new
    went_first none goes = record {
      sent = so.sent ++ goes.sent;
      given = sends_both so.sent goes.sent old mid new so.given goes.given;
      all = λ d seen short. elim (seen_more waiting i (record { address = address; bytes = bytes }) (record { address = to; bytes = d }) at seen) [
        | inl before ↦ elim (so.all d before short) [
          | inl went ↦ inl (carried_left so.sent goes.sent to d went)
          | inr holds ↦ inl (carried_right so.sent goes.sent to d (goes.all d holds))
        ]
        | inr new ↦ inr (subst (λ (x : List ℕ). Holds packet x) (ap (λ (p : Packet). p.bytes) new) (holds_new between packet bytes more to waiting (inl none)))
      ];
      only = All-append (IsOfWaiting waiting) so.sent goes.sent so.only (All-weaker (IsOfPacket to was) (IsOfWaiting waiting) (λ p is. of_filled to waiting was filled p is) goes.sent goes.only);
    }

    pub taken_in : {X : Type 0} (M : X → Meaning) (port port_now : X) → mid ≡ M port → new ≡ M port_now → ((between ≡ was) × (port_now ≡ port)) ⊎ ((between ≡ []) × PacketGoes to was (M port) (M port_now)) → SoFar to (take (i + 1) waiting) waiting packet old new
    taken_in M port port_now from at' kept = elim kept [
      | inl stays ↦ joined stays.0 (at' ∙ ap M stays.1 ∙ sym from)
      | inr w ↦ went_first w.0 (subst (λ (m : Meaning). PacketGoes to was m new) (sym from) (subst (λ (m : Meaning). PacketGoes to was (M port) m) (sym at') w.1))
    ]

-- all are seen, and the last packet goes
pub all_go : (to : ℕ) (seen waiting : List Packet) (packet : List ℕ) (old mid new : Meaning) → seen ≡ waiting → IsFilled to waiting packet → SoFar to seen waiting packet old mid → PacketGoes to packet mid new → LetsGo (to ∷ []) waiting old new
all_go to seen waiting packet old mid new same filled so goes = record {
  sent = so.sent ++ goes.sent;
  given = sends_both so.sent goes.sent old mid new so.given goes.given;
  all = λ a d is waits short. there a d is waits short;
  only = All-append (IsOfWaiting waiting) so.sent goes.sent so.only (All-weaker (IsOfPacket to packet) (IsOfWaiting waiting) (λ p is. of_filled to waiting packet filled p is) goes.sent goes.only);
}
  where
    here : (d : List ℕ) → Among waiting to d → length d ≤ 1_232 → carried (Among (so.sent ++ goes.sent)) to d
    here d waits short = elim (so.all d (subst (λ (ps : List Packet). Among ps to d) (sym same) waits) short) [
      | inl went ↦ carried_left so.sent goes.sent to d went
      | inr holds ↦ carried_right so.sent goes.sent to d (goes.all d holds)
    ]

    there : (a : ℕ) (d : List ℕ) → Contains (to ∷ []) a → Among waiting a d → length d ≤ 1_232 → carried (Among (so.sent ++ goes.sent)) a d
    there a d (zero, lt, is) waits short = subst (λ (x : ℕ). carried (Among (so.sent ++ goes.sent)) x d) is (here d (subst (λ (x : ℕ). Among waiting x d) (sym is) waits) short)
    there a d (suc k, lt, is) waits short = absurd (omega (arith, lt))

-- ---- one address after another

pub none_let_go : (waiting : List Packet) (m : Meaning) → LetsGo [] waiting m m
none_let_go waiting m = record {
  sent = [];
  given = refl;
  all = λ a d (k, lt, is) waits short. absurd (omega (arith, lt));
  only = All-nil (IsOfWaiting waiting);
}

pub let_go_both : (one two : List ℕ) (waiting : List Packet) (old mid new : Meaning) → LetsGo one waiting old mid → LetsGo two waiting mid new → LetsGo (one ++ two) waiting old new
let_go_both one two waiting old mid new before now = record {
  sent = before.sent ++ now.sent;
  given = sends_both before.sent now.sent old mid new before.given now.given;
  all = λ a d is waits short. elim (Contains-append_cases one two a is) [
    | inl earlier ↦ carried_left before.sent now.sent a d (before.all a d earlier waits short)
    | inr here ↦ carried_right before.sent now.sent a d (now.all a d here waits short)
  ];
  only = All-append (IsOfWaiting waiting) before.sent now.sent before.only now.only;
}

-- where none waits
pub none_waits : (addresses : List ℕ) (waiting : List Packet) (old new : Meaning) → waiting ≡ [] → new ≡ old → LetsGo addresses waiting old new
none_waits addresses waiting old new none same = record {
  sent = [];
  given = same;
  all = λ a d is waits short. absurd (nothing a d (subst (λ (ps : List Packet). Among ps a d) none waits));
  only = All-nil (IsOfWaiting waiting);
}
  where
    nothing : (a : ℕ) (d : List ℕ) → Among [] a d → ⊥
    nothing a d (k, lt, is) = omega (arith, lt)
