-- What a node says of those that it hears, and what it knows of its peers.
use Rattle.std.proofs.Common.{◌≡◌, ◌∙◌, ◌++◌, ◌+◌, ◌-◌, ◌^◌, ◌<◌, ◌≤◌, ℕ, zero, suc, Bool, true, false, set, List, [], ◌∷◌, Some, Result, length, refl, sym, ap, subst, inl, inr, arith}
use Rattle.std.proofs.lemmas.List.Elements.{All-nil, All-push, Contains-append_left, Contains-push}
use Rattle.std.specs.Prelude.{◌⊎◌, ◌↔◌, All, Contains, IsTrue, min, slice_get, slice_index_or}
use Rattle.crsm_base.specs.declared.memory.Failed.{Failed}
use Rattle.crsm_port.specs.Meaning.{Meaning, Packet, Sends, SendsAll}
use Rattle.std.proofs.lemmas.Nat.{bit_set_by_shift, from_be_bytes-to_be_bytes_2}
use Rattle.std.proofs.lemmas.Nat.Bits.{shr_and_one}
use Rattle.std.specs.Int.{IsBitSet, bit_at, from_be_bytes, to_be_bytes, w16}
use Rattle.crsm_port_flow.proofs.Sendings.{sends_one_more}
use Rattle.crsm_port_flow.specs.Hears.{AreKnownBy, IsKnownBy, SaysHeard, SaysHears, TellsAll}
use Rattle.crsm_port_flow.specs.Taken.{IsSaid}
use Rattle.crsm_port_flow.specs.declared.hearing.Peer.{Peer}

-- so many of the peers were told
pub record ToldSoFar (me seen : ℕ) (peers : List Peer) (bytes : List ℕ) (old new : Meaning) : Type 0 where
  pub said : List Packet
  pub each : All (λ (p : Packet). p.bytes ≡ bytes) said
  pub all : (k : ℕ) (p : Peer) → k < seen → slice_get peers k ≡ Some p → (k ≡ me → ⊥) → Contains said (record { address = p.address; bytes = bytes })
  pub sent : SendsAll said old new

pub none_told : (me : ℕ) (peers : List Peer) (bytes : List ℕ) (m : Meaning) → ToldSoFar me 0 peers bytes m m
none_told me peers bytes m = record {
  said = [];
  each = All-nil (λ (p : Packet). p.bytes ≡ bytes);
  all = λ k p lt at not. absurd (omega (arith, lt));
  sent = refl;
}

peer_same : (p q : Peer) → Some p ≡ Some q → p ≡ q
peer_same p q e = cc

module _ (me : ℕ) (peers : List Peer) (bytes : List ℕ) (old mid : Meaning) (k : ℕ) (told : ToldSoFar me k peers bytes old mid) where
  pub told_more : (p : Peer) (new : Meaning) (result : Result (Unit {0}) Failed) → slice_get peers k ≡ Some p → Sends p.address bytes mid new result → ToldSoFar me (k + 1) peers bytes old new
  told_more p new result at one = record {
    said = told.said ++ (record { address = p.address; bytes = bytes }) ∷ [];
    each = All-push (λ (q : Packet). q.bytes ≡ bytes) told.said (record { address = p.address; bytes = bytes }) told.each refl;
    all = λ i q lt got not. elim (nat_cases i lt) [
      | inl before ↦ Contains-append_left told.said ((record { address = p.address; bytes = bytes }) ∷ []) (record { address = q.address; bytes = bytes }) (told.all i q before got not)
      | inr here ↦
          let same : p ≡ q = peer_same p q (sym at ∙ subst (λ (j : ℕ). slice_get peers j ≡ Some q) here got) in
          subst (λ (x : Peer). Contains (told.said ++ (record { address = p.address; bytes = bytes }) ∷ []) (record { address = x.address; bytes = bytes })) same (Contains-push told.said (record { address = p.address; bytes = bytes }))
    ];
    sent = sends_one_more told.said (record { address = p.address; bytes = bytes }) old mid new result told.sent one;
  }
    where
      nat_cases : (i : ℕ) → i < k + 1 → (i < k) ⊎ (i ≡ k)
      nat_cases i lt = grind arith

  pub told_but : k ≡ me → (new : Meaning) → new ≡ mid → ToldSoFar me (k + 1) peers bytes old new
  told_but is new same = record {
    said = told.said;
    each = told.each;
    all = λ i q lt got not. let before : i < k = omega (arith, not_here i lt (λ e. not (e ∙ is))) in told.all i q before got not;
    sent = subst (λ (m : Meaning). SendsAll told.said old m) (sym same) told.sent;
  }
    where
      not_here : (i : ℕ) → i < k + 1 → (i ≡ k → ⊥) → i < k
      not_here i lt not = omega (arith, lt, not)

pub peer_within : (ps : List Peer) (k : ℕ) (p : Peer) → slice_get ps k ≡ Some p → k < length ps
peer_within [] k p at = absurd (cc)
peer_within (x ∷ ps) zero p at = omega arith
peer_within (x ∷ ps) (suc k) p at = omega (arith, peer_within ps k p at)

pub all_told : (me now seen : ℕ) (peers : List Peer) (bytes : List ℕ) (old new : Meaning) → SaysHeard now peers bytes → length peers ≤ seen → ToldSoFar me seen peers bytes old new → (said : List Packet) × TellsAll me now peers said × SendsAll said old new
all_told me now seen peers bytes old new says le told = (told.said, record { bytes = bytes; says = says; each = told.each; all = λ k p at not. told.all k p (omega (arith, le, peer_within peers k p at)) at not }, told.sent)

-- from call to call, where the port is `now` at the end
module _ {X : Type 0} (M : X → Meaning) where
  pub port_told : (start before after now : X) (me : ℕ) (peers : List Peer) (bytes : List ℕ) (k : ℕ) → now ≡ after → (result : Result (Unit {0}) Failed) (p : Peer) (to : ℕ) → (slice_get peers k ≡ Some p) × (to ≡ p.address)
      → ToldSoFar me k peers bytes (M start) (M before) → Sends to bytes (M before) (M after) result → ToldSoFar me (k + 1) peers bytes (M start) (M now)
  port_told start before after now me peers bytes k same result p to at told one =
      subst (λ (x : X). ToldSoFar me (k + 1) peers bytes (M start) (M x)) (sym same)
      (told_more me peers bytes (M start) (M before) k told p (M after) result at.0 (subst (λ (a : ℕ). Sends a bytes (M before) (M after) result) at.1 one))

  pub port_not_told : (start before now : X) (me : ℕ) (peers : List Peer) (bytes : List ℕ) (k : ℕ) → now ≡ before → k ≡ me → ToldSoFar me k peers bytes (M start) (M before) → ToldSoFar me (k + 1) peers bytes (M start) (M now)
  port_not_told start before now me peers bytes k same is told = told_but me peers bytes (M start) (M before) k told is (M now) (ap M same)

-- ---- what is known of a peer

module _ (me from now : ℕ) (bytes : List ℕ) where
  pub known_of : (peers : List Peer) (k : ℕ) (p q : Peer) → k < length peers → p ≡ slice_index_or peers k p → p.address ≡ from → IsKnownBy me bytes now p q → AreKnownBy me from bytes now peers (set peers k q)
  known_of peers k p q lt at is known = inr (k, p, q, there peers k lt at, is, known, refl)
    where
      there : (ps : List Peer) (i : ℕ) → i < length ps → p ≡ slice_index_or ps i p → slice_get ps i ≡ Some p
      there [] i within here = absurd (omega (arith, within))
      there (x ∷ ps) zero within here = ap Some (sym here)
      there (x ∷ ps) (suc i) within here = there ps i (omega (arith, within)) here

  -- it says whether it hears this node
  pub said_known : (hears : Bool) (p q : Peer) → (hears ≡ true → (let heard : Peer = record p { heard_at = Some now; deaf = 0 } in q ≡ heard))
      → (hears ≡ false → (let unheard : Peer = record p { heard_at = Some now; deaf = min (p.deaf + 1) (2 ^ 32 - 1) } in q ≡ unheard)) → IsSaid bytes → IsTrue hears ↔ SaysHears me bytes → IsKnownBy me bytes now p q
  said_known true p q hears_it not_it said says = record {
    address = ap (λ (x : Peer). x.address) (hears_it refl);
    heard = ap (λ (x : Peer). x.heard_at) (hears_it refl);
    deaf = inl (says.0 refl, ap (λ (x : Peer). x.deaf) (hears_it refl));
  }
  said_known false p q hears_it not_it said says = record {
    address = ap (λ (x : Peer). x.address) (not_it refl);
    heard = ap (λ (x : Peer). x.heard_at) (not_it refl);
    deaf = inr (inl (said, (λ hears. let both : IsTrue false = says.1 hears in cc), ap (λ (x : Peer). x.deaf) (not_it refl)));
  }

  -- it says nothing of that
  pub heard_known : (p : Peer) → (IsSaid bytes → ⊥) → (let heard : Peer = record p { heard_at = Some now } in IsKnownBy me bytes now p heard)
  heard_known p nothing = record { address = refl; heard = refl; deaf = inr (inr (nothing, refl)) }

-- the two bytes of a mask have its bits
pub bits_of : (mask k high low : ℕ) (pair : List ℕ) → mask < 2 ^ 16 → pair ≡ to_be_bytes w16 mask → pair ≡ high ∷ low ∷ [] → (bit_at mask k ≡ 1 → IsBitSet (from_be_bytes w16 (high ∷ low ∷ [])) k) × (IsBitSet (from_be_bytes w16 (high ∷ low ∷ [])) k → bit_at mask k ≡ 1)
bits_of mask k high low pair fits is two =
    let whole : from_be_bytes w16 (high ∷ low ∷ []) ≡ mask = ap (from_be_bytes w16) (sym two ∙ is) ∙ from_be_bytes-to_be_bytes_2 mask fits in
    let by = bit_set_by_shift mask k in (
      λ one. subst (λ (n : ℕ). IsBitSet n k) (sym whole) (by.0 (shr_and_one mask k ∙ one)),
      λ set. sym (shr_and_one mask k) ∙ by.1 (subst (λ (n : ℕ). IsBitSet n k) whole set),
    )

pub two_of : (pair : List ℕ) (a b : ℕ) → pair ≡ a ∷ b ∷ [] → pair ≡ slice_index_or pair 0 0 ∷ slice_index_or pair 1 0 ∷ []
two_of pair a b is = subst (λ (p : List ℕ). p ≡ slice_index_or p 0 0 ∷ slice_index_or p 1 0 ∷ []) (sym is) refl

pub got_at : (ps : List Peer) (k : ℕ) (d : Peer) → k < length ps → slice_get ps k ≡ Some (slice_index_or ps k d)
got_at [] k d lt = absurd (omega (arith, lt))
got_at (x ∷ ps) zero d lt = refl
got_at (x ∷ ps) (suc k) d lt = got_at ps k d (omega (arith, lt))
