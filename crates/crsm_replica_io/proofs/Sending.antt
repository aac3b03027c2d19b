-- Sending of one datagram after another.
use Rattle.std.proofs.Common.{◌≡◌, ◌+◌, ◌≤◌, ◌<◌, take, drop, get_or, ℕ, suc, List, [], ◌∷◌, ◌++◌, map, length, Option, Some, None, Result, Ok, Err, refl, sym, ◌∙◌, ap, subst, option_map, append-nil, append_assoc, inl, inr, arith}
use Rattle.std.proofs.lemmas.List.{map-append}
use Rattle.crsm_base.specs.declared.memory.Failed.{Failed}
use Rattle.crsm_port_faults.specs.Counts.{Rose}
use Rattle.crsm_port_faults.specs.Plan.{Plan, spent}
use Rattle.crsm_port_faults.specs.Failing.{one_less}
use Rattle.crsm_port.specs.Meaning.{Framing, IsShort, Meaning, Packet, Traffic, Sends, with_sent}
use Rattle.crsm_replica_io.proofs.Headers.{one_header, short_piece}
use Rattle.crsm_replica_io.specs.Headers.{AreShort, packets_of, size_of}
use Rattle.crsm_replica_io.specs.declared.outbox.Header.{Header}
use Rattle.crsm_replica_io.specs.Outgoing.{Lacks, GoesOut, GoesWhole, SendsAll, bytes_in, with_all_sent}

-- ---- lists

bytes_behind : (packets : List Packet) (d : Packet) → bytes_in (packets ++ d ∷ []) ≡ bytes_in packets + length d.bytes
bytes_behind [] d = omega arith
bytes_behind (p ∷ packets) d = let on = bytes_behind packets d in omega arith

length_behind : (packets : List Packet) (d : Packet) → length (packets ++ d ∷ []) ≡ length packets + 1
length_behind [] d = refl
length_behind (p ∷ packets) d = let on = length_behind packets d in omega arith

-- one more is sent
goes : (missing : ℕ) (packets out : List Packet) (d : Packet) → Lacks missing packets out → Lacks missing (packets ++ d ∷ []) (out ++ d ∷ [])
goes missing [] out d (none, empty) = inl ([], ap (λ ps. ps ++ d ∷ []) empty, (none, refl))
goes missing (p ∷ packets) out d (inl (rest, is, l)) = inl (rest ++ d ∷ [], ap (λ ps. ps ++ d ∷ []) is, goes missing packets rest d l)
goes missing (p ∷ packets) out d (inr (fewer, is, l)) = inr (fewer, is, goes fewer packets out d l)

-- one more is lost
lost : (missing : ℕ) (packets out : List Packet) (d : Packet) → Lacks missing packets out → Lacks (suc missing) (packets ++ d ∷ []) out
lost missing [] out d (none, empty) = inr (missing, refl, (none, empty))
lost missing (p ∷ packets) out d (inl (rest, is, l)) = inl (rest, is, lost missing packets rest d l)
lost missing (p ∷ packets) out d (inr (fewer, is, l)) = inr (suc fewer, ap suc is, lost fewer packets out d l)

-- ---- the traffic

none_more : (t : Option Traffic) → t ≡ option_map (with_all_sent []) t
none_more None = refl
none_more (Some t) = ap (λ ps. Some (record t { sent = ps })) (sym (append-nil t.sent))

-- one more, behind those that went out, each with the framing on
one_told : (c : Framing) (t : Option Traffic) (out : List Packet) (d : Packet)
    → option_map (with_sent (c.wrap d)) (option_map (with_all_sent (map c.wrap out)) t) ≡ option_map (with_all_sent (map c.wrap (out ++ d ∷ []))) t
one_told c None out d = refl
one_told c (Some t) out d =
    ap (λ ps. Some (record t { sent = ps })) (append_assoc t.sent (map c.wrap out) (c.wrap d ∷ []) ∙ ap (λ ps. t.sent ++ ps) (sym (map-append c.wrap out (d ∷ []))))

-- the framing of the second port is that of the first
told_on : (a c : Framing) (t u v : Option Traffic) (out : List Packet) (d : Packet) → c ≡ a → u ≡ option_map (with_all_sent (map a.wrap out)) t → v ≡ option_map (with_sent (c.wrap d)) u
    → v ≡ option_map (with_all_sent (map a.wrap (out ++ d ∷ []))) t
told_on a c t u v out d same before more =
    more ∙ ap (λ (k : Framing). option_map (with_sent (k.wrap d)) u) same ∙ ap (option_map (with_sent (a.wrap d))) before ∙ one_told a t out d

-- ---- plans without an end

same_plan : {c d a b : ℕ} {g h : Option ℕ} → c ≡ d → a ≡ b → g ≡ h → Path Plan (record { calls = c; bytes = a; good = g }) (record { calls = d; bytes = b; good = h })
same_plan e f i = rw (e, f, i) refl

spent_none : (p : Plan) → p.good ≡ None → spent 0 0 p ≡ p
spent_none p good = same_plan (omega arith) (omega arith) (ap one_less good ∙ sym good)

spent_more : (p : Plan) (n size more : ℕ) → p.good ≡ None → spent 1 more (spent n size p) ≡ spent (n + 1) (size + more) p
spent_more p n size more good = same_plan (omega arith) (omega arith) (ap (λ g. one_less (one_less g)) good ∙ sym (ap one_less good))

no_end : (g : Option ℕ) → g ≡ None → one_less g ≡ Some 0 → ⊥
no_end g none h = let empty : Path (Option ℕ) None (Some 0) = sym (ap one_less none) ∙ h in cc

-- ---- nothing, and one more

pub nothing_sent : (m : Meaning) → SendsAll [] m m
nothing_sent m = record {
  faults = refl;
  empties = refl;
  too_long = refl;
  later = omega arith;
  framing = refl;
  borrowed_as = refl;
  out = record { out = []; missing = 0; lacks = (refl, refl); counted = omega arith; traffic = none_more m.traffic };
  whole = λ p told good room bytes. record { losses = refl; traffic = none_more m.traffic; plan = told ∙ ap Some (sym (spent_none p good)) };
}

module _ {T : Type 0} (packets : List Packet) (d : Packet) (a b c : Meaning) (s : SendsAll packets a b) where
  sent_out : (x : T) → Sends d.address d.bytes b c (Ok x) → GoesOut (packets ++ d ∷ []) a c
  sent_out x r = record {
    out = s.out.out ++ d ∷ [];
    missing = s.out.missing;
    lacks = goes _ packets _ d s.out.lacks;
    counted = let on = s.out.counted in let same = r.no_loss in omega arith;
    traffic = told_on a.framing b.framing a.traffic b.traffic c.traffic s.out.out d s.framing s.out.traffic r.sent;
  }

  lost_out : (e : Failed) → Sends {T = T} d.address d.bytes b c (Err e) → GoesOut (packets ++ d ∷ []) a c
  lost_out e r = record {
    out = s.out.out;
    missing = suc s.out.missing;
    lacks = lost _ packets _ d s.out.lacks;
    counted = let on = s.out.counted in let rose : Rose b.losses c.losses = r.failed in omega arith;
    traffic = r.unsent ∙ s.out.traffic;
  }

  pub one_more : (result : Result T Failed) → IsShort d.bytes → Sends d.address d.bytes b c result → SendsAll (packets ++ d ∷ []) a c
  one_more result short r = record {
    faults = r.faults ∙ s.faults;
    empties = r.empties ∙ s.empties;
    too_long = r.too_long short ∙ s.too_long;
    later = let one = s.later in let two = r.later in omega arith;
    framing = r.framing ∙ s.framing;
    borrowed_as = r.borrowed_as ∙ s.borrowed_as;
    out = by_result result r;
    whole = λ p told good room size.
        let more = length_behind packets d in
        let larger = bytes_behind packets d in
        all_well p good (omega arith) (omega arith) (s.whole p told good (omega arith) (omega arith)) result r;
  }
    where
      all_well : (p : Plan) → p.good ≡ None → length packets + 1 ≤ p.calls → bytes_in packets + length d.bytes ≤ p.bytes → GoesWhole packets p a b → (result : Result T Failed) → Sends d.address d.bytes b c result → GoesWhole (packets ++ d ∷ []) p a c
      all_well p good room size before (Ok x) r = record {
        losses = r.no_loss ∙ before.losses;
        traffic = told_on a.framing b.framing a.traffic b.traffic c.traffic packets d s.framing before.traffic r.sent;
        plan = rw (length_behind packets d, bytes_behind packets d) (r.plan.spends _ before.plan ∙ ap Some (spent_more p (length packets) (bytes_in packets) (length d.bytes) good));
      }
      all_well p good room size before (Err e) r =
          absurd (no_end p.good good ((r.plan.exact _ before.plan (omega arith) (omega arith)).0 refl))

      by_result : (result : Result T Failed) → Sends d.address d.bytes b c result → GoesOut (packets ++ d ∷ []) a c
      by_result (Ok x) r = sent_out x r
      by_result (Err e) r = lost_out e r

pub one_header_more : {T : Type 0} (headers : List Header) (i : ℕ) (k : Header) (text rest bytes : List ℕ) (a b c : Meaning) (result : Result T Failed) → i < length headers
    → rest ≡ drop (size_of (take i headers)) text → bytes ≡ take (get_or headers i k).len rest → AreShort headers → SendsAll (packets_of (take i headers) text) a b → Sends (get_or headers i k).to bytes b c result
    → SendsAll (packets_of (take (i + 1) headers) text) a c
one_header_more headers i k text rest bytes a b c result within behind piece short before r =
    subst (λ packets. SendsAll packets a c) (sym (one_header headers i k text rest bytes within behind piece))
    (one_more (packets_of (take i headers) text) (record { address = (get_or headers i k).to; bytes = bytes }) a b c before result (short_piece headers i k rest bytes short within piece) r)
