-- Of what is handed out only parts are cut, and the names of parts are their own.
use Rattle.std.proofs.Common.{◌≡◌, ℕ, ◌<◌, ◌≤◌, ◌^◌, List, [], ◌∷◌, ◌++◌, length, map, get_or, take, refl, sym, ◌∙◌, ap, subst, inl, inr, arith}
use Rattle.std.specs.List.{AllByRecursion, enumerate_from}
use Rattle.std.proofs.lemmas.Bool.{cases_lt}
use Rattle.std.proofs.lemmas.List.{length-append, get_or_past}
use Rattle.crsm_base.specs.Messages.{control_bytes, datagram_bytes, FitsControl, FitsDatagram}
use Rattle.crsm_spec.specs.Types.{Control, Datagram}
use Rattle.crsm_spec.specs.Log.{boots}
use Rattle.crsm_spec.specs.Parts.{cut}
use Rattle.crsm_spec.specs.Replica.{Replica, fresh}
use Rattle.crsm_spec.specs.Draft.{parts_to}
use Rattle.crsm_wire.specs.Marks.{mark_in}
use Rattle.crsm_law_messages.specs.SentMessages.{SentMessage}
use Rattle.crsm_law_messages.proofs.SendingControls.{IsFor, piece}
use Rattle.crsm_law_cluster.specs.Clusters.{Event, Outgoing}
use Rattle.crsm_law_cluster.specs.ClusterLaws.{IsHistory}
use Rattle.crsm_law_replies.specs.Laws.{RepliesTellTheFirst}
use Rattle.crsm_law_parts.specs.Handed.{IsHanded, bytes_in, datagram_in}
use Rattle.crsm_law_parts.specs.Cuts.{most_whole}
use Rattle.crsm_law_parts.specs.Laws.{IsPart, OnlyPartsAreCut, OthersAreShort, CutsAreApart}
use Rattle.crsm_law_parts.proofs.Items.{handed_fine}
use Rattle.crsm_law_parts.proofs.Sizes.{mark_short, frame_long, ack_long, reply_long, others_long}
use Rattle.crsm_law_parts.proofs.Names.{Numbers, AreSmall, part_of, part_long, AreSame, name_tells}
use Rattle.crsm_law_parts.proofs.Shown.{between, payload_fits, known, part_for, message_fits, outcome_short, boot_small}

-- ---- sizes

no_longer : (cluster : ℕ) (d : Datagram) → length (datagram_bytes d) ≤ 1149 → 1232 < length (mark_in cluster ++ datagram_bytes d) → ⊥
no_longer cluster d le lt = let m = mark_short cluster in absurd (omega (arith, le, lt, m, length-append (mark_in cluster) (datagram_bytes d)))

module _ (tell : RepliesTellTheFirst) (n : ℕ) (h : List Event) (q : IsHistory n h) where
  only : (cluster k : ℕ) (o : Outgoing) → IsHanded n h k o → most_whole < length (bytes_in cluster o) → IsPart (datagram_in o)
  only cluster k (Outgoing.ToReplica to (Datagram.Frame from j epoch seq p)) t lt = absurd (no_longer cluster _ (frame_long from j epoch seq p (payload_fits n h q k to from j epoch seq p t)) lt)
  only cluster k (Outgoing.ToReplica to (Datagram.Ack from j epoch next)) t lt = absurd (no_longer cluster _ (ack_long from j epoch next) lt)
  only cluster k (Outgoing.ToReplica to (Datagram.Part from j boot number index count bytes)) t lt = tt
  only cluster k (Outgoing.ToReplica to (Datagram.Request c)) t lt = absurd (between n h q k to _ t)
  only cluster k (Outgoing.ToReplica to (Datagram.Reply client number told)) t lt = absurd (between n h q k to _ t)
  only cluster k (Outgoing.ToReplica to (Datagram.Operate ms)) t lt = absurd (between n h q k to _ t)
  only cluster k (Outgoing.ToClient a) t lt =
      absurd (no_longer cluster _ (reply_long a.client a.number a.says (outcome_short n h q tell k a t)) lt)

pub only_parts : RepliesTellTheFirst → OnlyPartsAreCut
only_parts tell n h q = only tell n h q

pub others : OthersAreShort
others cluster d fits other = let m = mark_short cluster in let le = others_long d fits other in omega (arith, m, le, length-append (mark_in cluster) (datagram_bytes d))

-- ---- the number of a message's parts

abbrev PartsAreSpelt : Type 0
PartsAreSpelt =
    (r : Replica) (k : ℕ) (c : Control) → r.me < 15 → k < 15 → boots r.log < 2 ^ 64 → r.made < 2 ^ 64 → FitsControl c →
    AllByRecursion (λ s. (s.0 < 15) × FitsDatagram s.1) (parts_to r k c)

no_boots : boots [] ≡ 0
unfolding boots
no_boots = refl

few_parts : PartsAreSpelt → (c : Control) → FitsControl c → length (cut (control_bytes c)) ≤ 271
unfolding parts_to fresh
few_parts spelt c fits =
    go (cut (control_bytes c)) (length (cut (control_bytes c))) refl (spelt (fresh 0 0 []) 0 c (omega arith) (omega arith) (let none = no_boots in omega (arith, none)) (omega arith) fits)
  where
    go : (ps : List (List ℕ)) (n : ℕ) → n ≡ length ps → AllByRecursion (λ (s : ℕ × Datagram). (s.0 < 15) × FitsDatagram s.1) (map (λ p. (0, Datagram.Part 0 0 (boots []) 0 p.0 n p.1)) (enumerate_from 0 ps)) → n ≤ 271
    go [] n e all = omega (arith, e)
    go (p ∷ ps) n e all = all.0.1.5

-- ---- names

module _ (tell : RepliesTellTheFirst) (spelt : PartsAreSpelt) (n : ℕ) (h : List Event) (q : IsHistory n h) where
  -- a part that is cut: its numbers, its content, and the message that it is of
  record IsNamed (cluster : ℕ) (bytes : List ℕ) : Type 0 where
    numbers : Numbers
    content : List ℕ
    is : bytes ≡ mark_in cluster ++ datagram_bytes (part_of numbers content)
    small : AreSmall numbers
    for : IsFor (known n h q).sent numbers.to (piece numbers.from numbers.boot numbers.number numbers.index numbers.count content)

  -- the content of what is longer than a packet is not empty
  some : (cluster : ℕ) (p : Numbers) (content : List ℕ) → 1232 < length (mark_in cluster ++ datagram_bytes (part_of p content)) → content ≡ [] → ⊥
  some cluster p content lt none =
      let m = mark_short cluster in
      let long = part_long p content in
      let empty = ap length none in
      absurd (omega (arith, m, long, empty, lt, length-append (mark_in cluster) (datagram_bytes (part_of p content))))

  named : (cluster : ℕ) (bytes : List ℕ) (k : ℕ) (o : Outgoing) → IsHanded n h k o → bytes ≡ bytes_in cluster o → most_whole < length bytes → IsNamed cluster bytes
  named cluster bytes k o t is lt = go o t is (subst (λ b. 1232 < length b) is lt) (only tell n h q cluster k o t (subst (λ b. 1232 < length b) is lt))
    where
      below : (y : ℕ) (content : List ℕ) (ps : List (List ℕ)) → length ps ≤ 271 → content ≡ get_or ps y [] → (content ≡ [] → ⊥) → y < 2 ^ 32
      below y content ps few is filled = elim (cases_lt y (length ps)) [ inl lt ↦ omega (arith, lt, few) | inr ge ↦ absurd (filled (is ∙ get_or_past ps y [] ge)) ]

      go : (o : Outgoing) → IsHanded n h k o → bytes ≡ bytes_in cluster o → 1232 < length (bytes_in cluster o) → IsPart (datagram_in o) → IsNamed cluster bytes
      go (Outgoing.ToReplica to (Datagram.Part a j b i y c content)) t is lt p =
          let f = part_for n h q k to a j b i y c content t in
          let m = f.sent_message in
          let few = few_parts spelt m.message (message_fits n h q m f.was) in
          let count = f.piece.count in
          let boot = f.piece.boot in
          let low = boot_small n h q m f.was in
          let number = handed_fine n h k (Outgoing.ToReplica to (Datagram.Part a j b i y c content)) t a j b i y c content refl in
          let plain : Numbers = record {
            from = a;
            to = j;
            boot = b;
            number = i;
            index = y;
            count = c;
          } in
          record {
            numbers = plain;
            content = content;
            is = is;
            for = f;
            small = record {
              boot = omega (arith, boot, low);
              number = omega (arith, number);
              index = below y content (cut (control_bytes m.message)) few f.piece.bytes (some cluster plain content lt);
              count = omega (arith, few, count);
            };
          }
      go (Outgoing.ToReplica to (Datagram.Frame from j epoch seq payload)) t is lt p = absurd p
      go (Outgoing.ToReplica to (Datagram.Ack from j epoch next)) t is lt p = absurd p
      go (Outgoing.ToReplica to (Datagram.Request c)) t is lt p = absurd p
      go (Outgoing.ToReplica to (Datagram.Reply client number told)) t is lt p = absurd p
      go (Outgoing.ToReplica to (Datagram.Operate ms)) t is lt p = absurd p
      go (Outgoing.ToClient a) t is lt p = absurd p

  -- two of one message and one place have one content
  one_content : (cluster : ℕ) (d e : List ℕ) (a : IsNamed cluster d) (b : IsNamed cluster e) → AreSame a.numbers b.numbers → a.content ≡ b.content
  one_content cluster d e a b s =
      let f = a.for in
      let g = b.for in
      let one : f.sent_message ≡ g.sent_message = (known n h q).apart f.sent_message g.sent_message f.was g.was
      (f.piece.from ∙ s.from ∙ sym g.piece.from) (f.piece.boot ∙ s.boot ∙ sym g.piece.boot) (f.piece.number ∙ s.number ∙ sym g.piece.number) in
      f.piece.bytes
      ∙ ap (λ (m : SentMessage). get_or (cut (control_bytes m.message)) a.numbers.index []) one
      ∙ ap (λ i. get_or (cut (control_bytes g.sent_message.message)) i []) s.index
      ∙ sym g.piece.bytes

one_part : (p q : Numbers) (x y : List ℕ) → AreSame p q → x ≡ y → part_of p x ≡ part_of q y
one_part p q x y s e = cc (s.from, s.to, s.boot, s.number, s.index, s.count)

pub apart : RepliesTellTheFirst → PartsAreSpelt → CutsAreApart
apart tell spelt n h q cluster peers address d e x y name =
    let a = named tell spelt n h q cluster d x.node x.item x.handed x.is x.long in
    let b = named tell spelt n h q cluster e y.node y.item y.handed y.is y.long in
    let s = name_tells (mark_in cluster) a.numbers b.numbers a.content b.content (mark_short cluster) a.small b.small (ap (take 36) (sym a.is) ∙ name ∙ ap (take 36) b.is) in
    let same = one_part a.numbers b.numbers a.content b.content s (one_content tell spelt n h q cluster d e a b s) in
    a.is ∙ ap (λ p. mark_in cluster ++ datagram_bytes p) same ∙ sym b.is
