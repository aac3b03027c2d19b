-- The sending of a step's output.
use Rattle.std.proofs.Common.{◌≡◌, ◌+◌, ℕ, zero, suc, List, [], ◌∷◌, ◌++◌, length, map, take, refl, sym, ap, ◌∙◌, subst, arith, append_assoc, append-nil, length-append}
use Rattle.std.specs.List.{AllByRecursion}
use Rattle.std.proofs.lemmas.List.{take-map, length-map}
use Rattle.crsm_mpreplica.specs.Made.{to_send}
use Rattle.crsm_mpspec.specs.declared.multicast.MpMulticast.{MpMulticast}
use Rattle.crsm_mpspec.specs.declared.line.MpLine.{MpLine}
use Rattle.crsm_mpspec.specs.declared.message.MpMessage.{MpMessage}
use Rattle.crsm_mpspec.specs.declared.send.MpSend.{MpSend}
use Rattle.crsm_mpspec.specs.Draft.{Draft}
use Rattle.crsm_mpspec.specs.Sends.{receivers, sends_of}
use Rattle.crsm_mpspec.specs.World.{Packet, body_size, packet_of, send_line, send_lines}
use Rattle.crsm_mpworld.specs.declared.network.MpNetwork.{MpNetwork}
use Rattle.crsm_mpworld.specs.Effects.{HasSent, LetsOut, to_each}
use Rattle.crsm_mpworld.specs.Fits.{FitsSend}
use Rattle.crsm_mpworld.specs.Packets.{MpNetworkStands}
use Rattle.crsm_mpworld.proofs.Receivers.{each_sent}

-- ---- one more

-- of the messages that are to go out, these have gone and those are left
pub record Going (k : ℕ) (out : List (ℕ × MpMessage)) (left : List MpSend) (packets : List Packet) (bytes : ℕ) (before : List MpLine) (network : MpNetwork) (lines : List MpLine) : Type 0 where
  pub gone : List (ℕ × MpMessage)
  pub rest : List (ℕ × MpMessage)
  pub are : out ≡ gone ++ rest
  pub left_are : left ≡ map to_send rest
  pub sent : HasSent k gone packets bytes before network lines

send_more : (k i : ℕ) (xs ys : List (ℕ × MpMessage)) → send_lines k i (xs ++ ys) ≡ send_lines k i xs ++ send_lines k (i + length xs) ys
unfolding send_lines send_line
send_more k i [] ys = let e : i ≡ i + 0 = omega arith in ap (λ j. send_lines k j ys) e
send_more k i (x ∷ xs) ys =
    let e : (i + 1) + length xs ≡ i + length (x ∷ xs) = omega arith in
    ap (λ ls. send_line k i x ∷ ls) (send_more k (i + 1) xs ys ∙ ap (λ j. send_lines k (i + 1) xs ++ send_lines k j ys) e)

map_more : {A B : Type 0} (f : A → B) (xs ys : List A) → map f (xs ++ ys) ≡ map f xs ++ map f ys
map_more f [] ys = refl
map_more f (x ∷ xs) ys = ap (λ zs. f x ∷ zs) (map_more f xs ys)

-- none yet
pub sent_none : (k : ℕ) (packets : List Packet) (bytes : ℕ) (lines : List MpLine) (network : MpNetwork) → MpNetworkStands network packets bytes → HasSent k [] packets bytes lines network lines
unfolding send_lines
sent_none k packets bytes lines network h =
    record { stands = subst (λ (ps : List Packet). MpNetworkStands network ps bytes) (sym (append-nil packets)) h; told = sym (append-nil lines) }

-- some after others
pub sent_more : (k : ℕ) (gone more : List (ℕ × MpMessage)) (packets : List Packet) (bytes : ℕ) (before lines all : List MpLine) (network new : MpNetwork)
    → HasSent k gone packets bytes before network lines → HasSent k more (packets ++ map (packet_of k) gone) bytes lines new all → HasSent k (gone ++ more) packets bytes before new all
sent_more k gone more packets bytes before lines all network new h g = record {
  stands = subst (λ (ps : List Packet). MpNetworkStands new ps bytes) (append_assoc packets (map (packet_of k) gone) (map (packet_of k) more) ∙ ap (λ ps. packets ++ ps) (sym (map_more (packet_of k) gone more))) g.stands;
  told = g.told ∙ ap (λ ls. ls ++ send_lines k (length (packets ++ map (packet_of k) gone)) more) h.told
      ∙ append_assoc before (send_lines k (length packets) gone) _
      ∙ ap (λ i. before ++ (send_lines k (length packets) gone ++ send_lines k i more)) (length-append packets (map (packet_of k) gone) ∙ ap (λ n. length packets + n) (length-map gone (packet_of k)))
      ∙ ap (λ ls. before ++ ls) (sym (send_more k (length packets) gone more));
}

pub going_begins : (k : ℕ) (out : List (ℕ × MpMessage)) (left : List MpSend) (packets : List Packet) (bytes : ℕ) (lines : List MpLine) (network : MpNetwork)
    → left ≡ map to_send out → MpNetworkStands network packets bytes → Going k out left packets bytes lines network lines
going_begins k out left packets bytes lines network e h = record {
  gone = [];
  rest = out;
  are = refl;
  left_are = e;
  sent = sent_none k packets bytes lines network h;
}

-- the rest of messages of which the first are known
after_first : (xs rest : List (ℕ × MpMessage)) (left : List MpSend) → map to_send xs ++ left ≡ map to_send rest
    → (later : List (ℕ × MpMessage)) × (rest ≡ xs ++ later) × (left ≡ map to_send later)
unfolding to_send
after_first [] rest left e = (rest, refl, e)
after_first (x ∷ xs) [] left e = cc
after_first (x ∷ xs) (s ∷ rest) left e =
    let head : to_send x ≡ to_send s = cc in
    let tail : map to_send xs ++ left ≡ map to_send rest = cc in
    let same : x ≡ s = ap (λ (y : MpSend). (y.to, y.message)) head in
    let after = after_first xs rest left tail in
    (after.0, ap (λ (ys : List (ℕ × MpMessage)). s ∷ ys) after.1 ∙ ap (λ (y : ℕ × MpMessage). y ∷ (xs ++ after.0)) (sym same), after.2)

pub going_next : (k : ℕ) (out : List (ℕ × MpMessage)) (m : MpMulticast) (left : List MpSend) (packets : List Packet) (bytes : ℕ) (before lines all : List MpLine) (network new : MpNetwork)
    → Going k out (sends_of m ++ left) packets bytes before network lines
    → ((ps : List Packet) (bs : ℕ) → MpNetworkStands network ps bs → HasSent k (to_each m.message (receivers m.receivers)) ps bs lines new all)
    → Going k out left packets bytes before new all
going_next k out m left packets bytes before lines all network new g step =
    let more = to_each m.message (receivers m.receivers) in
    let after = after_first more g.rest left (ap (λ (xs : List MpSend). xs ++ left) (sym (each_sent m.message (receivers m.receivers))) ∙ g.left_are) in
    record {
      gone = g.gone ++ more;
      rest = after.0;
      are = g.are ∙ ap (λ (xs : List (ℕ × MpMessage)). g.gone ++ xs) after.1 ∙ sym (append_assoc g.gone more after.0);
      left_are = after.2;
      sent = sent_more k g.gone more packets bytes before lines all network new g.sent (step _ bytes g.sent.stands);
    }

pub going_ends : (k : ℕ) (out : List (ℕ × MpMessage)) (left : List MpSend) (packets : List Packet) (bytes : ℕ) (before lines : List MpLine) (network : MpNetwork)
    → Going k out left packets bytes before network lines → left ≡ [] → HasSent k out packets bytes before network lines
going_ends k out left packets bytes before lines network g none = at g.rest g.are g.left_are
  where
    at : (rest : List (ℕ × MpMessage)) → out ≡ g.gone ++ rest → left ≡ map to_send rest → HasSent k out packets bytes before network lines
    at [] are e = subst (λ (xs : List (ℕ × MpMessage)). HasSent k xs packets bytes before network lines) (sym (are ∙ append-nil g.gone)) g.sent
    at (s ∷ rest) are e = let f : [] ≡ to_send s ∷ map to_send rest = sym none ∙ e in cc

pub nothing_left : {A : Type 0} (xs : List A) → 0 ≡ length xs → xs ≡ []
nothing_left [] e = refl
nothing_left (x ∷ xs) e = absurd (omega (arith, e))

-- ---- the first of a list

pub fit_taken : (n : ℕ) (all : List MpSend) → AllByRecursion FitsSend all → AllByRecursion FitsSend (take n all)
fit_taken zero all fit = tt
fit_taken (suc n) [] fit = tt
fit_taken (suc n) (x ∷ xs) fit = (fit.0, fit_taken n xs fit.1)

pub sends_taken : (count : ℕ) (sends : List (ℕ × MpMessage)) (all some : List MpSend) → all ≡ map to_send sends → some ≡ take count all → some ≡ map to_send (take count sends)
sends_taken count sends all some e s = s ∙ ap (take count) e ∙ take-map to_send count sends

-- ---- the whole

pub lets_out : (before own out all : List MpLine) (packets : List Packet) (bytes k size : ℕ) (x : Draft) (sends : List (ℕ × MpMessage)) (replies : List MpLine) (network : MpNetwork)
    → size ≡ body_size x.batch → own ≡ before ++ x.lines → HasSent k sends packets (bytes + size) own network out → all ≡ out ++ replies
    → LetsOut before packets bytes k x sends replies network all
lets_out before own out all packets bytes k size x sends replies network s o h a = record {
  stands = subst (λ (n : ℕ). MpNetworkStands network (packets ++ map (packet_of k) sends) (bytes + n)) s h.stands;
  told = a ∙ ap (λ ls. ls ++ replies) (h.told ∙ ap (λ ls. ls ++ send_lines k (length packets) sends) o ∙ append_assoc before x.lines (send_lines k (length packets) sends))
      ∙ append_assoc before (x.lines ++ send_lines k (length packets) sends) replies;
}
