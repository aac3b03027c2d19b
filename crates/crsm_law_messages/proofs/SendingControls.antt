-- The messages sent during a step: those sent before it and in it, and the positions of their parts.
use Rattle.std.proofs.Common.{◌≡◌, ℕ, suc, ◌+◌, ◌<◌, List, [], ◌∷◌, ◌++◌, length, refl, sym, ◌∙◌, ap, subst, inl, inr, Bool, true, false, arith, get_or}
use Rattle.std.specs.Prelude.{◌⊎◌, ◌==◌}
use Rattle.std.specs.List.{enumerate_from}
use Rattle.crsm_base.specs.Messages.{control_bytes}
use Rattle.crsm_spec.specs.Choice.{when◌then◌otherwise◌}
use Rattle.crsm_spec.specs.Clock.{u64_max}
use Rattle.crsm_spec.specs.Types.{Datagram, Control}
use Rattle.crsm_spec.specs.Lists.{Among}
use Rattle.crsm_spec.specs.Log.{boots}
use Rattle.crsm_spec.specs.Parts.{Piece, cut, with_part}
use Rattle.crsm_spec.specs.Replica.{Replica}
use Rattle.crsm_spec.specs.Draft.{Draft, begun, send_control, parts_to}
use Rattle.crsm_spec.specs.Step.{Input}
use Rattle.crsm_fact_step.specs.Messages.{IsSent, Answers}
use Rattle.crsm_fact_step.specs.Changes.{Changes, stay, and_then}
use Rattle.crsm_law_messages.specs.SentMessages.{SentMessage, IsSentBy}
use Rattle.crsm_law_messages.proofs.History.{SendsIn}
use Rattle.crsm_law_messages.proofs.Words.{among_unmap}
use Rattle.crsm_law_messages.proofs.Gathered.{IsOnce, once_with, with_among}
use Rattle.crsm_law_messages.proofs.Effects.{PartsChange, Quiet, SendsOne, GathersOne, IsQuiet, parts_change}
use Rattle.crsm_fact_log.proofs.Lists.{among_either}

-- ---- parts of what was sent

-- the part is one of the message
pub record IsPiece (s : SentMessage) (p : Piece) : Type 0 where
  pub from : s.from ≡ p.from
  pub boot : s.boot ≡ p.boot
  pub number : s.number ≡ p.number
  pub count : p.count ≡ length (cut (control_bytes s.message))
  pub bytes : p.bytes ≡ get_or (cut (control_bytes s.message)) p.index []

-- it is one of a message for k that was sent
pub record IsFor (sent : List SentMessage) (k : ℕ) (p : Piece) : Type 0 where
  pub sent_message : SentMessage
  pub was : Among sent sent_message
  pub to : sent_message.to ≡ k
  pub piece : IsPiece sent_message p

abbrev pub piece : ℕ → ℕ → ℕ → ℕ → ℕ → List ℕ → Piece
piece a b i y c bytes = record { from = a; boot = b; number = i; index = y; count = c; bytes = bytes }

-- the datagram, if it is a part, is one of a message for its receiver that was sent
abbrev pub IsSaid : List SentMessage → Datagram → Type 0
IsSaid sent d = (a j b i y c : ℕ) (bytes : List ℕ) → d ≡ Datagram.Part a j b i y c bytes → IsFor sent j (piece a b i y c bytes)

-- no two have the same sender, boot and number
abbrev pub AreApart : List SentMessage → Type 0
AreApart sent = (s t : SentMessage) → Among sent s → Among sent t → s.from ≡ t.from → s.boot ≡ t.boot → s.number ≡ t.number → s ≡ t

-- it was sent in an earlier boot, or earlier in this one
abbrev pub IsBelow : SentMessage → ℕ → ℕ → Type 0
IsBelow s b made = (s.boot < b) ⊎ ((s.boot ≡ b) × (s.number < made))

-- What a replica at k that is up has sent and has gathered.
pub record Here (sent : List SentMessage) (k : ℕ) (r : Replica) : Type 0 where
  pub me : r.me ≡ k
  pub below : (s : SentMessage) → Among sent s → s.from ≡ k → IsBelow s (boots r.log) r.made
  pub parts : (p : Piece) → Among r.parts p → IsFor sent k p
  pub once : IsOnce r.parts

pub record Mid (sent : List SentMessage) (k : ℕ) (x : Draft) : Type 0 where
  pub apart : AreApart sent
  pub here : Here sent k x.replica
  pub sends : (s : ℕ × Datagram) → Among x.sends s → IsSaid sent s.1

-- ---- one more is sent

for_more : (sent more : List SentMessage) → ((s : SentMessage) → Among sent s → Among more s) → (k : ℕ) (p : Piece) → IsFor sent k p → IsFor more k p
for_more sent more h k p f = record { sent_message = f.sent_message; was = h f.sent_message f.was; to = f.to; piece = f.piece }

pub said_more : (sent more : List SentMessage) → ((s : SentMessage) → Among sent s → Among more s) → (d : Datagram) → IsSaid sent d → IsSaid more d
said_more sent more h d f a j b i y c bytes e = for_more sent more h j _ (f a j b i y c bytes e)

-- who sends nothing keeps what it has
pub here_more : (sent more : List SentMessage) → ((s : SentMessage) → Among sent s → Among more s) → (k : ℕ) → ((s : SentMessage) → Among more s → s.from ≡ k → Among sent s) → (r : Replica) → Here sent k r → Here more k r
here_more sent more h k back r g = record {
  me = g.me;
  below = λ s a e. g.below s (back s a e) e;
  parts = λ p a. for_more sent more h k p (g.parts p a);
  once = g.once;
}

numbered : (i : ℕ) (xs : List (List ℕ)) (f : ℕ × List ℕ) → Among (enumerate_from i xs) f → (j : ℕ) × (f.0 ≡ i + j) × (f.1 ≡ get_or xs j [])
numbered i [] f h = absurd h
numbered i (x ∷ xs) f (inl e) = (0, ap (λ y. y.0) (sym e) ∙ (omega arith), ap (λ y. y.1) (sym e))
numbered i (x ∷ xs) f (inr h) = let t = numbered (i + 1) xs f h in (suc t.0, (omega (arith, t.1)), t.2)

pub record SameParts (a j b i y c : ℕ) (bytes : List ℕ) (a' j' b' i' y' c' : ℕ) (bytes' : List ℕ) : Type 0 where
  pub from : a ≡ a'
  pub to : j ≡ j'
  pub boot : b ≡ b'
  pub number : i ≡ i'
  pub index : y ≡ y'
  pub count : c ≡ c'
  pub content : bytes ≡ bytes'

pub same_parts : (a j b i y c : ℕ) (bytes : List ℕ) (a' j' b' i' y' c' : ℕ) (bytes' : List ℕ) → Datagram.Part a j b i y c bytes ≡ Datagram.Part a' j' b' i' y' c' bytes' → SameParts a j b i y c bytes a' j' b' i' y' c' bytes'
same_parts a j b i y c bytes a' j' b' i' y' c' bytes' e = record { from = cc; to = cc; boot = cc; number = cc; index = cc; count = cc; content = cc }

-- the message that the replica sends next
abbrev pub next_message : Replica → ℕ → Control → SentMessage
next_message r j c = record { from = r.me; to = j; boot = boots r.log; number = r.made; message = c }

-- the datagrams of a message are its parts
parts_are : (r : Replica) (k : ℕ) (m : Control) (sent : List SentMessage) → Among sent (next_message r k m) → (s : ℕ × Datagram) → Among (parts_to r k m) s → IsSaid sent s.1
unfolding parts_to
parts_are r k m sent there s h a j b i y c bytes e =
    let ps = cut (control_bytes m) in
    let t = among_unmap (λ p. (k, Datagram.Part r.me k (boots r.log) r.made p.0 (length ps) p.1)) (enumerate_from 0 ps) s h in
    let n = numbered 0 ps t.0 t.1 in
    let w = same_parts r.me k (boots r.log) r.made t.0.0 (length ps) t.0.1 a j b i y c bytes (ap (λ u. u.1) t.2 ∙ e) in
    record {
      sent_message = next_message r k m;
      was = there;
      to = w.to;
      piece = record {
        from = w.from;
        boot = w.boot;
        number = w.number;
        count = sym w.count;
        bytes = sym w.content ∙ n.2 ∙ ap (λ z. get_or ps z []) (the_index n.0 t.0.0 n.1 ∙ w.index);
      };
    }
  where
    the_index : (z q : ℕ) → q ≡ 0 + z → z ≡ q
    the_index z q e = omega (arith, e)

below_next : (s : SentMessage) (b made : ℕ) → IsBelow s b made → IsBelow s b (made + 1)
below_next s b made (inl e) = inl e
below_next s b made (inr e) = inr (e.0, omega (arith, e.1))

not_below : (s : SentMessage) (b made : ℕ) → IsBelow s b made → s.boot ≡ b → s.number ≡ made → ⊥
not_below s b made (inl e) q n = absurd (omega (arith, e, q))
not_below s b made (inr e) q n = absurd (omega (arith, e.1, n))

apart_more : (sent : List SentMessage) (new : SentMessage) → AreApart sent → ((s : SentMessage) → Among sent s → s.from ≡ new.from → IsBelow s new.boot new.number) → AreApart (new ∷ sent)
apart_more sent new apart low s t (inl p) (inl q) f b n = sym p ∙ q
apart_more sent new apart low s t (inl p) (inr q) f b n = absurd (not_below t new.boot new.number
    (low t q (sym f ∙ ap (λ z. z.from) (sym p))) (sym b ∙ ap (λ z. z.boot) (sym p)) (sym n ∙ ap (λ z. z.number) (sym p)))
apart_more sent new apart low s t (inr p) (inl q) f b n = absurd (not_below s new.boot new.number
    (low s p (f ∙ ap (λ z. z.from) (sym q))) (b ∙ ap (λ z. z.boot) (sym q)) (n ∙ ap (λ z. z.number) (sym q)))
apart_more sent new apart low s t (inr p) (inr q) f b n = apart s t p q f b n

-- ---- the steps of one replica

pub then_on : {r : Replica} {input : Input} {reading : ℕ} {x y z : Draft} → Changes r input reading x y → Changes r input reading y z → Changes r input reading x z
then_on p stay = p
then_on p (and_then q c f) = and_then (then_on p q) c f

module _ (k : ℕ) (old : List SentMessage) (r : Replica) (input : Input) (reading : ℕ) (last : Draft) (r_me : r.me ≡ k)
    (came : (address : ℕ) (p : Piece) → input ≡ Input.Came address (Datagram.Part p.from r.me p.boot p.number p.index p.count p.bytes) → IsFor old k p) where
  -- it is sent in this step
  pub record IsNew (s : SentMessage) : Type 0 where
    pub from : s.from ≡ k
    pub draft : Draft
    pub before : Changes r input reading (begun r) draft
    pub sent : IsSentBy r input draft s
    pub after : Changes r input reading draft last

  -- and where it was sent
  pub record Told (x : Draft) (SendsControl : SentMessage → Type 0) : Type 0 where
    pub sent : List SentMessage
    pub mid : Mid sent k x
    pub more : (s : SentMessage) → Among old s → Among sent s
    pub new : (s : SentMessage) → Among sent s → Among old s ⊎ IsNew s
    pub sends_control : (s : SentMessage) → Among sent s → Among old s ⊎ SendsControl s

  still_sends : (P T U : SentMessage → Type 0) → ((s : SentMessage) → T s → U s) → (s : SentMessage) → P s ⊎ T s → P s ⊎ U s
  still_sends P T U on s (inl h) = inl h
  still_sends P T U on s (inr h) = inr (on s h)

  stays_sent : (T U : SentMessage → Type 0) → ((s : SentMessage) → T s → U s) → (x y : Draft) (t : Told x T) → IsQuiet x y → Told y U
  stays_sent T U on x y t q = record {
    sent = t.sent;
    mid = record {
      apart = t.mid.apart;
      here = record {
        me = q.me ∙ t.mid.here.me;
        below = λ s a e. subst (λ b. IsBelow s b y.replica.made) (sym q.boots) (subst (IsBelow s (boots x.replica.log)) (sym q.made) (t.mid.here.below s a e));
        parts = subst (λ l. (p : Piece) → Among l p → IsFor t.sent k p) (sym q.parts) t.mid.here.parts;
        once = subst IsOnce (sym q.parts) t.mid.here.once;
      };
      sends = λ s h. elim (q.sends s h) [ inl a ↦ t.mid.sends s a | inr isnt ↦ (λ a j b i z c bytes e. absurd (isnt a j b i z c bytes e)) ];
    };
    more = t.more;
    new = t.new;
    sends_control = λ s a. still_sends (Among old) T U on s (t.sends_control s a);
  }

  one_told : (T U : SentMessage → Type 0) → ((s : SentMessage) → T s → U s) → (x : Draft) → ((s : SentMessage) → IsSentBy r input x s → U s) → (t : Told x T) (j : ℕ) (c : Control) → IsSent x c → Answers r input c →
      Changes r input reading (begun r) x → Changes r input reading x last →
      Told (record x { replica = record x.replica { made = x.replica.made + 1 }; sends = x.sends ++ parts_to x.replica j c }) U
  one_told T U on x says t j c is to before after =
      let new = next_message x.replica j c in
      let keep : (s : SentMessage) → Among t.sent s → Among (new ∷ t.sent) s = λ s a. inr a in
      let me = t.mid.here.me in
      record {
        sent = new ∷ t.sent;
        mid = record {
          apart = apart_more t.sent new t.mid.apart (λ s a e. t.mid.here.below s a (e ∙ me));
          here = record {
            me = me;
            below = λ s a e. elim a [
              | inl q ↦ subst (λ z. IsBelow z (boots x.replica.log) (x.replica.made + 1)) q (inr (refl, omega arith))
              | inr b ↦ below_next s (boots x.replica.log) x.replica.made (t.mid.here.below s b e)
            ];
            parts = λ p a. for_more t.sent (new ∷ t.sent) keep k p (t.mid.here.parts p a);
            once = t.mid.here.once;
          };
          sends = λ s h. elim (among_either x.sends (parts_to x.replica j c) s h) [
            | inl a ↦ said_more t.sent (new ∷ t.sent) keep s.1 (t.mid.sends s a)
            | inr b ↦ parts_are x.replica j c (new ∷ t.sent) (inl refl) s b
          ];
        };
        more = λ s a. inr (t.more s a);
        new = λ s a. elim a [
          | inl q ↦ subst (λ z. Among old z ⊎ IsNew z) q (inr (record { from = me; draft = x; before = before; sent = is_next; after = after }))
          | inr b ↦ t.new s b
        ];
        sends_control = λ s a. elim a [
          | inl q ↦ subst (λ z. Among old z ⊎ U z) q (inr (says new is_next))
          | inr b ↦ still_sends (Among old) T U on s (t.sends_control s b)
        ];
      }
    where
      is_next : IsSentBy r input x (next_message x.replica j c)
      is_next = record { from = refl; boot = refl; number = refl; is = is; answers = to }

  may_send : (T U : SentMessage → Type 0) → ((s : SentMessage) → T s → U s) → (x : Draft) → ((s : SentMessage) → IsSentBy r input x s → U s) → (t : Told x T) (j : ℕ) (c : Control) → IsSent x c → Answers r input c →
      Changes r input reading (begun r) x → Changes r input reading x last → Told (send_control c x j) U
  unfolding send_control when◌then◌otherwise◌
  may_send T U on x says t j c is to before after = go (x.replica.made == u64_max)
    where
      same : Told x U
      same = record { sent = t.sent; mid = t.mid; more = t.more; new = t.new; sends_control = λ s a. still_sends (Among old) T U on s (t.sends_control s a) }

      go : (b : Bool) → Told (when b then x otherwise record x { replica = record x.replica { made = x.replica.made + 1 }; sends = x.sends ++ parts_to x.replica j c }) U
      go true = same
      go false = one_told T U on x says t j c is to before after

  gathers : (T U : SentMessage → Type 0) → ((s : SentMessage) → T s → U s) → (x : Draft) (t : Told x T) (p : Piece) → IsFor old k p → Told (record x { replica = record x.replica { parts = with_part p x.replica.parts } }) U
  gathers T U on x t p f = record {
    sent = t.sent;
    mid = record {
      apart = t.mid.apart;
      here = record {
        me = t.mid.here.me;
        below = t.mid.here.below;
        parts = λ q a. elim (with_among p x.replica.parts q a) [
          | inl b ↦ t.mid.here.parts q b
          | inr e ↦ subst (IsFor t.sent k) e (for_more old t.sent t.more k p f)
        ];
        once = once_with p x.replica.parts t.mid.here.once;
      };
      sends = t.mid.sends;
    };
    more = t.more;
    new = t.new;
    sends_control = λ s a. still_sends (Among old) T U on s (t.sends_control s a);
  }

  changed : (T U : SentMessage → Type 0) → ((s : SentMessage) → T s → U s) → (x y : Draft) → ((s : SentMessage) → IsSentBy r input x s → U s) → PartsChange r input x y → Told x T →
      Changes r input reading (begun r) x → Changes r input reading x last → Told y U
  changed T U on x y says (Quiet q) t before after = stays_sent T U on x y t q
  changed T U on x y says (SendsOne j c is to) t before after = may_send T U on x says t j c is to before after
  changed T U on x y says (GathersOne a p i) t before after = gathers T U on x t p (came a p i)

  pub sent_along : {y : Draft} (p : Changes r input reading (begun r) y) → Changes r input reading y last → Told (begun r) (λ s. ⊥) → Told y (SendsIn p)
  sent_along stay rest t = t
  sent_along (and_then {y = y} {z = z} p c f) rest t =
      let after = then_on (and_then stay c f) rest in
      changed (SendsIn p) (SendsIn (and_then p c f)) (λ s h. inr h) y z (λ s h. inl h) (parts_change r input reading y z c) (sent_along p after t) p after
