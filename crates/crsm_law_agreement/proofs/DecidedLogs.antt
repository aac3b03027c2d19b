-- The relations between the records of ballots in one log.
use Rattle.std.proofs.Common.{◌≡◌, ℕ, ◌+◌, ◌<◌, ◌≤◌, [], ◌∷◌, refl, sym, ◌∙◌, ap, subst, inl, inr, Bool, true, false, arith}
use Rattle.std.specs.Prelude.{IsTrue, Option, Some, None, ◌==◌, not}
use Rattle.std.specs.Option.{option_map_or}
use Rattle.std.proofs.lemmas.Bool.{and_parts, eqb-true, false≢true}
use Rattle.std.proofs.lemmas.Option.{none-some, same_Some}
use Rattle.crsm_base.specs.Order.{ballot_lt}
use Rattle.crsm_base.proofs.Orders.{below-irrefl, below_le, le_below, below_not_back, le_trans}
use Rattle.crsm_spec.specs.Types.{Ballot, Decision, Rec}
use Rattle.crsm_spec.specs.Lists.{Among}
use Rattle.crsm_spec.specs.Log.{Log, known, decision, promised, accepted}
use Rattle.crsm_spec.specs.Fits.{fits}
use Rattle.crsm_fact_log.specs.Logs.{Extends, same, more, AllFit}
use Rattle.crsm_fact_log.proofs.Logged.{decide_above}

-- ---- kinds of records

abbrev pub tag : Rec → ℕ
tag (Rec.Promise i b) = 1
tag (Rec.Accept i b d) = 2
tag (Rec.Decide d) = 3
tag _ = 0

-- a record that says nothing of ballots
pub record IsPlain (rec : Rec) (log : Log) : Type 0 where
  pub other : tag rec ≡ 0
  pub known_is : known (rec ∷ log) ≡ known log
  pub promised_is : promised (rec ∷ log) ≡ promised log
  pub accepted_is : accepted (rec ∷ log) ≡ accepted log

pub data Kind (log : Log) : Rec → Type 0 where
  Plain : {rec : Rec} → IsPlain rec log → Kind log rec
  Promising : (i : ℕ) (b : Ballot) → Kind log (Rec.Promise i b)
  Accepting : (i : ℕ) (b : Ballot) (d : Decision) → Kind log (Rec.Accept i b d)
  Deciding : (d : Decision) → Kind log (Rec.Decide d)

pub kind : (log : Log) (rec : Rec) → Kind log rec
unfolding known decision promised accepted
kind log (Rec.Boot me n) = Plain (record { other = refl; known_is = refl; promised_is = refl; accepted_is = refl })
kind log (Rec.Prepare e) = Plain (record { other = refl; known_is = refl; promised_is = refl; accepted_is = refl })
kind log (Rec.Commit s) = Plain (record { other = refl; known_is = refl; promised_is = refl; accepted_is = refl })
kind log (Rec.Adopt place es) = Plain (record { other = refl; known_is = refl; promised_is = refl; accepted_is = refl })
kind log (Rec.Suspend e) = Plain (record { other = refl; known_is = refl; promised_is = refl; accepted_is = refl })
kind log (Rec.Enter e) = Plain (record { other = refl; known_is = refl; promised_is = refl; accepted_is = refl })
kind log (Rec.Promise i b) = Promising i b
kind log (Rec.Accept i b d) = Accepting i b d
kind log (Rec.Decide d) = Deciding d

-- each record of another kind is such a one
pub plain_of : (rec : Rec) (log : Log) → tag rec ≡ 0 → IsPlain rec log
plain_of rec log e = go rec (kind log rec) e
  where
    go : (r : Rec) → Kind log r → tag r ≡ 0 → IsPlain r log
    go r (Plain p) e = p
    go r (Promising i b) e = absurd (omega (arith, e))
    go r (Accepting i b d) e = absurd (omega (arith, e))
    go r (Deciding d) e = absurd (omega (arith, e))

apart : (rec : Rec) (log : Log) → IsPlain rec log → (other : Rec) → 0 < tag other → rec ≡ other → ⊥
apart rec log p other lt e = let t = ap tag e in let o = p.other in absurd (omega (arith, t, o, lt))

pub plain_no_accept : (rec : Rec) (log : Log) (i : ℕ) (b : Ballot) (d : Decision) → IsPlain rec log → rec ≡ Rec.Accept i b d → ⊥
plain_no_accept rec log i b d p e = apart rec log p (Rec.Accept i b d) (omega arith) e

pub plain_no_decide : (rec : Rec) (log : Log) (d : Decision) → IsPlain rec log → rec ≡ Rec.Decide d → ⊥
plain_no_decide rec log d p e = apart rec log p (Rec.Decide d) (omega arith) e

pub record SameAccept (i j : ℕ) (b c : Ballot) (d e : Decision) : Type 0 where
  pub instance : i ≡ j
  pub ballot : b ≡ c
  pub value : d ≡ e

pub same_accept : (i j : ℕ) (b c : Ballot) (d e : Decision) → Rec.Accept i b d ≡ Rec.Accept j c e → SameAccept i j b c d e
same_accept i j b c d e h = record { instance = cc; ballot = cc; value = cc }

pub same_decide : (c d : Decision) → Rec.Decide c ≡ Rec.Decide d → c ≡ d
same_decide c d h = cc

pub promise_accept : (i j : ℕ) (b c : Ballot) (d : Decision) → Rec.Promise i b ≡ Rec.Accept j c d → ⊥
promise_accept i j b c d h = absurd (cc)

pub decide_accept : (i : ℕ) (b : Ballot) (d e : Decision) → Rec.Decide e ≡ Rec.Accept i b d → ⊥
decide_accept i b d e h = absurd (cc)

pub promise_decide : (i : ℕ) (b : Ballot) (e : Decision) → Rec.Promise i b ≡ Rec.Decide e → ⊥
promise_decide i b e h = absurd (cc)

pub accept_decide : (i : ℕ) (b : Ballot) (d e : Decision) → Rec.Accept i b d ≡ Rec.Decide e → ⊥
accept_decide i b d e h = absurd (cc)

-- ---- what fits

not_is : (b : Bool) → IsTrue (not b) → b ≡ false
not_is false h = refl
not_is true h = absurd (false≢true h)

promise_fits : (me n : ℕ) (log : Log) (i : ℕ) (b : Ballot) → IsTrue (fits me n log (Rec.Promise i b)) → (i ≡ known log + 1) × IsTrue (ballot_lt (promised log) b)
unfolding fits
promise_fits me n log i b h =
    let t = and_parts _ (ballot_lt (promised log) b) h in
    (eqb-true i (known log + 1) (and_parts _ (i == known log + 1) t.0).1, t.1)

pub record AcceptFits (log : Log) (i : ℕ) (b : Ballot) (d : Decision) : Type 0 where
  pub instance : i ≡ known log + 1
  pub epoch : d.epoch ≡ known log + 1
  pub not_below : ballot_lt b (promised log) ≡ false
  pub above : IsTrue (option_map_or (λ a. ballot_lt a.0 b) (accepted log) true)

pub accept_fits : (me n : ℕ) (log : Log) (i : ℕ) (b : Ballot) (d : Decision) → IsTrue (fits me n log (Rec.Accept i b d)) → AcceptFits log i b d
unfolding fits
accept_fits me n log i b d h =
    let t = and_parts _ _ h in
    let u = and_parts _ (option_map_or (λ a. ballot_lt a.0 b) (accepted log) true) t.0 in
    let v = and_parts _ (not (ballot_lt b (promised log))) u.0 in
    let w = and_parts _ (d.epoch == known log + 1) v.0 in
    let x = and_parts _ (i == known log + 1) w.0 in
    record {
      instance = eqb-true i (known log + 1) x.1;
      epoch = eqb-true d.epoch (known log + 1) w.1;
      not_below = not_is (ballot_lt b (promised log)) v.1;
      above = u.1;
    }

-- ---- what a record does

pub known_promise : (i : ℕ) (b : Ballot) (log : Log) → known (Rec.Promise i b ∷ log) ≡ known log
unfolding known decision
known_promise i b log = refl

pub known_accept : (i : ℕ) (b : Ballot) (d : Decision) (log : Log) → known (Rec.Accept i b d ∷ log) ≡ known log
unfolding known decision
known_accept i b d log = refl

pub known_decide : (d : Decision) (log : Log) → known (Rec.Decide d ∷ log) ≡ d.epoch
unfolding known decision
known_decide d log = refl

promised_promise : (i : ℕ) (b : Ballot) (log : Log) → promised (Rec.Promise i b ∷ log) ≡ b
unfolding promised
promised_promise i b log = refl

promised_accept : (i : ℕ) (b : Ballot) (d : Decision) (log : Log) → promised (Rec.Accept i b d ∷ log) ≡ b
unfolding promised
promised_accept i b d log = refl

accepted_promise : (i : ℕ) (b : Ballot) (log : Log) → accepted (Rec.Promise i b ∷ log) ≡ accepted log
unfolding accepted
accepted_promise i b log = refl

accepted_accept : (i : ℕ) (b : Ballot) (d : Decision) (log : Log) → accepted (Rec.Accept i b d ∷ log) ≡ Some (b, d)
unfolding accepted
accepted_accept i b d log = refl

accepted_decide : (d : Decision) (log : Log) → accepted (Rec.Decide d ∷ log) ≡ None
unfolding accepted
accepted_decide d log = refl

le_same : (a b : ℕ) → b ≡ a → a ≤ b
le_same a b e = omega (arith, e)

known_more : (me n : ℕ) (log : Log) (rec : Rec) → Kind log rec → IsTrue (fits me n log rec) → known log ≤ known (rec ∷ log)
known_more me n log rec (Plain p) h = le_same (known log) (known (rec ∷ log)) p.known_is
known_more me n log rec (Promising i b) h = le_same (known log) (known (rec ∷ log)) (known_promise i b log)
known_more me n log rec (Accepting i b d) h = le_same (known log) (known (rec ∷ log)) (known_accept i b d log)
known_more me n log rec (Deciding d) h = let t = decide_above me n log d h in let e = known_decide d log in omega (arith, t, e)

pub known_rises : (me n : ℕ) (a b : Log) → Extends a b → AllFit me n b → known a ≤ known b
known_rises me n a b same h = omega arith
known_rises me n a b (more {new = c} rec p) h = let t = known_rises me n a c p h.1 in let u = known_more me n c rec (kind c rec) h.0 in omega (arith, t, u)

-- ---- promises rise

-- the promise after one more record that leaves the epoch known
promise_more : (me n : ℕ) (log : Log) (rec : Rec) (b : Ballot) → Kind log rec → IsTrue (fits me n log rec) → known (rec ∷ log) ≡ known log → ballot_lt (promised log) b ≡ false → ballot_lt (promised (rec ∷ log)) b ≡ false
promise_more me n log rec b (Plain p) h e l = subst (λ c. ballot_lt c b ≡ false) (sym p.promised_is) l
promise_more me n log rec b (Promising i c) h e l =
    subst (λ z. ballot_lt z b ≡ false) (sym (promised_promise i c log)) (below_not_back b c (le_below b (promised log) c l (promise_fits me n log i c h).1))
promise_more me n log rec b (Accepting i c d) h e l =
    subst (λ z. ballot_lt z b ≡ false) (sym (promised_accept i c d log)) (le_trans b (promised log) c l (accept_fits me n log i c d h).not_below)
promise_more me n log rec b (Deciding d) h e l = let t = decide_above me n log d h in let k = known_decide d log in absurd (omega (arith, t, k, e))

squeeze : (a b c : ℕ) → c ≡ a → a ≤ b → b ≤ c → (b ≡ a) × (c ≡ b)
squeeze a b c e l m = (omega (arith, e, l, m), omega (arith, e, l, m))

-- within an epoch a promise is never below an earlier one
pub promises_rise : (me n : ℕ) (a b : Log) → Extends a b → AllFit me n b → known b ≡ known a → ballot_lt (promised b) (promised a) ≡ false
promises_rise me n a b same h e = below-irrefl (promised a)
promises_rise me n a b (more {new = c} rec p) h e =
    let t = squeeze (known a) (known c) (known (rec ∷ c)) e (known_rises me n a c p h.1) (known_more me n c rec (kind c rec) h.0) in
    promise_more me n c rec (promised a) (kind c rec) h.0 t.1 (promises_rise me n a c p h.1 t.0)

-- ---- records of an instance

-- what was accepted is for an epoch that was next then
pub accept_early : (me n : ℕ) (log : Log) (i : ℕ) (b : Ballot) (d : Decision) → AllFit me n log → Among log (Rec.Accept i b d) → i ≤ known log + 1
accept_early me n [] i b d h a = absurd a
accept_early me n (rec ∷ log) i b d h (inl e) =
    let f = accept_fits me n log i b d (subst (λ r. IsTrue (fits me n log r)) e h.0) in
    let t = known_more me n log rec (kind log rec) h.0 in
    let q = f.instance in
    omega (arith, q, t)
accept_early me n (rec ∷ log) i b d h (inr a) =
    let u = accept_early me n log i b d h.1 a in
    let t = known_more me n log rec (kind log rec) h.0 in
    omega (arith, u, t)

promise_early : (me n : ℕ) (log : Log) (i : ℕ) (b : Ballot) → AllFit me n log → Among log (Rec.Promise i b) → i ≤ known log + 1
promise_early me n [] i b h a = absurd a
promise_early me n (rec ∷ log) i b h (inl e) =
    let f = promise_fits me n log i b (subst (λ r. IsTrue (fits me n log r)) e h.0) in
    let t = known_more me n log rec (kind log rec) h.0 in
    let q = f.0 in
    omega (arith, q, t)
promise_early me n (rec ∷ log) i b h (inr a) =
    let u = promise_early me n log i b h.1 a in
    let t = known_more me n log rec (kind log rec) h.0 in
    omega (arith, u, t)

-- the decision of an accept is for its instance
pub accept_epoch : (me n : ℕ) (log : Log) (i : ℕ) (b : Ballot) (d : Decision) → AllFit me n log → Among log (Rec.Accept i b d) → d.epoch ≡ i
accept_epoch me n [] i b d h a = absurd a
accept_epoch me n (rec ∷ log) i b d h (inl e) =
    let f = accept_fits me n log i b d (subst (λ r. IsTrue (fits me n log r)) e h.0) in f.epoch ∙ sym f.instance
accept_epoch me n (rec ∷ log) i b d h (inr a) = accept_epoch me n log i b d h.1 a

-- a promise of the next instance is not above what is promised now
pub promise_held : (me n : ℕ) (log : Log) (i : ℕ) (b : Ballot) → AllFit me n log → Among log (Rec.Promise i b) → i ≡ known log + 1 → ballot_lt (promised log) b ≡ false
promise_held me n [] i b h a e = absurd a
promise_held me n (rec ∷ log) i b h (inl q) e = subst (λ r. ballot_lt (promised (r ∷ log)) b ≡ false) (sym q) (subst (λ z. ballot_lt z b ≡ false) (sym (promised_promise i b log)) (below-irrefl b))
promise_held me n (rec ∷ log) i b h (inr a) e =
    let l = promise_early me n log i b h.1 a in
    let t = known_more me n log rec (kind log rec) h.0 in
    let k = squeeze (known log) (known log) (known (rec ∷ log)) (omega (arith, e, l, t)) (omega arith) t in
    promise_more me n log rec b (kind log rec) h.0 k.1 (promise_held me n log i b h.1 a (omega (arith, e, l, t)))

-- ---- what is accepted

-- what is accepted now has a ballot that is not below this one
pub record Holds (log : Log) (b : Ballot) : Type 0 where
  pub ballot : Ballot
  pub value : Decision
  pub is : accepted log ≡ Some (ballot, value)
  pub not_below : ballot_lt ballot b ≡ false

above_is : (o : Option (Ballot × Decision)) (c b : Ballot) (d : Decision) → o ≡ Some (c, d) → IsTrue (option_map_or (λ a. ballot_lt a.0 b) o true) → ballot_lt c b ≡ true
above_is o c b d e h = subst (λ z. IsTrue (option_map_or (λ a. ballot_lt a.0 b) z true)) e h

holds_more : (me n : ℕ) (log : Log) (rec : Rec) (b : Ballot) → Kind log rec → IsTrue (fits me n log rec) → known (rec ∷ log) ≡ known log → Holds log b → Holds (rec ∷ log) b
holds_more me n log rec b (Plain p) h e k = record { ballot = k.ballot; value = k.value; is = p.accepted_is ∙ k.is; not_below = k.not_below }
holds_more me n log rec b (Promising i c) h e k = record { ballot = k.ballot; value = k.value; is = accepted_promise i c log ∙ k.is; not_below = k.not_below }
holds_more me n log rec b (Accepting i c d) h e k = record {
  ballot = c;
  value = d;
  is = accepted_accept i c d log;
  not_below = below_not_back b c (le_below b k.ballot c k.not_below (above_is (accepted log) k.ballot c k.value k.is (accept_fits me n log i c d h).above));
}
holds_more me n log rec b (Deciding d) h e k = let t = decide_above me n log d h in let q = known_decide d log in absurd (omega (arith, t, q, e))

-- who has accepted in a ballot of the next instance holds what was accepted in it or in a greater one
pub accept_held : (me n : ℕ) (log : Log) (i : ℕ) (b : Ballot) (d : Decision) → AllFit me n log → Among log (Rec.Accept i b d) → i ≡ known log + 1 → Holds log b
accept_held me n [] i b d h a e = absurd a
accept_held me n (rec ∷ log) i b d h (inl q) e = subst (λ r. Holds (r ∷ log) b) (sym q) (record { ballot = b; value = d; is = accepted_accept i b d log; not_below = below-irrefl b })
accept_held me n (rec ∷ log) i b d h (inr a) e =
    let l = accept_early me n log i b d h.1 a in
    let t = known_more me n log rec (kind log rec) h.0 in
    let k = squeeze (known log) (known log) (known (rec ∷ log)) (omega (arith, e, l, t)) (omega arith) t in
    holds_more me n log rec b (kind log rec) h.0 k.1 (accept_held me n log i b d h.1 a (omega (arith, e, l, t)))

-- what is held is on record
pub held_accept : (me n : ℕ) (log : Log) (c : Ballot) (d : Decision) → AllFit me n log → accepted log ≡ Some (c, d) → Among log (Rec.Accept (known log + 1) c d)
unfolding accepted
held_accept me n [] c d h e = absurd (none-some (c, d) e)
held_accept me n (rec ∷ log) c d h e = go rec (kind log rec) h.0 e (λ q. held_accept me n log c d h.1 q)
  where
    next_is : (r : Rec) → known (r ∷ log) ≡ known log → Among log (Rec.Accept (known log + 1) c d) → Among (r ∷ log) (Rec.Accept (known (r ∷ log) + 1) c d)
    next_is r k a = inr (subst (λ z. Among log (Rec.Accept (z + 1) c d)) (sym k) a)

    go : (r : Rec) → Kind log r → IsTrue (fits me n log r) → accepted (r ∷ log) ≡ Some (c, d) → (accepted log ≡ Some (c, d) → Among log (Rec.Accept (known log + 1) c d)) →
        Among (r ∷ log) (Rec.Accept (known (r ∷ log) + 1) c d)
    go r (Plain p) f q old = next_is r p.known_is (old (sym p.accepted_is ∙ q))
    go r (Promising i b) f q old = next_is (Rec.Promise i b) (known_promise i b log) (old (sym (accepted_promise i b log) ∙ q))
    go r (Accepting i b v) f q old =
        let held = same_Some (b, v) (c, d) (sym (accepted_accept i b v log) ∙ q) in
        let at = (accept_fits me n log i b v f).instance in
        inl (ap (λ z. Rec.Accept i z v) (ap (λ (y : Ballot × Decision). y.0) held) ∙ ap (λ z. Rec.Accept i c z) (ap (λ (y : Ballot × Decision). y.1) held)
        ∙ ap (λ z. Rec.Accept z c d) (at ∙ ap (λ z. z + 1) (sym (known_accept i b v log))))
    go r (Deciding v) f q old = absurd (none-some (c, d) (sym (accepted_decide v log) ∙ q))

-- Who has promised a greater ballot accepts no more in this one.
pub accept_before : (me n : ℕ) (a now : Log) (i : ℕ) (b : Ballot) (d : Decision) → Extends a now → AllFit me n now → i ≡ known a + 1 → ballot_lt b (promised a) ≡ true →
    Among now (Rec.Accept i b d) → Among a (Rec.Accept i b d)
accept_before me n a now i b d same h e lt w = w
accept_before me n a now i b d (more {new = c} rec p) h e lt (inr w) = accept_before me n a c i b d p h.1 e lt w
accept_before me n a now i b d (more {new = c} rec p) h e lt (inl q) =
    let f = accept_fits me n c i b d (subst (λ r. IsTrue (fits me n c r)) q h.0) in
    let at = f.instance in
    let up = promises_rise me n a c p h.1 (omega (arith, at, e)) in
    absurd (false≢true (sym f.not_below ∙ below_le b (promised a) (promised c) lt up))

-- the decision of the known epoch is on record
pub decision_kept : (log : Log) (d : Decision) → decision log ≡ Some d → Among log (Rec.Decide d)
unfolding decision
decision_kept [] d e = absurd (none-some d e)
decision_kept (Rec.Decide c ∷ log) d e = inl (ap (λ z. Rec.Decide z) (same_Some c d e))
decision_kept (Rec.Boot me n ∷ log) d e = inr (decision_kept log d e)
decision_kept (Rec.Prepare f ∷ log) d e = inr (decision_kept log d e)
decision_kept (Rec.Commit s ∷ log) d e = inr (decision_kept log d e)
decision_kept (Rec.Adopt place es ∷ log) d e = inr (decision_kept log d e)
decision_kept (Rec.Suspend x ∷ log) d e = inr (decision_kept log d e)
decision_kept (Rec.Promise i b ∷ log) d e = inr (decision_kept log d e)
decision_kept (Rec.Accept i b c ∷ log) d e = inr (decision_kept log d e)
decision_kept (Rec.Enter x ∷ log) d e = inr (decision_kept log d e)
