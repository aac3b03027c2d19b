-- Every epoch has the properties of `EpochHolds`, by induction over epochs, so all executed lists agree.
use Rattle.std.proofs.Common.{◌≡◌, ℕ, zero, suc, ◌+◌, ◌-◌, ◌<◌, ◌≤◌, List, [], ◌∷◌, length, refl, sym, ◌∙◌, ap, subst, inl, inr, arith}
use Rattle.std.specs.Prelude.{◌⊎◌, IsTrue, Option, Some, None, slice_get, nat_le}
use Rattle.std.proofs.lemmas.Bool.{and_parts, leb-true, cases_lt}
use Rattle.std.proofs.lemmas.Option.{same_Some}
use Rattle.crsm_spec.specs.Types.{Ballot, Entry, Decision, Rec}
use Rattle.crsm_spec.specs.Lists.{Among, numbers_below}
use Rattle.crsm_spec.specs.Log.{Log, known, decision, spec, executed}
use Rattle.crsm_spec.specs.Fits.{fits}
use Rattle.crsm_spec.specs.Quorum.{spec_decided}
use Rattle.crsm_spec.specs.World.{World, log_at}
use Rattle.crsm_fact_log.specs.Logs.{AllFit, Extends, same, more}
use Rattle.crsm_law_steps.specs.Happenings.{IsReached}
use Rattle.crsm_law_collection.specs.Collecting.{CommitOf}
use Rattle.crsm_law_collection.proofs.Law.{same_place}
use Rattle.crsm_fact_log.proofs.Lists.{get_some, get_inside}
use Rattle.crsm_fact_log.proofs.Logged.{end_fits}
use Rattle.crsm_law_epoch.specs.LogWorlds.{HasFewBoots}
use Rattle.crsm_law_epoch.proofs.LogWorlds.{logs_fit}
use Rattle.crsm_law_messages.specs.Counted.{AllSpelt}
use Rattle.crsm_law_agreement.specs.DecisionLaws.{IsSpecOf}
use Rattle.crsm_law_agreement.proofs.DecidedLogs.{accept_fits, known_decide}
use Rattle.crsm_law_agreement.proofs.Coordinators.{extends_among}
use Rattle.crsm_law_agreement.proofs.Choice.{share}
use Rattle.crsm_law_agreement.proofs.DecidedWorlds.{ballots_hold, decisions_are_collected}
use Rattle.crsm_law_agreement.proofs.BallotsAgree.{Knows, First, Later, knows, decisions_are_one}
use Rattle.crsm_law_agreement.specs.Openings.{IsOpening, IsEpochOf, EpochHolds}
use Rattle.crsm_law_agreement.specs.ListLaws.{BegunEpochsHold, ListsAgree}
use Rattle.crsm_law_agreement.proofs.Lists.{prefixes}
use Rattle.crsm_law_agreement.proofs.Worlds.{all_placed}
use Rattle.crsm_law_agreement.proofs.Facts.{epoch_facts}
use Rattle.crsm_law_agreement.proofs.Openings.{first_opening, next_opening, opens_next, of_opening, newer_next}
use Rattle.crsm_law_agreement.proofs.Logs.{stands_on, start_decide}

-- ---- who has accepted a decision has executed its base

pub record HasBase (e : ℕ) (log : Log) (d : Decision) : Type 0 where
  pub old : Log
  pub earlier : Extends old log
  pub epoch : known old ≡ e
  pub long : d.base_len ≤ length (executed old)

accept_long : (me n : ℕ) (log : Log) (i : ℕ) (b : Ballot) (d : Decision) → IsTrue (fits me n log (Rec.Accept i b d)) → d.base_len ≤ length (executed log)
unfolding fits
accept_long me n log i b d h = leb-true d.base_len (length (executed log)) (and_parts _ (nat_le d.base_len (length (executed log))) h).1

pub has_base : (me n e : ℕ) (log : Log) (i : ℕ) (b : Ballot) (d : Decision) → AllFit me n log → Among log (Rec.Accept i b d) → i ≡ e + 1 → HasBase e log d
has_base me n e [] i b d h a at = absurd a
has_base me n e (rec ∷ log) i b d h (inl q) at =
    let f = subst (λ r. IsTrue (fits me n log r)) q h.0 in
    let is = (accept_fits me n log i b d f).instance in
    record { old = log; earlier = more rec same; epoch = omega (arith, is, at); long = accept_long me n log i b d f }
has_base me n e (rec ∷ log) i b d h (inr a) at =
    let t = has_base me n e log i b d h.1 a at in record { old = t.old; earlier = more rec t.earlier; epoch = t.epoch; long = t.long }

-- ---- Specs

first_spec : (n : ℕ) (log : Log) → decision log ≡ None → spec n log ≡ numbers_below n
unfolding spec spec_decided
first_spec n log h = ap (spec_decided n) h

later_spec : (n : ℕ) (log : Log) (d : Decision) → decision log ≡ Some d → spec n log ≡ spec_decided n (Some d)
unfolding spec
later_spec n log d h = ap (spec_decided n) h

module _ (n : ℕ) (w : World) (q : IsReached n w) (few : HasFewBoots w) (spelt : AllSpelt n w) where
  pub fit : (k : ℕ) → AllFit k n (log_at w k)
  fit = logs_fit n w q few

  specs_first : IsSpecOf n 0 (numbers_below n) (log_at w)
  specs_first k log x kn = go (decision log) refl (knows k n log (end_fits k n x (fit k)) 0 kn)
    where
      go : (o : Option Decision) → decision log ≡ o → Knows log 0 o → spec n log ≡ numbers_below n
      go None is (First h) = first_spec n log is
      go (Some _) is (Later d a at lt) = absurd (omega (arith, lt))

  module _ (e : ℕ) (j : ℕ) (d : Decision) (on_record : Among (log_at w j) (Rec.Decide d)) (at : d.epoch ≡ suc e) where
    only : (k : ℕ) (c : Decision) → Among (log_at w k) (Rec.Decide c) → c.epoch ≡ suc e → c ≡ d
    only k c a is = decisions_are_one n w q few spelt k j c d a on_record (is ∙ sym at)

    specs_later : IsSpecOf n (suc e) (spec_decided n (Some d)) (log_at w)
    specs_later k log x kn = go (decision log) refl (knows k n log (end_fits k n x (fit k)) (suc e) kn)
      where
        go : (o : Option Decision) → decision log ≡ o → Knows log (suc e) o → spec n log ≡ spec_decided n (Some d)
        go None is (First h) = absurd (omega (arith, h))
        go (Some _) is (Later c a ec lt) = later_spec n log c is ∙ ap (λ z. spec_decided n (Some z)) (only k c (extends_among x (Rec.Decide c) a) ec)

    pub next_is : d.epoch ≡ e + 1
    next_is = omega (arith, at)

    -- the epoch before has begun
    pub epoch_before : IsEpochOf e (log_at w)
    epoch_before =
        let p = (ballots_hold n w q few spelt).decided j d on_record in
        go p.by p.log p.earlier (decision p.log) (knows p.by n p.log (end_fits p.by n p.earlier (fit p.by)) e (known_at (known p.log) p.next))
      where
        known_at : (k : ℕ) → d.epoch ≡ k + 1 → k ≡ e
        known_at k h = omega (arith, h, at)

        go : (k : ℕ) (log : Log) → Extends log (log_at w k) → (o : Option Decision) → Knows log e o → IsEpochOf e (log_at w)
        go k log x None (First h) = inl h
        go k log x (Some _) (Later c a ec lt) = inr (k, c, extends_among x (Rec.Decide c) a, ec)

    pub holder : (h : ℕ) × HasBase e (log_at w h) d
    holder =
        let p = (ballots_hold n w q few spelt).decided j d on_record in
        let v = share (spec n p.log) p.voters p.voters p.many p.many in
        (v.0, has_base v.0 n e (log_at w v.0) d.epoch p.ballot d (fit v.0) (p.accepted v.0 v.1) next_is)

    -- an element of an opening stands in a base or in the tail
    opening_at : (a b : List Entry) → IsOpening (suc e) a (log_at w) → IsOpening (suc e) b (log_at w) → (p : ℕ) (x : Entry) → slice_get a p ≡ Some x → slice_get b p ≡ Some x
    opening_at a b oa ob p x q = elim (cases_lt p d.base_len) [ inl lt ↦ below lt | inr ge ↦ behind ge ]
      where
        below : p < d.base_len → slice_get b p ≡ Some x
        below lt =
            let h = holder in
            let l = h.1.long in
            let k = h.1.epoch in
            let t = get_some (executed h.1.old) p (omega (arith, lt, l)) in
            let older : known h.1.old < suc e = omega (arith, k) in
            ob.before h.0 h.1.old h.1.earlier older p x (t.1 ∙ sym (oa.before h.0 h.1.old h.1.earlier older p t.0 t.1) ∙ q)

        behind : d.base_len ≤ p → slice_get b p ≡ Some x
        behind ge =
            let t = stands_on (log_at w j) (Rec.Decide d) on_record in
            let size = oa.begin j (Rec.Decide d ∷ t.rest) t.earlier (known_decide d t.rest ∙ at) in
            let is = start_decide d t.rest in
            let l = get_inside a p x q in
            let y = get_some d.tail (p - d.base_len) (omega (arith, ge, size, is, l)) in
            let place : d.base_len + (p - d.base_len) ≡ p = omega (arith, ge) in
            let in_a = subst (λ z. slice_get a z ≡ Some y.0) place (oa.tail j d on_record at (p - d.base_len) y.0 y.1) in
            subst (λ z. slice_get b z ≡ Some x) place (ob.tail j d on_record at (p - d.base_len) x (y.1 ∙ sym in_a ∙ q))

    next_holds : (one : (a b : List Entry) → IsOpening e a (log_at w) → IsOpening e b (log_at w) → (p : ℕ) (x : Entry) → slice_get a p ≡ Some x → slice_get b p ≡ Some x) →
        EpochHolds n e (log_at w) → EpochHolds n (suc e) (log_at w)
    next_holds one g =
        let made = decisions_are_collected n e (length g.opening) g.counted w q few spelt g.facts g.specs j d on_record next_is in
        let holds = holder in
        let opens = opens_next n e g.opening g.counted (log_at w) g.opens g.placed g.facts d made holds.0 holds.1.old holds.1.earlier holds.1.epoch holds.1.long only in
        let opening = next_opening n e g.opening g.counted (log_at w) g.opens g.placed g.facts d made holds.0 holds.1.old holds.1.earlier holds.1.epoch holds.1.long only in
        record {
          opening = opening;
          counted = spec_decided n (Some d);
          opens = opens;
          earlier = λ f o lt h o' p x q. of_opening n e g.opening g.counted (log_at w) g.opens g.placed g.facts d made holds.0 holds.1.old holds.1.earlier holds.1.epoch holds.1.long only p x
              (elim (cases_lt f e) [
                | inl l ↦ g.earlier f o l h o' p x q
                | inr ge ↦ one o g.opening (subst (λ z. IsOpening z o (log_at w)) (same_epoch f lt ge) o') g.opens p x q
              ]);
          newer = λ f o lt h o' p x. newer_next n e g.opening g.counted (log_at w) g.opens g.placed g.facts d made holds.0 holds.1.old holds.1.earlier holds.1.epoch holds.1.long only f o lt
              (λ i y le q. elim (cases_lt f e) [
                | inl l ↦ g.newer f o l h o' i y le q
                | inr ge ↦ (let low = get_inside o i y (one g.opening o g.opens (subst (λ z. IsOpening z o (log_at w)) (same_epoch f lt ge) o') i y q) in absurd (omega (arith, low, le)))
              ]) p x;
          specs = specs_later;
          placed = all_placed n w q few spelt (suc e) opening opens;
          facts = epoch_facts n w q few spelt (suc e) opening (spec_decided n (Some d)) opens specs_later;
        }
      where
        same_epoch : (f : ℕ) → f < suc e → e ≤ f → f ≡ e
        same_epoch f lt ge = omega (arith, lt, ge)

  first_holds : EpochHolds n 0 (log_at w)
  first_holds =
      let opens = first_opening n (log_at w) fit in
      record {
        opening = [];
        counted = numbers_below n;
        opens = opens;
        earlier = λ f o lt. absurd (omega (arith, lt));
        newer = λ f o lt. absurd (omega (arith, lt));
        specs = specs_first;
        placed = all_placed n w q few spelt 0 [] opens;
        facts = epoch_facts n w q few spelt 0 [] (numbers_below n) opens specs_first;
      }

  -- an epoch has one opening
  pub one_opening : (e : ℕ) → IsEpochOf e (log_at w) → (a b : List Entry) → IsOpening e a (log_at w) → IsOpening e b (log_at w) → (p : ℕ) (x : Entry) → slice_get a p ≡ Some x → slice_get b p ≡ Some x
  one_opening zero h a b oa ob p x q = let l = oa.older p x q in absurd (omega (arith, l))
  one_opening (suc e) (inl h) a b oa ob p x q = absurd (omega (arith, h))
  one_opening (suc e) (inr h) a b oa ob p x q = opening_at e h.0 h.1 h.2 h.3 a b oa ob p x q

  pub epoch_holds : (e : ℕ) → IsEpochOf e (log_at w) → EpochHolds n e (log_at w)
  epoch_holds zero h = first_holds
  epoch_holds (suc e) (inl h) = absurd (omega (arith, h))
  epoch_holds (suc e) (inr h) =
      let was = epoch_before e h.0 h.1 h.2 h.3 in
      next_holds e h.0 h.1 h.2 h.3 (one_opening e was) (epoch_holds e was)

  -- the epoch that a log knows has begun
  pub known_epoch : (k : ℕ) (log : Log) → Extends log (log_at w k) → IsEpochOf (known log) (log_at w)
  known_epoch k log x = go (known log) (decision log) (knows k n log (end_fits k n x (fit k)) (known log) refl)
    where
      go : (e : ℕ) (o : Option Decision) → Knows log e o → IsEpochOf e (log_at w)
      go e None (First h) = inl h
      go e (Some _) (Later d a at lt) = inr (k, d, extends_among x (Rec.Decide d) a, at)

  -- ---- agreement

  -- one that knows an earlier epoch
  earlier_same : (j k : ℕ) (a b : Log) → Extends a (log_at w j) → Extends b (log_at w k) → known a < known b → (p : ℕ) (x y : Entry) → slice_get (executed a) p ≡ Some x → slice_get (executed b) p ≡ Some y → x ≡ y
  earlier_same j k a b xa xb lt p x y f g =
      let h = epoch_holds (known b) (known_epoch k b xb) in
      let at = h.opens.before j a xa lt p x f in
      go h.opening at (h.placed k b xb refl p y g)
    where
      go : (opening : List Entry) → slice_get opening p ≡ Some x → (slice_get opening p ≡ Some y) ⊎ ((length opening ≤ p) × CommitOf (known b) (log_at w) p y) → x ≡ y
      go opening at (inl q) = same_Some x y (sym at ∙ q)
      go opening at (inr q) = let l = get_inside opening p x at in let m = q.0 in absurd (omega (arith, l, m))

  one_epoch_same : (j k : ℕ) (a b : Log) → Extends a (log_at w j) → Extends b (log_at w k) → known a ≡ known b → (p : ℕ) (x y : Entry) → slice_get (executed a) p ≡ Some x → slice_get (executed b) p ≡ Some y → x ≡ y
  one_epoch_same j k a b xa xb is p x y f g =
      let h = epoch_holds (known b) (known_epoch k b xb) in
      go h (h.placed j a xa is p x f) (h.placed k b xb refl p y g)
    where
      go : (h : EpochHolds n (known b) (log_at w)) → (slice_get h.opening p ≡ Some x) ⊎ ((length h.opening ≤ p) × CommitOf (known b) (log_at w) p x) →
          (slice_get h.opening p ≡ Some y) ⊎ ((length h.opening ≤ p) × CommitOf (known b) (log_at w) p y) → x ≡ y
      go h (inl u) (inl v) = same_Some x y (sym u ∙ v)
      go h (inl u) (inr v) = let l = get_inside h.opening p x u in let m = v.0 in absurd (omega (arith, l, m))
      go h (inr u) (inl v) = let l = get_inside h.opening p y v in let m = u.0 in absurd (omega (arith, l, m))
      go h (inr u) (inr v) = same_place (known b) n (length h.opening) h.counted (log_at w) h.facts p x y u.1 v.1

  pub same_entries : (j k : ℕ) (a b : Log) → Extends a (log_at w j) → Extends b (log_at w k) → (p : ℕ) (x y : Entry) → slice_get (executed a) p ≡ Some x → slice_get (executed b) p ≡ Some y → x ≡ y
  same_entries j k a b xa xb p x y f g = elim (cases_lt (known a) (known b)) [
    | inl lt ↦ earlier_same j k a b xa xb lt p x y f g
    | inr ge ↦ elim (cases_lt (known b) (known a)) [
      | inl lt ↦ sym (earlier_same k j b a xb xa lt p y x g f)
      | inr le ↦ one_epoch_same j k a b xa xb (omega (arith, ge, le)) p x y f g
    ]
  ]

  -- what a log has executed is the opening's of an epoch, where that reaches
  pub opening_same : (e : ℕ) → IsEpochOf e (log_at w) → (h : EpochHolds n e (log_at w)) → (j : ℕ) (b : Log) → Extends b (log_at w j) → (p : ℕ) (x y : Entry) → slice_get h.opening p ≡ Some x → slice_get (executed b) p ≡ Some y → x ≡ y
  opening_same e is h j b xb p x y f g = elim (cases_lt (known b) e) [
    | inl lt ↦ same_Some x y (sym f ∙ h.opens.before j b xb lt p y g)
    | inr ge ↦ elim (cases_lt e (known b)) [
      | inl lt ↦ (let k = epoch_holds (known b) (known_epoch j b xb) in in_opening (known b) k.opening (k.earlier e h.opening lt is h.opens p x f) (k.placed j b xb refl p y g))
      | inr le ↦ in_opening e h.opening f (h.placed j b xb (omega (arith, ge, le)) p y g)
    ]
  ]
    where
      in_opening : (e : ℕ) (opening : List Entry) → slice_get opening p ≡ Some x → (slice_get opening p ≡ Some y) ⊎ ((length opening ≤ p) × CommitOf e (log_at w) p y) → x ≡ y
      in_opening e opening q (inl t) = same_Some x y (sym q ∙ t)
      in_opening e opening q (inr t) = let l = get_inside opening p x q in let m = t.0 in absurd (omega (arith, l, m))

pub begun_epochs_hold : BegunEpochsHold
begun_epochs_hold n w q few spelt e h = epoch_holds n w q few spelt e h

pub lists_agree : ListsAgree
lists_agree n w q few spelt j k a b xa xb = prefixes (executed a) (executed b) (same_entries n w q few spelt j k a b xa xb)
